-- The law that a text means, or a refusal. Document 02, R-1: a text of the grammar is refused "with 1, 4, 5, 8 or 9 in document 01's order".
-- `encoded_law` of proofs/EncodedLaw.antt: this is what `law_of` says of the text's law file.
-- docs/SPECIFICATION.md, 19.9, 19.10.
use Rattle.std.specs.Prelude.{ℕ, List, [], ◌∷◌, ◌++◌, Bool, true, not, ◌&&◌, ◌||◌, length, leb, ltb}
use Rattle.names.specs.Name.{folded_index}
use Rattle.file.specs.Answer.{Answer, given, refuse_if, ◌>>◌}
use Rattle.law.specs.Tree.{Law}
use Rattle.law.specs.Depth.{depth_of}
use Rattle.law.specs.Variables.{Variable, distinct}
use Rattle.tokens.specs.Token.{Atom, identifier, number, variable, quoted}
use Rattle.grammar.specs.Grammar.{Terms, nothing, atomic, bracket, call, Conditions, no_condition, condition, Sentence, Function, Text}
use Rattle.encoding.specs.Encode.{functions_of, sentences_of, function_section, sentence_section, condition_section, term_section, encode}
use Rattle.encoding.specs.TextTree.{tree_of_text}

-- a test that every element passes
abbrev pub all_of : {A : Type 0} → (A → Bool) → List A → Bool
all_of p [] = true
all_of p (x ∷ xs) = p x && all_of p xs

-- ---- 4: a count over its limit

-- more functions, sentences, conditions or terms than a law may have
abbrev pub count_over : Text → Bool
count_over text =
    ltb 64 (length (function_section text)) || ltb 128 (length (sentence_section text)) || ltb 128 (length (condition_section text)) || ltb 512 (length (term_section text))

-- ---- 5: a name, identifier, index or number over 64 bytes

abbrev pub short : List ℕ → Bool
short w = leb (length w) 64

abbrev pub short_atom : Atom → Bool
short_atom (identifier w) = short w
short_atom (number w) = short w
short_atom (variable k i) = short i
short_atom (quoted cs) = true

unfoldable pub short_terms : Terms → Bool
short_terms nothing = true
short_terms (atomic at a rest) = short_atom a && short_terms rest
short_terms (bracket l inside r rest) = short_terms inside && short_terms rest
short_terms (call l f inside r rest) = short f.spelled && (short_terms inside && short_terms rest)

unfoldable pub short_conditions : Conditions → Bool
short_conditions no_condition = true
short_conditions (condition c result d pattern rest) = short_terms result && short_terms pattern && short_conditions rest

abbrev pub short_sentence : Sentence → Bool
short_sentence x = short_terms x.pattern && short_conditions x.conditions && short_terms x.result

abbrev pub short_name : Function → Bool
short_name f = short f.name.spelled

abbrev pub spellings_short : Text → Bool
spellings_short text = all_of short_name (functions_of text) && all_of short_sentence (sentences_of text)

-- ---- 9: over 32 distinct variables in a sentence's pattern

abbrev pub atom_variables : Atom → List Variable
atom_variables (identifier w) = []
atom_variables (number w) = []
atom_variables (variable k i) = record { kind = k; index = folded_index i } ∷ []
atom_variables (quoted cs) = []

unfoldable pub variables_in : Terms → List Variable
variables_in nothing = []
variables_in (atomic at a rest) = atom_variables a ++ variables_in rest
variables_in (bracket l inside r rest) = variables_in inside ++ variables_in rest
variables_in (call l f inside r rest) = variables_in inside ++ variables_in rest

abbrev pub few_variables : Sentence → Bool
few_variables x = leb (distinct (variables_in x.pattern)) 32

-- ---- the law; 1: a file over 16,384 bytes, 8: over 32 brackets and calls around a term

unfoldable pub law_of_text : List ℕ → Text → Answer Law
law_of_text bytes text = do
  refuse_if 1 (ltb 16384 (length (encode bytes text)))
  refuse_if 4 (count_over text)
  refuse_if 5 (not (spellings_short text))
  refuse_if 8 (ltb 32 (depth_of (tree_of_text text)))
  refuse_if 9 (not (all_of few_variables (sentences_of text)))
  given (tree_of_text text)
