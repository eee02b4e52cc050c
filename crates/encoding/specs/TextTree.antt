-- The tree of a text: its phrase as a law, with records numbered as document 01 numbers them in a file and with the spans of specs/Encode.antt.
-- docs/SPECIFICATION.md, 19.6, 19.7.
use Rattle.std.specs.Prelude.{ℕ, ◌+◌, length}
use mathlib.Core.List.{List, [], ◌∷◌, flat_map}
use Rattle.law.specs.Tree as tree
use Rattle.tokens.specs.Token.{Atom, identifier, number, variable, quoted}
use Rattle.grammar.specs.Grammar.{Terms, nothing, atomic, bracket, call, Conditions, no_condition, condition, Sentence, Function, Text}
use Rattle.encoding.specs.Encode.{atom_records, term_records, condition_terms, sentence_terms, sentence_start, sentence_end, sentences_in, functions_of}

abbrev pub name_of : ℕ → List ℕ → tree.Name
name_of start w = record { start = start; spelled = w }

unfoldable pub character_run : List ℕ → tree.Run → tree.Run
character_run [] after = after
character_run (c ∷ cs) after = tree.Run.symbol (tree.Symbol.character c) (character_run cs after)

-- an atom at a byte, before other terms
abbrev pub atom_run : ℕ → Atom → tree.Run → tree.Run
atom_run at (identifier w) after = tree.Run.symbol (tree.Symbol.identifier (name_of at w)) after
atom_run at (number w) after = tree.Run.symbol (tree.Symbol.number (name_of at w)) after
atom_run at (variable k i) after = tree.Run.variable k (name_of (at + 2) i) after
atom_run at (quoted cs) after = character_run cs after

-- the run of some terms, the first record of number n
unfoldable pub tree_run : ℕ → Terms → tree.Run
tree_run n nothing = tree.Run.empty
tree_run n (atomic at a rest) = atom_run at a (tree_run (n + length (atom_records at a)) rest)
tree_run n (bracket l inside r rest) = tree.Run.bracket (tree_run (n + 1) inside) (tree_run (n + 1 + length (term_records inside)) rest)
tree_run n (call l f inside r rest) =
    tree.Run.call (record { at = n; span_start = l; span_end = r + 1 }) (name_of f.start f.spelled)
    (tree_run (n + 1) inside) (tree_run (n + 1 + length (term_records inside)) rest)

-- conditions, the first term record of number n
unfoldable pub tree_conditions : ℕ → Conditions → tree.Conditions
tree_conditions n no_condition = tree.Conditions.no_condition
tree_conditions n (condition c result d pattern rest) =
    tree.Conditions.condition (tree_run n result) (tree_run (n + length (term_records result)) pattern)
    (tree_conditions (n + length (term_records result) + length (term_records pattern)) rest)

-- sentences, the first of number s and its first term record of number n
unfoldable pub tree_sentences : (s n : ℕ) → List Sentence → tree.Sentences
tree_sentences s n [] = tree.Sentences.no_sentence
tree_sentences s n (x ∷ xs) =
    let pattern : ℕ = length (term_records x.pattern) in
    let conditions : ℕ = length (condition_terms x.conditions) in
    tree.Sentences.sentence (record { at = s; span_start = sentence_start x; span_end = sentence_end x })
    (tree_run n x.pattern)
    (tree_conditions (n + pattern) x.conditions)
    (tree_run (n + pattern + conditions) x.result)
    (tree_sentences (s + 1) (n + length (sentence_terms x)) xs)

-- functions, the first sentence of number s and its first term record of number n
unfoldable pub tree_functions : (s n : ℕ) → List Function → tree.Law
tree_functions s n [] = []
tree_functions s n (f ∷ fs) =
    record { name = name_of f.name.start f.name.spelled; sentences = tree_sentences s n (sentences_in f) }
    ∷ tree_functions (s + length (sentences_in f)) (n + length (flat_map sentence_terms (sentences_in f))) fs

abbrev pub tree_of_text : Text → tree.Law
tree_of_text text = tree_functions 0 0 (functions_of text)
