-- The law file of a text from its tokens, read from left to right by their kinds: the records of functions, sentences and conditions, and with FlatTerms.antt the file.
-- `encoded_flat` of proofs/FlatFile.antt: it is the file of the text's phrase.
use Rattle.std.specs.Prelude.{ℕ, ◌+◌, List, [], ◌∷◌, ◌++◌, Bool, true, false, cond, ◌&&◌, ◌||◌, length, eqb}
use Rattle.tokens.specs.Token.{token_bytes, Placed}
use Rattle.encoding.specs.Encode.{Record, word_bytes, section_bytes}
use Rattle.encoding.specs.Code.FlatTerms.{Where, outside, inside, kind_at, end_at, first_start, weight, state_after, flat_terms}

-- ---- what is found from a token on

-- a token that ends a run of terms: `,` `:` `=` `;` `}`
abbrev pub parts : ℕ → Bool
parts k = cond (eqb k 44) true (cond (eqb k 58) true (cond (eqb k 61) true (cond (eqb k 59) true (eqb k 125))))

-- a run of terms: the number of its records, and where its last token ends; another place where it has none
abbrev pub part_records : Where → List Placed → ℕ
part_records w [] = 0
part_records w (p ∷ ps) = cond (parts (kind_at p)) 0 (weight w p + part_records (state_after (kind_at p)) ps)

abbrev pub part_end : ℕ → List Placed → ℕ
part_end e [] = e
part_end e (p ∷ ps) = cond (parts (kind_at p)) e (part_end (end_at p) ps)

-- whether the first token is of a kind
abbrev pub first_is : ℕ → List Placed → Bool
first_is k [] = false
first_is k (p ∷ ps) = eqb (kind_at p) k

-- the tokens after the first of a kind, and where that one ends
abbrev pub after_kind : ℕ → List Placed → List Placed
after_kind k [] = []
after_kind k (p ∷ ps) = cond (eqb (kind_at p) k) ps (after_kind k ps)

abbrev pub end_of_kind : ℕ → List Placed → ℕ
end_of_kind k [] = 0
end_of_kind k (p ∷ ps) = cond (eqb (kind_at p) k) (end_at p) (end_of_kind k ps)

-- the number of tokens of a kind before the first of another
abbrev pub count_to : ℕ → ℕ → List Placed → ℕ
count_to k stop [] = 0
count_to k stop (p ∷ ps) = cond (eqb (kind_at p) stop) 0 (cond (eqb (kind_at p) k) 1 0 + count_to k stop ps)

-- ---- records, from their first token on

-- a function has as many sentences as `=` before its `}`
abbrev pub function_here : Placed → List Placed → Record
function_here p ps = p.start ∷ length (token_bytes p.what) ∷ count_to 61 125 ps ∷ p.start ∷ end_of_kind 125 ps ∷ []

-- a sentence has as many conditions as `:` before its `=`
abbrev pub sentence_here : List Placed → Record
sentence_here ps =
    part_records inside ps
    ∷ count_to 58 61 ps
    ∷ part_records inside (after_kind 61 ps)
    ∷ first_start ps
    ∷ part_end (end_of_kind 61 ps) (after_kind 61 ps)
    ∷ []

abbrev pub condition_here : List Placed → Record
condition_here ps = part_records inside ps ∷ part_records inside (after_kind 58 ps) ∷ first_start ps ∷ part_end (end_of_kind 58 ps) (after_kind 58 ps) ∷ []

-- ---- sections

-- whether it is inside braces after a token
abbrev pub within : Bool → ℕ → Bool
within b k = cond (eqb k 123) true (cond (eqb k 125) false b)

-- a function at its name, before `{`
abbrev pub functions_at : Placed → List Placed → List Record
functions_at p ps = cond (eqb (kind_at p) 1 && first_is 123 ps) (function_here p ps ∷ []) []

abbrev pub flat_functions : List Placed → List Record
flat_functions [] = []
flat_functions (p ∷ ps) = functions_at p ps ++ flat_functions ps

-- a sentence after `{` or `;`, if no `}` follows
abbrev pub sentences_after : Bool → ℕ → List Placed → List Record
sentences_after b k ps = cond (eqb k 123 || (b && eqb k 59)) (cond (first_is 125 ps) [] (sentence_here ps ∷ [])) []

abbrev pub flat_sentences : Bool → List Placed → List Record
flat_sentences b [] = []
flat_sentences b (p ∷ ps) = sentences_after b (kind_at p) ps ++ flat_sentences (within b (kind_at p)) ps

-- a condition after `,`
abbrev pub conditions_after : Bool → ℕ → List Placed → List Record
conditions_after b k ps = cond (b && eqb k 44) (condition_here ps ∷ []) []

abbrev pub flat_conditions : Bool → List Placed → List Record
flat_conditions b [] = []
flat_conditions b (p ∷ ps) = conditions_after b (kind_at p) ps ++ flat_conditions (within b (kind_at p)) ps

-- the file of a text, from its tokens
abbrev pub flat_file : List ℕ → List Placed → List ℕ
flat_file bytes ts =
    word_bytes (length bytes) ++ (bytes
    ++ (section_bytes (flat_functions ts) ++ (section_bytes (flat_sentences false ts) ++ (section_bytes (flat_conditions false ts) ++ section_bytes (flat_terms outside ts)))))
