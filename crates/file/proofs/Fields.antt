-- Laws of refusal 5 (specs/Fields.antt): what a record that passed it says.
use Prim.Native.Nat.{ℕ, zero, suc, ◌+◌, ◌*◌, ◌-◌, ◌≤◌, ◌<◌}
use mathlib.Core.List.{List}
use mathlib.Core.Bool.{Bool, true, false, ◌&&◌, and-true, true≢false}
use mathlib.Core.Logic.{◌⊎◌, inl, inr}
use mathlib.Core.Path.{◌≡◌, refl, sym, ◌∙◌}
use native.Mathlib.Numerals.{add_eight, add-one}
use native.Mathlib.Omega.{arith}
use native.Mathlib.Decide.{dec_lt}
use native.Mathlib.Nat.{add-zero}
use lib.ListN.{length, take, drop, length-drop}
use lib.Seq.{length-take-le}
use lib.Dec.{leb}
use borrow.Author.Tests.{leb-true, le-leb, lt-leb, eqb-true}
use Rattle.names.specs.Name.{name_byte, every_byte, length_allowed, name_allowed, number_allowed}
use Rattle.names.proofs.Laws.{every_part}
use Rattle.file.specs.Word.{word_at}
use Rattle.file.specs.Sections.{File}
use Rattle.file.specs.Fields.{spelled, unused, scalar_allowed, term_allowed, term_fields_at, function_fields_at, functions_allowed, terms_allowed, fields_allowed}
use Rattle.file.proofs.Words.{word_part}
use Rattle.file.proofs.Below.{both_first, both_second, every_at}

-- a part that passes the end of the text is not spelled
pub spelled_past : (allowed : List ℕ → Bool) (text : List ℕ) (start len : ℕ) → leb (start + len) (length text) ≡ false
    → spelled allowed text start len ≡ false
unfolding spelled
spelled_past allowed text start len h = rw h

-- a part inside the text is spelled where the test holds of it
pub spelled_test : (allowed : List ℕ → Bool) (text part : List ℕ) (start len : ℕ) → leb (start + len) (length text) ≡ true
    → part ≡ take len (drop start text) → allowed part ≡ spelled allowed text start len
unfolding spelled
spelled_test allowed text part start len h e = rw (h, e)

-- a part inside a text of names' bytes alone is a name where its length is allowed
pub spelled_named : (text : List ℕ) (start len : ℕ) → leb (start + len) (length text) ≡ true → every_byte name_byte text ≡ true
    → length_allowed len ≡ spelled name_allowed text start len
unfolding spelled
spelled_named text start len h e =
    let inside : start + len ≤ length text = leb-true (start + len) (length text) h in
    let whole : length (take len (drop start text)) ≡ len = length-take-le len (drop start text) (rw (length-drop start text) (omega arith)) in
    rw (h, whole, every_part name_byte start len text e) (sym (and-true (length_allowed len)))

-- what is spelled lies inside the text
pub spelled_inside : (allowed : List ℕ → Bool) (text : List ℕ) (start len : ℕ) → spelled allowed text start len ≡ true → start + len ≤ length text
unfolding spelled
spelled_inside allowed text start len h = leb-true (start + len) (length text) (both_first _ _ h)

-- what is spelled passes the test
pub spelled_allowed : (allowed : List ℕ → Bool) (text : List ℕ) (start len : ℕ) → spelled allowed text start len ≡ true
    → allowed (take len (drop start text)) ≡ true
unfolding spelled
spelled_allowed allowed text start len h = both_second (leb (start + len) (length text)) (allowed (take len (drop start text))) h

-- from 9 on no kind is allowed
pub kind_over : (text : List ℕ) (kind a b n : ℕ) → 9 ≤ kind → term_allowed text kind a b n ≡ false
unfolding term_allowed
kind_over text kind a b n h =
    let e : kind ≡ kind - 9 + 8 + 1 = omega arith in
    rw (e, add-one (kind - 9 + 8), add_eight (kind - 9))

-- an identifier or a variable: a name, and no more
pub kind_named : (text : List ℕ) (kind a b n : ℕ) → 1 ≤ kind → kind ≤ 5 → (kind ≡ 2 → ⊥) → term_allowed text kind a b n ≡ (spelled name_allowed text a b && unused n)
unfolding term_allowed
kind_named text zero a b n l h m = absurd (omega arith)
kind_named text (suc zero) a b n l h m = refl
kind_named text (suc (suc zero)) a b n l h m = absurd (m refl)
kind_named text (suc (suc (suc zero))) a b n l h m = refl
kind_named text (suc (suc (suc (suc zero)))) a b n l h m = refl
kind_named text (suc (suc (suc (suc (suc zero))))) a b n l h m = refl
kind_named text (suc (suc (suc (suc (suc (suc k)))))) a b n l h m = absurd (omega arith)

-- of two tests of which not both hold the second does not, where the first does
pub second_fails_where : {t : Bool} {b : ℕ} → ((t ≡ true) × (b ≡ 0 → ⊥)) ⊎ (t ≡ false) → t ≡ true → b ≡ 0 → ⊥
second_fails_where (inl h) q = h.1
second_fails_where (inr h) q = absurd (true≢false (sym q ∙ h))

-- a character below the surrogates is allowed
pub plain_allowed : (text : List ℕ) (kind a b n : ℕ) → (kind ≡ 0) × (a < 55296) × (b ≡ 0) × (n ≡ 0) → term_allowed text kind a b n ≡ true
unfolding term_allowed
plain_allowed text kind a b n h =
    rw (h.0, h.2, h.3, le-leb a 0x10FFFF (omega (arith, h.1)), lt-leb 0xD800 a h.1)

-- the kinds of an allowed record
pub kind_small : (text : List ℕ) (kind a b n : ℕ) → term_allowed text kind a b n ≡ true → kind ≤ 8
kind_small text kind a b n h = go (dec_lt 8 kind)
  where
    go : Dec (8 < kind) → kind ≤ 8
    go (yes l) =
        let f : term_allowed text kind a b n ≡ false = kind_over text kind a b n (omega arith) in
        let z : true ≡ false = cc in
        absurd (true≢false z)
    go (no l) = omega arith

-- a symbol or variable: its number of terms is not used
pub leaf_plain : (text : List ℕ) (kind a b n : ℕ) → term_allowed text kind a b n ≡ true → kind ≤ 5 → n ≡ 0
unfolding term_allowed
leaf_plain text zero a b n h l = eqb-true n 0 (both_second (scalar_allowed a && unused b) (unused n) h)
leaf_plain text (suc zero) a b n h l = eqb-true n 0 (both_second (spelled name_allowed text a b) (unused n) h)
leaf_plain text (suc (suc zero)) a b n h l = eqb-true n 0 (both_second (spelled number_allowed text a b) (unused n) h)
leaf_plain text (suc (suc (suc zero))) a b n h l = eqb-true n 0 (both_second (spelled name_allowed text a b) (unused n) h)
leaf_plain text (suc (suc (suc (suc zero)))) a b n h l = eqb-true n 0 (both_second (spelled name_allowed text a b) (unused n) h)
leaf_plain text (suc (suc (suc (suc (suc zero))))) a b n h l = eqb-true n 0 (both_second (spelled name_allowed text a b) (unused n) h)
leaf_plain text (suc (suc (suc (suc (suc (suc k)))))) a b n h l = absurd (omega arith)

-- an identifier, number or variable: its spelling lies inside the text
pub leaf_inside : (text : List ℕ) (kind a b n : ℕ) → term_allowed text kind a b n ≡ true → 1 ≤ kind → kind ≤ 5 → a + b ≤ length text
unfolding term_allowed
leaf_inside text zero a b n h p l = absurd (omega arith)
leaf_inside text (suc zero) a b n h p l = spelled_inside name_allowed text a b (both_first (spelled name_allowed text a b) (unused n) h)
leaf_inside text (suc (suc zero)) a b n h p l = spelled_inside number_allowed text a b (both_first (spelled number_allowed text a b) (unused n) h)
leaf_inside text (suc (suc (suc zero))) a b n h p l = spelled_inside name_allowed text a b (both_first (spelled name_allowed text a b) (unused n) h)
leaf_inside text (suc (suc (suc (suc zero)))) a b n h p l = spelled_inside name_allowed text a b (both_first (spelled name_allowed text a b) (unused n) h)
leaf_inside text (suc (suc (suc (suc (suc zero))))) a b n h p l = spelled_inside name_allowed text a b (both_first (spelled name_allowed text a b) (unused n) h)
leaf_inside text (suc (suc (suc (suc (suc (suc k)))))) a b n h p l = absurd (omega arith)

-- a call: its name is allowed
pub call_name : (text : List ℕ) (kind a b n : ℕ) → term_allowed text kind a b n ≡ true → kind ≡ 7 → spelled name_allowed text a b ≡ true
unfolding term_allowed
call_name text kind a b n h e = rw e at h

-- a call: its name lies inside the text
pub call_inside : (text : List ℕ) (kind a b n : ℕ) → term_allowed text kind a b n ≡ true → kind ≡ 7 → a + b ≤ length text
call_inside text kind a b n h e = spelled_inside name_allowed text a b (call_name text kind a b n h e)

-- the fields of one function record, where all are allowed
pub function_at_lem : (text functions : List ℕ) (count f : ℕ) → functions_allowed text functions count ≡ true → f < count
    → function_fields_at text functions (20 * f) ≡ true
function_at_lem text functions count f h l = every_at count (λ f. function_fields_at text functions (20 * f)) f h l

-- the name of one function lies inside the text, where all are allowed
pub function_inside : (text functions : List ℕ) (count f : ℕ) → functions_allowed text functions count ≡ true → f < count
    → word_at functions (20 * f) + word_at functions (20 * f + 4) ≤ length text
function_inside text functions count f h l =
    spelled_inside name_allowed text (word_at functions (20 * f)) (word_at functions (20 * f + 4)) (function_at_lem text functions count f h l)

-- the fields of one term record, where all are allowed
pub term_at_allowed : (text terms : List ℕ) (count t : ℕ) → terms_allowed text terms count ≡ true → t < count
    → term_fields_at text terms (24 * t) ≡ true
term_at_allowed text terms count t h l = every_at count (λ t. term_fields_at text terms (24 * t)) t h l

-- the test of the i-th function record, from its bytes alone
pub function_fields_part : (text functions fields : List ℕ) (i : ℕ) → fields ≡ take 20 (drop (20 * i) functions)
    → function_fields_at text fields 0 ≡ function_fields_at text functions (20 * i)
function_fields_part text functions fields i e =
    rw (e, word_part functions (20 * i) 20 0 (omega arith), word_part functions (20 * i) 20 4 (omega arith), add-zero (20 * i))

-- the same of a term record
pub term_fields_part : (text terms fields : List ℕ) (i : ℕ) → fields ≡ take 24 (drop (24 * i) terms)
    → term_fields_at text fields 0 ≡ term_fields_at text terms (24 * i)
term_fields_part text terms fields i e =
    rw (
      e,
      word_part terms (24 * i) 24 0 (omega arith),
      word_part terms (24 * i) 24 4 (omega arith),
      word_part terms (24 * i) 24 8 (omega arith),
      word_part terms (24 * i) 24 12 (omega arith),
      add-zero (24 * i),
    )

-- refusal 5 of the function records
pub fields_functions : (file : File) → fields_allowed file ≡ true
    → functions_allowed file.text.records file.functions.records file.functions.count ≡ true
unfolding fields_allowed
fields_functions file h =
    both_first (functions_allowed file.text.records file.functions.records file.functions.count)
    (terms_allowed file.text.records file.terms.records file.terms.count) h

-- refusal 5 of the term records
pub fields_terms : (file : File) → fields_allowed file ≡ true
    → terms_allowed file.text.records file.terms.records file.terms.count ≡ true
unfolding fields_allowed
fields_terms file h =
    both_second (functions_allowed file.text.records file.functions.records file.functions.count)
    (terms_allowed file.text.records file.terms.records file.terms.count) h
