-- The first records of two parts as atoms (specs/Code/Part.antt): whether they are the same, word by word.
use Prim.Native.Nat.{ℕ, zero, suc, ◌≤◌, ◌<◌, min}
use mathlib.Core.Bool.{Bool, true, false}
use mathlib.Core.List.{List}
use mathlib.Core.Path.{◌≡◌, refl, sym, ap, ◌∙◌}
use native.Mathlib.Omega.{arith}
use native.Mathlib.Decide.{dec_lt}
use lib.ListN.{length, take, drop}
use lib.Seq.{take_all}
use lib.Dec.{eqb, ltb}
use borrow.Author.Tests.{ne_eqb, le-ltb}
use Rattle.names.specs.Name.{folded, folded_index, same_bytes}
use Rattle.numbers.specs.Value.{stripped}
use Rattle.file.specs.Word.{word_at}
use Rattle.file.specs.Head.{term_from, term_at}
use Rattle.law.specs.Tree.{Kind, symbol_kind, term_kind, expression_kind}
use Rattle.law.specs.Variables.{Variable}
use Rattle.law.specs.Symbol.{character, identifier, number}
use Rattle.matching.specs.Pattern.{Atom, literal, variable, other}
use Rattle.matching.specs.Shadow.{same_atom}
use Rattle.matching.specs.Code.Part.{atom_of, is_bracket}
use Rattle.matching.proofs.SameLaws.{false_not_true, atom_sound}

-- ---- a part of the text, cut to the text

-- a list is cut to its length
cut : (n : ℕ) (l : List ℕ) → take (min n (length l)) l ≡ take n l
cut n l = go (dec_lt n (length l))
  where
    go : Dec (n < length l) → take (min n (length l)) l ≡ take n l
    go (yes h) = let e : min n (length l) ≡ n = omega arith in rw e
    go (no h) = let e : min n (length l) ≡ length l = omega arith in rw (e, take_all (length l) l (omega arith), take_all n l (omega arith))

-- the same, where the words of a record say which part
pub words_spelled : (text : List ℕ) {r : List ℕ} {start len a b : ℕ} → r ≡ take len (drop start text) → start ≡ a → len ≡ b → r ≡ take b (drop a text)
words_spelled text h p q = rw (← p, ← q) h

-- ---- kinds of atoms

abbrev kind_number : Kind → ℕ
kind_number symbol_kind = 3
kind_number term_kind = 4
kind_number expression_kind = 5

-- the kind of a record that is this atom; from 6 on it is no atom that is the same as another
abbrev sort_of : Atom → ℕ
sort_of (literal (character c)) = 0
sort_of (literal (identifier i)) = 1
sort_of (literal (number n)) = 2
sort_of (variable v) = kind_number v.kind
sort_of other = 6

kind_variable : (k : Kind) → (2 < kind_number k) × (kind_number k < 6)
kind_variable symbol_kind = (omega arith, omega arith)
kind_variable term_kind = (omega arith, omega arith)
kind_variable expression_kind = (omega arith, omega arith)

sort_from : (text : List ℕ) (kind a b : ℕ) → sort_of (atom_of text (term_from kind a b)) ≡ min kind 6
unfolding term_from
sort_from text zero a b = refl
sort_from text (suc zero) a b = refl
sort_from text (suc (suc zero)) a b = refl
sort_from text (suc (suc (suc zero))) a b = refl
sort_from text (suc (suc (suc (suc zero)))) a b = refl
sort_from text (suc (suc (suc (suc (suc zero))))) a b = refl
sort_from text (suc (suc (suc (suc (suc (suc zero)))))) a b = refl
sort_from text (suc (suc (suc (suc (suc (suc (suc zero))))))) a b = refl
sort_from text (suc (suc (suc (suc (suc (suc (suc (suc k)))))))) a b = omega arith

bracket_from : (kind a b : ℕ) → eqb kind 6 ≡ is_bracket (term_from kind a b)
unfolding term_from
bracket_from zero a b = refl
bracket_from (suc zero) a b = refl
bracket_from (suc (suc zero)) a b = refl
bracket_from (suc (suc (suc zero))) a b = refl
bracket_from (suc (suc (suc (suc zero)))) a b = refl
bracket_from (suc (suc (suc (suc (suc zero))))) a b = refl
bracket_from (suc (suc (suc (suc (suc (suc zero)))))) a b = refl
bracket_from (suc (suc (suc (suc (suc (suc (suc zero))))))) a b = refl
bracket_from (suc (suc (suc (suc (suc (suc (suc (suc k)))))))) a b = ne_eqb (suc (suc (suc (suc (suc (suc (suc (suc k)))))))) 6 (λ e. omega arith)

-- a record of kind 6 is a bracket
pub bracket_kind : (part : List ℕ) {kind : ℕ} → kind ≡ word_at part 0 → eqb kind 6 ≡ is_bracket (term_at part 0)
unfolding term_at
bracket_kind part {kind} e = rw e (bracket_from (word_at part 0) (word_at part 4) (word_at part 8))

-- a variable's record is of kind 3, 4 or 5
pub variable_kind_lem : (text part : List ℕ) {v : Variable} → atom_of text (term_at part 0) ≡ variable v → (2 < word_at part 0) × (word_at part 0 < 6)
unfolding term_at
variable_kind_lem text part {v} e =
    let sort : min (word_at part 0) 6 ≡ kind_number v.kind = sym (sort_from text (word_at part 0) (word_at part 4) (word_at part 8)) ∙ ap sort_of e in
    let (low, high) = kind_variable v.kind in
    (omega (arith, sort, low), omega (arith, sort, high))

-- no call, block or bracket is the same as another
sort_same : (x y : Atom) → same_atom x y ≡ true → sort_of x < 6
sort_same (literal (character c)) y h = omega arith
sort_same (literal (identifier i)) y h = omega arith
sort_same (literal (number n)) y h = omega arith
sort_same (variable v) y h = (kind_variable v.kind).1
sort_same other y h = absurd (false_not_true h)

-- records of different kinds are not the same
differ : (text : List ℕ) (k a b l c d : ℕ) → (k ≡ l → ⊥) → same_atom (atom_of text (term_from k a b)) (atom_of text (term_from l c d)) ≡ false
differ text k a b l c d h = go (same_atom (atom_of text (term_from k a b)) (atom_of text (term_from l c d))) refl
  where
    go : (t : Bool) → same_atom (atom_of text (term_from k a b)) (atom_of text (term_from l c d)) ≡ t → t ≡ false
    go false e = refl
    go true e =
        let x : Atom = atom_of text (term_from k a b) in
        let y : Atom = atom_of text (term_from l c d) in
        let p : sort_of x ≡ sort_of y = ap sort_of (atom_sound x y e) in
        absurd (h (omega (arith, p, sort_same x y e, sort_from text k a b, sort_from text l c d)))

-- records from kind 6 on are not the same
past : (text : List ℕ) (k a b : ℕ) (y : Atom) → 6 ≤ k → same_atom (atom_of text (term_from k a b)) y ≡ false
past text k a b y h = go (same_atom (atom_of text (term_from k a b)) y) refl
  where
    go : (t : Bool) → same_atom (atom_of text (term_from k a b)) y ≡ t → t ≡ false
    go false e = refl
    go true e = absurd (omega (arith, sort_same (atom_of text (term_from k a b)) y e, sort_from text k a b))

-- variables are the same if their indices are
same_variables : (text : List ℕ) (k a b c d : ℕ) → 2 < k → k < 6
    → same_bytes (folded_index (take b (drop a text))) (folded_index (take d (drop c text)))
    ≡ same_atom (atom_of text (term_from k a b)) (atom_of text (term_from k c d))
unfolding term_from
same_variables text zero a b c d low high = absurd (omega arith)
same_variables text (suc zero) a b c d low high = absurd (omega arith)
same_variables text (suc (suc zero)) a b c d low high = absurd (omega arith)
same_variables text (suc (suc (suc zero))) a b c d low high = refl
same_variables text (suc (suc (suc (suc zero)))) a b c d low high = refl
same_variables text (suc (suc (suc (suc (suc zero))))) a b c d low high = refl
same_variables text (suc (suc (suc (suc (suc (suc k)))))) a b c d low high = absurd (omega arith)

-- ---- what is answered at each return: `kind` and `l` are the first words of the parts

module _ (text x y : List ℕ) {kind : ℕ} (first : kind ≡ word_at x 0) where
  pub kinds_differ : {l : ℕ} → l ≡ word_at y 0 → (kind ≡ l → ⊥) → false ≡ same_atom (atom_of text (term_at x 0)) (atom_of text (term_at y 0))
  unfolding term_at
  kinds_differ e h =
      rw (← first, ← e) (sym (differ text kind (word_at x 4) (word_at x 8) _ (word_at y 4) (word_at y 8) h))

  module _ {l : ℕ} (second : l ≡ word_at y 0) (same : kind ≡ l) where
    alike : word_at y 0 ≡ kind
    alike = sym (same ∙ second)

    characters : {a b : ℕ} → kind ≡ 0 → a ≡ word_at x 4 → b ≡ word_at y 4
        → eqb a b ≡ same_atom (atom_of text (term_at x 0)) (atom_of text (term_at y 0))
    unfolding term_at term_from
    characters e p q = rw (alike, ← first, e, p, q)

    module _ {a b : List ℕ} (p : a ≡ take (word_at x 8) (drop (word_at x 4) text)) (q : b ≡ take (word_at y 8) (drop (word_at y 4) text)) where
      pub names_same : kind ≡ 1 → {r : Bool} → r ≡ same_bytes (folded a) (folded b) → r ≡ same_atom (atom_of text (term_at x 0)) (atom_of text (term_at y 0))
      unfolding term_at term_from
      names_same e h = h ∙ rw (alike, ← first, e, p, q)

      pub numbers_same : kind ≡ 2 → {r : Bool} → r ≡ same_bytes (stripped a) (stripped b) → r ≡ same_atom (atom_of text (term_at x 0)) (atom_of text (term_at y 0))
      unfolding term_at term_from
      numbers_same e h = h ∙ rw (alike, ← first, e, p, q)

      pub variables_same : kind < 6 → {r : Bool} → r ≡ same_bytes (folded_index a) (folded_index b) → 2 < word_at x 0
          → r ≡ same_atom (atom_of text (term_at x 0)) (atom_of text (term_at y 0))
      unfolding term_at
      variables_same h e k =
          e ∙ rw (alike, ← first, p, q) (same_variables text kind (word_at x 4) (word_at x 8) (word_at y 4) (word_at y 8) (omega arith) h)

    pub others_differ : 6 ≤ kind → ltb kind 6 ≡ same_atom (atom_of text (term_at x 0)) (atom_of text (term_at y 0))
    unfolding term_at
    others_differ h = rw (le-ltb kind 6 h, ← first) (sym (past text kind (word_at x 4) (word_at x 8) (atom_of text (term_from (word_at y 0) (word_at y 4) (word_at y 8))) h))

-- a character, and a record that is one or not
module _ (x y : List ℕ) {l : ℕ} (first : word_at x 0 ≡ 0) (second : l ≡ word_at y 0) (text : List ℕ) where
  pub characters_same : {a b : ℕ} → l ≡ 0 → a ≡ word_at x 4 → b ≡ word_at y 4 → eqb a b ≡ same_atom (atom_of text (term_at x 0)) (atom_of text (term_at y 0))
  characters_same e p q = characters text x y (sym first) second (sym e) refl p q

  pub character_differs : (l ≡ 0 → ⊥) → eqb l 0 ≡ same_atom (atom_of text (term_at x 0)) (atom_of text (term_at y 0))
  character_differs h = ne_eqb l 0 h ∙ kinds_differ text x y (sym first) second (λ e. h (sym e))
