-- Numbers of terms: a pattern whose e. variables outside brackets all stand there evenly often has as many terms as what it matches, but for an even number;
-- what `odd_times` and `evenly` go through.
use Prim.Native.Nat.{ℕ, suc, ◌%◌}
use mathlib.Core.Bool.{Bool, true, false, cond, not, ◌||◌, beq}
use mathlib.Core.List.{List, [], ◌∷◌}
use mathlib.Core.Logic.{◌⊎◌, inl, inr, ◌≢◌}
use mathlib.Core.Path.{◌≡◌, refl, sym, ap, ◌∙◌}
use native.Mathlib.Omega.{arith}
use lib.ListN.{length}
use lib.Dec.{eqb}
use borrow.Author.Tests.{eq-eqb, ne_eqb}
use Rattle.std.proofs.lemmas.Bool.Decides.{eqb_tells}
use Rattle.std.specs.List.{filter, All}
use Rattle.file.specs.Forest.{contents, rest}
use Rattle.file.specs.Word.{word_at}
use Rattle.file.specs.Head.{term_at}
use Rattle.file.specs.declared.Term.{Term}
use Rattle.file.specs.declared.Term.TheVariants.{Symbol as Symbolic, SVariable, TVariable, EVariable, Bracket, Call, Block}
use Rattle.law.specs.Tree.{Kind, symbol_kind, term_kind, expression_kind}
use Rattle.law.specs.Expression.{Terms, nothing, symbol, brackets, ◌⊕◌}
use Rattle.law.specs.Variables.{Variable, same_variable, occurs}
use Rattle.law.specs.Runs.{end_of}
use Rattle.law.specs.Code.Whole.{term_parts}
use Rattle.law.proofs.WholeTerms.{parts_none, parts_node, each_part}
use Rattle.law.specs.Symbol.{Symbol, character}
use Rattle.matching.specs.Pattern.{Atom, literal, variable, Pattern}
use Rattle.matching.specs.Match.{Values, none_bound, some_in}
use Rattle.matching.specs.Fill.{Plain, filled, OfKind, Kinded}
use Rattle.matching.specs.Shadow.{same_atom, symbol_like, single_term}
use Rattle.matching.specs.Code.Part.{row_of, variable_from, atom_of, term_row}
use Rattle.matching.specs.Code.Step.{found, open_term}
use Rattle.matching.proofs.SameLaws.{false_not_true, variable_sound, variable_refl, atom_sound}
use Rattle.matching.proofs.SearchLaws.{none_kinded}
use Rattle.matching.proofs.FillLaws.{fills_of_match}
use Rattle.matching.proofs.VariableLaws.{occurs_cases}
use Rattle.matching.specs.Order.{terms_in}
use Rattle.matching.proofs.PartLaws.{row_empty, row_node}
use Rattle.sentences.specs.Code.Greedy.{open_kind}
use Rattle.sentences.specs.Code.Parity.{differ, odd_terms, outside, odd_in, Evenly}
use Rattle.sentences.proofs.FrontLaws.{not_open}

-- ---- one of two

differ_none : (b : Bool) → differ b false ≡ b
differ_none true = refl
differ_none false = refl

not_differ : (a b : Bool) → not (differ a b) ≡ differ (not a) b
not_differ true true = refl
not_differ true false = refl
not_differ false b = refl

differ_swap : (a b c : Bool) → differ a (differ b c) ≡ differ b (differ a c)
differ_swap true true c = refl
differ_swap true false c = refl
differ_swap false b c = refl

-- one more on both sides
differ_both : (a b c : Bool) → differ a (differ b c) ≡ differ (not b) (differ (not a) c)
differ_both true true true = refl
differ_both true true false = refl
differ_both true false c = refl
differ_both false true c = refl
differ_both false false true = refl
differ_both false false false = refl

-- ---- the variables of a list for which a test holds: an even number, where each of them stands evenly often

-- do an odd number of them pass?
sum : (Variable → Bool) → List Variable → Bool
sum f [] = false
sum f (v ∷ l) = differ (f v) (sum f l)

-- a test that one variable does not pass any more
except : (Variable → Bool) → Variable → Variable → Bool
except f v w = cond (same_variable v w) false (f w)

sum_except : (f : Variable → Bool) (v : Variable) → f v ≡ true → (l : List Variable) → sum f l ≡ differ (odd_in v l) (sum (except f v) l)
unfolding odd_in sum except
sum_except f v h [] = refl
sum_except f v h (w ∷ l) = go (same_variable v w) refl (sum_except f v h l)
  where
    go : (b : Bool) → same_variable v w ≡ b → sum f l ≡ differ (odd_in v l) (sum (except f v) l)
        → differ (f w) (sum f l) ≡ differ (differ b (odd_in v l)) (differ (cond b false (f w)) (sum (except f v) l))
    go true e below =
        let i : v ≡ w = variable_sound v w e in
        rw (← i, h, below) (not_differ (odd_in v l) (sum (except f v) l))
    go false e below = rw below (differ_swap (f w) (odd_in v l) (sum (except f v) l))

-- the rest of a list, where the first does not pass
even_rest : (f : Variable → Bool) (v : Variable) (l : List Variable) → f v ≡ false → ((u : Variable) → f u ≡ true → odd_in u (v ∷ l) ≡ false)
    → (u : Variable) → f u ≡ true → odd_in u l ≡ false
unfolding odd_in
even_rest f v l e h u k = go (same_variable u v) refl (h u k)
  where
    go : (b : Bool) → same_variable u v ≡ b → differ b (odd_in u l) ≡ false → odd_in u l ≡ false
    go false i o = o
    go true i o = let j : u ≡ v = variable_sound u v i in absurd (false_not_true (sym e ∙ (rw j at k)))

-- what passes but for one variable is another one
except_passes : (f : Variable → Bool) (v u : Variable) → except f v u ≡ true → f u ≡ true
unfolding except
except_passes f v u = go (same_variable v u)
  where
    go : (b : Bool) → cond b false (f u) ≡ true → f u ≡ true
    go true h = absurd (false_not_true h)
    go false h = h

except_own : (f : Variable → Bool) (v : Variable) → except f v v ≡ false
unfolding except
except_own f v = rw (variable_refl v)

even_sum : (l : List Variable) (f : Variable → Bool) → ((u : Variable) → f u ≡ true → odd_in u l ≡ false) → sum f l ≡ false
unfolding sum odd_in
even_sum [] f h = refl
even_sum (v ∷ l) f h = go (f v) refl (λ g k. even_sum l g k)
  where
    -- the first is one of an even number, so that it stands in the rest oddly often
    odd_later : f v ≡ true → odd_in v l ≡ true
    odd_later e = other_way (odd_in v l) (rw (variable_refl v) at (h v e))
      where
        other_way : (b : Bool) → not b ≡ false → b ≡ true
        other_way true k = refl
        other_way false k = absurd (false_not_true (sym k))

    go : (b : Bool) → f v ≡ b → ((g : Variable → Bool) → ((u : Variable) → g u ≡ true → odd_in u l ≡ false) → sum g l ≡ false) → differ b (sum f l) ≡ false
    go false e below = below f (even_rest f v l e h)
    go true e below =
        let without = below (except f v) (even_rest (except f v) v l (except_own f v) (λ u k. h u (except_passes f v u k))) in
        rw (sum_except f v e l, odd_later e, without)

-- ---- the terms of what values make of a pattern

module _ {A : Type 0} where
  odd_joined : (y r : Terms A) → odd_terms (y ⊕ r) ≡ differ (odd_terms y) (odd_terms r)
  unfolding odd_terms
  odd_joined nothing r = refl
  odd_joined (symbol a y) r = rw (odd_joined y r) (not_differ (odd_terms y) (odd_terms r))
  odd_joined (brackets c y) r = rw (odd_joined y r) (not_differ (odd_terms y) (odd_terms r))

module _ {A : Type 0} (is_symbol is_single : A → Bool) where
  -- an s. or t. variable stands for one term
  odd_single : (k : Kind) (y : Terms A) → OfKind is_symbol is_single k y → not (odd_terms y) ≡ true → open_kind k ≡ true
  unfolding odd_terms
  odd_single symbol_kind (symbol a nothing) i h = absurd (false_not_true h)
  odd_single term_kind (symbol a nothing) i h = absurd (false_not_true h)
  odd_single term_kind (brackets c nothing) i h = absurd (false_not_true h)
  odd_single expression_kind y i h = refl
  odd_single symbol_kind nothing i h = elim i [ ]
  odd_single symbol_kind (symbol a (symbol _ _)) i h = elim i [ ]
  odd_single symbol_kind (symbol a (brackets _ _)) i h = elim i [ ]
  odd_single symbol_kind (brackets c _) i h = elim i [ ]
  odd_single term_kind nothing i h = elim i [ ]
  odd_single term_kind (symbol a (symbol _ _)) i h = elim i [ ]
  odd_single term_kind (symbol a (brackets _ _)) i h = elim i [ ]
  odd_single term_kind (brackets c (symbol _ _)) i h = elim i [ ]
  odd_single term_kind (brackets c (brackets _ _)) i h = elim i [ ]

module _ {A : Type 0} (of_law : Symbol → A) (σ : Variable → Terms A) where
  odd_filled : (p : Pattern) → Plain p → odd_terms (filled of_law σ p) ≡ differ (odd_terms p) (sum (λ v. not (odd_terms (σ v))) (outside p))
  unfolding odd_terms outside sum
  odd_filled nothing g = refl
  odd_filled (symbol (literal a) p) g = rw (odd_filled p g) (not_differ (odd_terms p) _)
  odd_filled (symbol (variable v) p) g = odd_joined (σ v) (filled of_law σ p) ∙ rw (odd_filled p g) (differ_both (odd_terms (σ v)) (odd_terms p) _)
  odd_filled (brackets c p) g = rw (odd_filled p g.1) (not_differ (odd_terms p) _)
  odd_filled (symbol Rattle.matching.specs.Pattern.other p) g = elim g [ ]

  module _ (is_symbol is_single : A → Bool) (kinded : Kinded is_symbol is_single σ) where
    even_filled : (p : Pattern) → Plain p → Evenly p → odd_terms (filled of_law σ p) ≡ odd_terms p
    even_filled p g even =
        odd_filled p g ∙ rw (even_sum (outside p) (λ v. not (odd_terms (σ v))) (λ u k. even u (odd_single is_symbol is_single u.kind (σ u) (kinded u) k))) (differ_none (odd_terms p))

-- there is no match where the numbers differ by an odd number
uneven_none : (p x : Pattern) → Evenly p → (odd_terms p ≡ odd_terms x → ⊥) → (back : Bool) → found back p x none_bound ≡ []
uneven_none p x even apart back = go (found back p x none_bound) refl
  where
    go : (l : List (Values Atom)) → found back p x none_bound ≡ l → l ≡ []
    go [] e = refl
    go (vs ∷ l) e =
        let f = fills_of_match same_atom literal symbol_like single_term back atom_sound (literal (character 0)) refl refl p x none_bound
        (none_kinded symbol_like single_term) (ap some_in e) in
        absurd (apart (sym (even_filled literal f.value symbol_like single_term f.kinded p f.plain even) ∙ ap odd_terms f.fills))

-- two tests that differ are not the same
beq_refl : (b : Bool) → beq b b ≡ true
beq_refl true = refl
beq_refl false = refl

differ_beq : (a b : Bool) → (a ≡ b → ⊥) → beq a b ≡ false
differ_beq true true h = absurd (h refl)
differ_beq true false h = refl
differ_beq false true h = refl
differ_beq false false h = absurd (h refl)

pub uneven_answer : (p x : Pattern) → Evenly p → {a b : Bool} → a ≡ odd_terms p → b ≡ odd_terms x → beq a b ≡ false → (back : Bool) → found back p x none_bound ≡ []
uneven_answer p x even {a} {b} i j h = uneven_none p x even (λ k. absurd (false_not_true (sym h ∙ (rw (i ∙ k ∙ sym j) (beq_refl b)))))

-- ---- odd numbers

odd_next : (n : ℕ) → eqb (suc n % 2) 1 ≡ not (eqb (n % 2) 1)
odd_next n = go (eqb_tells (n % 2) 1)
  where
    go : ((eqb (n % 2) 1 ≡ true) × (n % 2 ≡ 1)) ⊎ ((eqb (n % 2) 1 ≡ false) × (n % 2 ≢ 1)) → eqb (suc n % 2) 1 ≡ not (eqb (n % 2) 1)
    go (inl (e, one)) = rw e (ne_eqb (suc n % 2) 1 (λ h. omega arith))
    go (inr (e, other)) = rw e (eq-eqb (suc n % 2) 1 (omega arith))

same_odd : (m n : ℕ) → eqb (m % 2) 1 ≡ eqb (n % 2) 1 → m % 2 ≡ n % 2
same_odd m n h = go (eqb_tells (m % 2) 1) (eqb_tells (n % 2) 1)
  where
    go : ((eqb (m % 2) 1 ≡ true) × (m % 2 ≡ 1)) ⊎ ((eqb (m % 2) 1 ≡ false) × (m % 2 ≢ 1))
        → ((eqb (n % 2) 1 ≡ true) × (n % 2 ≡ 1)) ⊎ ((eqb (n % 2) 1 ≡ false) × (n % 2 ≢ 1)) → m % 2 ≡ n % 2
    go (inl (d, one)) (inl (e, also)) = omega arith
    go (inl (d, one)) (inr (e, other)) = absurd (false_not_true (sym e ∙ sym h ∙ d))
    go (inr (d, other)) (inl (e, one)) = absurd (false_not_true (sym d ∙ h ∙ e))
    go (inr (d, other)) (inr (e, another)) = omega arith

odd_counted : {A : Type 0} → (x : Terms A) → odd_terms x ≡ eqb (terms_in x % 2) 1
unfolding odd_terms
odd_counted nothing = refl
odd_counted (symbol a x) = rw (odd_counted x) (sym (odd_next (terms_in x)))
odd_counted (brackets c x) = rw (odd_counted x) (sym (odd_next (terms_in x)))

-- numbers of terms that are not both odd or both even
pub uneven_counted : (p x : Pattern) → Evenly p → {a b : ℕ} → a ≡ terms_in p → b ≡ terms_in x → (a % 2 ≡ b % 2 → ⊥) → (back : Bool) → found back p x none_bound ≡ []
uneven_counted p x even {a} {b} i j h =
    uneven_answer p x even refl refl
    (differ_beq (odd_terms p) (odd_terms x) (λ k. h (rw (i, j) (same_odd (terms_in p) (terms_in x) (sym (odd_counted p) ∙ k ∙ odd_counted x)))))

-- ---- what `odd_times` counts

module _ (text : List ℕ) (v : Variable) where
  -- the first term of a part is the variable, or it stands as often after it
  term_times : (x : Term) (c p : Pattern) → odd_in v (outside (term_row text x c p)) ≡ differ (same_atom (variable v) (atom_of text x)) (odd_in v (outside p))
  unfolding odd_in outside
  term_times (Symbolic x) c p = refl
  term_times (SVariable a b) c p = refl
  term_times (TVariable a b) c p = refl
  term_times (EVariable a b) c p = refl
  term_times Bracket c p = refl
  term_times (Call a b) c p = refl
  term_times (Block n) c p = refl

  module _ (atom : Atom) (is_variable : atom ≡ variable v) where
    pub times_counted : (part : List ℕ) → eqb (length (filter (λ s. same_atom atom (atom_of text (term_at s 0))) (term_parts part)) % 2) 1 ≡ odd_in v (outside (row_of text part))
    unfolding odd_in outside
    times_counted =
        each_part (λ part. eqb (length (filter test (term_parts part)) % 2) 1 ≡ odd_in v (outside (row_of text part)))
        (λ part h. rw (parts_none part h, row_empty text part h))
        (λ part long below.
        rw (parts_node part long, row_node text part long, term_times (term_at part 0) (row_of text (contents 24 end_of part)) (row_of text (rest 24 end_of part)), ← is_variable, ← below)
        (turn part (test part) (filter test (term_parts (rest 24 end_of part)))))
      where
        test : List ℕ → Bool
        test = λ s. same_atom atom (atom_of text (term_at s 0))

        turn : (s : List ℕ) (b : Bool) (l : List (List ℕ)) → eqb (length (cond b (s ∷ l) l) % 2) 1 ≡ differ b (eqb (length l % 2) 1)
        turn s true l = odd_next (length l)
        turn s false l = refl

-- ---- what `evenly` asks

-- a variable that stands oddly often stands somewhere
odd_occurs : (v : Variable) (l : List Variable) → odd_in v l ≡ true → occurs v l ≡ true
unfolding odd_in occurs
odd_occurs v [] h = absurd (false_not_true h)
odd_occurs v (w ∷ l) h = go (same_variable v w) h (λ k. odd_occurs v l k)
  where
    go : (b : Bool) → differ b (odd_in v l) ≡ true → (odd_in v l ≡ true → occurs v l ≡ true) → (b || occurs v l) ≡ true
    go true k below = refl
    go false k below = below k

module _ (text : List ℕ) (v : Variable) (expression : open_kind v.kind ≡ true) where
  -- an e. variable that stands in a part is the first term, or stands after it
  open_either : (x : Term) (c p : Pattern) → occurs v (outside (term_row text x c p)) ≡ true
      → ((open_term x ≡ true) × (atom_of text x ≡ variable v)) ⊎ (occurs v (outside p) ≡ true)
  unfolding outside
  open_either (Symbolic x) c p h = inr h
  open_either (SVariable a b) c p h = go (occurs_cases v _ (outside p) h)
    where
      go : (v ≡ variable_from text symbol_kind a b) ⊎ (occurs v (outside p) ≡ true)
          → ((false ≡ true) × (variable (variable_from text symbol_kind a b) ≡ variable v)) ⊎ (occurs v (outside p) ≡ true)
      go (inl e) = absurd (false_not_true (rw e at expression))
      go (inr k) = inr k
  open_either (TVariable a b) c p h = go (occurs_cases v _ (outside p) h)
    where
      go : (v ≡ variable_from text term_kind a b) ⊎ (occurs v (outside p) ≡ true)
          → ((false ≡ true) × (variable (variable_from text term_kind a b) ≡ variable v)) ⊎ (occurs v (outside p) ≡ true)
      go (inl e) = absurd (false_not_true (rw e at expression))
      go (inr k) = inr k
  open_either (EVariable a b) c p h = go (occurs_cases v _ (outside p) h)
    where
      go : (v ≡ variable_from text expression_kind a b) ⊎ (occurs v (outside p) ≡ true)
          → ((true ≡ true) × (variable (variable_from text expression_kind a b) ≡ variable v)) ⊎ (occurs v (outside p) ≡ true)
      go (inl e) = inl (refl, ap variable (sym e))
      go (inr k) = inr k
  open_either Bracket c p h = inr h
  open_either (Call a b) c p h = inr h
  open_either (Block n) c p h = inr h

-- an e. variable that is the first of a part stands evenly often in the pattern
pub record Even (text pattern part : List ℕ) : Type 0 where
  pub often : word_at part 0 ≡ 5 → (v : Variable) → atom_of text (term_at part 0) ≡ variable v → odd_in v (outside (row_of text pattern)) ≡ false

module _ (text pattern : List ℕ) (v : Variable) (expression : open_kind v.kind ≡ true) (odd : odd_in v (outside (row_of text pattern)) ≡ true) where
  -- a variable that stands oddly often is none of them
  none_first : (part : List ℕ) → Even text pattern part → open_term (term_at part 0) ≡ true → atom_of text (term_at part 0) ≡ variable v → ⊥
  none_first part even o a = go (eqb_tells (word_at part 0) 5)
    where
      go : ((eqb (word_at part 0) 5 ≡ true) × (word_at part 0 ≡ 5)) ⊎ ((eqb (word_at part 0) 5 ≡ false) × (word_at part 0 ≢ 5)) → ⊥
      go (inl (e, five)) = false_not_true (sym (even.often five v a) ∙ odd)
      go (inr (e, other)) = false_not_true (sym (not_open part refl other) ∙ o)

  none_stands : (part : List ℕ) → All (Even text pattern) (term_parts part) → occurs v (outside (row_of text part)) ≡ true → ⊥
  unfolding outside occurs
  none_stands =
      each_part (λ part. All (Even text pattern) (term_parts part) → occurs v (outside (row_of text part)) ≡ true → ⊥)
      (λ part h all stands. false_not_true (rw (row_empty text part h) at stands))
      (λ part long below all stands.
      let parts = parts_node part long in
      let each : All (Even text pattern) (part ∷ term_parts (rest 24 end_of part)) = rw parts at all in
      turn part (each 0 part (omega arith)) (below (λ k d h. each (suc k) d (omega arith)))
      (open_either text v expression (term_at part 0) _ _ (rw (row_node text part long) at stands)))
    where
      turn : (part : List ℕ) → Even text pattern part → (occurs v (outside (row_of text (rest 24 end_of part))) ≡ true → ⊥)
          → ((open_term (term_at part 0) ≡ true) × (atom_of text (term_at part 0) ≡ variable v)) ⊎ (occurs v (outside (row_of text (rest 24 end_of part))) ≡ true) → ⊥
      turn part even below (inl (o, a)) = none_first part even o a
      turn part even below (inr later) = below later

pub even_all : (text pattern : List ℕ) → All (Even text pattern) (term_parts pattern) → Evenly (row_of text pattern)
even_all text pattern all v expression = go (odd_in v (outside (row_of text pattern))) refl
  where
    go : (b : Bool) → odd_in v (outside (row_of text pattern)) ≡ b → b ≡ false
    go false k = refl
    go true k = absurd (none_stands text pattern v expression k pattern all (odd_occurs v (outside (row_of text pattern)) k))
