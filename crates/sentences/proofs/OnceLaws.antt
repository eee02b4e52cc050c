-- Variables of a part's records: where no two records are the same variable, no variable of the pattern is repeated; what `once` has gone through.
use Prim.Native.Nat.{ℕ, zero, suc, ◌+◌, ◌*◌, ◌-◌, ◌/◌, ◌≤◌, ◌<◌}
use mathlib.Core.Bool.{Bool, true, false, not}
use mathlib.Core.List.{List, [], ◌∷◌, ◌++◌}
use mathlib.Core.Logic.{◌⊎◌, inl, inr}
use mathlib.Core.Path.{◌≡◌, refl, sym, ap, ◌∙◌}
use native.Mathlib.Omega.{arith}
use native.Mathlib.Decide.{dec_lt}
use lib.ListN.{length}
use Rattle.names.proofs.Laws.{both_hold}
use Rattle.file.specs.Word.{word_at}
use Rattle.file.specs.Forest.{contents, rest}
use Rattle.file.specs.Head.{term_at}
use Rattle.file.specs.declared.Term.{Term}
use Rattle.file.specs.declared.Term.TheVariants.{Symbol as Symbolic, SVariable, TVariable, EVariable, Bracket, Call, Block}
use Rattle.law.specs.Runs.{end_of}
use Rattle.law.specs.Variables.{Variable, occurs}
use Rattle.law.proofs.RunLaws.{end_low, end_high}
use Rattle.matching.specs.Pattern.{variable}
use Rattle.matching.specs.Code.Part.{row_of, from, Stands, atom_of}
use Rattle.searches.specs.Code.Capacity.{variables_in}
use Rattle.searches.specs.Code.Repeats.{atom_at, Alone}
use Rattle.matching.proofs.SameLaws.{false_not_true, variable_refl}
use Rattle.matching.proofs.PartLaws.{row_empty, row_node}
use Rattle.matching.proofs.CutLaws.{from_length, from_from, stands_from}
use Rattle.matching.proofs.VariableLaws.{occurs_first, occurs_later, occurs_either}
use Rattle.matching.proofs.AtomLaws.{variable_kind_lem}
use Rattle.searches.proofs.RecordLaws.{
  stands_whole,
  stands_at,
  Ends,
  at_end,
  after_records,
  ends_at,
  contents_stand,
  contents_length,
  rest_stands,
  Somewhere,
  variables_of,
  own_variable,
  term_variables,
  none_occurs,
  occurs_at,
  record_at,
}
use Rattle.sentences.specs.Code.Loose.{once_each}
use Rattle.sentences.specs.Code.Ahead.{FreshBelow}

-- ---- lists without repeats

not_true_false : (b : Bool) → (b ≡ true → ⊥) → b ≡ false
not_true_false true h = absurd (h refl)
not_true_false false h = refl

once_first : (v : Variable) (l : List Variable) → (occurs v l ≡ true → ⊥) → once_each l ≡ true → once_each (v ∷ l) ≡ true
unfolding once_each
once_first v l h k = rw (not_true_false (occurs v l) h, k)

once_join : (l m : List Variable) → once_each l ≡ true → once_each m ≡ true → ((w : Variable) → occurs w l ≡ true → occurs w m ≡ true → ⊥) → once_each (l ++ m) ≡ true
unfolding once_each
once_join [] m h k apart = k
once_join (v ∷ l) m h k apart =
    once_first v (l ++ m) new (once_join l m both.1 k (λ w p q. apart w (occurs_later w v l p) q))
  where
    both : (not (occurs v l) ≡ true) × (once_each l ≡ true)
    both = both_hold (not (occurs v l)) (once_each l) h

    old : (b : Bool) → b ≡ true → not b ≡ true → ⊥
    old true e n = false_not_true n
    old false e n = false_not_true e

    new : occurs v (l ++ m) ≡ true → ⊥
    new p = go (occurs_either v l m p)
      where
        go : (occurs v l ≡ true) ⊎ (occurs v m ≡ true) → ⊥
        go (inl q) = old (occurs v l) q both.0
        go (inr q) = apart v (occurs_first v l) q

-- ---- no two records are the same variable, so no variable is repeated

module _ (text : List ℕ) where
  abbrev Fresh : List ℕ → Type 0
  Fresh part = (m n : ℕ) (v : Variable) → m < n → 24 * n + 24 ≤ length part → atom_at text part m ≡ variable v → atom_at text part n ≡ variable v → ⊥

  fresh_part : (whole s : List ℕ) (a : ℕ) → Stands whole s (24 * a) → Fresh whole → Fresh s
  fresh_part whole s a stands fresh m n v low high p q =
      fresh (a + m) (a + n) v (omega arith) (omega (arith, stands.inside))
      (ap (atom_of text) (sym (stands_at whole s a m stands (omega arith))) ∙ p)
      (ap (atom_of text) (sym (stands_at whole s a n stands high)) ∙ q)

  once_term : (t : Term) (l m : List Variable) → once_each l ≡ true → once_each m ≡ true → ((w : Variable) → occurs w l ≡ true → occurs w m ≡ true → ⊥)
      → ((w : Variable) → atom_of text t ≡ variable w → (occurs w l ≡ true → ⊥) × (occurs w m ≡ true → ⊥))
      → once_each (own_variable text (atom_of text t) (variables_of text t l m)) ≡ true
  once_term (Symbolic x) l m h k apart first = k
  once_term (SVariable a b) l m h k apart first = once_first _ m (first _ refl).1 k
  once_term (TVariable a b) l m h k apart first = once_first _ m (first _ refl).1 k
  once_term (EVariable a b) l m h k apart first = once_first _ m (first _ refl).1 k
  once_term Bracket l m h k apart first = once_join l m h k apart
  once_term (Call a b) l m h k apart first = k
  once_term (Block n) l m h k apart first = k

  none_once : (part : List ℕ) → length part < 24 → once_each (variables_in (row_of text part)) ≡ true
  unfolding variables_in once_each
  none_once part h = rw (row_empty text part h)

  fresh_once : (k : ℕ) (part : List ℕ) → length part ≤ k → Fresh part → once_each (variables_in (row_of text part)) ≡ true
  fresh_once zero part h fresh = none_once part (omega arith)
  fresh_once (suc k) part h fresh = go (dec_lt (length part) 24) (λ s i f. fresh_once k s i f)
    where
      go : Dec (length part < 24) → ((s : List ℕ) → length s ≤ k → Fresh s → once_each (variables_in (row_of text s)) ≡ true) → once_each (variables_in (row_of text part)) ≡ true
      go (yes short) below = none_once part short
      go (no n) below =
          rw (row_node text part long, term_variables text (term_at part 0) _ _)
          (once_term (term_at part 0) _ _
          (below (contents 24 end_of part) (omega (arith, contents_length part long, end_high part, end_low part long)) (fresh_part part (contents 24 end_of part) 1 (contents_stand part long) fresh))
          (behind (ends_at part)) (λ w p q. apart w (ends_at part) p q) (λ w e. (λ p. inner w e p, λ q. outer w e (ends_at part) q)))
        where
          long : 24 ≤ length part
          long = omega arith

          behind : Ends part → once_each (variables_in (row_of text (rest 24 end_of part))) ≡ true
          behind (at_end short) = none_once (rest 24 end_of part) short
          behind (after_records e ends) =
              below (rest 24 end_of part) (omega (arith, from_length (end_of part) part, end_low part long)) (fresh_part part (rest 24 end_of part) e (rest_stands part long e ends) fresh)

          -- where a variable of the contents and of the rest stands
          within : (w : Variable) → occurs w (variables_in (row_of text (contents 24 end_of part))) ≡ true → Somewhere text w (contents 24 end_of part)
          within w p = occurs_at text (length (contents 24 end_of part)) (contents 24 end_of part) (omega arith) w p

          after : (w : Variable) → occurs w (variables_in (row_of text (rest 24 end_of part))) ≡ true → Somewhere text w (rest 24 end_of part)
          after w p = occurs_at text (length (rest 24 end_of part)) (rest 24 end_of part) (omega arith) w p

          apart : (w : Variable) → Ends part → occurs w (variables_in (row_of text (contents 24 end_of part))) ≡ true → occurs w (variables_in (row_of text (rest 24 end_of part))) ≡ true → ⊥
          apart w (at_end short) p q = none_occurs text w (rest 24 end_of part) short q
          apart w (after_records e ends) p q =
              let (m, i, a) = within w p in
              let (o, j, b) = after w q in
              let stands = rest_stands part long e ends in
              fresh (1 + m) (e + o) w (omega (arith, contents_length part long, ends)) (omega (arith, stands.inside))
              (ap (atom_of text) (sym (stands_at part (contents 24 end_of part) 1 m (contents_stand part long) i)) ∙ a)
              (ap (atom_of text) (sym (stands_at part (rest 24 end_of part) e o stands j)) ∙ b)

          inner : (w : Variable) → atom_of text (term_at part 0) ≡ variable w → occurs w (variables_in (row_of text (contents 24 end_of part))) ≡ true → ⊥
          inner w e p =
              let (m, i, a) = within w p in
              fresh 0 (1 + m) w (omega arith) (omega (arith, (contents_stand part long).inside)) e
              (ap (atom_of text) (sym (stands_at part (contents 24 end_of part) 1 m (contents_stand part long) i)) ∙ a)

          outer : (w : Variable) → atom_of text (term_at part 0) ≡ variable w → Ends part → occurs w (variables_in (row_of text (rest 24 end_of part))) ≡ true → ⊥
          outer w e (at_end short) q = none_occurs text w (rest 24 end_of part) short q
          outer w e (after_records d ends) q =
              let (o, j, b) = after w q in
              let stands = rest_stands part long d ends in
              fresh 0 (d + o) w (omega (arith, end_low part long, ends)) (omega (arith, stands.inside)) e
              (ap (atom_of text) (sym (stands_at part (rest 24 end_of part) d o stands j)) ∙ b)

-- ---- what `once` has gone through: the first `count` records

module _ (text part : List ℕ) (count : ℕ) (so_far : FreshBelow text part count) where
  pub apart_all : length part / 24 ≤ count → once_each (variables_in (row_of text part)) ≡ true
  apart_all whole = fresh_once text (length part) part (omega arith) (λ m n v low high. so_far m n v (omega arith) low high)

  one_more : ((n : ℕ) (v : Variable) → count < n → 24 * n + 24 ≤ length part → atom_at text part count ≡ variable v → atom_at text part n ≡ variable v → ⊥)
      → FreshBelow text part (count + 1)
  one_more new m n v low = go m n v (dec_lt m count) low
    where
      go : (m n : ℕ) (v : Variable) → Dec (m < count) → m < count + 1 → m < n → 24 * n + 24 ≤ length part
          → atom_at text part m ≡ variable v → atom_at text part n ≡ variable v → ⊥
      go m n v (yes below) low later inside p q = so_far m n v below later inside p q
      go m n v (no above) low later inside p q =
          let here : m ≡ count = omega arith in
          new n v (omega arith) inside (ap (atom_at text part) (sym here) ∙ p) q

  module _ (inside : count < length part / 24) where
    long : 24 ≤ length (from (24 * count) part)
    long = omega (arith, from_length (24 * count) part)

    the_record : term_at (from (24 * count) part) 0 ≡ term_at part (24 * count)
    the_record = record_at part (24 * count) count refl long

    -- no variable
    pub apart_other : {kind : ℕ} → kind ≡ word_at (from (24 * count) part) 0 → (3 ≤ kind → kind ≤ 5 → ⊥) → FreshBelow text part (count + 1)
    apart_other told other =
        one_more (λ n v later inside p q.
        let kinds = variable_kind_lem text (from (24 * count) part) (ap (atom_of text) the_record ∙ p) in
        other (omega (arith, told, kinds.0)) (omega (arith, told, kinds.1)))

    -- a variable
    pub apart_variable : Alone text (atom_of text (term_at (from (24 * count) part) 0)) (from 24 (from (24 * count) part)) → FreshBelow text part (count + 1)
    apart_variable alone = one_more new
      where
        new : (n : ℕ) (v : Variable) → count < n → 24 * n + 24 ≤ length part → atom_at text part count ≡ variable v → atom_at text part n ≡ variable v → ⊥
        new n v later inside p q =
            let j : ℕ = n - suc count in
            let place : 24 * count + 24 ≡ 24 * suc count = omega arith in
            let left : from 24 (from (24 * count) part) ≡ from (24 * suc count) part = from_from 24 (24 * count) part ∙ ap (λ k. from k part) place in
            let stands : Stands part (from (24 * suc count) part) (24 * suc count) =
            rw (nothing_before (24 * suc count)) at (stands_from part part 0 (24 * suc count) (stands_whole part) (omega arith)) in
            let fits : 24 * j + 24 ≤ length (from (24 * suc count) part) = omega (arith, from_length (24 * suc count) part) in
            let same_place : suc count + j ≡ n = omega arith in
            let there : atom_at text (from 24 (from (24 * count) part)) j ≡ variable v =
            ap (λ s. atom_at text s j) left
            ∙ ap (atom_of text) (stands_at part (from (24 * suc count) part) (suc count) j stands fits)
            ∙ ap (atom_at text part) same_place ∙ q in
            let mine : atom_of text (term_at (from (24 * count) part) 0) ≡ variable v = ap (atom_of text) the_record ∙ p in
            let no = alone j (rw (sym left) at fits) in
            false_not_true (sym (rw (mine, there) at no) ∙ variable_refl v)
          where
            nothing_before : (k : ℕ) → 0 + k ≡ k
            nothing_before k = omega arith
