-- Literal matching where nothing is around: what is remembered, and brackets that share no variable with what follows.
use Prim.Native.Nat.{ℕ, ◌+◌, ◌-◌, ◌≤◌}
use mathlib.Core.Bool.{Bool, true, false}
use mathlib.Core.List.{List, [], ◌∷◌, ◌++◌}
use mathlib.Core.Logic.{◌⊎◌, inl, inr}
use mathlib.Core.Path.{◌≡◌, refl, sym, ap, ◌∙◌}
use native.Mathlib.Omega.{arith}
use lib.ListN.{length, take, drop}
use Rattle.file.specs.Forest.{contents, rest}
use Rattle.law.specs.Runs.{end_of}
use Rattle.law.specs.Variables.{Variable, occurs}
use Rattle.matching.specs.Pattern.{Atom, literal}
use Rattle.matching.specs.Match.{Values, some_in, each}
use Rattle.matching.specs.Shadow.{same_atom, symbol_like, single_term}
use Rattle.matching.specs.Code.Part.{row_of, from}
use Rattle.matching.specs.Code.Step.{found, Facing, each_inside}
use Rattle.searches.specs.Code.Capacity.{variables_in}
use Rattle.searches.specs.Code.Asked.{some_holds, resume, coming_in, levels, levels_of, LiteralAsked}
use Rattle.searches.specs.Code.Repeats.{Disjoint}
use Rattle.searches.specs.Code.Failed.{Remembering, Remembered}
use Rattle.matching.specs.declared.Bindings.{Bindings}
use Rattle.searches.specs.declared.literal.Pending.{Pending}
use Rattle.searches.specs.declared.failed.Rest.{Rest}
use Rattle.searches.specs.declared.repeats.Sure.{Sure}
use Rattle.matching.proofs.SameLaws.{false_not_true}
use Rattle.matching.proofs.VariableLaws.{occurs_left, occurs_right, occurs_either}
use Rattle.searches.proofs.AgreeLaws.{brackets_apart}
use Rattle.searches.proofs.AskedLaws.{asked_inside, asked_alone, contents_within}
use Rattle.searches.proofs.LevelLaws.{deeper}
use Rattle.searches.proofs.SureLaws.{settled_fewer}
use Rattle.searches.proofs.LiteralSearch.{resume_nothing}

-- no match answers, whatever is around
nothing_holds : (f : Values Atom → Bool) (l : List (Values Atom)) → l ≡ [] → false ≡ some_holds f l
unfolding some_holds
nothing_holds f l e = sym (ap (some_holds f) e)

module _ (text terms : List ℕ) (p : Pending) (alone : p.count ≡ 0) where
  levels_none : (at start : ℕ) → levels_of text terms p at start ≡ []
  unfolding levels
  levels_none at start = rw alone

  -- a match is enough
  holds_some : (at start : ℕ) (l : List (Values Atom)) → some_holds (resume (levels_of text terms p at start)) l ≡ some_in l
  holds_some at start l = rw (levels_none at start) (resume_nothing l)

  some_nothing : (l : List (Values Atom)) → some_in l ≡ false → l ≡ []
  some_nothing [] e = refl
  some_nothing (vs ∷ l) e = absurd (false_not_true (sym e))

  -- no answer means no match
  none_holds : (at start : ℕ) (l : List (Values Atom)) {x : Bool} → x ≡ some_holds (resume (levels_of text terms p at start)) l → x ≡ false → l ≡ []
  none_holds at start l e fails = some_nothing l (sym (holds_some at start l) ∙ sym e ∙ fails)

  module _ (pattern row : List ℕ) (vs : Values Atom) (m n : ℕ) (p-end : m ≡ end_of pattern) (r-end : n ≡ end_of row) where
    -- the contents of the brackets, and what follows
    abbrev inside : List (Values Atom)
    inside = found true (row_of text (take (m - 24) (drop 24 pattern))) (row_of text (take (n - 24) (drop 24 row))) vs

    abbrev after : List (Values Atom)
    after = found true (row_of text (from m pattern)) (row_of text (from n row)) vs

    -- the contents do not match
    pub bracket_none : (a s a' s' : ℕ) {x : Bool} → x ≡ some_holds (resume (levels_of text terms p a s)) inside → x ≡ false
        → false ≡ some_holds (resume (levels_of text terms p a' s')) (each_inside text true pattern row vs)
    bracket_none a s a' s' e fails =
        let nothing : found true (row_of text (contents 24 end_of pattern)) (row_of text (contents 24 end_of row)) vs ≡ [] = rw (p-end, r-end) at (none_holds a s inside e fails) in
        nothing_holds (resume (levels_of text terms p a' s')) (each_inside text true pattern row vs)
        (ap (each (λ (us : Values Atom). found true (row_of text (rest 24 end_of pattern)) (row_of text (rest 24 end_of row)) us)) nothing)

    -- they do, and what follows answers
    pub bracket_some : Disjoint (variables_in (row_of text (contents 24 end_of pattern))) (variables_in (row_of text (rest 24 end_of pattern)))
        → (a s a' s' a'' s'' : ℕ) {x y : Bool} → x ≡ some_holds (resume (levels_of text terms p a s)) inside → x ≡ true
        → y ≡ some_holds (resume (levels_of text terms p a' s')) after
        → y ≡ some_holds (resume (levels_of text terms p a'' s'')) (each_inside text true pattern row vs)
    bracket_some apart a s a' s' a'' s'' e holds answer =
        let one : some_in (found true (row_of text (contents 24 end_of pattern)) (row_of text (contents 24 end_of row)) vs) ≡ true =
        rw (p-end, r-end) at (sym (holds_some a s inside) ∙ sym e ∙ holds) in
        let two : some_in (found true (row_of text (rest 24 end_of pattern)) (row_of text (rest 24 end_of row)) vs) ≡ some_in after = rw (p-end, r-end) in
        answer ∙ holds_some a' s' after ∙ sym two
        ∙ sym (brackets_apart same_atom literal symbol_like single_term true (row_of text (contents 24 end_of pattern)) (row_of text (rest 24 end_of pattern))
        (row_of text (contents 24 end_of row)) (row_of text (rest 24 end_of row)) vs apart one)
        ∙ sym (holds_some a'' s'' (each_inside text true pattern row vs))

module _ {text terms pattern : List ℕ} {at : ℕ} {row : List ℕ} {start : ℕ} {p : Pending} {b : Bindings}
    (asked : LiteralAsked text terms pattern at row start p b) (alone : p.count ≡ 0) (some : 24 ≤ length pattern) (facing : Facing (row_of text pattern) row) where
  -- the contents of the brackets, with nothing around
  pub contents_alone : (m n : ℕ) → m ≡ end_of pattern → n ≡ end_of row
      → LiteralAsked text terms (take (m - 24) (drop 24 pattern)) (at + 24) (take (n - 24) (drop 24 row)) (start + 24) p b
  unfolding coming_in
  contents_alone m n p-end r-end = record {
    asked = rw (levels_none text terms p alone (at + 24 + length (take (m - 24) (drop 24 pattern))) (start + 24 + length (take (n - 24) (drop 24 row))))
        (asked_alone (asked_inside asked.asked some facing m n p-end r-end));
    around = record {
      few = asked.around.few;
      long = asked.around.long;
      levels_in = rw alone tt;
    };
    deep = rw p-end (omega (arith, deeper asked some facing m n p-end r-end));
  }

  -- the same is around them
  same_alone : (a s : ℕ) → levels_of text terms p a s ≡ levels_of text terms p (at + length pattern) (start + length row)
  same_alone a s = levels_none text terms p alone a s ∙ sym (levels_none text terms p alone (at + length pattern) (start + length row))

  -- their variables are variables of the pattern
  inside_among : (m : ℕ) → m ≡ end_of pattern → (l : List Variable) (w : Variable) → occurs w (variables_in (row_of text (take (m - 24) (drop 24 pattern))) ++ l) ≡ true
      → occurs w (variables_in (row_of text pattern) ++ l) ≡ true
  inside_among m p-end l w o = go (occurs_either w (variables_in (row_of text (take (m - 24) (drop 24 pattern)))) l o)
    where
      go : (occurs w (variables_in (row_of text (take (m - 24) (drop 24 pattern)))) ≡ true) ⊎ (occurs w l ≡ true) → occurs w (variables_in (row_of text pattern) ++ l) ≡ true
      go (inl k) = occurs_left w (variables_in (row_of text pattern)) l (contents_within asked.asked some facing w (rw p-end at k))
      go (inr k) = occurs_right w (variables_in (row_of text pattern)) l k

  pub remembering_inside : (m n : ℕ) → m ≡ end_of pattern → {c : Bindings} {s : Sure} {rests : List Rest}
      → Remembering text terms pattern (levels_of text terms p (at + length pattern) (start + length row)) c s rests
      → Remembering text terms (take (m - 24) (drop 24 pattern))
      (levels_of text terms p (at + 24 + length (take (m - 24) (drop 24 pattern))) (start + 24 + length (take (n - 24) (drop 24 row)))) c s rests
  remembering_inside m n p-end so =
      rw (same_alone (at + 24 + length (take (m - 24) (drop 24 pattern))) (start + 24 + length (take (n - 24) (drop 24 row))))
      (record {
        settled = settled_fewer so.settled _ (inside_among m p-end (coming_in (levels_of text terms p (at + length pattern) (start + length row))));
        here = so.here;
      })

  pub remembered_inside : (a s : ℕ) {c : Bindings} {t : Sure} {rests now : List Rest} → Remembered text terms (levels_of text terms p a s) c t rests now
      → Remembered text terms (levels_of text terms p (at + length pattern) (start + length row)) c t rests now
  remembered_inside a s after = rw (same_alone a s) at after
