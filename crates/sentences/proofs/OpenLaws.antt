-- The loose test of parts of the term records: what `has_open`, `skip`, `last`, `loose_open` and `loose` answer at each return.
use Prim.Native.Nat.{ℕ, suc, ◌+◌, ◌-◌, ◌≤◌, ◌<◌}
use mathlib.Core.Bool.{Bool, true, false, not, ◌||◌}
use mathlib.Core.List.{List}
use mathlib.Core.Logic.{◌⊎◌, inl, inr, ◌≢◌}
use mathlib.Core.Option.{none, some}
use mathlib.Core.Path.{◌≡◌, refl, sym, ap, ◌∙◌}
use native.Mathlib.Omega.{arith}
use native.Mathlib.Decide.{dec_lt}
use lib.ListN.{length}
use lib.Dec.{ltb, leb, eqb, lit<}
use borrow.Author.Tests.{lt-ltb, lt-leb, le-ltb}
use Rattle.std.proofs.lemmas.Bool.Decides.{eqb_tells}
use Rattle.std.specs.List.{list_any}
use Rattle.file.proofs.Forest.{rest_falls}
use Rattle.law.specs.Code.Whole.{term_parts}
use Rattle.law.proofs.WholeTerms.{parts_none, parts_node, each_part}
use Rattle.file.specs.Word.{word_at}
use Rattle.file.specs.Forest.{contents, rest}
use Rattle.file.specs.Head.{term_at}
use Rattle.file.specs.declared.Term.{Term}
use Rattle.file.specs.declared.Term.TheVariants.{Symbol as Symbolic, SVariable, TVariable, EVariable, Bracket, Call, Block}
use Rattle.law.specs.Expression.{nothing, symbol, brackets}
use Rattle.law.specs.Runs.{end_of}
use Rattle.law.proofs.RunLaws.{end_low, end_high}
use Rattle.matching.specs.Pattern.{literal, Pattern}
use Rattle.matching.specs.Shadow.{same_atom, symbol_like, single_term}
use Rattle.matching.specs.Code.Part.{row_of, atom_of, term_row}
use Rattle.matching.specs.Code.Step.{open_term}
use Rattle.matching.proofs.SameLaws.{false_not_true}
use Rattle.matching.proofs.PartLaws.{row_empty, row_node}
use Rattle.sentences.specs.Code.Loose.{loosely}
use Rattle.sentences.specs.Code.Greedy.{EndOf, left_passes, opens}
use Rattle.matching.specs.Order.{terms_in}
use Rattle.sentences.specs.Code.Ahead.{passes, front_in, leftmost_in, end_passes, OpenStart, Skipped}
use Rattle.sentences.proofs.GreedyLaws.{whole_end, end_end, end_some, front_loosely, leftmost_loosely, last_loosely, last_short}
use Rattle.sentences.proofs.FrontLaws.{by_row, is_open_lem, not_open, front_open, leftmost_open, symbols_part}

-- ---- what `has_open` has gone through

module _ (text : List ℕ) (t : Term) (c p : Pattern) where
  opens_here : open_term t ≡ true → opens (term_row text t c p) ≡ true
  unfolding opens
  opens_here = by_row text t (λ row starts. starts ≡ true → opens (row c p) ≡ true) (λ o. absurd (false_not_true o)) (λ a o. rw o)

  opens_later : open_term t ≡ false → opens (term_row text t c p) ≡ opens p
  unfolding opens
  opens_later = by_row text t (λ row starts. starts ≡ false → opens (row c p) ≡ opens p) (λ o. refl) (λ a o. rw o)

-- it is asked of each term in turn
pub opens_any : (text part : List ℕ) → list_any (λ s. eqb (word_at s 0) 5) (term_parts part) ≡ opens (row_of text part)
unfolding opens
opens_any text =
    each_part (λ part. list_any (λ s. eqb (word_at s 0) 5) (term_parts part) ≡ opens (row_of text part))
    (λ part h. rw (parts_none part h, row_empty text part h))
    (λ part long below. rw (parts_node part long, row_node text part long, below) (turn part (eqb_tells (word_at part 0) 5)))
  where
    turn : (part : List ℕ) → ((eqb (word_at part 0) 5 ≡ true) × (word_at part 0 ≡ 5)) ⊎ ((eqb (word_at part 0) 5 ≡ false) × (word_at part 0 ≢ 5))
        → (eqb (word_at part 0) 5 || opens (row_of text (rest 24 end_of part))) ≡ opens (term_row text (term_at part 0) (row_of text (contents 24 end_of part)) (row_of text (rest 24 end_of part)))
    turn part (inl (e, five)) = rw e (sym (opens_here text (term_at part 0) _ _ (is_open_lem part refl five)))
    turn part (inr (e, other)) = rw e (sym (opens_later text (term_at part 0) _ _ (not_open part refl other)))

-- ---- the first term of a part, and the rest

module _ (text : List ℕ) (t : Term) (c p : Pattern) where
  term_terms : terms_in (term_row text t c p) ≡ suc (terms_in p)
  term_terms = by_row text t (λ row starts. terms_in (row c p) ≡ suc (terms_in p)) refl (λ a. refl)

  term_end : EndOf p (term_row text t c p)
  term_end = by_row text t (λ row starts. EndOf p (row c p)) (inr (whole_end p)) (λ a. inr (whole_end p))

module _ (part : List ℕ) (some_left : 24 ≤ length part) {later : List ℕ} (behind : later ≡ rest 24 end_of part) (text : List ℕ) where
  pub next_terms : terms_in (row_of text part) ≡ suc (terms_in (row_of text later))
  next_terms = rw (row_node text part some_left, behind) (term_terms text (term_at part 0) _ (row_of text (rest 24 end_of part)))

  next_end : EndOf (row_of text later) (row_of text part)
  next_end = rw (row_node text part some_left, behind) (term_end text (term_at part 0) _ (row_of text (rest 24 end_of part)))

-- ---- how many terms a part has

pub terms_count : (text part : List ℕ) → length (term_parts part) ≡ terms_in (row_of text part)
terms_count text =
    each_part (λ part. length (term_parts part) ≡ terms_in (row_of text part))
    (λ part h. rw (parts_none part h, row_empty text part h))
    (λ part long below. rw (parts_node part long, next_terms part long refl text, below))

pub terms_few : (part : List ℕ) → length (term_parts part) ≤ length part
terms_few =
    each_part (λ part. length (term_parts part) ≤ length part)
    (λ part h. rw (parts_none part h) (omega arith))
    (λ part long below. rw (parts_node part long) (omega (arith, rest_falls 24 end_of (lit< tt) end_low end_high part long)))

-- ---- what `skip` has gone through

pub skip_begun : (row : List ℕ) → Skipped row 0 row
skip_begun row = record { end = λ text. whole_end (row_of text row); counted = λ text. omega arith }

module _ {row left : List ℕ} {count : ℕ} (so_far : Skipped row count left) where
  -- a term is left
  pub skip_some : {most : ℕ} → ((text : List ℕ) → most ≤ terms_in (row_of text row)) → count < most → 24 ≤ length left
  skip_some {most} enough more = go (dec_lt (length left) 24)
    where
      go : Dec (length left < 24) → 24 ≤ length left
      go (no h) = omega arith
      go (yes h) =
          let none_left : terms_in (row_of List.[] left) ≡ 0 = ap terms_in (row_empty List.[] left h) in
          absurd (omega (arith, none_left, so_far.counted List.[], enough List.[]))

  pub skip_next : 24 ≤ length left → {later : List ℕ} → later ≡ rest 24 end_of left → Skipped row (count + 1) later
  skip_next long {later} behind = record {
    end = λ text. end_end (row_of text row) (row_of text left) _ (next_end left long behind text) (so_far.end text);
    counted = λ text. omega (arith, so_far.counted text, next_terms left long behind text);
  }

-- ---- what `last` answers at each return

nothing_end : (x : Pattern) → EndOf nothing x
nothing_end nothing = refl
nothing_end (symbol a x) = inr (nothing_end x)
nothing_end (brackets c x) = inr (nothing_end x)

module _ (text pattern row : List ℕ) where
  pub last_empty : length pattern < 24 → true ≡ end_passes (row_of text pattern) (row_of text row)
  unfolding loosely
  last_empty h =
      sym (rw (row_empty text pattern h) (end_some (λ y. passes nothing y) (row_of text row) nothing (nothing_end (row_of text row)) refl))

  module _ (closed : opens (row_of text pattern) ≡ false) {terms room : ℕ} (needed : terms ≡ terms_in (row_of text pattern)) (had : room ≡ terms_in (row_of text row)) where
    pub last_few : room < terms → leb terms room ≡ end_passes (row_of text pattern) (row_of text row)
    last_few h = lt-leb terms room h ∙ sym (last_short same_atom literal symbol_like single_term (row_of text pattern) closed (row_of text row) (omega (arith, needed, had)))

    pub last_there : terms ≤ room → {left : List ℕ} → Skipped row (room - terms) left → {r : Bool} → r ≡ passes (row_of text pattern) (row_of text left)
        → r ≡ end_passes (row_of text pattern) (row_of text row)
    last_there h {left} skipped e =
        e
        ∙ sym (last_loosely same_atom literal symbol_like single_term (row_of text pattern) closed (row_of text row) (row_of text left) (skipped.end text)
        (omega (arith, skipped.counted text, needed, had)))

-- ---- what `loose_open` has gone through

-- an e. variable first
open_first : (text : List ℕ) (t : Term) (c p x : Pattern) → OpenStart (term_row text t c p) → passes (term_row text t c p) x ≡ end_passes p x
unfolding loosely
open_first text (Symbolic y) c p x o = absurd (false_not_true o)
open_first text (SVariable a b) c p x o = absurd (false_not_true o)
open_first text (TVariable a b) c p x o = absurd (false_not_true o)
open_first text (EVariable a b) c p x o = refl
open_first text Bracket c p x o = absurd o
open_first text (Call a b) c p x o = absurd (false_not_true o)
open_first text (Block n) c p x o = absurd (false_not_true o)

-- a pattern that is empty
nothing_passes : (text : List ℕ) (t : Term) (c x : Pattern) → passes nothing (term_row text t c x) ≡ false
unfolding loosely
nothing_passes text t c x = by_row text t (λ row starts. passes nothing (row c x) ≡ false) refl (λ a. refl)

empty_passes : (text part : List ℕ) → passes nothing (row_of text part) ≡ ltb (length part) 24
unfolding loosely
empty_passes text part = go (dec_lt (length part) 24)
  where
    go : Dec (length part < 24) → passes nothing (row_of text part) ≡ ltb (length part) 24
    go (yes h) = rw (row_empty text part h, lt-ltb (length part) 24 h)
    go (no h) = rw (row_node text part (omega arith), le-ltb (length part) 24 (omega arith)) (nothing_passes text (term_at part 0) _ _)

pub record Opened (text pattern row left right : List ℕ) : Type 0 where
  pub within : length left ≤ length pattern
  pub start : OpenStart (row_of text left)
  pub same : passes (row_of text pattern) (row_of text row) ≡ passes (row_of text left) (row_of text right)

pub opened : (text pattern row : List ℕ) → OpenStart (row_of text pattern) → Opened text pattern row pattern row
opened text pattern row o = record { within = omega arith; start = o; same = refl }

module _ {text pattern row left right : List ℕ} (so_far : Opened text pattern row left right) where
  -- nothing is left of the pattern
  pub opened_end : length left < 24 → ltb (length right) 24 ≡ passes (row_of text pattern) (row_of text row)
  opened_end h = sym (so_far.same ∙ rw (row_empty text left h) (empty_passes text right))

  module _ (long : 24 ≤ length left) {segment : List ℕ} (behind : segment ≡ rest 24 end_of left) where
    opened_rest : passes (row_of text pattern) (row_of text row) ≡ end_passes (row_of text segment) (row_of text right)
    opened_rest =
        let node = row_node text left long in
        let step : passes (row_of text left) (row_of text right) ≡ end_passes (row_of text (rest 24 end_of left)) (row_of text right) =
        rw node (open_first text (term_at left 0) _ _ (row_of text right) (rw node at so_far.start)) in
        so_far.same ∙ step ∙ rw behind

    -- the last segment
    pub opened_last : {r : Bool} → r ≡ end_passes (row_of text segment) (row_of text right) → r ≡ passes (row_of text pattern) (row_of text row)
    opened_last h = h ∙ sym opened_rest

    module _ (later : opens (row_of text segment) ≡ true) where
      opened_leftmost : passes (row_of text pattern) (row_of text row)
          ≡ left_passes same_atom literal symbol_like single_term (leftmost_in (row_of text segment) (row_of text right))
      opened_leftmost = opened_rest ∙ leftmost_loosely same_atom literal symbol_like single_term (row_of text segment) later (row_of text right)

      -- a segment that stands nowhere
      pub opened_fails : none ≡ leftmost_in (row_of text segment) (row_of text right) → false ≡ passes (row_of text pattern) (row_of text row)
      opened_fails h = sym (opened_leftmost ∙ rw (← h))

      -- one that stands somewhere
      pub opened_next : {next after : List ℕ} → length next ≤ length segment
          → some (row_of text next, row_of text after) ≡ leftmost_in (row_of text segment) (row_of text right) → Opened text pattern row next after
      opened_next {next} {after} shorter h = record {
        within = omega (arith, so_far.within, ap length behind, rest_falls 24 end_of (lit< tt) end_low end_high left long);
        start = leftmost_open (row_of text segment) (row_of text right) _ (sym h);
        same = opened_leftmost ∙ rw (← h);
      }

-- ---- what `loose` answers at each return

module _ (text pattern row : List ℕ) where
  loose_front : passes (row_of text pattern) (row_of text row) ≡ left_passes same_atom literal symbol_like single_term (front_in (row_of text pattern) (row_of text row))
  loose_front = front_loosely same_atom literal symbol_like single_term (row_of text pattern) (row_of text row)

  pub loose_fails : none ≡ front_in (row_of text pattern) (row_of text row) → false ≡ passes (row_of text pattern) (row_of text row)
  loose_fails h = sym (loose_front ∙ rw (← h))

  module _ (left right : List ℕ) (h : some (row_of text left, row_of text right) ≡ front_in (row_of text pattern) (row_of text row)) where
    pub loose_start : OpenStart (row_of text left)
    loose_start = front_open (row_of text pattern) (row_of text row) _ (sym h)

    pub loose_goes : {b : Bool} → b ≡ passes (row_of text left) (row_of text right) → b ≡ passes (row_of text pattern) (row_of text row)
    loose_goes e = e ∙ sym (loose_front ∙ rw (← h))

-- ---- what `parted` answers

pub parted_not : (text pattern row : List ℕ) → 24 ≤ length pattern → 24 ≤ length row → {kind : ℕ} → kind ≡ word_at pattern 0 → kind ≤ 2
    → {t : Bool} → t ≡ same_atom (atom_of text (term_at pattern 0)) (atom_of text (term_at row 0)) → not t ≡ true → passes (row_of text pattern) (row_of text row) ≡ false
parted_not text pattern row long more told h {t} fit e =
    front_loosely same_atom literal symbol_like single_term (row_of text pattern) (row_of text row)
    ∙ ap (left_passes same_atom literal symbol_like single_term) (symbols_part text pattern row long more told h fit (go t e))
  where
    go : (b : Bool) → not b ≡ true → b ≡ false
    go true k = absurd (false_not_true k)
    go false k = refl
