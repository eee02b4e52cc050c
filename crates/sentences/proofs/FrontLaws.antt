-- The front of a pattern with a row, where both are parts of the term records: what `fits`, `front` and `leftmost` answer at each return.
use Prim.Native.Nat.{ℕ, zero, suc, ◌-◌, ◌≤◌, ◌<◌}
use mathlib.Core.Bool.{Bool, true, false, cond, ◌&&◌}
use mathlib.Core.List.{List}
use mathlib.Core.Logic.{◌⊎◌, inl, inr}
use mathlib.Core.Option as maybe
use mathlib.Core.Option.{none, some}
use mathlib.Core.Path.{◌≡◌, refl, sym, ap, ◌∙◌}
use native.Mathlib.Omega.{arith}
use Rattle.std.specs.Prelude.{Option, Some, None, is_some}
use Rattle.std.specs.Borrow.{Bor}
use lib.ListN.{length, take, drop}
use lib.Dec.{lit<}
use Rattle.file.specs.Word.{word_at}
use Rattle.file.specs.Forest.{rest}
use Rattle.file.specs.Head.{term_from, term_at}
use Rattle.file.specs.declared.Symbol as heads
use Rattle.file.proofs.Forest.{rest_falls}
use Rattle.file.specs.declared.Term.{Term}
use Rattle.file.specs.declared.Term.TheVariants.{Symbol as Symbolic, SVariable, TVariable, EVariable, Bracket, Call, Block}
use Rattle.law.specs.Expression.{nothing, symbol, brackets}
use Rattle.law.specs.Runs.{end_of}
use Rattle.law.proofs.RunLaws.{end_low, end_high}
use Rattle.matching.specs.Pattern.{Atom, literal, other, Pattern}
use Rattle.matching.specs.Shadow.{same_atom, symbol_like, single_term}
use Rattle.matching.specs.Code.Part.{row_of, symbol_at, atom_of, term_row, is_bracket}
use Rattle.matching.specs.Code.Step.{open_term, may_stand}
use Rattle.matching.proofs.SameLaws.{false_not_true}
use Rattle.matching.proofs.PartLaws.{row_empty, row_node}
use Rattle.matching.proofs.StepLaws.{symbol_from}
use Rattle.sentences.specs.Code.Greedy.{open_atom, next, or_else, atom_fits, bracket_fits, front_of, leftmost_of}
use Rattle.sentences.specs.Code.Ahead.{passes, front_in, leftmost_in, ahead_of, OpenStart, fits_heads, fits_first}
use Rattle.sentences.proofs.GreedyLaws.{next_some}

-- ---- a term before the terms after it is a bracket with its contents, or an atom

pub by_row : (text : List ℕ) (t : Term) (P : (Pattern → Pattern → Pattern) → Bool → Type 0) → P brackets false
    → ((a : Atom) → P (λ inside after. symbol a after) (open_atom a)) → P (term_row text t) (open_term t)
by_row text (Symbolic x) P b s = s (atom_of text (Symbolic x))
by_row text (SVariable i n) P b s = s (atom_of text (SVariable i n))
by_row text (TVariable i n) P b s = s (atom_of text (TVariable i n))
by_row text (EVariable i n) P b s = s (atom_of text (EVariable i n))
by_row text Bracket P b s = b
by_row text (Call i n) P b s = s other
by_row text (Block n) P b s = s other

-- ---- first terms

module _ {X Y : Type 0} where
  next_cond : (b : Bool) (x : X) (g : X → maybe.Option Y) → next (cond b (some x) none) g ≡ cond b (g x) none
  next_cond true x g = refl
  next_cond false x g = refl

module _ (text : List ℕ) where
  -- a symbol, s. and t. variables and a bracket, with a row that begins with a term
  front_symbol : (y : heads.Symbol) (c p : Pattern) (u : Term) (d x : Pattern)
      → front_in (term_row text (Symbolic y) c p) (term_row text u d x) ≡ cond (same_atom (literal (symbol_at text y)) (atom_of text u)) (front_in p x) none
  unfolding front_of
  front_symbol y c p (Symbolic z) d x = next_cond (same_atom (literal (symbol_at text y)) (literal (symbol_at text z))) x (λ w. front_in p w)
  front_symbol y c p (SVariable a b) d x = refl
  front_symbol y c p (TVariable a b) d x = refl
  front_symbol y c p (EVariable a b) d x = refl
  front_symbol y c p Bracket d x = refl
  front_symbol y c p (Call a b) d x = refl
  front_symbol y c p (Block n) d x = refl

  front_s : (e f : ℕ) (c p : Pattern) (u : Term) (d x : Pattern)
      → front_in (term_row text (SVariable e f) c p) (term_row text u d x) ≡ cond (may_stand (SVariable e f) u) (front_in p x) none
  unfolding front_of
  front_s e f c p (Symbolic z) d x = refl
  front_s e f c p (SVariable a b) d x = refl
  front_s e f c p (TVariable a b) d x = refl
  front_s e f c p (EVariable a b) d x = refl
  front_s e f c p Bracket d x = refl
  front_s e f c p (Call a b) d x = refl
  front_s e f c p (Block n) d x = refl

  front_t : (e f : ℕ) (c p : Pattern) (u : Term) (d x : Pattern)
      → front_in (term_row text (TVariable e f) c p) (term_row text u d x) ≡ cond (may_stand (TVariable e f) u) (front_in p x) none
  unfolding front_of
  front_t e f c p (Symbolic z) d x = refl
  front_t e f c p (SVariable a b) d x = refl
  front_t e f c p (TVariable a b) d x = refl
  front_t e f c p (EVariable a b) d x = refl
  front_t e f c p Bracket d x = refl
  front_t e f c p (Call a b) d x = refl
  front_t e f c p (Block n) d x = refl

  front_bracket : (c p : Pattern) (u : Term) (d x : Pattern)
      → front_in (brackets c p) (term_row text u d x) ≡ cond (is_bracket u && passes c d) (front_in p x) none
  unfolding front_of
  front_bracket c p (Symbolic z) d x = refl
  front_bracket c p (SVariable a b) d x = refl
  front_bracket c p (TVariable a b) d x = refl
  front_bracket c p (EVariable a b) d x = refl
  front_bracket c p Bracket d x = next_cond (passes c d) x (λ w. front_in p w)
  front_bracket c p (Call a b) d x = refl
  front_bracket c p (Block n) d x = refl

  -- any term but an e. variable
  front_heads : (t : Term) → open_term t ≡ false → (c p : Pattern) (u : Term) (d x : Pattern)
      → front_in (term_row text t c p) (term_row text u d x) ≡ cond (fits_heads text t u (passes c d)) (front_in p x) none
  unfolding front_of
  front_heads (Symbolic y) o c p u d x = front_symbol y c p u d x
  front_heads (SVariable a b) o c p u d x = front_s a b c p u d x
  front_heads (TVariable a b) o c p u d x = front_t a b c p u d x
  front_heads (EVariable a b) o c p u d x = absurd (false_not_true (sym o))
  front_heads Bracket o c p u d x = front_bracket c p u d x
  front_heads (Call a b) o c p u d x = refl
  front_heads (Block n) o c p u d x = refl

  -- with nothing
  front_none : (t : Term) → open_term t ≡ false → (c p : Pattern) → front_in (term_row text t c p) nothing ≡ none
  unfolding front_of
  front_none (Symbolic y) o c p = refl
  front_none (SVariable a b) o c p = refl
  front_none (TVariable a b) o c p = refl
  front_none (EVariable a b) o c p = absurd (false_not_true (sym o))
  front_none Bracket o c p = refl
  front_none (Call a b) o c p = refl
  front_none (Block n) o c p = refl

  -- an e. variable
  front_stops : (t : Term) → open_term t ≡ true → (c p x : Pattern) → front_in (term_row text t c p) x ≡ some (term_row text t c p, x)
  unfolding front_of
  front_stops t o c p x = by_row text t (λ row starts. starts ≡ true → front_in (row c p) x ≡ some (row c p, x)) (λ k. absurd (false_not_true k)) (λ a k. rw k) o

-- ---- terms by their kinds

open_five : (kind a b : ℕ) → kind ≡ 5 → open_term (term_from kind a b) ≡ true
unfolding term_from
open_five kind a b e = rw e

open_other : (kind a b : ℕ) → (kind ≡ 5 → ⊥) → open_term (term_from kind a b) ≡ false
unfolding term_from
open_other zero a b h = refl
open_other (suc zero) a b h = refl
open_other (suc (suc zero)) a b h = refl
open_other (suc (suc (suc zero))) a b h = refl
open_other (suc (suc (suc (suc zero)))) a b h = refl
open_other (suc (suc (suc (suc (suc zero))))) a b h = absurd (h refl)
open_other (suc (suc (suc (suc (suc (suc zero)))))) a b h = refl
open_other (suc (suc (suc (suc (suc (suc (suc zero))))))) a b h = refl
open_other (suc (suc (suc (suc (suc (suc (suc (suc k)))))))) a b h = refl

high_fits : (text : List ℕ) (kind a b : ℕ) (u : Term) (inside : Bool) → 3 ≤ kind → (kind ≡ 6 → ⊥)
    → may_stand (term_from kind a b) u ≡ fits_heads text (term_from kind a b) u inside
unfolding term_from
high_fits text zero a b u inside h n = absurd (omega arith)
high_fits text (suc zero) a b u inside h n = absurd (omega arith)
high_fits text (suc (suc zero)) a b u inside h n = absurd (omega arith)
high_fits text (suc (suc (suc zero))) a b u inside h n = refl
high_fits text (suc (suc (suc (suc zero)))) a b u inside h n = refl
high_fits text (suc (suc (suc (suc (suc zero))))) a b u inside h n = refl
high_fits text (suc (suc (suc (suc (suc (suc zero)))))) a b u inside h n = absurd (n refl)
high_fits text (suc (suc (suc (suc (suc (suc (suc zero))))))) a b u inside h n = refl
high_fits text (suc (suc (suc (suc (suc (suc (suc (suc k)))))))) a b u inside h n = refl

bracket_six : (kind a b : ℕ) → kind ≡ 6 → is_bracket (term_from kind a b) ≡ true
unfolding term_from
bracket_six kind a b e = rw e

symbol_fits : (text : List ℕ) (t u : Term) (inside : Bool) (x : heads.Symbol) → t ≡ Symbolic x → same_atom (atom_of text t) (atom_of text u) ≡ fits_heads text t u inside
symbol_fits text t u inside x e = rw e

module _ (part : List ℕ) {kind : ℕ} (told : kind ≡ word_at part 0) where
  pub is_open_lem : kind ≡ 5 → open_term (term_at part 0) ≡ true
  unfolding term_at
  is_open_lem h = open_five (word_at part 0) (word_at part 4) (word_at part 8) (sym told ∙ h)

  pub not_open : (kind ≡ 5 → ⊥) → open_term (term_at part 0) ≡ false
  unfolding term_at
  not_open h = open_other (word_at part 0) (word_at part 4) (word_at part 8) (λ e. h (told ∙ e))

-- ---- what `fits` answers at each return

module _ (text pattern row : List ℕ) where
  pub fits_symbol : {kind : ℕ} → kind ≡ word_at pattern 0 → kind < 3 → {r : Bool} → r ≡ same_atom (atom_of text (term_at pattern 0)) (atom_of text (term_at row 0))
      → r ≡ fits_first text pattern row
  unfolding term_at
  fits_symbol {kind} told h e =
      let (x, s) = symbol_from (word_at pattern 0) (word_at pattern 4) (word_at pattern 8) (omega (arith, told)) in
      e ∙ symbol_fits text (term_at pattern 0) (term_at row 0) _ x s

  pub fits_variable : {kind : ℕ} → kind ≡ word_at pattern 0 → 3 ≤ kind → (kind ≡ 6 → ⊥) → {t u : Term} → t ≡ term_at pattern 0 → u ≡ term_at row 0
      → {r : Bool} → r ≡ may_stand t u → r ≡ fits_first text pattern row
  unfolding term_at
  fits_variable {kind} told h n i j e =
      e ∙ rw (i, j) (high_fits text (word_at pattern 0) (word_at pattern 4) (word_at pattern 8) (term_at row 0) _ (omega (arith, told)) (λ six. n (told ∙ six)))

  module _ {kind : ℕ} (told : kind ≡ word_at pattern 0) (six : kind ≡ 6) {q : Bool} (second : q ≡ is_bracket (term_at row 0)) where
    bracket_first : is_bracket (term_at pattern 0) ≡ true
    unfolding term_at
    bracket_first = bracket_six (word_at pattern 0) (word_at pattern 4) (word_at pattern 8) (sym told ∙ six)

    pub fits_none : q ≡ false → q ≡ fits_first text pattern row
    fits_none d = rw (bracket_first, ← second, d)

    pub fits_inside : q ≡ true → {m n : ℕ} → m ≡ end_of pattern → n ≡ end_of row → {r : Bool}
        → r ≡ passes (row_of text (take (m - 24) (drop 24 pattern))) (row_of text (take (n - 24) (drop 24 row))) → r ≡ fits_first text pattern row
    fits_inside d ends row_ends_lem e = e ∙ rw (bracket_first, ← second, d, ends, row_ends_lem)

-- first symbols that differ
pub symbols_part : (text pattern row : List ℕ) → 24 ≤ length pattern → 24 ≤ length row → {kind : ℕ} → kind ≡ word_at pattern 0 → kind ≤ 2
    → {t : Bool} → t ≡ same_atom (atom_of text (term_at pattern 0)) (atom_of text (term_at row 0)) → t ≡ false → front_in (row_of text pattern) (row_of text row) ≡ none
symbols_part text pattern row long more {kind} told h fit e =
    let no : fits_first text pattern row ≡ false = sym (fits_symbol text pattern row told (omega arith) fit) ∙ e in
    rw (row_node text pattern long, row_node text row more)
    (front_heads text (term_at pattern 0) (not_open pattern told (λ five. omega (arith, five))) _ _ (term_at row 0) _ _ ∙ rw no)

-- ---- what `front` has gone through: `left` and `right` are left of the pattern and the row

pub record Fronted (text pattern row left right : List ℕ) : Type 0 where
  pub within : length left ≤ length pattern
  pub same : front_in (row_of text pattern) (row_of text row) ≡ front_in (row_of text left) (row_of text right)

module _ {text pattern row left right : List ℕ} (so_far : Fronted text pattern row left right) where
  -- nothing is left of the pattern
  pub front_end : length left < 24 → some (row_of text left, row_of text right) ≡ front_in (row_of text pattern) (row_of text row)
  unfolding front_of
  front_end h = sym (so_far.same ∙ rw (row_empty text left h))

  module _ (long : 24 ≤ length left) {kind : ℕ} (told : kind ≡ word_at left 0) where
    -- an e. variable
    pub front_open_term : kind ≡ 5 → some (row_of text left, row_of text right) ≡ front_in (row_of text pattern) (row_of text row)
    front_open_term h = sym (so_far.same ∙ rw (row_node text left long) (front_stops text (term_at left 0) (is_open_lem left told h) _ _ _))

    module _ (closed : kind ≡ 5 → ⊥) where
      -- nothing is left of the row
      pub front_short : length right < 24 → none ≡ front_in (row_of text pattern) (row_of text row)
      front_short h =
          sym (so_far.same ∙ rw (row_node text left long, row_empty text right h) (front_none text (term_at left 0) (not_open left told closed) _ _))

      module _ (more : 24 ≤ length right) {t : Bool} (fit : t ≡ fits_first text left right) where
        front_step : front_in (row_of text pattern) (row_of text row) ≡ cond t (front_in (row_of text (rest 24 end_of left)) (row_of text (rest 24 end_of right))) none
        front_step =
            so_far.same
            ∙ rw (fit, row_node text left long, row_node text right more)
            (front_heads text (term_at left 0) (not_open left told closed) _ _ (term_at right 0) _ _)

        -- the first terms do not fit
        pub front_differs : t ≡ false → none ≡ front_in (row_of text pattern) (row_of text row)
        front_differs e = sym (front_step ∙ rw e)

        -- they do
        pub front_next : t ≡ true → {later after : List ℕ} → later ≡ rest 24 end_of left → after ≡ rest 24 end_of right → Fronted text pattern row later after
        front_next e p q = record {
          within = omega (arith, so_far.within, ap length p, rest_falls 24 end_of (lit< tt) end_low end_high left long);
          same = front_step ∙ rw (e, p, q);
        }

-- ---- what is left of a pattern is empty or begins with an e. variable

pub front_open : (p x : Pattern) (z : Pattern × Pattern) → front_in p x ≡ some z → OpenStart z.0
unfolding front_of
front_open nothing x z e = let m : ◌≡◌ {A = Pattern × Pattern} (nothing, x) z = cc in rw (← m) tt
front_open (symbol t p) x z e = go (open_atom t) refl e (λ y. front_open p y z)
  where
    go : (b : Bool) → open_atom t ≡ b
        → cond b (some (symbol t p, x)) (next (atom_fits same_atom literal symbol_like single_term t x) (λ u. front_in p u)) ≡ some z
        → ((y : Pattern) → front_in p y ≡ some z → OpenStart z.0) → OpenStart z.0
    go true i e below = let m : ◌≡◌ {A = Pattern × Pattern} (symbol t p, x) z = cc in rw (← m) i
    go false i e below = let (y, f, g) = next_some (atom_fits same_atom literal symbol_like single_term t x) (λ u. front_in p u) z e in below y g
front_open (brackets c p) x z e =
    let (y, f, g) = next_some (bracket_fits same_atom literal symbol_like single_term c x) (λ u. front_in p u) z e in
    front_open p y z g

or_else_lem : {X : Type 0} (o u : maybe.Option X) (z : X) → or_else o u ≡ some z → (o ≡ some z) ⊎ (u ≡ some z)
or_else_lem none u z e = inr e
or_else_lem (some x) u z e = inl e

pub leftmost_open : (p x : Pattern) (z : Pattern × Pattern) → leftmost_in p x ≡ some z → OpenStart z.0
unfolding leftmost_of
leftmost_open p nothing z e = front_open p nothing z e
leftmost_open p (symbol a x) z e = go (or_else_lem (front_in p (symbol a x)) (leftmost_in p x) z e) (λ k. leftmost_open p x z k)
  where
    go : (front_in p (symbol a x) ≡ some z) ⊎ (leftmost_in p x ≡ some z) → (leftmost_in p x ≡ some z → OpenStart z.0) → OpenStart z.0
    go (inl k) below = front_open p (symbol a x) z k
    go (inr k) below = below k
leftmost_open p (brackets c x) z e = go (or_else_lem (front_in p (brackets c x)) (leftmost_in p x) z e) (λ k. leftmost_open p x z k)
  where
    go : (front_in p (brackets c x) ≡ some z) ⊎ (leftmost_in p x ≡ some z) → (leftmost_in p x ≡ some z → OpenStart z.0) → OpenStart z.0
    go (inl k) below = front_open p (brackets c x) z k
    go (inr k) below = below k

-- ---- what `leftmost` has gone through

leftmost_here : (p x : Pattern) (z : Pattern × Pattern) → front_in p x ≡ some z → leftmost_in p x ≡ some z
unfolding leftmost_of
leftmost_here p nothing z e = e
leftmost_here p (symbol a x) z e = rw e
leftmost_here p (brackets c x) z e = rw e

leftmost_there : (text : List ℕ) (p : Pattern) (t : Term) (c x : Pattern) → front_in p (term_row text t c x) ≡ none → leftmost_in p (term_row text t c x) ≡ leftmost_in p x
unfolding leftmost_of
leftmost_there text p t c x = by_row text t (λ row starts. front_in p (row c x) ≡ none → leftmost_in p (row c x) ≡ leftmost_in p x) (λ e. rw e) (λ a e. rw e)

pub record Sought (text pattern row right : List ℕ) : Type 0 where
  pub same : leftmost_in (row_of text pattern) (row_of text row) ≡ leftmost_in (row_of text pattern) (row_of text right)

module _ {text pattern row right : List ℕ} (so_far : Sought text pattern row right) where
  -- here
  pub sought_here : (z : Pattern × Pattern) → some z ≡ front_in (row_of text pattern) (row_of text right) → some z ≡ leftmost_in (row_of text pattern) (row_of text row)
  sought_here z e = sym (so_far.same ∙ leftmost_here (row_of text pattern) (row_of text right) z (sym e))

  module _ (fails : none ≡ front_in (row_of text pattern) (row_of text right)) where
    -- nowhere
    pub sought_nowhere : length right < 24 → none ≡ leftmost_in (row_of text pattern) (row_of text row)
    unfolding leftmost_of
    sought_nowhere h =
        let e : row_of text right ≡ nothing = row_empty text right h in
        sym (so_far.same ∙ rw e (sym (rw e at fails)))

    -- later
    pub sought_later : 24 ≤ length right → {later : List ℕ} → later ≡ rest 24 end_of right → Sought text pattern row later
    sought_later more q =
        let node = row_node text right more in
        let step : leftmost_in (row_of text pattern) (row_of text right) ≡ leftmost_in (row_of text pattern) (row_of text (rest 24 end_of right)) =
        rw node (leftmost_there text (row_of text pattern) (term_at right 0) _ _ (rw node at (sym fails))) in
        record { same = so_far.same ∙ step ∙ rw q }

  -- what `leftmost` answers where it stops, and what it goes on with
  module _ (r : Option (Bor (List ℕ) × Bor (List ℕ))) (told : ahead_of text r ≡ front_in (row_of text pattern) (row_of text right)) {found : Bool} (is_found : found ≡ is_some r) where
    pub sought_answer : (found ≡ true) ⊎ ((found ≡ false) × (length right < 24)) → ahead_of text r ≡ leftmost_in (row_of text pattern) (row_of text row)
    sought_answer h = go r told (sym is_found) h
      where
        go : (o : Option (Bor (List ℕ) × Bor (List ℕ))) → ahead_of text o ≡ front_in (row_of text pattern) (row_of text right) → is_some o ≡ found
            → (found ≡ true) ⊎ ((found ≡ false) × (length right < 24)) → ahead_of text o ≡ leftmost_in (row_of text pattern) (row_of text row)
        go (Some z) e i h = sought_here _ e
        go None e i (inl here) = absurd (false_not_true (i ∙ here))
        go None e i (inr (nowhere, short)) = sought_nowhere e short

    pub sought_next : found ≡ false → 24 ≤ length right → {later : List ℕ} → later ≡ rest 24 end_of right → Sought text pattern row later
    sought_next h = go r told (sym is_found ∙ h)
      where
        go : (o : Option (Bor (List ℕ) × Bor (List ℕ))) → ahead_of text o ≡ front_in (row_of text pattern) (row_of text right) → is_some o ≡ false
            → 24 ≤ length right → {later : List ℕ} → later ≡ rest 24 end_of right → Sought text pattern row later
        go (Some z) e i = absurd (false_not_true (sym i))
        go None e i = sought_later e
