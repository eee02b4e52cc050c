-- Laws of a format's text (specs/Display.antt): a law for each return of the code that writes it.
use Prim.Native.Nat.{ℕ, ◌+◌, ◌≤◌, ◌<◌}
use mathlib.Core.Bool.{Bool, true, false, cond}
use mathlib.Core.List.{List, [], ◌∷◌, ◌++◌, append_assoc}
use mathlib.Core.Path.{◌≡◌, refl}
use native.Mathlib.Omega.{arith}
use lib.ListN.{length}
use borrow.Author.Tests.{le-leb, lt-leb}
use Rattle.std.specs.Prelude.{Some, None}
use Rattle.shapes.specs.Format.{Shapes, end}
use Rattle.shapes.specs.declared.row.Shape.{Shape}
use Rattle.shapes.specs.declared.row.Shape.TheVariants.{Leaf, Bracket}
use Rattle.buffers.specs.Code.Put.{Put}
use Rattle.buffers.specs.Fitted.{fitted_at}
use Rattle.shapes.specs.Display.{spaced, shown_answer}
use Rattle.shapes.specs.Code.Rows.{in_front}
use Rattle.shapes.specs.Code.Shown.{shown, first_shown}
use Rattle.buffers.proofs.PutLaws.{put_none, put_room, ◌then◌}

-- ---- rows

-- a row that is not over: a space, its first item and the rest
spaced_split : (x : Shape) (f : Shapes) → spaced (in_front x f) ≡ 32 ∷ (first_shown x ++ spaced f)
unfolding spaced
spaced_split (Leaf b) f = refl
spaced_split (Bracket c) f = simp append_assoc

-- the space before an item that is not the first
abbrev pub space : Bool → List ℕ
space first = cond first [] (32 ∷ [])

-- a space is one byte at most
pub space_length : (first : Bool) → length (space first) ≤ 1
space_length true = omega arith
space_length false = omega arith

-- a row that is over and open, and one that is closed
shown_open : (first : Bool) → space first ++ (46 ∷ 46 ∷ []) ≡ shown first (end true)
unfolding spaced
shown_open true = refl
shown_open false = refl

shown_closed : (first : Bool) → [] ≡ shown first (end false)
unfolding spaced
shown_closed true = refl
shown_closed false = refl

-- a row that is not over
shown_some : (first : Bool) (x : Shape) (f : Shapes) → (space first ++ first_shown x) ++ spaced f ≡ shown first (in_front x f)
shown_some true x f = rw (spaced_split x f)
shown_some false x f = rw (spaced_split x f)

-- ---- what the code put, at each return

module _ (first : Bool) (old : List ℕ) (at : ℕ) where
  pub show_open : (one last : List ℕ) (next after : ℕ)
      → Put old at (space first) next one → Put one next (46 ∷ 46 ∷ []) after last → Put old at (shown first (end true)) after last
  show_open one last next after p q = rw (shown_open first) at (p then q)

  pub show_closed : Put old at (shown first (end false)) at old
  show_closed = rw (shown_closed first) at (put_none old at)

  -- a row's first item, then the rest
  pub show_some : (x : Shape) (f : Shapes) (one two last : List ℕ) (first-at next after : ℕ)
      → Put old at (space first) first-at one → Put one first-at (first_shown x) next two → Put two next (spaced f) after last
      → Put old at (shown first (in_front x f)) after last
  show_some x f one two last first-at next after p q r = rw (shown_some first x f) at (p then q then r)

-- ---- a text put into a buffer

-- a position past the buffer
pub text_past : (buffer : List ℕ) (at : ℕ) (text : List ℕ) → length buffer < at → (shown_answer None, buffer) ≡ fitted_at 13 buffer at text
text_past buffer at text h = rw (lt-leb (at + length text) (length buffer) (omega arith))

-- the text was put into no bytes, which only found the position after it
pub text_over : (buffer : List ℕ) (at : ℕ) (text : List ℕ) (next : ℕ) → next ≡ at + length text → length buffer < next → (shown_answer None, buffer) ≡ fitted_at 13 buffer at text
text_over buffer at text next e h = rw (lt-leb (at + length text) (length buffer) (omega arith))

pub text_fits : (buffer : List ℕ) (at : ℕ) (text : List ℕ) (next after : ℕ) (last : List ℕ) → next ≡ at + length text → next ≤ length buffer → Put buffer at text after last
    → (shown_answer (Some after), last) ≡ fitted_at 13 buffer at text
text_fits buffer at text next after last e h put =
    rw (le-leb (at + length text) (length buffer) (omega arith), put.end, put_room put (omega (arith, put.end)))
