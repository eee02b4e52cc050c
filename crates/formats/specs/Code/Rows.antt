-- What the code that writes the shapes of a run of term records promises.
use Rattle.std.specs.Prelude.{ℕ, ◌+◌, ◌*◌, ◌-◌, ◌≤◌, ◌<◌, Bool, true, false, cond, List, ◌⊎◌, ◌≡◌, length, take, drop, get_or, ltb, Option, Some, None, IfSome}
use Rattle.std.proofs.Math.Option as mathlib
use Rattle.std.proofs.Math.Option.{none, some}
use Rattle.file.specs.Sections.{File, file_of}
use Rattle.file.specs.Forest.{contents}
use Rattle.file.specs.Head.{term_at}
use Rattle.file.specs.declared.Term.{Term}
use Rattle.file.specs.declared.Term.TheVariants.{Symbol as Symbolic, SVariable, TVariable, EVariable, Bracket, Call, Block}
use Rattle.law.specs.Runs.{end_of}
use Rattle.law.specs.Reading.{run_of, own}
use Rattle.law.specs.Code.Index.{Readable, PartAt}
use Rattle.shapes.specs.Leaf as leaves
use Rattle.shapes.specs.Leaf.{any_symbol, unknown}
use Rattle.shapes.specs.Format.{Shapes, end, item, group, Format, never, of, size, is_open}
use Rattle.shapes.specs.Words.{shape_words, read_format}
use Rattle.shapes.specs.Code.Words.{FormatIn}
use Rattle.buffers.specs.Written.{written}
use Rattle.formats.specs.FormatOf.{Results, result_shapes}
use Rattle.formats.specs.Code.Slots.{call_folded, IsCall}
use Rattle.shapes.specs.declared.RowEnd.{RowEnd}
use Rattle.shapes.specs.declared.RowEnd.TheVariants.{Closed, Open}
use Rattle.shapes.specs.Code.Rows.{row_next}
use Rattle.shapes.specs.declared.leaf.Leaf.{Leaf}
use Rattle.shapes.specs.Code.Leaves.{leaf_meant, symbol_leaf}
use Rattle.formats.specs.declared.slots.Slots.{Slots}
use Rattle.formats.specs.declared.rows.Known.{Known}

-- the words of the format number k of a store
abbrev pub format_at : ℕ → List ℕ → ℕ → List ℕ
format_at limit store k = take (limit + 1) (drop (k * (limit + 1)) store)

-- the results that the store holds for the first `count` names: what the name of the call at each term record is known to give
pub record Knows (file : File) (slots : Slots) (store : List ℕ) (limit count : ℕ) (results : Results) : Type 0 where
  pub known : (t : ℕ) → t < file.terms.count → IsCall file t → get_or slots.calls t 0 < count
      → results (call_folded file t) ≡ some (read_format (format_at limit store (2 * get_or slots.calls t 0 + 1)))
  pub unknown : (t : ℕ) → t < file.terms.count → IsCall file t → count ≤ get_or slots.calls t 0
      → results (call_folded file t) ≡ none

-- the same of what a row reads
abbrev pub KnowsAll : Known → Results → Type 0
KnowsAll known results =
    Knows (file_of known.placed.now.law.bytes.now) known.placed.now.slots.now known.store.now known.placed.now.limit known.count results

-- words that are as they were before a position and from another on
abbrev pub KeptOutside : ℕ → ℕ → List ℕ → List ℕ → Type 0
KeptOutside from most before after = (j : ℕ) → (j < from) ⊎ (most ≤ j) → get_or after j 0 ≡ get_or before j 0

-- a row that was written: it passes the room that there is, or it ends before a position, closed or open
abbrev pub Row : Type 0
Row = Option RowEnd

abbrev pub over : Row
over = None

abbrev pub ends : ℕ → Bool → Row
ends n o = Some (cond o (Open n) (Closed n))

-- shapes written from a position on, where they end at most at a position; else the row is over
pub record RowIs (shapes : Shapes) (before after : List ℕ) (at most : ℕ) (row : Row) : Type 0 where
  pub fits : at + size shapes ≤ most → (row ≡ ends (at + size shapes) (is_open shapes)) × (after ≡ written before at (shape_words shapes))
  pub over : most < at + size shapes → row ≡ over
  pub kept : length after ≡ length before
  pub outside : KeptOutside at most before after

-- where a row may end, whatever the results are
abbrev pub Between : ℕ → ℕ → Row → Type 0
Between from most row = IfSome row (λ e. (from ≤ row_next e) × (row_next e ≤ most))

-- ---- the store that a row reads

-- the store has a format as the result of each of the first `count` names
pub record Stored (store : List ℕ) (limit count : ℕ) : Type 0 where
  pub limited : limit ≤ 64
  pub results : (p : ℕ) → p < count → FormatIn limit (format_at limit store (2 * p + 1))

-- the result that the store has at a place, none from `count` on
abbrev pub stored_at : List ℕ → ℕ → ℕ → ℕ → mathlib.Option Format
stored_at store limit count place = cond (ltb place count) (some (read_format (format_at limit store (2 * place + 1)))) none

-- ---- the shapes of a part of the term records, its first record's before the rest

-- the shapes of a call of which this is known
abbrev pub callee_shapes : mathlib.Option Format → Shapes
callee_shapes none = end true
callee_shapes (some never) = end false
callee_shapes (some (of f)) = f

-- the shapes that a term adds, by those inside it and by what is known of it as a call
abbrev pub term_shapes : Term → Shapes → mathlib.Option Format → Shapes
term_shapes (Symbolic x) inside known = item (symbol_leaf x) (end false)
term_shapes (SVariable a b) inside known = item any_symbol (end false)
term_shapes (TVariable a b) inside known = item unknown (end false)
term_shapes (EVariable a b) inside known = end true
term_shapes Bracket inside known = group inside (end false)
term_shapes (Call a b) inside known = callee_shapes known
term_shapes (Block n) inside known = end true

-- the shape that a term adds alone; none for any other term
abbrev pub term_leaf : Term → Option leaves.Leaf
term_leaf (Symbolic x) = Some (symbol_leaf x)
term_leaf (SVariable a b) = Some any_symbol
term_leaf (TVariable a b) = Some unknown
term_leaf (EVariable a b) = None
term_leaf Bracket = None
term_leaf (Call a b) = None
term_leaf (Block n) = None

-- the shape that a term adds alone, where it is one
abbrev pub LeafTerm : Term → Option Leaf → Type 0
LeafTerm term leaf = IfSome leaf (λ b. (inside : Shapes) (known : mathlib.Option Format) → term_shapes term inside known ≡ item (leaf_meant b) (end false))

module _ (file : File) (results : Results) where
  -- the shapes of a part, the first record of which is number `at`
  abbrev pub part_shapes : ℕ → List ℕ → Shapes
  part_shapes at part = result_shapes results (run_of file (own file) at part)

  -- those of its first record alone
  abbrev pub first_shapes : ℕ → List ℕ → Shapes
  first_shapes at part =
      term_shapes (term_at part 0) (part_shapes (at + 1) (contents 24 end_of part)) (results (call_folded file at))

-- what the code asks that writes the shapes of a part into a buffer, from a position on and at most up to another
pub record RowAsked (file : File) (at : ℕ) (part store : List ℕ) (limit count : ℕ) (out : List ℕ) (from most : ℕ) : Type 0 where
  pub readable : Readable file
  pub terms : file.terms.count ≤ 512
  pub here : PartAt file at part
  pub stored : Stored store limit count
  pub begins : from ≤ most
  pub room : most ≤ length out
  pub small : most < 65536

-- the records of a part after its first n
abbrev pub left_of : ℕ → List ℕ → List ℕ
left_of n part = take (length part - 24 * n) (drop (24 * n) part)

-- what is asked for the records after the first n, once these are written, and that their row is then the row of the whole part
pub record Onward (file : File) (at : ℕ) (part store : List ℕ) (limit count : ℕ) (before middle : List ℕ) (from most n : ℕ) : Type 0 where
  pub asked : RowAsked file (at + n) (left_of n part) store limit count middle (from + n) most
  pub goes : (results : Results) (after : List ℕ) (row : Row) → RowIs (part_shapes file results (at + n) (left_of n part)) middle after (from + n) most row
      → RowIs (part_shapes file results at part) before after from most row

-- the first n records of a part are written, a word each, wherever the part stands
abbrev pub LeavesAre : List ℕ → List ℕ → List ℕ → ℕ → ℕ → ℕ → Type 0
LeavesAre part before middle from most n =
    (file : File) (at : ℕ) (store : List ℕ) (limit count : ℕ) → RowAsked file at part store limit count before from most
    → Onward file at part store limit count before middle from most n
