-- What a result can come to in a run, whatever values its variables have: each variable a value of its kind, each call what `Res` says a call of its
-- folded name can come to, each block anything.
use Prim.Native.Nat.{ℕ}
use mathlib.Core.List.{List}
use Rattle.names.specs.Name.{folded}
use Rattle.law.specs.Tree as tree
use Rattle.law.specs.Tree.{Name, Kind, Mark, Run, Sentences}
use Rattle.law.specs.Expression.{Expression, nothing, symbol, brackets, ◌⊕◌}
use Rattle.law.specs.Symbol.{symbol_of, literal_of}
use Rattle.matching.specs.Match.{any_literal}
use Rattle.matching.specs.Fill.{OfKind}

pub data Fits (Res : List ℕ → Expression → Type 0) : Run → Expression → Type 0 where
  fits_empty : Fits Res tree.Run.empty nothing
  fits_symbol : {a : tree.Symbol} {r : Run} {w : Expression} → Fits Res r w → Fits Res (tree.Run.symbol a r) (symbol (literal_of (symbol_of a)) w)
  fits_variable : {k : Kind} {i : Name} {r : Run} (u : Expression) {w : Expression}
      → OfKind any_literal any_literal k u → Fits Res r w → Fits Res (tree.Run.variable k i r) (u ⊕ w)
  fits_bracket : {q r : Run} {c w : Expression} → Fits Res q c → Fits Res r w → Fits Res (tree.Run.bracket q r) (brackets c w)
  fits_call : {m : Mark} {f : Name} {q r : Run} (u : Expression) {w : Expression}
      → Res (folded f.spelled) u → Fits Res r w → Fits Res (tree.Run.call m f q r) (u ⊕ w)
  fits_block : {m : Mark} {q r : Run} {ss : Sentences} (u : Expression) {w : Expression} → Fits Res r w → Fits Res (tree.Run.block m q ss r) (u ⊕ w)
