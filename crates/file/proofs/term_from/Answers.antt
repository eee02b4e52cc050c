-- One arm for each kind; past the last kind the list of terms has no more.
use mathlib.Core.Path.{sym}
use Prim.Native.Nat.{◌≤◌}
use native.Mathlib.Omega.{arith}
use Rattle.file.specs.Head.{term_from}
use Rattle.file.proofs.Words.{term_past}
use Rattle.file.proofs.term_from.Goals as goal

pub returns-in-0 : goal.returns-in-0
unfolding term_from
returns-in-0 c = rw c.in-0.is

pub returns-in-1 : goal.returns-in-1
unfolding term_from
returns-in-1 c = rw c.in-1.is

pub returns-in-2 : goal.returns-in-2
unfolding term_from
returns-in-2 c = rw c.in-2.is

pub returns-in-3 : goal.returns-in-3
unfolding term_from
returns-in-3 c = rw c.in-3.is

pub returns-in-4 : goal.returns-in-4
unfolding term_from
returns-in-4 c = rw c.in-4.is

pub returns-in-5 : goal.returns-in-5
unfolding term_from
returns-in-5 c = rw c.in-5.is

pub returns-in-6 : goal.returns-in-6
unfolding term_from
returns-in-6 c = rw c.in-6.is

pub returns-in-7 : goal.returns-in-7
unfolding term_from
returns-in-7 c = rw c.in-7.is

pub returns-in_default : goal.returns-in_default
unfolding term_from
returns-in_default c = let eight : 8 ≤ c.args.kind = omega arith in sym (term_past c.args.kind _ _ eight)
