-- So many first bytes of the piece were put.
use Rattle.std.proofs.Common.{◌+◌, take}
use Rattle.buffers.specs.Code.Put.{Put}
use Rattle.buffers.proofs.put.Given as goal

abbrev pub invariant-loop-i : goal.invariant-loop-i
invariant-loop-i l = Put l.fn.out l.at (take l.i l.piece) (l.at + l.i) l.out
