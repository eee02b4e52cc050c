-- The part of the buffer that is written out lies within it.
use Rattle.std.proofs.Common.{arith, length-take}
use Rattle.read_law.proofs.FitLaws.{written_fits}
use Rattle.read_law.proofs.write_law.Goals as goal

pub slice_bounds-write_all-end : goal.slice_bounds-write_all-end
slice_bounds-write_all-end g c = omega (arith, written_fits _ _ _ _ _ c.in-Ok.is c.read.ensures)

pub slice_bounds-write_all-end-in-Ok : goal.slice_bounds-write_all-end-in-Ok
slice_bounds-write_all-end-in-Ok g c =
    simp length-take (omega (arith, written_fits _ _ _ _ _ c.in-Ok.is c.read.ensures))
