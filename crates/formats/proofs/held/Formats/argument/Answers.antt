use Rattle.std.proofs.Common.{◌*◌, arith}
use Rattle.formats.proofs.StateLaws.{part_inside}
use Rattle.formats.proofs.held.Formats.argument.Goals as goal

pub slice_bounds-result-end : goal.slice_bounds-result-end
slice_bounds-result-end c = omega (arith, part_inside c.args.self.now.holding (2 * c.args.place) (omega arith))
