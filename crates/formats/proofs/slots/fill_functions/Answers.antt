use Rattle.std.proofs.Common.{arith, ◌∙◌}
use lib.ListN.{length-set}
use Rattle.law.proofs.IndexLaws.{functions_limit}
use Rattle.formats.proofs.SlotLaws.{filled_next, kept_next}
use Rattle.formats.proofs.slots.fill_functions.Goals as goal

pub bounds-places-f : goal.bounds-places-f
bounds-places-f c = omega (arith, functions_limit _ _ c.args.allowed.now.law.indexed, c.args.allowed.now.law.indexed.words.functions)

pub loop-f-preserved : goal.loop-f-preserved
loop-f-preserved c =
    let words = c.args.allowed.now.law.indexed.words in (
      length-set c.loop-f.places _ _ ∙ c.loop-f.invariant.0,
      filled_next 0 c.loop-f.places c.loop-f.f _ _ c.loop-f.invariant.1 (omega (arith, functions_limit _ _ c.args.allowed.now.law.indexed, words.functions)) c.place.ensures,
      kept_next c.args.places.now c.loop-f.places c.loop-f.f _ _ c.loop-f.invariant.2 (omega (arith, words.functions)),
    )
