use Rattle.std.proofs.Common.{refl}
use Rattle.formats.proofs.SlotLaws.{slots_start}
use Rattle.formats.proofs.slots.slots_of.Goals as goal

pub fill_calls-requires : goal.fill_calls-requires
fill_calls-requires c = slots_start _ _ c.fill_functions.ensures.places c.fill_last-names.ensures.names refl c.fill_functions.ensures.kept refl
