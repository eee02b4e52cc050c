use Rattle.std.proofs.Common.{refl}
use Rattle.matching.proofs.BoundLaws as laws
use Rattle.matching.proofs.Bindings.none.Goals as goal

pub returns : goal.returns
returns c = laws.none_values refl refl
