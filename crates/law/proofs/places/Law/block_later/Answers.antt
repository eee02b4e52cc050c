use Rattle.std.proofs.Common.{arith}
use Rattle.law.proofs.IndexLaws.{terms_limit}
use Rattle.law.proofs.places.Law.block_later.Goals as goal

pub block_first-requires : goal.block_first-requires
block_first-requires c = omega (arith, terms_limit _ _ c.args.self.now.indexed, c.requires)
