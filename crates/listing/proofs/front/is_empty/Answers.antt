-- The counts are those of the file's sections.
use Rattle.listing.proofs.EmptyLaws.{by_sections}
use Rattle.listing.proofs.front.is_empty.Goals as goal

pub returns : goal.returns
returns c = by_sections c.args.law.now c.sections_of.result _ c.sections_of.ensures c.is_ok_and.ensures
