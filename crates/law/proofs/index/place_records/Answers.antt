-- What is known of the counts comes from the sections.
use Rattle.file.proofs.Parts.{counts_known}
use Rattle.law.proofs.index.place_records.Goals as goal

pub fill_tables-exact-requires : goal.fill_tables-exact-requires
fill_tables-exact-requires c =
    let known = counts_known _ _ c.requires.0 c.requires.1 in
    (c.requires.1, known.0, known.1, c.requires.2)

pub fill_header-requires : goal.fill_header-requires
fill_header-requires c = ((counts_known _ _ c.requires.0 c.requires.1).0, c.fill_tables-exact.ensures.1)
