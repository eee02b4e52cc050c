-- A file that the sections refuse, or the check of one that is cut into its sections.
use mathlib.Core.Path.{sym}
use Rattle.std.proofs.lemmas.Result.{err_from_is_err_and}
use Rattle.file.proofs.SectionLaws.{cut_whole, cut_refused}
use Rattle.law.proofs.Verdict.{sections_refused}
use Rattle.law.proofs.check_bytes.Goals as goal

pub returns-in_err-sections : goal.returns-in_err-sections
returns-in_err-sections c =
    let handed = err_from_is_err_and c.from_residual.result c.from_residual.ensures.1 in
    let refused = cut_refused c.args.law.now _ _ c.sections_of.ensures c.in_err-sections.was in
    rw (handed.1, handed.2) (sym (sections_refused c.args.law.now _ refused), tt)

pub check_sections-requires : goal.check_sections-requires
check_sections-requires c =
    let cut = cut_whole c.args.law.now _ _ c.sections_of.ensures c.in_ok-sections.was in
    (cut.file, cut.counts, c.requires)
