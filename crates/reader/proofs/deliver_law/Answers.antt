use Rattle.std.proofs.Common.{Ok, Err, refl}
use Rattle.reader.specs.declared.Unread.TheVariants.{Law}
use Rattle.reader.proofs.ReadLaws.{passed_on, law_refused, law_accepted}
use Rattle.reader.proofs.deliver_law.Goals as goal

pub returns-in_err-check_law : goal.returns-in_err-check_law
returns-in_err-check_law c =
    let why = c.in_err-check_law.field-0.0 in
    rw (passed_on (Law why) c.from_residual.result c.from_residual.ensures.1) (law_refused _ _ why (Err why) refl c.in_err-check_law.ensures)

pub returns : goal.returns
returns c = law_accepted _ _ _ (Ok tt) refl c.in_ok-check_law.ensures c.deliver.ensures
