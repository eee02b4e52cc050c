-- `bilzarko_findings`: one law for the refused call, one for the call that lists.
use Rattle.std.proofs.Common.{◌∙◌}
use Rattle.bilzarko.proofs.ExportLaws.{settled_word, findings_refused, findings_listed}
use Rattle.bilzarko.proofs.bilzarko_findings.Goals as goal

pub returns-in-Err : goal.returns-in-Err
returns-in-Err c = findings_refused c.args.answer.now c.findings.ensures c.in-Err.why c.in-Err.is c.from.ensures

pub returns-in-Ok : goal.returns-in-Ok
returns-in-Ok c = findings_listed c.args.answer.now c.findings.ensures c.in-Ok.listed c.in-Ok.is (c.from-settled.ensures ∙ settled_word c.in-Ok.listed.settled)
