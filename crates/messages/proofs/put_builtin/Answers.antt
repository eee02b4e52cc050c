-- The number tells why the call fails.
use Rattle.file.specs.Sections.{file_of}
use Rattle.lints.specs.Code.Records.{call_at}
use Rattle.messages.proofs.put_builtin.Goals as goal

pub returns : goal.returns
returns c =
    λ owner why e. rw (c.failure_by.ensures why e)
    (c.put_fails.ensures owner (call_at (file_of c.args.accepted.now.law.bytes.now) c.args.t).name c.call_name.ensures.0)
