-- The callee's accepted format is read where its name has its place in the store (`accepted_format`); the argument's format is made in the front of a
-- buffer (`passed_read`).
use Rattle.std.proofs.Common.{arith}
use Rattle.file.specs.Sections.{file_of}
use Rattle.lints.specs.Code.Records.{call_at}
use Rattle.lints.proofs.Holdings.{prepared}
use Rattle.messages.proofs.FormatLaws.{record_low, passed_read, accepted_format}
use Rattle.messages.proofs.put_apart.Goals as goal

pub overflow_add-t : goal.overflow_add-t
overflow_add-t c = omega (arith, record_low (prepared c.args.formats.now) c.requires.0)

pub bounds-formats-t : goal.bounds-formats-t
bounds-formats-t c = omega (arith, record_low (prepared c.args.formats.now) c.requires.0)

pub returns : goal.returns
returns c = λ owner.
    let p = prepared c.args.formats.now in
    rw (
      accepted_format p c.requires.0 c.from.ensures c.argument-accepted.ensures,
      passed_read p c.requires.0 c.argument_of-part.ensures c.row_format.ensures,
    ) at
    (c.put_by_formats.ensures owner (call_at (file_of c.args.formats.now.law.law.bytes.now) c.args.t).name c.call_name.ensures.0)
