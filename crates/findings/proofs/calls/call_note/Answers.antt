-- The words of the record are those of the file.
use Rattle.std.proofs.Common.{arith}
use Rattle.file.specs.Sections.{file_of}
use Rattle.law.proofs.Allowed.{accepted_readable}
use Rattle.law.proofs.IndexLaws.{terms_limit}
use Rattle.findings.proofs.CallLaws.{record_length, note_is}
use Rattle.findings.proofs.calls.call_note.Goals as goal

pub word_at-requires : goal.word_at-requires
word_at-requires c =
    omega (arith, record_length (file_of c.args.accepted.now.law.bytes.now) (accepted_readable _ c.args.accepted.now.accepted).whole c.args.t c.requires c.records-record.ensures)

pub word_at-requires-2 : goal.word_at-requires-2
word_at-requires-2 c =
    omega (arith, record_length (file_of c.args.accepted.now.law.bytes.now) (accepted_readable _ c.args.accepted.now.accepted).whole c.args.t c.requires c.records-record.ensures)

pub overflow_cast-result : goal.overflow_cast-result
overflow_cast-result c = omega (arith, c.requires, terms_limit _ _ c.args.accepted.now.law.indexed)

pub returns : goal.returns
returns c =
    note_is (file_of c.args.accepted.now.law.bytes.now) (accepted_readable _ c.args.accepted.now.accepted).whole c.args.t c.requires c.records-record.ensures
    c.args.a c.word_at.ensures c.word_at-2.ensures
