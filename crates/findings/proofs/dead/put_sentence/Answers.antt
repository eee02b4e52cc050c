use Rattle.std.proofs.Common.{arith}
use Rattle.file.specs.Sections.{file_of}
use Rattle.law.proofs.IndexLaws.{sentences_limit}
use Rattle.findings.proofs.DeadLaws.{sentence_noted}
use Rattle.findings.proofs.dead.put_sentence.Goals as goal

pub overflow_cast-note : goal.overflow_cast-note
overflow_cast-note c = omega (arith, c.requires, sentences_limit _ _ c.args.way.now.formats.now.law.law.indexed)

pub returns : goal.returns
returns c =
    sentence_noted (file_of c.args.way.now.formats.now.law.law.bytes.now) c.args.way.now.task c.args.s c.args.a c.args.b c.field.result c.field-2.result c.args.tally c.args.out.now
    c.field.ensures c.field-2.ensures c.put_note.ensures
