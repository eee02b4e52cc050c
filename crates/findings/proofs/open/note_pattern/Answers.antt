use Rattle.std.proofs.Common.{arith}
use Rattle.file.specs.Sections.{file_of}
use Rattle.law.proofs.Allowed.{accepted_readable}
use Rattle.findings.proofs.OpenLaws.{occurrences_few, open_few, open_many}
use Rattle.findings.proofs.open.note_pattern.Goals as goal

pub returns-then-occurrences-lt2 : goal.returns-then-occurrences-lt2
returns-then-occurrences-lt2 c =
    open_few (file_of c.args.way.now.formats.now.law.law.bytes.now) (accepted_readable _ c.args.way.now.formats.now.law.accepted) c.args.way.now.task c.args.s c.e_occurrences-occurrences.result _ c.args.out.now
    c.args.tally c.requires c.pattern.ensures c.e_occurrences-occurrences.ensures.0 c.if-occurrences-lt2.true

pub overflow_cast-a : goal.overflow_cast-a
overflow_cast-a c =
    omega (
      arith,
      occurrences_few _ _ c.args.way.now.formats.now.law.law.indexed (accepted_readable _ c.args.way.now.formats.now.law.accepted) c.args.s c.e_occurrences-occurrences.result _
          c.pattern.ensures c.e_occurrences-occurrences.ensures.1,
    )

pub returns : goal.returns
returns c =
    open_many (file_of c.args.way.now.formats.now.law.law.bytes.now) (accepted_readable _ c.args.way.now.formats.now.law.accepted) c.args.way.now.task c.args.s c.e_occurrences-occurrences.result _ c.args.out.now
    c.args.tally c.requires c.pattern.ensures c.e_occurrences-occurrences.ensures.0 _ c.if-occurrences-lt2.false c.put_sentence.ensures
