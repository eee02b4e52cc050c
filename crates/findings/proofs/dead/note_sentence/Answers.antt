use Rattle.std.proofs.Common.{arith, sym, ◌∙◌}
use Rattle.file.specs.Sections.{file_of}
use Rattle.law.proofs.IndexLaws.{sentences_limit}
use Rattle.findings.proofs.DeadLaws.{sentence_ended, not_dead, is_dead}
use Rattle.findings.proofs.dead.note_sentence.Goals as goal

pub returns-then-is_err : goal.returns-then-is_err
returns-then-is_err c =
    sentence_ended (file_of c.args.way.now.formats.now.law.law.bytes.now) c.args.way.now.task c.args.first c.args.out.now c.args.later c.args.tally (sym c.is_err.ensures.value ∙ c.if-is_err.true)

pub overflow_add-a : goal.overflow_add-a
overflow_add-a c = omega (arith, c.requires, sentences_limit _ _ c.args.way.now.formats.now.law.law.indexed)

pub overflow_cast-a : goal.overflow_cast-a
overflow_cast-a c = omega (arith, c.requires, sentences_limit _ _ c.args.way.now.formats.now.law.law.indexed)

pub overflow_cast-b : goal.overflow_cast-b
overflow_cast-b c =
    omega (arith, c.in-Some.ensures.1, c.requires, sentences_limit _ _ c.args.way.now.formats.now.law.law.indexed)

pub overflow_add-first : goal.overflow_add-first
overflow_add-first c = omega (arith, c.requires, sentences_limit _ _ c.args.way.now.formats.now.law.law.indexed)

pub returns-in-None : goal.returns-in-None
returns-in-None c = not_dead (file_of c.args.way.now.formats.now.law.law.bytes.now) c.args.way.now.task c.args.first c.args.out.now c.args.tally c.args.later c.in-None.ensures.0

pub returns-in-Some : goal.returns-in-Some
returns-in-Some c = is_dead (file_of c.args.way.now.formats.now.law.law.bytes.now) c.args.way.now.task c.args.first c.args.out.now c.args.tally c.args.later c.in-Some.ensures.0 c.put_sentence.ensures
