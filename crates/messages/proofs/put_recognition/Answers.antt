-- By formats or by literals, as the word a says.
use borrow.Author.Tests.{eq-eqb, ne_eqb}
use Rattle.file.specs.Sections.{file_of}
use Rattle.lints.specs.Code.Records.{call_at}
use Rattle.messages.proofs.put_recognition.Goals as goal

pub returns-then-a-eq1 : goal.returns-then-a-eq1
returns-then-a-eq1 c = λ owner. rw (eq-eqb c.args.a 1 c.if-a-eq1.true) (c.put_apart.ensures owner)

pub returns-else-a-eq1 : goal.returns-else-a-eq1
returns-else-a-eq1 c =
    λ owner. rw (ne_eqb c.args.a 1 c.if-a-eq1.false)
    (c.put_by_literals.ensures owner (call_at (file_of c.args.formats.now.law.law.bytes.now) c.args.t).name c.call_name.ensures.0)
