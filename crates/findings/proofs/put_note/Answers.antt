use Rattle.std.proofs.Common.{◌≡◌, ◌∙◌}
use Rattle.findings.specs.Code.Events.{after_note}
use Rattle.findings.specs.Code.Tasks.{note_words}
use Rattle.findings.proofs.CollectLaws.{note_fits, note_left, note_ended, note_none, note_one}
use Rattle.findings.proofs.put_note.Goals as goal
use Rattle.findings.proofs.put_note.Goals.{then-n-out, else-n-out}

pub returns-in_default : goal.returns-in_default
returns-in_default c = rw c.in_default.is (note_ended c.args.task.now.room c.in_default.field-0 c.args.out.now (note_words c.args.task.now c.args.note.now))

pub returns-then-task-n : goal.returns-then-task-n
returns-then-task-n c =
    rw c.in-Ok.is (note_none c.args.task.now.room c.in-Ok.n c.args.out.now (note_words c.args.task.now c.args.note.now) c.if-task-n.true)

-- the buffer, where the ways meet, and what is counted
pub returns : goal.returns
returns c =
    let finding = note_words c.args.task.now c.args.note.now in
    let after : c.if-n-out.out ≡ after_note c.args.out.now c.in-Ok.n finding =
    elim c.if-n-out.branch [
      | then-n-out w ↦ note_fits _ _ _ _ w.if-n-out.true (w.out-is ∙ w.write_note.ensures)
      | else-n-out w ↦ note_left _ _ _ _ w.if-n-out.false w.out-is
    ] in
    rw c.in-Ok.is (note_one c.args.task.now.room c.in-Ok.n c.args.out.now c.if-n-out.out finding c.if-task-n.false after)
