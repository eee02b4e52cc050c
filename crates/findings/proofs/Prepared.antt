-- What is known of a way through a law.
use Prim.Native.Nat.{ℕ}
use mathlib.Core.Path.{◌≡◌}
use Rattle.file.specs.Sections.{file_of}
use Rattle.law.specs.Reading.{tree_of}
use Rattle.lints.specs.Code.Records.{Prepared, formats_in, call_at}
use Rattle.lints.specs.Code.Verdicts.{Verdict, verdict_of}
use Rattle.lints.proofs.Holdings as held
use Rattle.findings.specs.declared.way.Way.{Way}

-- its law is accepted and indexed, and the store holds formats of at most as many shapes as the task says
pub prepared : (w : Way) → Prepared w.formats.now.law.law.bytes.now w.formats.now.law.law.index.now w.formats.now.slots.now w.formats.now.store.now w.task.limit
prepared w = rw (← w.limit) (held.prepared w.formats.now)

-- what is said of a call by the limit of its formats is what is said by the task's
pub said : (w : Way) (t : ℕ) {verdict : Verdict}
    → verdict ≡ verdict_of w.formats.now.limit (tree_of (file_of w.formats.now.law.law.bytes.now))
    (formats_in (file_of w.formats.now.law.law.bytes.now) w.formats.now.limit w.formats.now.store.now) (call_at (file_of w.formats.now.law.law.bytes.now) t)
    → verdict ≡ verdict_of w.task.limit (tree_of (file_of w.formats.now.law.law.bytes.now))
    (formats_in (file_of w.formats.now.law.law.bytes.now) w.task.limit w.formats.now.store.now) (call_at (file_of w.formats.now.law.law.bytes.now) t)
said w t e = rw (← w.limit) e
