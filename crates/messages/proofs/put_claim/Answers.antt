-- By the lint: each text is what the finding with these words says (`dead_text`, `recognition_text`, `builtin_text`, `open_text`).
use Rattle.std.proofs.Common.{arith, refl, sym}
use Rattle.file.specs.Sections.{file_of}
use Rattle.law.proofs.Allowed.{accepted_readable}
use Rattle.law.specs.Reading.{function_name}
use Rattle.messages.proofs.NameLaws.{owner_short}
use Rattle.messages.proofs.WordLaws.{heard, heard_one, eight_words_lem, position_inside, dead_text, recognition_text, builtin_text, open_text, lint_known}
use Rattle.messages.proofs.put_claim.Goals as goal

pub word-a-requires : goal.word-a-requires
word-a-requires c = omega (arith, eight_words_lem c.requires.0)

pub word-b-requires : goal.word-b-requires
word-b-requires c = omega (arith, eight_words_lem c.requires.0)

pub word-position-requires : goal.word-position-requires
word-position-requires c = omega (arith, eight_words_lem c.requires.0)

pub word-subject-requires : goal.word-subject-requires
word-subject-requires c = omega (arith, eight_words_lem c.requires.0)

pub bounds-words-0 : goal.bounds-words-0
bounds-words-0 c = omega (arith, eight_words_lem c.requires.0)

pub put_dead_sentence-requires : goal.put_dead_sentence-requires
put_dead_sentence-requires c =
    let h = heard_one c.requires.0 (accepted_readable c.args.formats.now.law.law.bytes.now c.args.formats.now.law.accepted) refl c.word-a.ensures.0 c.word-b.ensures.0 c.word-position.ensures.0 c.word-subject.ensures.0 in
    (position_inside h, c.requires.1)

pub put_recognition-requires : goal.put_recognition-requires
put_recognition-requires c =
    let h = heard_one c.requires.0 (accepted_readable c.args.formats.now.law.law.bytes.now c.args.formats.now.law.accepted) refl c.word-a.ensures.0 c.word-b.ensures.0 c.word-position.ensures.0 c.word-subject.ensures.0 in
    let here = recognition_text h (sym (rw c.in-Ok-Recognition.field-0-is at c.in-Ok-Recognition.ensures)) in
    (here.0, here.1, c.requires.1)

pub put_builtin-requires : goal.put_builtin-requires
put_builtin-requires c =
    let h = heard_one c.requires.0 (accepted_readable c.args.formats.now.law.law.bytes.now c.args.formats.now.law.accepted) refl c.word-a.ensures.0 c.word-b.ensures.0 c.word-position.ensures.0 c.word-subject.ensures.0 in
    ((builtin_text h (sym (rw c.in-Ok-Builtin.field-0-is at c.in-Ok-Builtin.ensures))).0, c.requires.1)

pub function_name-requires : goal.function_name-requires
function_name-requires c = (
  position_inside (heard_one c.requires.0 (accepted_readable c.args.formats.now.law.law.bytes.now c.args.formats.now.law.accepted) refl c.word-a.ensures.0 c.word-b.ensures.0 c.word-position.ensures.0 c.word-subject.ensures.0),
  c.args.formats.now.law.accepted.fields,
)

pub put_open-requires : goal.put_open-requires
put_open-requires c = omega (arith, c.requires.1, owner_short c.args.formats.now.law.law.indexed c.word-position.result c.function_name.ensures)

pub unreachable-requires : goal.unreachable-requires
unreachable-requires c =
    let h = heard_one c.requires.0 (accepted_readable c.args.formats.now.law.law.bytes.now c.args.formats.now.law.accepted) refl c.word-a.ensures.0 c.word-b.ensures.0 c.word-position.ensures.0 c.word-subject.ensures.0 in
    lint_known h c.in-Err.ensures.1

pub returns-in-Ok-Dead : goal.returns-in-Ok-Dead
returns-in-Ok-Dead c = λ f severity m e.
    let h = heard c.requires.0 (accepted_readable c.args.formats.now.law.law.bytes.now c.args.formats.now.law.accepted) refl c.word-a.ensures.0 c.word-b.ensures.0 c.word-position.ensures.0 c.word-subject.ensures.0 f severity m e in
    rw (dead_text h (sym (rw c.in-Ok-Dead.field-0-is at c.in-Ok-Dead.ensures))) c.put_dead_sentence.ensures

pub returns-in-Ok-Recognition : goal.returns-in-Ok-Recognition
returns-in-Ok-Recognition c = λ f severity m e.
    let h = heard c.requires.0 (accepted_readable c.args.formats.now.law.law.bytes.now c.args.formats.now.law.accepted) refl c.word-a.ensures.0 c.word-b.ensures.0 c.word-position.ensures.0 c.word-subject.ensures.0 f severity m e in
    rw (recognition_text h (sym (rw c.in-Ok-Recognition.field-0-is at c.in-Ok-Recognition.ensures))).2 (c.put_recognition.ensures f.owner)

pub returns-in-Ok-Builtin : goal.returns-in-Ok-Builtin
returns-in-Ok-Builtin c = λ f severity m e.
    let h = heard c.requires.0 (accepted_readable c.args.formats.now.law.law.bytes.now c.args.formats.now.law.accepted) refl c.word-a.ensures.0 c.word-b.ensures.0 c.word-position.ensures.0 c.word-subject.ensures.0 f severity m e in
    let (here, (why, number, is)) = builtin_text h (sym (rw c.in-Ok-Builtin.field-0-is at c.in-Ok-Builtin.ensures)) in
    rw is (c.put_builtin.ensures f.owner why number)

pub returns-in-Ok-Open : goal.returns-in-Ok-Open
returns-in-Ok-Open c = λ f severity m e.
    let h = heard c.requires.0 (accepted_readable c.args.formats.now.law.law.bytes.now c.args.formats.now.law.accepted) refl c.word-a.ensures.0 c.word-b.ensures.0 c.word-position.ensures.0 c.word-subject.ensures.0 f severity m e in
    rw (open_text h (sym (rw c.in-Ok-Open.field-0-is at c.in-Ok-Open.ensures)))
    (c.put_open.ensures (function_name (file_of c.args.formats.now.law.law.bytes.now) c.word-position.result) (sym c.function_name.ensures))
