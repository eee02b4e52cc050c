use Rattle.std.proofs.Common.{◌-◌, arith, sym, ◌∙◌}
use Rattle.file.specs.Sections.{file_of}
use Rattle.law.specs.Reading.{tree_of}
use Rattle.lints.specs.Code.Records.{formats_in}
use Rattle.findings.specs.Code.Events.{sink_of}
use Rattle.findings.proofs.NoneMetLaws.{nothing_inside}
use Rattle.findings.proofs.Prepared.{prepared}
use Rattle.findings.proofs.WalkSteps as steps
use Rattle.findings.proofs.walk.lint_function.Goals as goal

pub first_sentence-first-requires : goal.first_sentence-first-requires
first_sentence-first-requires c = omega (arith, steps.function_small (prepared c.args.way.now) c.args.f c.requires)

pub overflow_add-f : goal.overflow_add-f
overflow_add-f c = omega (arith, steps.function_small (prepared c.args.way.now) c.args.f c.requires)

pub first_sentence-requires : goal.first_sentence-requires
first_sentence-requires c = omega (arith, steps.function_small (prepared c.args.way.now) c.args.f c.requires)

pub overflow_sub-count : goal.overflow_sub-count
overflow_sub-count c =
    omega (arith, steps.sentences_next_reads (prepared c.args.way.now) _ c.requires _ _ c.first_sentence-first.ensures c.first_sentence.ensures)

pub note_open-requires : goal.note_open-requires
note_open-requires c = steps.sentences_inside (prepared c.args.way.now) _ c.requires _ _ c.first_sentence-first.ensures c.first_sentence.ensures

pub returns-then-eq : goal.returns-then-eq
returns-then-eq c =
    let file = file_of c.args.way.now.formats.now.law.law.bytes.now in
    let formats = formats_in file c.args.way.now.task.limit c.args.way.now.formats.now.store.now in
    steps.function_open file formats c.args.way.now.task c.args.f (c.first_sentence.result - c.first_sentence-first.result) c.first_sentence-first.result
    (steps.sentences_count (prepared c.args.way.now) _ c.requires _ _ c.first_sentence-first.ensures c.first_sentence.ensures)
    (steps.sentences_first_reads (prepared c.args.way.now) _ c.requires _ _ c.first_sentence-first.ensures c.first_sentence.ensures)
    (sink_of c.args.tally c.args.out.now) (sink_of c.note_open.result c.note_open.new.out) (steps.is_open_lint _ c.eq.ensures c.if-eq.true) c.note_open.ensures

pub note_block-own-requires : goal.note_block-own-requires
note_block-own-requires c = steps.sentences_inside (prepared c.args.way.now) _ c.requires _ _ c.first_sentence-first.ensures c.first_sentence.ensures

pub returns-then-none_inside : goal.returns-then-none_inside
returns-then-none_inside c =
    let file = file_of c.args.way.now.formats.now.law.law.bytes.now in
    let formats = formats_in file c.args.way.now.task.limit c.args.way.now.formats.now.store.now in
    let asked = (prepared c.args.way.now).asked in
    let counted = steps.sentences_count (prepared c.args.way.now) _ c.requires _ _ c.first_sentence-first.ensures c.first_sentence.ensures in
    let read = steps.sentences_first_reads (prepared c.args.way.now) _ c.requires _ _ c.first_sentence-first.ensures c.first_sentence.ensures in
    let count = c.first_sentence.result - c.first_sentence-first.result in
    let first = c.first_sentence-first.result in
    let noted = sink_of c.note_block-own.result c.note_block-own.new.out in
    let inside = steps.sentences_inside (prepared c.args.way.now) _ c.requires _ _ c.first_sentence-first.ensures c.first_sentence.ensures in
    let none = nothing_inside c.args.way.now.formats.now.law.law.bytes.now c.args.way.now.formats.now.law.law.index.now c.args.way.now.formats.now.slots.now (tree_of file) formats c.args.way.now.task asked.indexed
    asked.readable asked.places.marked (sym c.none_inside.ensures ∙ c.if-none_inside.true) c.args.f count first c.requires counted read inside noted in
    steps.function_steps file formats c.args.way.now.task c.args.f count first counted read (sink_of c.args.tally c.args.out.now) noted noted
    (steps.not_open_lint _ c.eq.ensures c.if-eq.false) c.note_block-own.ensures none

pub walk_sentences-requires : goal.walk_sentences-requires
walk_sentences-requires c = steps.sentences_inside (prepared c.args.way.now) _ c.requires _ _ c.first_sentence-first.ensures c.first_sentence.ensures

pub returns : goal.returns
returns c =
    let file = file_of c.args.way.now.formats.now.law.law.bytes.now in
    let formats = formats_in file c.args.way.now.task.limit c.args.way.now.formats.now.store.now in
    steps.function_steps file formats c.args.way.now.task c.args.f (c.first_sentence.result - c.first_sentence-first.result) c.first_sentence-first.result
    (steps.sentences_count (prepared c.args.way.now) _ c.requires _ _ c.first_sentence-first.ensures c.first_sentence.ensures)
    (steps.sentences_first_reads (prepared c.args.way.now) _ c.requires _ _ c.first_sentence-first.ensures c.first_sentence.ensures)
    (sink_of c.args.tally c.args.out.now) (sink_of c.note_block-own.result c.note_block-own.new.out) (sink_of c.walk_sentences.result c.walk_sentences.new.out)
    (steps.not_open_lint _ c.eq.ensures c.if-eq.false) c.note_block-own.ensures c.walk_sentences.ensures
