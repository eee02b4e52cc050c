use Rattle.std.proofs.Common.{arith, sym, ◌<◌, ◌∙◌}
use Rattle.file.specs.Sections.{file_of}
use Rattle.law.specs.Places.{sentences_of}
use Rattle.law.proofs.PlaceLaws.{function_inside}
use Rattle.law.proofs.IndexLaws as laws
use Rattle.law.proofs.DepthSteps as steps
use Rattle.law.proofs.places.Law.depth_allowed.Goals as goal

pub loop-f-init : goal.loop-f-init
loop-f-init c = steps.functions_start_lem (file_of c.args.self.now.bytes.now)

pub first_sentence-first-requires : goal.first_sentence-first-requires
first_sentence-first-requires c =
    let indexed = c.args.self.now.indexed in
    omega (arith, laws.functions_limit _ _ indexed, c.functions-f-end.ensures, indexed.words.functions, c.loop-f-test.true)

pub first_sentence-requires : goal.first_sentence-requires
first_sentence-requires c =
    let indexed = c.args.self.now.indexed in
    omega (arith, laws.functions_limit _ _ indexed, c.functions-f-end.ensures, indexed.words.functions, c.loop-f-test.true)

pub overflow_sub-number : goal.overflow_sub-number
overflow_sub-number c =
    let indexed = c.args.self.now.indexed in
    let is_function : c.loop-f.f < (file_of c.args.self.now.bytes.now).functions.count = omega (arith, c.functions-f-end.ensures, indexed.words.functions, c.loop-f-test.true) in
    omega (
      arith,
      c.first_sentence-first.ensures,
      indexed.words.first_sentences c.loop-f.f (omega (arith, is_function)),
      c.first_sentence.ensures,
      laws.sentences_before _ _ indexed c.loop-f.f is_function,
    )

pub sentences_depth-requires : goal.sentences_depth-requires
sentences_depth-requires c =
    let indexed = c.args.self.now.indexed in
    let file = file_of c.args.self.now.bytes.now in
    let is_function : c.loop-f.f < file.functions.count = omega (arith, c.functions-f-end.ensures, indexed.words.functions, c.loop-f-test.true) in (
      omega (
        arith,
        function_inside file indexed.used c.loop-f.f is_function,
        c.first_sentence-first.ensures,
        indexed.words.first_sentences c.loop-f.f (omega (arith, is_function)),
        c.first_sentence.ensures,
        laws.sentences_before _ _ indexed c.loop-f.f is_function,
      ),
      omega arith,
    )

pub returns-then-not-sentences_depth : goal.returns-then-not-sentences_depth
returns-then-not-sentences_depth c =
    let indexed = c.args.self.now.indexed in
    let file = file_of c.args.self.now.bytes.now in
    let is_function : c.loop-f.f < file.functions.count = omega (arith, c.functions-f-end.ensures, indexed.words.functions, c.loop-f-test.true) in
    let first = c.first_sentence-first.ensures ∙ indexed.words.first_sentences c.loop-f.f (omega (arith, is_function)) in
    let next = c.first_sentence.ensures ∙ laws.sentences_before _ _ indexed c.loop-f.f is_function in
    let depth = c.sentences_depth.ensures ∙ steps.sentences_same file _ (sentences_of file c.loop-f.f) _ _ 0 (omega (arith, first, next)) first in
    let left = c.loop-f.invariant ∙ steps.functions_next file c.loop-f.f is_function in
    sym (rw (sym depth ∙ c.if-not-sentences_depth.true) at left)

pub loop-f-preserved : goal.loop-f-preserved
loop-f-preserved c =
    let indexed = c.args.self.now.indexed in
    let file = file_of c.args.self.now.bytes.now in
    let is_function : c.loop-f.f < file.functions.count = omega (arith, c.functions-f-end.ensures, indexed.words.functions, c.loop-f-test.true) in
    let first = c.first_sentence-first.ensures ∙ indexed.words.first_sentences c.loop-f.f (omega (arith, is_function)) in
    let next = c.first_sentence.ensures ∙ laws.sentences_before _ _ indexed c.loop-f.f is_function in
    let depth = c.sentences_depth.ensures ∙ steps.sentences_same file _ (sentences_of file c.loop-f.f) _ _ 0 (omega (arith, first, next)) first in
    let left = c.loop-f.invariant ∙ steps.functions_next file c.loop-f.f is_function in
    rw (sym depth ∙ c.if-not-sentences_depth.false) at left

pub returns : goal.returns
returns c =
    let indexed = c.args.self.now.indexed in
    let file = file_of c.args.self.now.bytes.now in
    sym (c.loop-f.invariant ∙ steps.functions_none file c.loop-f.f (omega (arith, c.functions-f-end.ensures, indexed.words.functions, c.loop-f-test.false)))
