-- What the calls ask for, and one law of proofs/DepthSteps.antt for each return.
use borrow.Author.Tests.{eq-eqb}
use native.Mathlib.Nat.{le_of_lt}
use Rattle.std.proofs.Common.{arith, refl, sym, ap, ◌∙◌, ◌+◌}
use Rattle.file.specs.Sections.{file_of}
use Rattle.law.specs.Code.Terms.{sentences_in}
use Rattle.law.proofs.IndexLaws as laws
use Rattle.law.proofs.PartLaws as parts
use Rattle.law.proofs.DepthSteps as steps
use Rattle.law.proofs.depth.ReadableLaw.+depth.Goals as goal

pub conditions_depth-first_condition-first-requires : goal.conditions_depth-first_condition-first-requires
conditions_depth-first_condition-first-requires t c =
    omega (arith, laws.sentences_limit _ _ c.args.self.now.law.now.indexed, c.requires.0)

pub conditions_depth-overflow_add-s : goal.conditions_depth-overflow_add-s
conditions_depth-overflow_add-s t c =
    omega (arith, laws.sentences_limit _ _ c.args.self.now.law.now.indexed, c.requires.0)

pub conditions_depth-first_condition-requires : goal.conditions_depth-first_condition-requires
conditions_depth-first_condition-requires t c =
    omega (arith, laws.sentences_limit _ _ c.args.self.now.law.now.indexed, c.requires.0)

pub conditions_depth-overflow_sub-count : goal.conditions_depth-overflow_sub-count
conditions_depth-overflow_sub-count t c =
    let indexed = c.args.self.now.law.now.indexed in
    let first = c.first_condition-first.ensures ∙ indexed.words.first_conditions c.args.s (le_of_lt c.requires.0) in
    let next = c.first_condition.ensures ∙ laws.conditions_before_lem _ _ indexed c.args.s c.requires.0 in
    omega (arith, first, next)

pub conditions_depth-loop-i-init : goal.conditions_depth-loop-i-init
conditions_depth-loop-i-init t c =
    let indexed = c.args.self.now.law.now.indexed in
    let first = c.first_condition-first.ensures ∙ indexed.words.first_conditions c.args.s (le_of_lt c.requires.0) in
    let next = c.first_condition.ensures ∙ laws.conditions_before_lem _ _ indexed c.args.s c.requires.0 in (
      first,
      omega (arith, first, next),
      steps.conditions_same (file_of c.args.self.now.law.now.bytes.now) c.args.s _ _ _ _ c.args.depth (omega (arith, first, next)) (omega (arith, first)),
    )

pub conditions_depth-condition_result_at-at-requires : goal.conditions_depth-condition_result_at-at-requires
conditions_depth-condition_result_at-at-requires t c =
    let indexed = c.args.self.now.law.now.indexed in
    let loop = c.loop-i.invariant in
    let owned = rw (sym loop.0) at (laws.owns _ _ indexed c.args.s c.loop-i.i c.requires.0 (omega (arith, loop.1, c.loop-i-test.true))) in
    let inside = laws.owned _ _ indexed _ _ owned in
    (c.requires.0, inside)

pub conditions_depth-condition_result_size-requires : goal.conditions_depth-condition_result_size-requires
conditions_depth-condition_result_size-requires t c =
    let indexed = c.args.self.now.law.now.indexed in
    let loop = c.loop-i.invariant in
    let owned = rw (sym loop.0) at (laws.owns _ _ indexed c.args.s c.loop-i.i c.requires.0 (omega (arith, loop.1, c.loop-i-test.true))) in
    laws.owned _ _ indexed _ _ owned

pub conditions_depth-run_depth-requires : goal.conditions_depth-run_depth-requires
conditions_depth-run_depth-requires t c =
    let file = file_of c.args.self.now.law.now.bytes.now in
    let indexed = c.args.self.now.law.now.indexed in
    let loop = c.loop-i.invariant in
    let owned = rw (sym loop.0) at (laws.owns _ _ indexed c.args.s c.loop-i.i c.requires.0 (omega (arith, loop.1, c.loop-i-test.true))) in (
      omega (arith, c.decreases),
      (rw (c.condition_result_at-at.ensures, c.condition_result.ensures) (parts.condition_result_part_lem file c.args.self.now.readable c.args.s _ owned), c.requires.1),
    )

pub conditions_depth-returns-then-not-run_depth : goal.conditions_depth-returns-then-not-run_depth
conditions_depth-returns-then-not-run_depth t c =
    let file = file_of c.args.self.now.law.now.bytes.now in
    let loop = c.loop-i.invariant in
    let left = loop.2 ∙ steps.conditions_next file c.args.s _ c.first_condition-first.result c.loop-i.i c.args.depth c.loop-i-test.true in
    let result = rw (c.condition_result_at-at.ensures, c.condition_result.ensures) at c.run_depth.ensures in
    sym (rw (sym result ∙ c.if-not-run_depth.true) at left)

pub conditions_depth-overflow_add-next : goal.conditions_depth-overflow_add-next
conditions_depth-overflow_add-next t c =
    let indexed = c.args.self.now.law.now.indexed in
    let loop = c.loop-i.invariant in
    let owned = rw (sym loop.0) at (laws.owns _ _ indexed c.args.s c.loop-i.i c.requires.0 (omega (arith, loop.1, c.loop-i-test.true))) in
    omega (arith, laws.condition_result_fits _ _ indexed _ _ owned, laws.terms_limit _ _ indexed, c.condition_result_at-at.ensures, c.condition_result_size.ensures)

pub conditions_depth-run_depth-requires-in-loop-i : goal.conditions_depth-run_depth-requires-in-loop-i
conditions_depth-run_depth-requires-in-loop-i t c =
    let file = file_of c.args.self.now.law.now.bytes.now in
    let indexed = c.args.self.now.law.now.indexed in
    let loop = c.loop-i.invariant in
    let owned = rw (sym loop.0) at (laws.owns _ _ indexed c.args.s c.loop-i.i c.requires.0 (omega (arith, loop.1, c.loop-i-test.true))) in (
      omega (arith, c.decreases),
      (
        rw (c.condition_result_at-at.ensures, c.condition_result_size.ensures, c.condition_pattern.ensures)
            (parts.condition_pattern_part_lem file c.args.self.now.readable c.args.s _ owned),
        c.requires.1,
      ),
    )

pub conditions_depth-returns-then-not-run_depth-2 : goal.conditions_depth-returns-then-not-run_depth-2
conditions_depth-returns-then-not-run_depth-2 t c =
    let file = file_of c.args.self.now.law.now.bytes.now in
    let loop = c.loop-i.invariant in
    let left = loop.2 ∙ steps.conditions_next file c.args.s _ c.first_condition-first.result c.loop-i.i c.args.depth c.loop-i-test.true in
    let result = rw (c.condition_result_at-at.ensures, c.condition_result.ensures) at c.run_depth.ensures in
    let pattern = rw (c.condition_result_at-at.ensures, c.condition_result_size.ensures, c.condition_pattern.ensures) at c.run_depth-in-loop-i.ensures in
    sym (rw (sym result ∙ c.if-not-run_depth.false, sym pattern ∙ c.if-not-run_depth-2.true) at left)

pub conditions_depth-loop-i-preserved : goal.conditions_depth-loop-i-preserved
conditions_depth-loop-i-preserved t c =
    let file = file_of c.args.self.now.law.now.bytes.now in
    let loop = c.loop-i.invariant in
    let left = loop.2 ∙ steps.conditions_next file c.args.s _ c.first_condition-first.result c.loop-i.i c.args.depth c.loop-i-test.true in
    let result = rw (c.condition_result_at-at.ensures, c.condition_result.ensures) at c.run_depth.ensures in
    let pattern = rw (c.condition_result_at-at.ensures, c.condition_result_size.ensures, c.condition_pattern.ensures) at c.run_depth-in-loop-i.ensures in
    (loop.0, loop.1, rw (sym result ∙ c.if-not-run_depth.false, sym pattern ∙ c.if-not-run_depth-2.false) at left)

pub conditions_depth-returns : goal.conditions_depth-returns
conditions_depth-returns t c =
    let file = file_of c.args.self.now.law.now.bytes.now in
    let loop = c.loop-i.invariant in
    sym
    (loop.2
    ∙ steps.conditions_same file c.args.s _ 0 _ (c.first_condition-first.result + c.loop-i.i) c.args.depth (omega (arith, c.loop-i-test.false)) refl
    ∙ steps.conditions_none file c.args.s _ c.args.depth)

pub run_depth-returns-then-part-lt24 : goal.run_depth-returns-then-part-lt24
run_depth-returns-then-part-lt24 t c =
    let file = file_of c.args.self.now.law.now.bytes.now in
    sym (steps.run_none file c.args.at c.args.depth c.args.part.now c.if-part-lt24.true)

pub run_depth-returns-then-depth-gt32 : goal.run_depth-returns-then-depth-gt32
run_depth-returns-then-depth-gt32 t c =
    let file = file_of c.args.self.now.law.now.bytes.now in
    sym (steps.run_over file c.args.at c.args.depth c.args.part.now c.if-part-lt24.false (omega (arith, c.if-depth-gt32.true)))

pub run_depth-loop-k-init : goal.run_depth-loop-k-init
run_depth-loop-k-init t c =
    let file = file_of c.args.self.now.law.now.bytes.now in
    steps.left_whole file c.args.at c.args.depth c.args.part.now c.requires.0

pub run_depth-loop-k-preserved-then-word_at-lt6 : goal.run_depth-loop-k-preserved-then-word_at-lt6
run_depth-loop-k-preserved-then-word_at-lt6 t c =
    steps.left_leaf _ c.args.self.now.readable c.loop-k.invariant c.loop-k-test.true (omega (arith, c.if-depth-gt32.false)) c.word_at.ensures c.if-word_at-lt6.true

pub run_depth-overflow_add-at : goal.run_depth-overflow_add-at
run_depth-overflow_add-at t c =
    omega (arith, c.loop-k.invariant.part.inside, laws.terms_limit _ _ c.args.self.now.law.now.indexed)

pub run_depth-term_depth-requires : goal.run_depth-term_depth-requires
run_depth-term_depth-requires t c =
    let readable = c.args.self.now.readable in
    let some = steps.left_some _ readable c.loop-k.invariant c.loop-k-test.true in
    (omega (arith, c.decreases), (c.loop-k.invariant.part, some, omega (arith, c.if-depth-gt32.false)))

pub run_depth-returns-then-not-term_depth : goal.run_depth-returns-then-not-term_depth
run_depth-returns-then-not-term_depth t c =
    steps.left_over _ c.args.self.now.readable c.loop-k.invariant c.loop-k-test.true (sym c.term_depth.ensures ∙ c.if-not-term_depth.true)

pub run_depth-loop-k-preserved : goal.run_depth-loop-k-preserved
run_depth-loop-k-preserved t c =
    steps.left_after_lem _ c.args.self.now.readable c.loop-k.invariant c.loop-k-test.true c.word_at-else-word_at-lt6.ensures
    (sym c.term_depth.ensures ∙ c.if-not-term_depth.false)

pub run_depth-returns : goal.run_depth-returns
run_depth-returns t c =
    let file = file_of c.args.self.now.law.now.bytes.now in
    steps.left_none file c.args.self.now.readable c.loop-k.invariant c.loop-k-test.false

pub sentence_depth-run_depth-requires : goal.sentence_depth-run_depth-requires
sentence_depth-run_depth-requires t c =
    let file = file_of c.args.self.now.law.now.bytes.now in (
      omega (arith, c.decreases),
      (rw (c.pattern_at.ensures, c.pattern.ensures) (parts.pattern_part_lem file c.args.self.now.readable c.args.s c.requires.0), c.requires.1),
    )

pub sentence_depth-returns-then-not-run_depth : goal.sentence_depth-returns-then-not-run_depth
sentence_depth-returns-then-not-run_depth t c =
    let step = steps.sentence_step _ c.args.self.now.readable c.args.s c.args.depth c.requires.0 in
    let pattern = rw (c.pattern_at.ensures, c.pattern.ensures) at c.run_depth.ensures in
    sym (rw (sym pattern ∙ c.if-not-run_depth.true) at step)

pub sentence_depth-conditions_depth-requires : goal.sentence_depth-conditions_depth-requires
sentence_depth-conditions_depth-requires t c =
    (omega (arith, c.decreases), c.requires)

pub sentence_depth-returns-then-not-conditions_depth : goal.sentence_depth-returns-then-not-conditions_depth
sentence_depth-returns-then-not-conditions_depth t c =
    let step = steps.sentence_step _ c.args.self.now.readable c.args.s c.args.depth c.requires.0 in
    let pattern = rw (c.pattern_at.ensures, c.pattern.ensures) at c.run_depth.ensures in
    sym (rw (sym pattern ∙ c.if-not-run_depth.false, sym c.conditions_depth.ensures ∙ c.if-not-conditions_depth.true) at step)

pub sentence_depth-run_depth-requires-2 : goal.sentence_depth-run_depth-requires-2
sentence_depth-run_depth-requires-2 t c =
    let file = file_of c.args.self.now.law.now.bytes.now in (
      omega (arith, c.decreases),
      (rw (c.result_at.ensures, c.result.ensures) (parts.result_part_lem file c.args.self.now.readable c.args.s c.requires.0), c.requires.1),
    )

pub sentence_depth-returns : goal.sentence_depth-returns
sentence_depth-returns t c =
    let step = steps.sentence_step _ c.args.self.now.readable c.args.s c.args.depth c.requires.0 in
    let pattern = rw (c.pattern_at.ensures, c.pattern.ensures) at c.run_depth.ensures in
    let result = rw (c.result_at.ensures, c.result.ensures) at c.run_depth-2.ensures in
    result ∙ sym (rw (sym pattern ∙ c.if-not-run_depth.false, sym c.conditions_depth.ensures ∙ c.if-not-conditions_depth.false) at step)

pub sentences_depth-loop-i-init : goal.sentences_depth-loop-i-init
sentences_depth-loop-i-init t c =
    steps.sentences_same (file_of c.args.self.now.law.now.bytes.now) _ _ _ _ c.args.depth (omega arith) (omega arith)

pub sentences_depth-overflow_add-first : goal.sentences_depth-overflow_add-first
sentences_depth-overflow_add-first t c =
    omega (arith, laws.sentences_limit _ _ c.args.self.now.law.now.indexed, c.requires.0, c.loop-i-test.true)

pub sentences_depth-sentence_depth-requires : goal.sentences_depth-sentence_depth-requires
sentences_depth-sentence_depth-requires t c =
    (omega (arith, c.decreases), (omega (arith, c.requires.0, c.loop-i-test.true), c.requires.1))

pub sentences_depth-returns-then-not-sentence_depth : goal.sentences_depth-returns-then-not-sentence_depth
sentences_depth-returns-then-not-sentence_depth t c =
    let next = steps.sentences_next _ c.args.self.now.readable c.args.count c.args.first c.loop-i.i c.args.depth c.loop-i-test.true c.requires.0 in
    sym (rw (sym c.sentence_depth.ensures ∙ c.if-not-sentence_depth.true) at (c.loop-i.invariant ∙ next))

pub sentences_depth-loop-i-preserved : goal.sentences_depth-loop-i-preserved
sentences_depth-loop-i-preserved t c =
    let next = steps.sentences_next _ c.args.self.now.readable c.args.count c.args.first c.loop-i.i c.args.depth c.loop-i-test.true c.requires.0 in
    rw (sym c.sentence_depth.ensures ∙ c.if-not-sentence_depth.false) at (c.loop-i.invariant ∙ next)

pub sentences_depth-returns : goal.sentences_depth-returns
sentences_depth-returns t c =
    let file = file_of c.args.self.now.law.now.bytes.now in
    sym
    (c.loop-i.invariant
    ∙ steps.sentences_same file _ 0 _ (c.args.first + c.loop-i.i) c.args.depth (omega (arith, c.loop-i-test.false)) refl
    ∙ steps.sentences_none file _ c.args.depth)

pub term_depth-overflow_add-at : goal.term_depth-overflow_add-at
term_depth-overflow_add-at t c =
    let stands = parts.part_at _ c.args.self.now.readable c.args.at c.args.part.now c.requires.0 c.requires.1 in
    omega (arith, stands, laws.terms_limit _ _ c.args.self.now.law.now.indexed)

pub term_depth-run_depth-requires : goal.term_depth-run_depth-requires
term_depth-run_depth-requires t c =
    let contents = parts.contents_part _ c.args.self.now.readable c.args.at c.args.part.now c.requires.0 c.requires.1 in
    (omega (arith, c.decreases, c.requires.2), (rw c.end_of-end.ensures.0 contents, omega (arith, c.requires.2)))

pub term_depth-returns-then-not-run_depth : goal.term_depth-returns-then-not-run_depth
term_depth-returns-then-not-run_depth t c =
    steps.term_over _ c.args.self.now.readable c.requires.0 c.requires.1 c.requires.2 c.end_of-end.ensures.0 c.run_depth.ensures c.if-not-run_depth.true

pub term_depth-block_first-requires : goal.term_depth-block_first-requires
term_depth-block_first-requires t c =
    let stands = parts.part_at _ c.args.self.now.readable c.args.at c.args.part.now c.requires.0 c.requires.1 in
    omega (arith, stands, laws.terms_limit _ _ c.args.self.now.law.now.indexed)

pub term_depth-sentences_depth-requires : goal.term_depth-sentences_depth-requires
term_depth-sentences_depth-requires t c =
    let stands = parts.part_at _ c.args.self.now.readable c.args.at c.args.part.now c.requires.0 c.requires.1 in
    let first = c.block_first.ensures ∙ c.args.self.now.law.now.indexed.words.blocks c.args.at stands in
    let counted = c.sentences_in-count.ensures ∙ ap sentences_in c.term_at.ensures in (
      omega (arith, c.decreases, c.requires.2),
      (rw (first, counted) (parts.part_sentences _ c.args.self.now.readable c.args.at c.args.part.now c.requires.0 c.requires.1), omega (arith, c.requires.2)),
    )

pub term_depth-returns-then-count-eq0 : goal.term_depth-returns-then-count-eq0
term_depth-returns-then-count-eq0 t c =
    let counted = c.sentences_in-count.ensures ∙ ap sentences_in c.term_at.ensures in
    eq-eqb _ _ c.if-count-eq0.true
    ∙ steps.term_alone _ c.args.self.now.readable c.requires.0 c.requires.1 c.requires.2 c.end_of-end.ensures.0 c.run_depth.ensures c.if-not-run_depth.false
    counted c.if-count-eq0.true

pub term_depth-returns-else-count-eq0 : goal.term_depth-returns-else-count-eq0
term_depth-returns-else-count-eq0 t c =
    let stands = parts.part_at _ c.args.self.now.readable c.args.at c.args.part.now c.requires.0 c.requires.1 in
    let first = c.block_first.ensures ∙ c.args.self.now.law.now.indexed.words.blocks c.args.at stands in
    let counted = c.sentences_in-count.ensures ∙ ap sentences_in c.term_at.ensures in
    steps.term_sentences _ c.args.self.now.readable c.requires.0 c.requires.1 c.requires.2 c.end_of-end.ensures.0 c.run_depth.ensures c.if-not-run_depth.false
    counted first c.sentences_depth.ensures
