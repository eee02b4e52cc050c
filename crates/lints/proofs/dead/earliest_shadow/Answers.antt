use Rattle.std.proofs.Common.{arith}
use Rattle.law.proofs.IndexLaws.{sentences_limit}
use Rattle.file.specs.Sections.{file_of}
use Rattle.lints.proofs.DeadLaws as laws
use Rattle.lints.proofs.dead.earliest_shadow.Goals as goal
use Rattle.lints.proofs.dead.earliest_shadow.Goals.{else-conditions-eq0-via-then-conditions-eq0+else-sentence_shadows, else-conditions-eq0-via-else-conditions-eq0}

pub loop-i-init : goal.loop-i-init
loop-i-init c = (omega arith, laws.search_starts (file_of c.args.accepted.now.law.bytes.now) c.args.first _)

pub first_condition-requires : goal.first_condition-requires
first_condition-requires c =
    omega (arith, c.loop-i.invariant.0, c.requires, c.if-later-i.false, sentences_limit _ _ c.args.accepted.now.law.indexed)

pub first_condition-requires-in-loop-i : goal.first_condition-requires-in-loop-i
first_condition-requires-in-loop-i c =
    omega (arith, c.loop-i.invariant.0, c.requires, c.if-later-i.false, sentences_limit _ _ c.args.accepted.now.law.indexed)

pub overflow_sub-conditions : goal.overflow_sub-conditions
overflow_sub-conditions c =
    laws.conditions_grow c.args.accepted.now.law.indexed _ _ c.loop-i.i _ _ c.requires (omega (arith, c.if-later-i.false))
    c.first_condition.ensures c.first_condition-in-loop-i.ensures

pub loop-i-preserved : goal.loop-i-preserved
loop-i-preserved c = (
  omega (arith, c.if-later-i.false),
  elim c.else-conditions-eq0.branch [
    | else-conditions-eq0-via-then-conditions-eq0+else-sentence_shadows w ↦
        laws.again_pattern c.args.accepted.now.law.indexed _ _ c.loop-i.i _ _ c.requires (omega (arith, c.if-later-i.false))
        c.first_condition.ensures c.first_condition-in-loop-i.ensures w.if-conditions-eq0.true w.sentence_shadows.ensures
        w.if-sentence_shadows.false c.loop-i.invariant.1
    | else-conditions-eq0-via-else-conditions-eq0 w ↦
        laws.again_conditions c.args.accepted.now.law.indexed _ _ c.loop-i.i _ _ c.requires (omega (arith, c.if-later-i.false))
        c.first_condition.ensures c.first_condition-in-loop-i.ensures w.if-conditions-eq0.false c.loop-i.invariant.1
  ],
)

pub returns-then-later-i : goal.returns-then-later-i
returns-then-later-i c = (
  laws.search_ends (file_of c.args.accepted.now.law.bytes.now) c.args.first c.args.later c.loop-i.i _ c.if-later-i.true
      c.loop-i.invariant.0 c.loop-i.invariant.1,
  omega arith,
)

pub returns-then-sentence_shadows : goal.returns-then-sentence_shadows
returns-then-sentence_shadows c = (
  laws.shadow_found c.args.accepted.now.law.indexed _ _ c.loop-i.i _ _ c.requires (omega (arith, c.if-later-i.false)) c.first_condition.ensures
      c.first_condition-in-loop-i.ensures c.if-conditions-eq0.true c.sentence_shadows.ensures c.if-sentence_shadows.true c.loop-i.invariant.1,
  omega (arith, c.if-later-i.false),
)

pub overflow_add-s : goal.overflow_add-s
overflow_add-s c = omega (arith, c.loop-i.invariant.0, c.requires, sentences_limit _ _ c.args.accepted.now.law.indexed)

pub overflow_add-s-in-loop-i : goal.overflow_add-s-in-loop-i
overflow_add-s-in-loop-i c = omega (arith, c.loop-i.invariant.0, c.requires, c.if-later-i.false, sentences_limit _ _ c.args.accepted.now.law.indexed)

pub overflow_add-first : goal.overflow_add-first
overflow_add-first c = omega (arith, c.requires, sentences_limit _ _ c.args.accepted.now.law.indexed)
