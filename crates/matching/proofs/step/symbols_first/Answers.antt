use Rattle.matching.proofs.StepLaws as laws
use Rattle.matching.proofs.step.symbols_first.Goals as goal
use Rattle.matching.proofs.step.symbols_first.Goals.{then-left-lt24-via-then-left-lt24, then-left-lt24-via-else-left-lt24+then-word_at-gt2, then-right-lt24-via-then-right-lt24, then-right-lt24-via-else-right-lt24+then-not-atoms_same}

pub loop-left-init : goal.loop-left-init
loop-left-init c = laws.gone c.args.text.now c.args.pattern.now c.args.row.now

pub slice_bounds-left-count : goal.slice_bounds-left-count
slice_bounds-left-count c = laws.gone_within c.loop-left.invariant

pub slice_bounds-left-start : goal.slice_bounds-left-start
slice_bounds-left-start c = laws.gone_within c.loop-left.invariant

pub loop-left-preserved : goal.loop-left-preserved
loop-left-preserved c =
    laws.symbols_next c.loop-left.invariant c.if-left-lt24.false c.word_at.ensures c.if-word_at-gt2.false c.if-right-lt24.false c.atoms_same.ensures
    c.if-not-atoms_same.false c.end_of-i.ensures.0 c.end_of-j.ensures.0

pub returns-then-left-lt24 : goal.returns-then-left-lt24
returns-then-left-lt24 c = λ x vs first. elim c.then-left-lt24.branch [
  | then-left-lt24-via-then-left-lt24 w ↦ laws.symbols_end c.loop-left.invariant c.requires w.if-left-lt24.true vs
  | then-left-lt24-via-else-left-lt24+then-word_at-gt2 w ↦ laws.symbols_other c.loop-left.invariant w.word_at.ensures w.if-word_at-gt2.true first vs
]

pub returns-then-right-lt24 : goal.returns-then-right-lt24
returns-then-right-lt24 c = λ x vs first. elim c.then-right-lt24.branch [
  | then-right-lt24-via-then-right-lt24 w ↦
      laws.symbols_short c.loop-left.invariant c.if-left-lt24.false c.word_at.ensures c.if-word_at-gt2.false w.if-right-lt24.true vs
  | then-right-lt24-via-else-right-lt24+then-not-atoms_same w ↦
      laws.symbols_differ c.loop-left.invariant c.if-left-lt24.false c.word_at.ensures c.if-word_at-gt2.false w.if-right-lt24.false w.atoms_same.ensures
      w.if-not-atoms_same.true vs
]
