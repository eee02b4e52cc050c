use lib.ListN.{length-set}
use Rattle.std.proofs.Common.{arith, sym, ap, ◌≡◌, ◌∙◌, ◌+◌}
use Rattle.file.proofs.Below.{total_none}
use Rattle.law.specs.Code.Filling.{as_word}
use Rattle.law.proofs.Tables.{sum_next, table_first, table_next, table_over}
use Rattle.law.proofs.index.fill_sums.Goals as goal

pub loop-i-init : goal.loop-i-init
loop-i-init g c =
    let a = c.args in (
      omega arith,
      length-set a.index.now a.from 0 ∙ c.requires.room.1,
      λ f numbers. (
        sym (total_none f),
        table_over a.index.now _ a.from 0 _ 0 (table_first a.index.now a.from _ 0 (omega (arith, c.requires.room)) (ap as_word (sym (total_none f)))),
      ),
    )

pub loop-i-preserved : goal.loop-i-preserved
loop-i-preserved g c =
    let a = c.args in
    let l = c.loop-i in (
      omega (arith, l.invariant.0, c.requires.small l.i _ c.loop-i-test.true c.number-sum.ensures),
      length-set l.index _ _ ∙ l.invariant.1,
      λ f numbers.
          let before = l.invariant.2 f numbers in
          let e = sum_next f l.i l.sum c.number-sum.result before.0 (numbers l.i _ c.loop-i-test.true c.number-sum.ensures) in
          (e, table_next _ l.index a.from (l.i + 1) _ _ before.1 (omega (arith, l.invariant.1, c.requires.room, c.loop-i-test.true)) (ap as_word e)),
    )

pub returns-clause-sums : goal.returns-clause-sums
returns-clause-sums g c =
    let e : c.loop-i.i ≡ c.args.count = omega (arith, c.loop-i-test.false, c.loop-i.auto.i-end) in
    λ f numbers. rw e at (c.loop-i.invariant.2 f numbers)
