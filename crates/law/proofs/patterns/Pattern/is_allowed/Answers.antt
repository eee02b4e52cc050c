use borrow.Author.Tests.{le-leb}
use Rattle.std.proofs.Common.{sym}
use Rattle.law.proofs.PatternLaws.{few_records, distinct_end}
use Rattle.law.proofs.patterns.Pattern.is_allowed.Goals as goal

pub returns-then-self-le32 : goal.returns-then-self-le32
returns-then-self-le32 c =
    let pattern = c.args.self.now in
    sym (few_records pattern.text.now pattern.records.now pattern.count 0 c.if-self-le32.true)

pub returns : goal.returns
returns c =
    let pattern = c.args.self.now in
    let loop = c.loop-i in
    let all = distinct_end pattern.text.now pattern.records.now pattern.count loop.i loop.found _ c.loop-i-test.false loop.invariant.1 in
    sym (rw all (le-leb _ _ loop.invariant.0))
