use Rattle.std.proofs.Common.{arith}
use Rattle.searches.proofs.LiteralStart.{literal_start, literal_answer}
use Rattle.searches.proofs.AroundLaws.{remembering_none}
use Rattle.searches.proofs.literal.search_literal.Goals as goal

pub literal_run-requires : goal.literal_run-requires
literal_run-requires c =
    let a = c.args.pair.now in
    let around = c.none-outer.ensures in
    let (kept, unbound) = c.none.ensures a.records.text.now a.records.terms.now in
    let start = c.requires in (
      literal_start a.records.text.now a.records.terms.now _ around.0 _ unbound a.pattern.now a.at a.row.now a.start a.few a.pattern_stands
          a.row_stands start.0 start.1 around.1 kept,
      rw c.fixed-sure.ensures (remembering_none _ _ _ 0 (omega arith)),
    )

pub returns : goal.returns
returns c =
    let a = c.args.pair.now in
    let (kept, unbound) = c.none.ensures a.records.text.now a.records.terms.now in
    literal_answer a.records.text.now a.records.terms.now _ c.none-outer.ensures.0 _ unbound a.pattern.now a.at a.row.now a.start _ c.requires.2 c.literal_run.ensures.0
