use Rattle.std.proofs.Common.{arith, ◌∙◌}
use Rattle.searches.proofs.ShadowStart.{shadow_start, shadow_answer_lem}
use Rattle.searches.proofs.SureLaws.{settled_fixed}
use Rattle.searches.proofs.FailedLaws.{shadow_none}
use Rattle.searches.proofs.shadow.search_shadow.Goals as goal

pub shadow_run-requires : goal.shadow_run-requires
shadow_run-requires c =
    let a = c.args.pair.now in
    let (kept, unbound) = c.none.ensures a.records.text.now a.records.terms.now in (
      shadow_start a.records.text.now a.records.terms.now _ unbound a.pattern.now a.at a.row.now a.start a.few a.pattern_stands a.row_stands c.requires kept,
      rw c.fixed-sure.ensures (settled_fixed _ _ 0 _ (omega arith)),
      rw c.fixed-sure.ensures (shadow_none a.records.text.now a.records.terms.now _),
    )

pub returns : goal.returns
returns c =
    let a = c.args.pair.now in
    let (kept, unbound) = c.none.ensures a.records.text.now a.records.terms.now in
    c.is_some.ensures ∙ shadow_answer_lem a.records.text.now a.records.terms.now _ unbound a.pattern.now a.row.now c.shadow_run.result c.shadow_run.ensures.0
