use Rattle.std.proofs.Common.{false, arith, ap, drop, ◌∙◌}
use Rattle.encoding.specs.Code.FlatFile.{within, flat_conditions}
use Rattle.writing.specs.Code.Found.{conditions_at}
use Rattle.writing.specs.Code.Held.{at_first}
use Rattle.writing.proofs.HeldLaws.{kinds_size, kind_there, none_left}
use Rattle.writing.proofs.PassingLaws.{rounds_start, rounds_next, rounds_end}
use Rattle.writing.proofs.ConditionLaws.{conditions_step, conditions_length}
use Rattle.writing.proofs.source.Source.condition_section.Goals as goal

pub loop-i-init : goal.loop-i-init
loop-i-init c = rounds_start

pub loop-i-preserved : goal.loop-i-preserved
loop-i-preserved c =
    let tokens = c.args.self.now.tokens.now in
    let l = kinds_size tokens in
    let put = c.put_condition-next in
    let round = c.loop-i in
    rounds_next round.invariant (λ ts. at_first (conditions_at round.inside) (drop round.i ts)) _ (omega arith) put.ensures.0 put.ensures.1 put.auto.out
    (λ ts h. conditions_step h.0 round.inside round.i (omega arith) (c.within_after-inside.ensures ∙ ap (within round.inside) (kind_there tokens round.i _ (omega arith))))
    (λ ts h. put.ensures.2 ts h.0 h.1)

pub returns : goal.returns
returns c =
    let l = kinds_size c.args.self.now.tokens.now in
    let ended = rounds_end c.loop-i.invariant c.args.self.now.few (λ ts h. ap (flat_conditions c.loop-i.inside) (none_left h.0 c.loop-i.i (omega arith))) in
    (omega (arith, ended.1, c.put_count.ensures.0), λ ts h st. c.put_count.ensures.1 _ (flat_conditions false ts) (ended.2 ts (h, st)) (conditions_length ts))
