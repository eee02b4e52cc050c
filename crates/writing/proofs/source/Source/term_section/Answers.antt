use Rattle.std.proofs.Common.{arith, ap, drop, ◌∙◌}
use Rattle.encoding.specs.Code.FlatTerms.{outside, where_after, terms_at, flat_terms}
use Rattle.writing.specs.Code.Held.{at_first}
use Rattle.writing.specs.Code.Place.{where_of}
use Rattle.writing.proofs.HeldLaws.{kinds_size, kind_there, none_left}
use Rattle.writing.proofs.PassingLaws.{rounds_start, rounds_next, rounds_end}
use Rattle.writing.proofs.CloserLaws.{nested}
use Rattle.writing.proofs.TermLaws.{terms_step, terms_length}
use Rattle.writing.proofs.source.Source.term_section.Goals as goal

pub loop-i-init : goal.loop-i-init
loop-i-init c = rounds_start

pub loop-i-preserved : goal.loop-i-preserved
loop-i-preserved c =
    let tokens = c.args.self.now.tokens.now in
    let l = kinds_size tokens in
    let put = c.put_term-next in
    let round = c.loop-i in
    rounds_next round.invariant (λ ts. at_first (terms_at (where_of round.place)) (drop round.i ts)) _ (omega arith) put.ensures.0 put.ensures.1 put.auto.out
    (λ ts h. terms_step h.0.held (where_of round.place) round.i (omega arith)
    (c.after-place.ensures ∙ ap (where_after (where_of round.place)) (kind_there tokens round.i _ (omega arith))))
    (λ ts h. put.ensures.2 ts h.0 h.1)

pub returns : goal.returns
returns c =
    let l = kinds_size c.args.self.now.tokens.now in
    let ended = rounds_end c.loop-i.invariant c.args.self.now.few (λ ts h. ap (flat_terms (where_of c.loop-i.place)) (none_left h.0.held c.loop-i.i (omega arith))) in (
      omega (arith, ended.1, c.put_count.ensures.0),
      λ ts h st.
          c.put_count.ensures.1 _ (flat_terms outside ts) (ended.2 ts (nested h c.look_ahead.ensures.closed (c.look_ahead.ensures.summed ts h st), st)) (terms_length ts),
    )
