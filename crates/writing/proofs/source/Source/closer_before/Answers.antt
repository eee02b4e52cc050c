use Rattle.std.proofs.Common.{arith, sym, ◌∙◌}
use Rattle.writing.proofs.HeldLaws.{kinds_size, kind_there}
use Rattle.writing.proofs.CloserLaws.{closer_here, closer_open, closer_plain}
use Rattle.writing.specs.Code.Closers.{closers_in}
use Rattle.writing.proofs.source.Source.closer_before.Goals as goal

pub returns-then-closes_term : goal.returns-then-closes_term
returns-then-closes_term c =
    let tokens = c.args.self.now.tokens.now in
    let l = kinds_size tokens in
    (omega (arith, c.args.self.now.few), λ h. closer_here _ (omega arith) (kind_there tokens c.args.i _ c.requires.1) (sym c.closes_term.ensures ∙ c.if-closes_term.true))

pub returns-then-opens_term : goal.returns-then-opens_term
returns-then-opens_term c =
    let tokens = c.args.self.now.tokens.now in
    let l = kinds_size tokens in (
      c.closer_at.ensures.0,
      λ h. closer_open _ (omega arith) (kind_there tokens c.args.i _ c.requires.1) (closers_in c.args.ahead.now) {inner = c.closer_at-inner.result} (sym c.closes_term.ensures ∙ c.if-closes_term.false) h
          (rw l c.closer_at-inner.ensures.1) (sym c.opens_term.ensures ∙ c.if-opens_term.true) (rw l c.closer_at.ensures.1),
    )

pub returns : goal.returns
returns c =
    let tokens = c.args.self.now.tokens.now in
    let l = kinds_size tokens in (
      c.closer_at-inner.ensures.0,
      λ h. closer_plain _ (omega arith) (kind_there tokens c.args.i _ c.requires.1) (closers_in c.args.ahead.now) {inner = c.closer_at-inner.result} (sym c.closes_term.ensures ∙ c.if-closes_term.false) h
          (rw l c.closer_at-inner.ensures.1) (sym c.opens_term.ensures ∙ c.if-opens_term.false),
    )
