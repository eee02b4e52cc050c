use Rattle.std.proofs.Common.{arith, ◌∙◌, ap}
use Rattle.encoding.specs.Code.FlatFile.{parts}
use Rattle.writing.proofs.HeldLaws.{kinds_size, kind_there, start_there, end_there}
use Rattle.writing.proofs.PartLaws.{records_stop, records_next, records_end}
use Rattle.writing.proofs.source.Source.part_records.Goals as goal

pub returns-then-parts_terms : goal.returns-then-parts_terms
returns-then-parts_terms c ts h st =
    let tokens = c.args.self.now.tokens.now in
    let l = kinds_size tokens in
    records_stop h c.loop-i.calling (omega arith) (c.parts_terms.ensures ∙ ap parts (kind_there tokens c.loop-i.i _ (omega arith))) c.if-parts_terms.true
    (c.loop-i.invariant.1 ts h st)

pub loop-i-preserved : goal.loop-i-preserved
loop-i-preserved c =
    let tokens = c.args.self.now.tokens.now in
    let l = kinds_size tokens in
    let i = c.loop-i.i in
    let kind = kind_there tokens i _ (omega arith) in (
      omega (arith, c.loop-i.invariant.0, c.weight-n.ensures.0),
      λ ts h st.
          rw c.is_at-calling.ensures
          (records_next h c.args.self.now.text.now c.loop-i.n c.loop-i.calling st (omega arith) (c.parts_terms.ensures ∙ ap parts kind) c.if-parts_terms.false
          (start_there tokens i _ (omega arith)) (end_there tokens i _ (omega arith)) (λ p e. c.weight-n.ensures.1 p (kind ∙ e)) (c.loop-i.invariant.1 ts h st)),
    )

pub returns : goal.returns
returns c ts h st = let l = kinds_size c.args.self.now.tokens.now in records_end h c.loop-i.calling (omega arith) (c.loop-i.invariant.1 ts h st)
