use Rattle.std.proofs.Common.{arith, ◌∙◌, ap}
use Rattle.encoding.specs.Code.FlatFile.{parts}
use Rattle.writing.proofs.HeldLaws.{kinds_size, kind_there, end_there}
use Rattle.writing.proofs.PartLaws.{end_stop, end_next, end_end}
use Rattle.writing.proofs.source.Source.part_end.Goals as goal

pub returns-then-parts_terms : goal.returns-then-parts_terms
returns-then-parts_terms c ts h =
    let tokens = c.args.self.now.tokens.now in
    let l = kinds_size tokens in
    end_stop h (omega arith) (c.parts_terms.ensures ∙ ap parts (kind_there tokens c.loop-i.i _ (omega arith))) c.if-parts_terms.true (c.loop-i.invariant ts h)

pub loop-i-preserved : goal.loop-i-preserved
loop-i-preserved c ts h =
    let tokens = c.args.self.now.tokens.now in
    let l = kinds_size tokens in
    end_next h c.loop-i.end (omega arith) (c.parts_terms.ensures ∙ ap parts (kind_there tokens c.loop-i.i _ (omega arith))) c.if-parts_terms.false
    (c.from-end.ensures ∙ end_there tokens c.loop-i.i _ (omega arith)) (c.loop-i.invariant ts h)

pub returns : goal.returns
returns c ts h = let l = kinds_size c.args.self.now.tokens.now in end_end h (omega arith) (c.loop-i.invariant ts h)
