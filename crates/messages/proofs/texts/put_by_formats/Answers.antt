-- How the text begins, and six pieces after it; a format's text is short.
use Rattle.std.proofs.Common.{arith, refl}
use Rattle.law.specs.Text.{bytes_of}
use Rattle.law.specs.Tree.{Name}
use Rattle.lints.specs.Message.{claim_text}
use Rattle.buffers.proofs.TextLaws.{◌next◌}
use Rattle.messages.proofs.TextLaws.{shown_near}
use Rattle.messages.proofs.texts.put_by_formats.Goals as goal

pub put-requires-4 : goal.put-requires-4
put-requires-4 c = omega (arith, shown_near _ c.put_format.ensures.put)

pub put_format-requires-2 : goal.put_format-requires-2
put_format-requires-2 c = omega (arith, c.requires, c.put_call.ensures.0, shown_near _ c.put_format.ensures.put)

pub returns : goal.returns
unfolding bytes_of claim_text
returns c =
    let callee : Name = record { start = 0; spelled = c.args.callee.now } in
    λ owner f e. rw e (c.put_call.ensures.1 callee refl next c.put.ensures next c.put-2.ensures next c.put-3.ensures
    next c.put_format.ensures next c.put-4.ensures next c.put_format-2.ensures)
