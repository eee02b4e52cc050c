use Rattle.shapes.proofs.DisplayLaws.{text_fits}
use Rattle.shapes.proofs.display.display_format.Goals as goal

pub returns : goal.returns
returns c =
    text_fits _ _ _ _ _ _ c.show_format-next.ensures.end c.if-out-next.false c.show_format.ensures
