use Rattle.shapes.proofs.FirstLaws.{split_none}
use Rattle.shapes.proofs.DisplayLaws.{show_open, show_closed, show_some}
use Rattle.buffers.proofs.PutLaws.{◌then◌}
use Rattle.shapes.proofs.display.+show_row_show_shape.Goals as goal

pub show_row-returns-then-not-is_open-clause-put : goal.show_row-returns-then-not-is_open-clause-put
show_row-returns-then-not-is_open-clause-put t c = rw (split_none _ _ c.in_default.ensures, c.if-not-is_open.true) (show_closed _ _ _)

pub show_row-returns-in_default-clause-put : goal.show_row-returns-in_default-clause-put
show_row-returns-in_default-clause-put t c =
    rw (split_none _ _ c.in_default.ensures, c.if-not-is_open.false) (show_open _ _ _ _ _ _ _ c.put_space-start.ensures c.put.ensures)

pub show_row-returns-clause-put : goal.show_row-returns-clause-put
show_row-returns-clause-put t c =
    rw (c.in-Some.ensures.parts c.args.is_open) (show_some _ _ _ _ _ _ _ _ _ _ _ c.put_space-start-2.ensures c.show_shape-next.ensures.put c.show_row.ensures.put)

pub show_shape-returns-in-Bracket-clause-put : goal.show_shape-returns-in-Bracket-clause-put
show_shape-returns-in-Bracket-clause-put t c =
    rw c.in-Bracket.is (c.put-start.ensures then c.show_row-next.ensures.put then c.put.ensures)
