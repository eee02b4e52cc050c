use Rattle.shapes.proofs.FirstLaws.{split_none, disjoint_none_none, disjoint_none_some, disjoint_some_none, disjoint_split}
use Rattle.shapes.proofs.+disjoint_rows_disjoint_shapes.Goals as goal

pub disjoint_rows-returns-in-None-None : goal.disjoint_rows-returns-in-None-None
disjoint_rows-returns-in-None-None t c =
    rw (split_none c.args.a_open c.args.a.now c.in-None-None.ensures, split_none c.args.b_open c.args.b.now c.in-None-None.ensures') (disjoint_none_none _ _)

pub disjoint_rows-returns-in-None-Some : goal.disjoint_rows-returns-in-None-Some
disjoint_rows-returns-in-None-Some t c =
    rw (split_none c.args.a_open c.args.a.now c.in-None-Some.ensures, c.in-None-Some.ensures'.parts c.args.b_open) (disjoint_none_some _ _ _)

pub disjoint_rows-returns-in-Some-None : goal.disjoint_rows-returns-in-Some-None
disjoint_rows-returns-in-Some-None t c =
    rw (c.in-Some-None.ensures.parts c.args.a_open, split_none c.args.b_open c.args.b.now c.in-Some-None.ensures') (disjoint_some_none _ _ _)

pub disjoint_rows-returns-then-disjoint_shapes : goal.disjoint_rows-returns-then-disjoint_shapes
disjoint_rows-returns-then-disjoint_shapes t c =
    rw (c.in-Some-Some.ensures.parts c.args.a_open, c.in-Some-Some.ensures'.parts c.args.b_open, disjoint_split, ← c.disjoint_shapes.ensures, c.if-disjoint_shapes.true)

pub disjoint_rows-returns-else-disjoint_shapes : goal.disjoint_rows-returns-else-disjoint_shapes
disjoint_rows-returns-else-disjoint_shapes t c =
    rw (c.in-Some-Some.ensures.parts c.args.a_open, c.in-Some-Some.ensures'.parts c.args.b_open, disjoint_split, ← c.disjoint_shapes.ensures, c.if-disjoint_shapes.false) c.disjoint_rows.ensures
