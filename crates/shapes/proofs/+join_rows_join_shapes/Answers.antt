use Rattle.std.proofs.Common.{◌≡◌, ◌||◌, ◌<◌, length, arith, refl, ap, ◌∙◌}
use Rattle.shapes.specs.Leaf.{unknown, leaf_word}
use Rattle.shapes.specs.Format.{size}
use Rattle.shapes.proofs.FirstLaws.{split_none, join_none_none, join_none_some, join_some_none, join_some_some, end_joined, leaf_joined, brackets_joined}
use Rattle.shapes.proofs.+join_rows_join_shapes.Goals as goal
use Rattle.shapes.proofs.+join_rows_join_shapes.Goals.{join_rows-then-a_open, join_rows-else-a_open}

pub join_rows-returns-after-a_open-clause-joined : goal.join_rows-returns-after-a_open-clause-joined
join_rows-returns-after-a_open-clause-joined t c =
    let either : c.if-a_open.new ≡ (c.args.a_open || c.args.b_open) = elim c.if-a_open.branch [
      | join_rows-then-a_open w ↦ w.new-is ∙ rw w.if-a_open.true
      | join_rows-else-a_open w ↦ w.new-is ∙ rw w.if-a_open.false
    ] in
    rw (c.new.ensures.next, c.new.ensures.opens ∙ either, split_none c.args.a_open c.args.a.now c.in-None-None.ensures, split_none c.args.b_open c.args.b.now c.in-None-None.ensures')
    (end_joined _ _ _ _ (join_none_none _ _))

pub join_rows-returns-in-Some-Some-clause-joined :
    goal.join_rows-returns-in-Some-Some-clause-joined
join_rows-returns-in-Some-Some-clause-joined t c =
    rw (c.in-Some-Some.ensures.parts c.args.a_open, c.in-Some-Some.ensures'.parts c.args.b_open)
    (join_some_some _ _ _ _ _ _ _ _ _ _ _ (omega (arith, c.in-Some-Some.ensures.count)) c.join_shapes-next.ensures.end.1 c.join_shapes-next.ensures.words c.join_rows.ensures.joined)

pub join_rows-returns-in_default-clause-joined : goal.join_rows-returns-in_default-clause-joined
join_rows-returns-in_default-clause-joined t c =
    rw (split_none c.args.a_open c.args.a.now c.in_default.ensures, c.in_default.ensures'.parts c.args.b_open) (end_joined _ _ _ _ (join_none_some _ _ _))

pub join_rows-returns-in_default-2-clause-joined :
    goal.join_rows-returns-in_default-2-clause-joined
join_rows-returns-in_default-2-clause-joined t c =
    rw (c.in_default.ensures.parts c.args.a_open, split_none c.args.b_open c.args.b.now c.in_default.ensures') (end_joined _ _ _ _ (join_some_none _ _ _))

pub join_shapes-returns-in-Leaf-Leaf-clause-end : goal.join_shapes-returns-in-Leaf-Leaf-clause-end
unfolding size
join_shapes-returns-in-Leaf-Leaf-clause-end t c = rw (c.in-Leaf-Leaf.is-0, c.in-Leaf-Leaf.is-1) (omega arith, refl)

pub join_shapes-returns-in-Leaf-Leaf-clause-words :
    goal.join_shapes-returns-in-Leaf-Leaf-clause-words
join_shapes-returns-in-Leaf-Leaf-clause-words t c =
    let room : c.args.at < length c.args.out.now = omega (arith, rw c.in-Leaf-Leaf.is-0 at c.requires.0) in
    rw (c.in-Leaf-Leaf.is-0, c.in-Leaf-Leaf.is-1) (leaf_joined _ c.args.out.now c.args.at _ room (c.from.ensures ∙ ap leaf_word c.join.ensures)).1

pub join_shapes-returns-in-Bracket-Bracket-clause-end :
    goal.join_shapes-returns-in-Bracket-Bracket-clause-end
unfolding size
join_shapes-returns-in-Bracket-Bracket-clause-end t c =
    rw (c.in-Bracket-Bracket.is-0, c.in-Bracket-Bracket.is-1) (omega (arith, c.join_rows-end.ensures.end), omega (arith, c.join_rows-end.ensures.joined.after))

pub join_shapes-returns-in-Bracket-Bracket-clause-words :
    goal.join_shapes-returns-in-Bracket-Bracket-clause-words
join_shapes-returns-in-Bracket-Bracket-clause-words t c =
    rw (c.in-Bracket-Bracket.is-0, c.in-Bracket-Bracket.is-1) (brackets_joined _ _ _ _ _ _ _ (omega (arith, c.join_rows-end.ensures.end, rw c.in-Bracket-Bracket.is-0 at c.requires.0)) c.join_rows-end.ensures.joined (rw (c.next.ensures, c.is_open.ensures) at c.bracket_word.ensures)).1

pub join_shapes-returns-in-Leaf-Bracket-clause-end : goal.join_shapes-returns-in-Leaf-Bracket-clause-end
unfolding size
join_shapes-returns-in-Leaf-Bracket-clause-end t c = rw (c.in-Leaf-Bracket.is-0, c.in-Leaf-Bracket.is-1) (omega arith, refl)

pub join_shapes-returns-in-Leaf-Bracket-clause-words :
    goal.join_shapes-returns-in-Leaf-Bracket-clause-words
join_shapes-returns-in-Leaf-Bracket-clause-words t c =
    let room : c.args.at < length c.args.out.now = omega (arith, rw c.in-Leaf-Bracket.is-0 at c.requires.0) in
    rw (c.in-Leaf-Bracket.is-0, c.in-Leaf-Bracket.is-1) (leaf_joined unknown c.args.out.now c.args.at _ room c.from-in-Leaf-Bracket.ensures).1

pub join_shapes-returns-in-Bracket-Leaf-clause-end : goal.join_shapes-returns-in-Bracket-Leaf-clause-end
unfolding size
join_shapes-returns-in-Bracket-Leaf-clause-end t c = rw (c.in-Bracket-Leaf.is-0, c.in-Bracket-Leaf.is-1) (omega arith, refl)

pub join_shapes-returns-in-Bracket-Leaf-clause-words :
    goal.join_shapes-returns-in-Bracket-Leaf-clause-words
join_shapes-returns-in-Bracket-Leaf-clause-words t c =
    let room : c.args.at < length c.args.out.now = omega (arith, rw c.in-Bracket-Leaf.is-0 at c.requires.0) in
    rw (c.in-Bracket-Leaf.is-0, c.in-Bracket-Leaf.is-1) (leaf_joined unknown c.args.out.now c.args.at _ room c.from-in-Bracket-Leaf.ensures).1
