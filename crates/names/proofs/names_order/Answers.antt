-- Where this turn's bytes stand in the two names (`zip_turn`), or how many turns there were (`zip_end`), and one law for each way through the loop.
use Rattle.std.proofs.Common.{◌∙◌, sym, ap, length-append}
use Rattle.std.proofs.lemmas.Slice.Zip.{zip_turn, zip_end}
use Rattle.std.specs.Ordering.{is_ne}
use Rattle.names.specs.Name.{fold_byte}
use Rattle.names.proofs.Laws.{cmp_equal, order_next, order_differs, order_end}
use Rattle.names.proofs.names_order.Goals as goal

pub returns-then-is_ne : goal.returns-then-is_ne
returns-then-is_ne c =
    let turn = zip_turn c.args.a.now c.args.b.now c.loop-x.yielded c.into_iter-x-iterator.result c.loop-x.x-iterator c.next.new.self _ (cc) (cc) c.loop-x.yielded_by _ c.in-Some.is c.next.ensures.steps in
    order_differs c.loop-x.invariant.2 _ _ _ turn.0 turn.1 (turn.2 0) (turn.3 0) (cc) (sym c.is_ne.ensures ∙ c.if-is_ne.true)

pub loop-x-preserved-else-is_ne : goal.loop-x-preserved-else-is_ne
loop-x-preserved-else-is_ne c =
    let turn = zip_turn c.args.a.now c.args.b.now c.loop-x.yielded c.into_iter-x-iterator.result c.loop-x.x-iterator c.next.new.self _ (cc) (cc) c.loop-x.yielded_by _ c.in-Some.is c.next.ensures.steps in
    let same = cmp_equal c.fold_byte.result c.fold_byte-then-x-y.result (ap is_ne (sym c.cmp-order.ensures) ∙ sym c.is_ne.ensures ∙ c.if-is_ne.false) in
    ((tt, tt), tt, rw length-append (order_next c.loop-x.invariant.2 _ _ turn.0 turn.1 (turn.2 0) (turn.3 0) (cc)))

pub loop-x-preserved : goal.loop-x-preserved
loop-x-preserved c =
    let turn = zip_turn c.args.a.now c.args.b.now c.loop-x.yielded c.into_iter-x-iterator.result c.loop-x.x-iterator c.next.new.self _ (cc) (cc) c.loop-x.yielded_by _ c.in-Some.is c.next.ensures.steps in
    ((tt, tt), tt, rw length-append (order_next c.loop-x.invariant.2 _ _ turn.0 turn.1 (turn.2 0) (turn.3 0) (ap fold_byte c.if-x-y.false)))

pub returns : goal.returns
returns c =
    c.cmp.ensures
    ∙ order_end c.loop-x.invariant.2 (zip_end c.args.a.now c.args.b.now c.loop-x.yielded c.into_iter-x-iterator.result c.loop-x.x-iterator c.next.new.self _ (cc) (cc) c.loop-x.yielded_by c.in-None.is c.next.ensures.steps)
