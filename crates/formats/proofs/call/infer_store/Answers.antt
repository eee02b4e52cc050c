use Rattle.std.proofs.Common.{arith, sym, ◌∙◌}
use Rattle.formats.proofs.RoundSteps.{names_at_most}
use Rattle.formats.proofs.CallLaws.{placed_asked, store_started, refused_is, given_is, infer_cleared, infer_ran}
use Rattle.formats.proofs.call.infer_store.Goals as goal

pub overflow_mul-names : goal.overflow_mul-names
overflow_mul-names c = omega (arith, names_at_most (placed_asked c.args.placed.now))

pub start_store-requires : goal.start_store-requires
start_store-requires c = (c.args.placed.now.small, omega (arith, names_at_most (placed_asked c.args.placed.now)), c.requires)

pub infer_started-inferred-requires : goal.infer_started-inferred-requires
infer_started-inferred-requires c =
    let placed = c.args.placed.now in
    (_, store_started placed.law.indexed placed.readable placed.places placed.small _ c.names.ensures _ _ c.start_store.ensures)

pub returns-then-is_err : goal.returns-then-is_err
returns-then-is_err c =
    let placed = c.args.placed.now in
    let held = store_started placed.law.indexed placed.readable placed.places placed.small _ c.names.ensures _ _ c.start_store.ensures in
    let refused = refused_is c.infer_started-inferred.result (sym c.is_err.ensures.value ∙ c.if-is_err.true) in
    rw refused (infer_cleared _ _ c.args.store.now _ c.infer_started-inferred.result (c.infer_started-inferred.ensures _ held) _ refused c.clear_store.ensures)

pub returns-else-is_err : goal.returns-else-is_err
returns-else-is_err c =
    let placed = c.args.placed.now in
    let held = store_started placed.law.indexed placed.readable placed.places placed.small _ c.names.ensures _ _ c.start_store.ensures in
    let given = given_is c.infer_started-inferred.result (sym c.is_err.ensures.value ∙ c.if-is_err.false) in
    rw given.1 (infer_ran _ _ c.args.store.now _ c.infer_started-inferred.result (c.infer_started-inferred.ensures _ held) given.0 given.1)
