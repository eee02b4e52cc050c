-- Every part lies inside the file, whose length follows from its counts.
use Rattle.std.proofs.Common.{◌∙◌, sym, arith}
use Rattle.file.proofs.Parts.{counts_known, fields_parts, functions_tested, terms_tested}
use Rattle.file.proofs.fields_allowed.Goals as goal

pub overflow_add-sections : goal.overflow_add-sections
overflow_add-sections c = omega (arith, counts_known _ _ c.requires.0 c.requires.1)

pub slice_bounds-new-end : goal.slice_bounds-new-end
slice_bounds-new-end c = omega (arith, counts_known _ _ c.requires.0 c.requires.1)

pub functions_at-functions_at-requires : goal.functions_at-functions_at-requires
functions_at-functions_at-requires c = omega (arith, counts_known _ _ c.requires.0 c.requires.1)

pub overflow_mul-functions : goal.overflow_mul-functions
overflow_mul-functions c = omega (arith, counts_known _ _ c.requires.0 c.requires.1)

pub overflow_add-functions : goal.overflow_add-functions
overflow_add-functions c = omega (arith, counts_known _ _ c.requires.0 c.requires.1)

pub slice_bounds-functions-end : goal.slice_bounds-functions-end
slice_bounds-functions-end c = omega (arith, counts_known _ _ c.requires.0 c.requires.1)

pub terms_at-requires : goal.terms_at-requires
terms_at-requires c =
    let counts = counts_known _ _ c.requires.0 c.requires.1 in
    (omega arith, omega arith, omega arith, omega arith)

pub slice_bounds-terms_allowed-count : goal.slice_bounds-terms_allowed-count
slice_bounds-terms_allowed-count c = omega (arith, counts_known _ _ c.requires.0 c.requires.1)

pub slice_bounds-terms_allowed-start : goal.slice_bounds-terms_allowed-start
slice_bounds-terms_allowed-start c = omega (arith, counts_known _ _ c.requires.0 c.requires.1)

pub returns-then-functions_allowed : goal.returns-then-functions_allowed
returns-then-functions_allowed c =
    let law = c.args.law.now in
    let long = (counts_known _ _ c.requires.0 c.requires.1).1 in
    let functions = functions_tested law _ c.args.sections _ _ long c.new-text.ensures c.functions_at-functions_at.ensures c.functions_allowed.ensures in
    let terms = terms_tested law _ c.args.sections _ _ long c.new-text.ensures c.terms_at.ensures c.terms_allowed.ensures in
    sym (fields_parts _ _ c.requires.1 ∙ rw (← functions, ← terms, c.if-functions_allowed.true))

pub returns-else-functions_allowed : goal.returns-else-functions_allowed
returns-else-functions_allowed c =
    let law = c.args.law.now in
    let long = (counts_known _ _ c.requires.0 c.requires.1).1 in
    let functions = functions_tested law _ c.args.sections _ _ long c.new-text.ensures c.functions_at-functions_at.ensures c.functions_allowed.ensures in
    c.if-functions_allowed.false ∙ sym (fields_parts _ _ c.requires.1 ∙ rw (← functions, c.if-functions_allowed.false))
