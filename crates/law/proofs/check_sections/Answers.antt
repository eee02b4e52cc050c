-- One law for each refusal (proofs/Verdict.antt), with the tests that led there.
use mathlib.Core.Path.{sym, ◌∙◌}
use Rattle.law.proofs.Tables.{placed_indexed}
use Rattle.law.proofs.Verdict as verdict
use Rattle.law.proofs.check_sections.Goals as goal

pub returns-then-not-fields_allowed : goal.returns-then-not-fields_allowed
returns-then-not-fields_allowed c =
    let refused = sym c.fields_allowed.ensures ∙ c.if-not-fields_allowed.true in
    (sym (verdict.fields_refused c.args.law.now c.requires.0 refused), tt)

pub invariant_of-check_placed : goal.invariant_of-check_placed
invariant_of-check_placed c =
    let used = sym c.place_records.ensures.0 ∙ c.if-place_records.true in
    record { indexed = placed_indexed c.args.law.now _ c.requires.0 used c.place_records.ensures.1 }

pub check_placed-requires : goal.check_placed-requires
check_placed-requires c = sym c.fields_allowed.ensures ∙ c.if-not-fields_allowed.false

pub returns-else-place_records : goal.returns-else-place_records
returns-else-place_records c =
    let fields = sym c.fields_allowed.ensures ∙ c.if-not-fields_allowed.false in
    let unused = sym c.place_records.ensures.0 ∙ c.if-place_records.false in
    (sym (verdict.used_refused c.args.law.now c.requires.0 fields unused), tt)
