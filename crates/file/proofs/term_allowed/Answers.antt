-- A plain character, then one arm for each kind; past the last kind nothing is allowed.
use Rattle.std.proofs.Common.{◌∙◌, ◌≤◌, sym, arith}
use borrow.Author.Tests.{eq-eqb, ne_eqb}
use Rattle.file.specs.Fields.{term_allowed}
use Rattle.file.proofs.Fields.{plain_allowed, kind_over, kind_named, second_fails_where}
use Rattle.file.proofs.term_allowed.Goals as goal
use Rattle.file.proofs.term_allowed.Goals.{then-scalar_allowed, else-scalar_allowed}

pub returns-then-is_plain : goal.returns-then-is_plain
returns-then-is_plain c = sym (plain_allowed _ _ _ _ _ (c.is_plain.ensures c.if-is_plain.true))

pub returns-then-b-eq0 : goal.returns-then-b-eq0
unfolding term_allowed
returns-then-b-eq0 c = rw (c.in-0.is, ← c.scalar_allowed.ensures, c.if-b-eq0.true.0, eq-eqb _ _ c.if-b-eq0.true.1)

pub returns-else-b-eq0 : goal.returns-else-b-eq0
unfolding term_allowed
returns-else-b-eq0 c =
    elim c.if-scalar_allowed.branch [
      | then-scalar_allowed w ↦ w.t-9-is
          ∙ rw (
            c.in-0.is,
            ← c.scalar_allowed.ensures,
            w.if-scalar_allowed.true,
            ne_eqb _ _ (second_fails_where c.if-b-eq0.either w.if-scalar_allowed.true),
          )
      | else-scalar_allowed w ↦ w.t-9-is ∙ rw (c.in-0.is, ← c.scalar_allowed.ensures, w.if-scalar_allowed.false)
    ]

pub returns-then-has_number : goal.returns-then-has_number
unfolding term_allowed
returns-then-has_number c = rw (c.in-2.is, ← c.has_number.ensures, c.if-has_number.true)

pub returns-else-has_number : goal.returns-else-has_number
unfolding term_allowed
returns-else-has_number c = rw (c.in-2.is, ← c.has_number.ensures, c.if-has_number.false)

pub returns-then-a-eq0 : goal.returns-then-a-eq0
unfolding term_allowed
returns-then-a-eq0 c = rw (c.in-6.is, eq-eqb _ _ c.if-a-eq0.true)

pub returns-else-a-eq0 : goal.returns-else-a-eq0
unfolding term_allowed
returns-else-a-eq0 c = rw (c.in-6.is, ne_eqb _ _ c.if-a-eq0.false)

pub returns-in-7 : goal.returns-in-7
unfolding term_allowed
returns-in-7 c = rw c.in-7.is c.has_name.ensures

pub returns-in-8 : goal.returns-in-8
unfolding term_allowed
returns-in-8 c = rw c.in-8.is

pub returns-in_default : goal.returns-in_default
returns-in_default c = sym (kind_over _ _ _ _ _ (omega arith))

pub returns-then-has_name : goal.returns-then-has_name
returns-then-has_name c =
    let low : 1 ≤ c.args.kind = grind arith in
    let high : c.args.kind ≤ 5 = grind arith in
    sym (kind_named _ _ _ _ _ low high (λ e. grind arith) ∙ rw (← c.has_name-in-1.ensures, c.if-has_name.true))

pub returns-else-has_name : goal.returns-else-has_name
returns-else-has_name c =
    let low : 1 ≤ c.args.kind = grind arith in
    let high : c.args.kind ≤ 5 = grind arith in
    sym (kind_named _ _ _ _ _ low high (λ e. grind arith) ∙ rw (← c.has_name-in-1.ensures, c.if-has_name.false))
