-- One law for each answer: no digits, another digit than zero before, zeros alone before.
use Rattle.std.proofs.Common.{◌∙◌, sym, ap}
use borrow.Author.Tests.{eqb-true, eqb-false}
use Rattle.names.specs.Name.{same_bytes, every_byte}
use Rattle.numbers.specs.Code.Zero.{zero_byte}
use Rattle.numbers.proofs.StrippedLaws.{padded_none, padded_digit, padded_rest}
use Rattle.numbers.proofs.padded_equal.Goals as goal
use Rattle.numbers.proofs.padded_equal.Goals.{then-not-is_empty, else-not-is_empty}

pub returns-then-all_zeros : goal.returns-then-all_zeros
returns-then-all_zeros c =
    elim c.if-not-is_empty.branch [
      | then-not-is_empty w ↦ padded_rest c.args.long.now c.args.short.now c.requires (w.all_zeros.ensures ∙ ap (every_byte zero_byte) c.split_at.ensures.front)
          (sym w.value-is ∙ c.if-all_zeros.true) (eqb-false _ _ (sym c.is_empty.ensures ∙ w.if-not-is_empty.true))
          (c.digits_equal.ensures ∙ ap (λ x. same_bytes x c.args.short.now) c.split_at.ensures.back)
      | else-not-is_empty w ↦ let z = rw w.if-not-is_empty.false at w.value-is in cc
    ]

pub returns-else-all_zeros : goal.returns-else-all_zeros
returns-else-all_zeros c =
    elim c.if-not-is_empty.branch [
      | then-not-is_empty w ↦ c.if-all_zeros.false ∙ padded_digit c.args.long.now c.args.short.now c.requires (w.all_zeros.ensures ∙ ap (every_byte zero_byte) c.split_at.ensures.front) (sym w.value-is ∙ c.if-all_zeros.false)
      | else-not-is_empty w ↦ c.if-all_zeros.false ∙ padded_none c.args.long.now c.args.short.now c.requires (eqb-true _ _ (sym c.is_empty.ensures ∙ w.if-not-is_empty.false))
    ]
