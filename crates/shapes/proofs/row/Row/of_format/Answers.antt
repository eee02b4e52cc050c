use Rattle.std.proofs.Common.{ℕ, arith, rules, sym, ◌∙◌, length-take}
use Rattle.shapes.proofs.FormatLaws.{read_never, row_words, read_row, read_none, none_words, none_closed}
use Rattle.shapes.proofs.row.Row.of_format.Goals as goal

pub returns-in_default : goal.returns-in_default
returns-in_default c = record {
  same = read_none _ c.in_default.ensures.cases;
  few = omega (arith, c.in_default.ensures.cases);
  within = omega (arith, c.in_default.ensures.cases);
  words = none_words _ c.in_default.ensures.cases;
  opens = none_closed _ c.in_default.ensures.cases;
}

pub returns-then-is_never : goal.returns-then-is_never
returns-then-is_never c = read_never _ _ _ c.in-Some.ensures.cases.0 (sym c.is_never.ensures ∙ c.if-is_never.true)

pub returns : goal.returns
returns c = record {
  same = read_row _ _ _ _ c.in-Some.ensures.cases.0 (sym c.is_never.ensures ∙ c.if-is_never.false) c.min.ensures;
  few = search rules;
  within = omega (arith, c.in-Some.ensures.cases.1, length-take {A = ℕ});
  words = row_words _ _ _ _ c.in-Some.ensures.cases.0 c.min.ensures;
  opens = rw c.in-Some.ensures.cases.0;
}
