use Rattle.std.proofs.Common.{arith, sym, ◌∙◌}
use Rattle.shapes.proofs.FirstLaws.{split_leaf, split_bracket}
use Rattle.shapes.proofs.row.split_first.Goals as goal

pub returns-in_err-word : goal.returns-in_err-word
returns-in_err-word c = rw c.from_residual.ensures c.in_err-word.ensures.cases

pub returns-then-not-is_bracket : goal.returns-then-not-is_bracket
returns-then-not-is_bracket c =
    let first = c.in_ok-word.ensures.cases in
    record {
      parts = λ o. rw c.from.ensures (split_leaf o _ _ _ first.0 (sym c.is_bracket.ensures ∙ c.if-not-is_bracket.true));
      count = omega (arith, first.1);
    }

pub returns : goal.returns
returns c =
    let first = c.in_ok-word.ensures.cases in
    record {
      parts = λ o. rw (c.split_at.ensures.front, c.split_at.ensures.back)
          (split_bracket o _ _ _ _ first.0 (sym c.is_bracket.ensures ∙ c.if-not-is_bracket.false) c.min.ensures);
      count = omega (arith, first.1);
    }
