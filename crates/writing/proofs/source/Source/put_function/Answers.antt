use Rattle.std.proofs.Common.{arith, sym, ◌∙◌, refl}
use borrow.Author.Tests.{eqb-true, eqb-false}
use Rattle.writing.proofs.HeldLaws.{kinds_size}
use Rattle.writing.proofs.SectionLaws.{put_no_record, put_record}
use Rattle.writing.proofs.FunctionLaws.{function_unnamed, function_unopened, function_found}
use Rattle.writing.proofs.source.Source.put_function.Goals as goal
use Rattle.writing.proofs.source.Source.put_function.Goals.{then-not-is_at-via-then-not-is_at, then-not-is_at-via-else-not-is_at+then-not-is_at-2}

pub returns-then-not-is_at : goal.returns-then-not-is_at
returns-then-not-is_at c =
    let l = kinds_size c.args.self.now.tokens.now in
    elim c.then-not-is_at.branch [
      | then-not-is_at-via-then-not-is_at w ↦ (
        omega arith,
        omega arith,
        λ ts h. put_no_record _ _ (function_unnamed h (omega (arith, l, c.requires.1)) refl (eqb-false _ _ (sym c.is_at.ensures ∙ w.if-not-is_at.true))),
      )
      | then-not-is_at-via-else-not-is_at+then-not-is_at-2 w ↦ (
        omega arith,
        omega arith,
        λ ts h.
            put_no_record _ _
            (function_unopened h (omega (arith, l, c.requires.1)) refl refl (eqb-false _ _ (sym w.is_at-else-not-is_at.ensures ∙ w.if-not-is_at-2.true))),
      )
    ]

pub returns : goal.returns
returns c =
    let l = kinds_size c.args.self.now.tokens.now in
    let put = c.put_record.ensures in (
      omega (arith, put.0),
      omega (arith, put.0),
      λ ts h.
          put_record _
          (function_found h (omega (arith, l, c.requires.1)) refl refl (eqb-true _ _ (sym c.is_at.ensures ∙ c.if-not-is_at.false))
          (eqb-true _ _ (sym c.is_at-else-not-is_at.ensures ∙ c.if-not-is_at-2.false)) c.start_at-start.ensures.0 c.end_at.ensures.0 c.saturating_sub-size.ensures
          c.count-count.ensures c.place_of.ensures.0 c.end_at-end.ensures.0)
          put.1,
    )
