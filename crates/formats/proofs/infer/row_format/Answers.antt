use Rattle.std.proofs.Common.{refl, ap, ◌∙◌, replicate}
use Rattle.shapes.specs.Code.Rows.{row_next, row_opens}
use Rattle.formats.proofs.RowLaws.{ends_itself}
use Rattle.formats.proofs.TurnLaws.{row_cleared, made_over, made_written}
use Rattle.formats.proofs.infer.row_format.Goals as goal

pub write_row-requires : goal.write_row-requires
write_row-requires c = row_cleared c.requires.0 c.fill.ensures.len

pub returns-in_default : goal.returns-in_default
returns-in_default c = λ t knows.
    made_over _ _ _ _ (c.fill.ensures.len ∙ c.requires.1) refl (c.in_default.ensures.row t knows) (c.write_row.auto.out ∙ c.fill.ensures.len ∙ c.requires.1)
    (c.fill-in_default.ensures.after (λ y e. e))

pub returns : goal.returns
returns c = λ t knows.
    made_written _ _ _ _ (row_next c.in-Some.end) (row_opens c.in-Some.end) (c.fill.ensures.after (λ y e. e) ∙ ap (λ n. replicate n 0) c.requires.1) (c.fill.ensures.len ∙ c.requires.1) (ends_itself _)
    (rw (c.next.ensures, c.is_open.ensures) at c.header_word.ensures) (c.in-Some.ensures.row t knows)
