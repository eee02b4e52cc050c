use Rattle.std.proofs.Common.{arith, ap, ◌∙◌, replicate}
use Rattle.shapes.proofs.FormatLaws.{format_in_length, join_never_left, join_never_right, join_rows_are}
use Rattle.shapes.proofs.join_formats.Goals as goal

pub copy_words-requires : goal.copy_words-requires
copy_words-requires c = omega (arith, format_in_length _ _ c.requires.2)

pub copy_words-requires-in_default-None : goal.copy_words-requires-in_default-None
copy_words-requires-in_default-None c = omega (arith, format_in_length _ _ c.requires.1)

pub join_rows-end-requires : goal.join_rows-end-requires
join_rows-end-requires c = omega (arith, format_in_length _ _ c.requires.1, c.in-Some-Some.ensures.within, c.fill.ensures.len)

pub header_word-requires : goal.header_word-requires
header_word-requires c = omega (arith, format_in_length _ _ c.requires.1, c.in-Some-Some.ensures.within, c.join_rows-end.ensures.end)

pub returns-in-None-default : goal.returns-in-None-default
returns-in-None-default c = join_never_left _ _ _ _ c.requires.0 c.requires.2 c.in-None-default.ensures c.copy_words.ensures

pub returns-in_default-None : goal.returns-in_default-None
returns-in_default-None c = join_never_right _ _ _ _ c.requires.0 c.requires.1 c.in_default-None.ensures c.copy_words-in_default-None.ensures

pub returns-in-Some-Some : goal.returns-in-Some-Some
returns-in-Some-Some c =
    join_rows_are _ _ _ _ _ _ _ _ _ _ c.in-Some-Some.ensures.same c.in-Some-Some.ensures'.same (c.fill.ensures.after (λ y e. e) ∙ ap (λ n. replicate n 0) c.requires.3)
    (omega (arith, format_in_length _ _ c.requires.1, c.in-Some-Some.ensures.within, c.join_rows-end.ensures.end)) c.join_rows-end.ensures.joined (rw (c.next.ensures, c.is_open.ensures) at c.header_word.ensures)
