use Rattle.std.proofs.Common.{sym, ◌∙◌}
use Rattle.shapes.proofs.FormatLaws.{format_in_length}
use Rattle.formats.proofs.TurnLaws.{joined_long}
use Rattle.formats.proofs.infer.join_into.Goals as goal

pub copy_words-requires : goal.copy_words-requires
copy_words-requires c = joined_long _ _ _ _ c.requires.0 c.requires.1 c.requires.2 c.join_formats.ensures ∙ sym (format_in_length _ _ c.requires.1)
