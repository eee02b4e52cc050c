use Rattle.std.proofs.Common.{refl}
use Rattle.formats.proofs.CallLaws.{placed_asked}
use Rattle.formats.proofs.RowLaws.{stored_none}
use Rattle.formats.proofs.SentenceLaws.{holding_stored, holding_knows, pattern_here, result_here, pattern_made, result_made}
use Rattle.formats.proofs.TurnLaws.{row_asked}
use Rattle.formats.proofs.infer.sentence_format.Goals as goal

pub row_format-requires : goal.row_format-requires
row_format-requires c =
    let placed = c.args.placed.now in (
      row_asked (placed_asked placed) (pattern_here _ placed.readable c.requires.1 c.pattern_at.ensures c.pattern.ensures) (stored_none _ _ placed.small) c.requires.2,
      c.requires.2,
    )

pub row_format-requires-in-Result : goal.row_format-requires-in-Result
row_format-requires-in-Result c =
    let placed = c.args.placed.now in (
      row_asked (placed_asked placed) (result_here _ placed.readable c.requires.1 c.result_at.ensures c.result.ensures)
          (holding_stored _ c.requires.0 c.names.ensures placed.small) c.requires.2,
      c.requires.2,
    )

pub returns-in-Pattern : goal.returns-in-Pattern
returns-in-Pattern c = pattern_made _ _ c.row_format.ensures _ refl c.in-Pattern.is c.pattern_at.ensures c.pattern.ensures

pub returns-in-Result : goal.returns-in-Result
returns-in-Result c =
    let placed = c.args.placed.now in
    result_made _ _ c.row_format-in-Result.ensures _ (holding_knows _ _ _ placed.places c.requires.0 c.names.ensures placed.small) c.in-Result.is
    c.result_at.ensures c.result.ensures
