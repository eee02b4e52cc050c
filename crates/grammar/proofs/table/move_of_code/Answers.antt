use Rattle.std.proofs.Common.{◌∙◌}
use Rattle.grammar.proofs.KindLaws.{no_kind_move}
use Rattle.grammar.proofs.table.move_of_code.Goals as goal

pub returns-in-Err : goal.returns-in-Err
returns-in-Err c = c.other_move.ensures ∙ no_kind_move c.args.code c.args.mode c.in-Err.ensures.1
