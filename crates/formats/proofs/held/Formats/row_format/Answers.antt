use Rattle.law.proofs.Allowed.{accepted_readable}
use Rattle.formats.proofs.CallLaws.{store_asked}
use Rattle.formats.proofs.SentenceLaws.{holding_of, holding_stored, holding_knows}
use Rattle.formats.proofs.TurnLaws.{row_asked}
use Rattle.formats.proofs.held.Formats.row_format.Goals as goal

pub invariant_of-placed : goal.invariant_of-placed
invariant_of-placed c =
    let formats = c.args.self.now in
    record { readable = accepted_readable _ formats.law.accepted; places = formats.places; small = formats.small }

pub row_format-requires : goal.row_format-requires
row_format-requires c =
    let formats = c.args.self.now in
    let asked = store_asked formats.law.law.indexed (accepted_readable _ formats.law.accepted) formats.places formats.small _ c.names.ensures in
    (row_asked asked c.requires.0 (holding_stored _ (holding_of formats.holding) c.names.ensures formats.small) c.requires.1, c.requires.1)

pub returns : goal.returns
returns c =
    let formats = c.args.self.now in
    c.row_format.ensures _ (holding_knows _ _ _ formats.places (holding_of formats.holding) c.names.ensures formats.small)
