-- `holds` decides whether there is a part to look at; then one law for each return (proofs/Fields.antt).
use Rattle.std.proofs.Common.{◌∙◌, sym}
use Rattle.names.specs.Name.{number_allowed}
use Rattle.file.proofs.Fields.{spelled_past, spelled_test}
use Rattle.file.proofs.Text.has_number.Goals as goal

pub returns-then-holds : goal.returns-then-holds
returns-then-holds c = c.is_number.ensures ∙ spelled_test number_allowed _ _ _ _ (sym c.holds.ensures ∙ c.if-holds.true) c.name_in.ensures

pub returns-else-holds : goal.returns-else-holds
returns-else-holds c = c.if-holds.false ∙ sym (spelled_past number_allowed _ _ _ (sym c.holds.ensures ∙ c.if-holds.false))
