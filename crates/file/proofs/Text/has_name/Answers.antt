-- `holds` decides whether there is a part to look at; then one law for each return (proofs/Fields.antt).
use Rattle.std.proofs.Common.{◌∙◌, sym}
use Rattle.names.specs.Name.{name_allowed}
use Rattle.file.proofs.Fields.{spelled_past, spelled_named, spelled_test}
use Rattle.file.proofs.Text.has_name.Goals as goal

pub returns-then-not-holds : goal.returns-then-not-holds
returns-then-not-holds c = sym (spelled_past name_allowed _ _ _ (sym c.holds.ensures ∙ c.if-not-holds.true))

pub returns-then-self : goal.returns-then-self
returns-then-self c =
    c.length_allowed.ensures ∙ spelled_named _ _ _ (sym c.holds.ensures ∙ c.if-not-holds.false) (c.args.self.now.named_means c.if-self.true)

pub returns : goal.returns
returns c = c.is_name.ensures ∙ spelled_test name_allowed _ _ _ _ (sym c.holds.ensures ∙ c.if-not-holds.false) c.name_in.ensures
