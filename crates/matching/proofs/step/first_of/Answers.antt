use Rattle.std.proofs.Common.{sym, ap, ◌∙◌, inl, inr}
use Rattle.matching.specs.Code.Part.{atom_of}
use Rattle.matching.proofs.StepLaws as laws
use Rattle.matching.proofs.step.first_of.Goals as goal

pub returns-in-Symbol : goal.returns-in-Symbol
returns-in-Symbol c = c.symbols_first.ensures _ _ (sym c.term_at.ensures ∙ c.in-Symbol.is)

pub returns-in-SVariable : goal.returns-in-SVariable
returns-in-SVariable c = elim c.in-SVariable.is [
  | inl (a, b, e) ↦ c.variable_first.ensures _ (ap (atom_of c.args.records.now.text.now) (sym c.term_at.ensures ∙ e))
  | inr (inl (a, b, e)) ↦ c.variable_first.ensures _ (ap (atom_of c.args.records.now.text.now) (sym c.term_at.ensures ∙ e))
  | inr (inr (a, b, e)) ↦ c.variable_first.ensures _ (ap (atom_of c.args.records.now.text.now) (sym c.term_at.ensures ∙ e))
]

pub returns-in-Bracket : goal.returns-in-Bracket
returns-in-Bracket c =
    c.bracket_first.ensures c.args.records.now.text.now c.args.pattern.now _ c.requires.1 (sym c.term_at.ensures ∙ c.in-Bracket.is)

pub returns-in-Call : goal.returns-in-Call
returns-in-Call c = elim c.in-Call.is [
  | inl (a, b, e) ↦ laws.call_fails c.args.records.now.text.now c.args.pattern.now c.args.row.now _ c.requires.1 (sym c.term_at.ensures ∙ e)
  | inr (n, e) ↦ laws.block_fails c.args.records.now.text.now c.args.pattern.now c.args.row.now _ c.requires.1 (sym c.term_at.ensures ∙ e)
]
