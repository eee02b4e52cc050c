use Rattle.std.proofs.Common.{◌+◌, ap, ◌∙◌, length, sym}
use lib.Seq.{drop-drop}
use Rattle.names.specs.Name.{name_byte}
use Rattle.tokens.specs.Lex.{leading}
use Rattle.tokens.proofs.atoms.identifier_or_variable.Goals as goal

pub returns-in-None : goal.returns-in-None
returns-in-None c =
    let end = c.leading_end.ensures.end name_byte (λ k b l p. p) in
    c.in-None.ensures _ (end ∙ ap (λ r. c.args.at + 1 + length (leading name_byte r)) (sym (drop-drop 1 c.args.at c.args.text.now)))
