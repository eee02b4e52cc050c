use Rattle.std.proofs.Common.{◌∙◌, ap, refl, take, length}
use lib.Dec.{eqb}
use Rattle.std.specs.Cmp.Lexicographic.{pointwise}
use Rattle.tokens.proofs.CharacterLaws.{rest_of}
use Rattle.tokens.proofs.PieceLaws.{same_begins}
use Rattle.tokens.proofs.pieces.stands_at.Goals as goal

pub returns : goal.returns
returns c =
    let bytes = c.args.bytes.now in
    c.starts_with.ensures.value ∙ ap (λ s. pointwise eqb bytes (take (length bytes) s)) (rest_of c.args.text.now c.args.at _ refl) ∙ same_begins bytes _
