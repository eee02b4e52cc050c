use Rattle.std.proofs.Common.{◌≡◌, arith}
use Rattle.tokens.specs.Code.TokenKind.{kind_code}
use Rattle.writing.proofs.WeightLaws.{weight_quoted}
use Rattle.writing.proofs.source.Source.weight.Goals as goal

pub returns-in-Quoted : goal.returns-in-Quoted
returns-in-Quoted c =
    let six : kind_code c.args.token.kind ≡ 6 = cc in (
      c.character_count.ensures.1,
      λ p e s t st.
          weight_quoted p e (λ z. omega (arith, six, z)) (λ z. omega (arith, six, z)) c.args.self.now.text.now c.args.calling c.if-calling.false six s t st
          (rw (← c.from.ensures, ← c.from-in-Quoted.ensures, ← c.saturating_sub-end.ensures) c.character_count.ensures.0),
    )
