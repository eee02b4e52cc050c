use Rattle.std.proofs.Common.{◌≡◌, arith, sym, ◌∙◌}
use Rattle.tokens.specs.Code.TokenKind.{kind_code}
use Rattle.tokens.specs.declared.kinds.Kind.TheVariants.{Quoted}
use Rattle.writing.proofs.KindLaws.{same_kind}
use Rattle.writing.proofs.SectionLaws.{put_no_record, put_record}
use Rattle.writing.proofs.AtomLaws.{kind_word, kind_sign, atom_sign, atom_word, atom_variable, run_of}
use Rattle.writing.proofs.source.Source.put_atom.Goals as goal

pub returns-in-Quoted : goal.returns-in-Quoted
returns-in-Quoted c =
    let put = c.put_characters.ensures in
    let six : kind_code c.args.token.kind ≡ 6 = cc in (
      put.0,
      put.1,
      λ p e s t h.
          let run = run_of c.args.self.now.text.now p e (c.from-start.ensures ∙ s) (c.from-end.ensures ∙ t) h six in
          rw run.records (put.2 run.characters (rw c.saturating_sub-to.ensures run.spans)),
    )

pub returns-in_default-record_kind : goal.returns-in_default-record_kind
returns-in_default-record_kind c =
    let other = λ (z : kind_code c.args.token.kind ≡ 6). c.in_default.not-Quoted (same_kind c.args.token.kind Quoted z) in (
      omega arith,
      omega arith,
      λ p e s t h. put_no_record _ _ (atom_sign p e s t other (kind_sign c.args.token.kind (sym c.in_default-record_kind.ensures) other)),
    )

pub returns-then-kind-lt3 : goal.returns-then-kind-lt3
returns-then-kind-lt3 c =
    let other = λ (z : kind_code c.args.token.kind ≡ 6). c.in_default.not-Quoted (same_kind c.args.token.kind Quoted z) in
    let kind = kind_word c.args.token.kind c.in-Some.kind (sym c.in-Some.ensures) in (
      omega (arith, c.put_record.ensures.0),
      omega (arith, c.put_record.ensures.0),
      λ p e s t h.
          put_record _
          (atom_word p e (c.from-start.ensures ∙ s) (c.from-end.ensures ∙ t) other (omega (arith, kind.1)) c.saturating_sub-size.ensures kind.0
          (omega (arith, kind.0, c.if-kind-lt3.true)))
          c.put_record.ensures.1,
    )

pub returns : goal.returns
returns c =
    let other = λ (z : kind_code c.args.token.kind ≡ 6). c.in_default.not-Quoted (same_kind c.args.token.kind Quoted z) in
    let kind = kind_word c.args.token.kind c.in-Some.kind (sym c.in-Some.ensures) in (
      omega (arith, c.put_record-2.ensures.0),
      omega (arith, c.put_record-2.ensures.0),
      λ p e s t h.
          put_record _
          (atom_variable p e (c.from-start.ensures ∙ s) (c.from-end.ensures ∙ t) other (omega (arith, kind.1)) c.saturating_sub-size.ensures kind.0
          (omega (arith, kind.0, c.if-kind-lt3.false)) c.saturating_sub-name.ensures)
          c.put_record-2.ensures.1,
    )
