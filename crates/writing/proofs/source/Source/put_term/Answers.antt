use Rattle.std.proofs.Common.{◌≡◌, ◌<◌, ◌⊎◌, inl, inr, [], arith, sym, ◌∙◌, ap, refl, get_or, drop, length}
use Rattle.tokens.specs.Code.Arrays.{kinds_in}
use Rattle.tokens.specs.declared.kinds.Kind.TheVariants.{LeftBracket, LeftAngle}
use Rattle.encoding.specs.Code.FlatTerms.{Where, outside, calling, terms_at}
use Rattle.writing.specs.declared.terms.Place.{Place}
use Rattle.writing.specs.declared.terms.Place.TheVariants.{Outside, Calling}
use Rattle.writing.specs.Code.Held.{at_first}
use Rattle.writing.proofs.KindLaws.{same_kind}
use Rattle.tokens.specs.Code.TokenKind.{kind_code}
use Rattle.writing.specs.Code.Place.{where_of}
use Rattle.writing.proofs.HeldLaws.{kinds_size, kind_there, start_there, end_there}
use Rattle.writing.proofs.SectionLaws.{put_no_record}
use Rattle.writing.proofs.TermLaws.{term_bracket, term_call, term_atom, outside_none, calling_none}
use Rattle.writing.proofs.source.Source.put_term.Goals as goal

pub returns-in-LeftBracket : goal.returns-in-LeftBracket
returns-in-LeftBracket c =
    let tokens = c.args.self.now.tokens.now in
    let l = kinds_size tokens in
    let kind = kind_there tokens c.args.i _ c.requires.2 in (
      omega (arith, c.put_bracket.ensures.0),
      omega (arith, c.put_bracket.ensures.0),
      λ ts n st. rw (term_bracket n.held (omega (arith, l, c.requires.2)) refl (where_of c.args.place) (sym kind ∙ ap kind_code c.in-LeftBracket.is)) (c.put_bracket.ensures.1 ts n),
    )

pub returns-in-LeftAngle : goal.returns-in-LeftAngle
returns-in-LeftAngle c =
    let tokens = c.args.self.now.tokens.now in
    let l = kinds_size tokens in
    let sixty : get_or (kinds_in tokens) c.args.i 0 ≡ 60 = sym (kind_there tokens c.args.i _ c.requires.2) ∙ ap kind_code c.in-LeftAngle.is in (
      omega (arith, c.put_call.ensures.0),
      omega (arith, c.put_call.ensures.0),
      λ ts n st. rw (term_call n.held (omega (arith, l, c.requires.2)) refl (where_of c.args.place) (λ z. omega arith) sixty) (c.put_call.ensures.1 ts n),
    )

pub returns-in-Inside : goal.returns-in-Inside
returns-in-Inside c =
    let tokens = c.args.self.now.tokens.now in
    let l = kinds_size tokens in
    let i = c.args.i in (
      c.put_atom.ensures.0,
      c.put_atom.ensures.1,
      λ ts n st.
          rw c.in-Inside.is
          (term_atom n.held (omega (arith, l, c.requires.2)) (kind_there tokens i _ c.requires.2) (λ z. c.in_default.not-LeftBracket (same_kind _ LeftBracket z))
          (λ z. c.in_default.not-LeftAngle (same_kind _ LeftAngle z)) c.args.self.now.text.now st (start_there tokens i _ c.requires.2)
          (end_there tokens i _ c.requires.2) c.put_atom.ensures.2),
    )

none_here : (w : Place) (P : Where → Type 0) → (w ≡ Outside) ⊎ (w ≡ Calling) → P outside → P calling → P (where_of w)
none_here w P (inl e) o k = rw e o
none_here w P (inr e) o k = rw e k

pub returns-in-Outside : goal.returns-in-Outside
returns-in-Outside c =
    let tokens = c.args.self.now.tokens.now in
    let l = kinds_size tokens in
    let kind = kind_there tokens c.args.i _ c.requires.2 in (
      omega arith,
      omega arith,
      λ ts n st.
          let here : (c.args.i < length (kinds_in tokens)) = omega (arith, l, c.requires.2) in
          put_no_record _ _
          (none_here c.args.place (λ w. at_first (terms_at w) (drop c.args.i ts) ≡ []) c.in-Outside.is
          (outside_none n.held here kind (λ z. c.in_default.not-LeftBracket (same_kind _ LeftBracket z)) (λ z. c.in_default.not-LeftAngle (same_kind _ LeftAngle z)))
          (calling_none n.held here kind (λ z. c.in_default.not-LeftBracket (same_kind _ LeftBracket z)) (λ z. c.in_default.not-LeftAngle (same_kind _ LeftAngle z)))),
    )
