-- Kinds with one number are one kind.
use Rattle.std.proofs.Common.{ℕ, ◌≡◌, refl, sym, ap, ◌∙◌, cond, eqb}
use Rattle.tokens.specs.Code.TokenKind.{kind_code}
use Rattle.tokens.specs.declared.kinds.Kind.{Kind}
use Rattle.tokens.specs.declared.kinds.Kind.TheVariants.{Identifier, Number, SymbolVariable, TermVariable, ExpressionVariable, Quoted, LeftBrace, RightBrace, LeftBracket, RightBracket, LeftAngle, RightAngle, Comma, Colon, Equals, Semicolon, Entry, Extern}

abbrev named : ℕ → Kind
named k =
    cond (eqb k 1) Identifier
    (cond (eqb k 2) Number
    (cond (eqb k 3) SymbolVariable
    (cond (eqb k 4) TermVariable
    (cond (eqb k 5) ExpressionVariable
    (cond (eqb k 6) Quoted
    (cond (eqb k 123) LeftBrace
    (cond (eqb k 125) RightBrace
    (cond (eqb k 40) LeftBracket
    (cond (eqb k 41) RightBracket
    (cond (eqb k 60) LeftAngle
    (cond (eqb k 62) RightAngle
    (cond (eqb k 44) Comma
    (cond (eqb k 58) Colon
    (cond (eqb k 61) Equals
    (cond (eqb k 59) Semicolon
    (cond (eqb k 69) Entry Extern))))))))))))))))

named_code : (g : Kind) → named (kind_code g) ≡ g
named_code Identifier = refl
named_code Number = refl
named_code SymbolVariable = refl
named_code TermVariable = refl
named_code ExpressionVariable = refl
named_code Quoted = refl
named_code LeftBrace = refl
named_code RightBrace = refl
named_code LeftBracket = refl
named_code RightBracket = refl
named_code LeftAngle = refl
named_code RightAngle = refl
named_code Comma = refl
named_code Colon = refl
named_code Equals = refl
named_code Semicolon = refl
named_code Entry = refl
named_code Extern = refl

pub same_kind : (g h : Kind) → kind_code g ≡ kind_code h → g ≡ h
same_kind g h e = sym (named_code g) ∙ (ap named e ∙ named_code h)
