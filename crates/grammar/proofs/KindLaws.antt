-- The machine over kinds of tokens is the machine over tokens, `kinds_accepted`; and the loop that runs it.
use Prim.Native.Nat.{ℕ, zero, suc, ◌+◌, ◌≤◌, ◌<◌}
use mathlib.Core.List.{List, [], ◌∷◌}
use mathlib.Core.Bool.{Bool, false, cond}
use mathlib.Core.Option.{none, some}
use mathlib.Core.Path.{◌≡◌, refl, sym, ap, ◌∙◌, fun_ext}
use native.Mathlib.Omega.{arith}
use native.Mathlib.Numerals.{add-one}
use lib.ListN.{length, drop, get_or, drop_of_length-le}
use lib.Seq.{drop-cons}
use borrow.Author.Tests.{ne_eqb}
use Rattle.std.proofs.Common.{Option, Some, None, eqb}
use Rattle.std.proofs.lemmas.List.{get_or-map, length-map}
use Rattle.law.specs.Tree.{symbol_kind, term_kind, expression_kind}
use Rattle.tokens.specs.Token.{left_brace, right_brace, left_bracket, right_bracket, left_angle, right_angle, comma, colon, equals, semicolon}
use Rattle.tokens.specs.Token.{dollar_entry, dollar_extern, identifier, number, variable, quoted, Token, sign, atom, Piece, Placed, placed}
use Rattle.tokens.specs.Lex.{lex}
use Rattle.tokens.specs.Code.TokenKind.{token_kind, kind_code, NoKind}
use Rattle.tokens.specs.Code.Arrays.{kinds_of, kinds_in}
use Rattle.tokens.specs.declared.kinds.Kind.{Kind}
use Rattle.tokens.specs.declared.kinds.Kind.TheVariants.{Identifier, LeftBrace, RightBrace, LeftBracket, RightBracket, LeftAngle, RightAngle}
use Rattle.tokens.specs.declared.kinds.Kind.TheVariants.{Comma, Colon, Equals, Semicolon, Entry, Extern}
use Rattle.tokens.specs.declared.Lexeme.{Lexeme}
use Rattle.grammar.specs.Parse.{phrase}
use Rattle.grammar.specs.Accept.{Opened, open_of, other_move, move, perform, may_end, accepts}
use Rattle.grammar.specs.Read.{phrase_of}
use Rattle.grammar.specs.Code.Machine.{stack_of, open_in, stepped, StepDone, mode_ends, kind_move, accepts_kinds}
use Rattle.grammar.specs.declared.table.Mode.{Mode}
use Rattle.grammar.specs.declared.table.Mode.TheVariants.{AtText, AfterEntry, AfterName, AtExtern, InExtern, InPattern}
use Rattle.grammar.specs.declared.table.Mode.TheVariants.{InCondition, InResult, AfterSemicolon, ConditionCall, ResultCall}
use Rattle.grammar.specs.declared.table.Move.{Move}
use Rattle.grammar.specs.declared.stack.Pair.{Pair}
use Rattle.grammar.specs.declared.stack.Pair.TheVariants.{Bracket}
use Rattle.grammar.specs.declared.stack.Stack.{Stack}

kind_move_lem : (t : Token) (m : Mode) → kind_move (token_kind t) m ≡ move t m
kind_move_lem (sign left_brace) m = refl
kind_move_lem (sign right_brace) m = refl
kind_move_lem (sign left_bracket) m = refl
kind_move_lem (sign right_bracket) m = refl
kind_move_lem (sign left_angle) m = refl
kind_move_lem (sign right_angle) m = refl
kind_move_lem (sign comma) m = refl
kind_move_lem (sign colon) m = refl
kind_move_lem (sign equals) m = refl
kind_move_lem (sign semicolon) m = refl
kind_move_lem (sign dollar_entry) m = refl
kind_move_lem (sign dollar_extern) m = refl
kind_move_lem (atom (identifier w)) m = refl
kind_move_lem (atom (number w)) m = refl
kind_move_lem (atom (variable symbol_kind w)) m = refl
kind_move_lem (atom (variable term_kind w)) m = refl
kind_move_lem (atom (variable expression_kind w)) m = refl
kind_move_lem (atom (quoted w)) m = refl

-- a number that no kind has moves as an atom that is no name
pub no_kind_move : (k : ℕ) (m : Mode) → NoKind k → other_move m ≡ kind_move k m
no_kind_move k m h =
    let apart : (kind : Kind) → eqb k (kind_code kind) ≡ false = λ kind. ne_eqb k (kind_code kind) (λ e. h kind (sym e)) in
    rw (
      apart Identifier,
      apart LeftBracket,
      apart RightBracket,
      apart LeftAngle,
      apart RightAngle,
      apart Comma,
      apart Colon,
      apart Equals,
      apart Semicolon,
      apart LeftBrace,
      apart RightBrace,
      apart Entry,
      apart Extern,
    )

-- the machine over kinds is the machine over tokens
pub kinds_accepted : (ts : List Placed) (m : Mode) (st : List Opened) → accepts_kinds m st (kinds_of ts) ≡ accepts m st ts
kinds_accepted [] m st = refl
kinds_accepted (p ∷ ps) m st =
    rw (kind_move_lem p.what m) (ap (perform (move p.what m) st) (fun_ext (λ n. fun_ext (λ rest. kinds_accepted ps n rest))))

-- so the code's two passes decide the phrase of a text
pub unlexed_phrase : (bytes : List ℕ) → lex bytes ≡ none → phrase_of bytes ≡ none
unfolding phrase_of
unlexed_phrase bytes e = rw e

pub kinds_phrase : (bytes : List ℕ) (ps : List Piece) → lex bytes ≡ some ps
    → phrase_of bytes ≡ cond (accepts_kinds AtText [] (kinds_of (placed 0 ps))) (some (phrase (placed 0 ps))) none
unfolding phrase_of
kinds_phrase bytes ps e = rw (e, kinds_accepted (placed 0 ps) AtText [])

no_end_open : (n : Mode) (o : Opened) (st : List Opened) → may_end n (o ∷ st) ≡ false
no_end_open AtText o st = refl
no_end_open AfterEntry o st = refl
no_end_open AfterName o st = refl
no_end_open AtExtern o st = refl
no_end_open InExtern o st = refl
no_end_open InPattern o st = refl
no_end_open InCondition o st = refl
no_end_open InResult o st = refl
no_end_open AfterSemicolon o st = refl
no_end_open ConditionCall o st = refl
no_end_open ResultCall o st = refl

never : (n : Mode) (d : ℕ) (stack : List Pair) → (d ≡ 0 → ⊥) → may_end n (stack_of d stack) ≡ false
unfolding stack_of
never n zero stack o = absurd (o refl)
never n (suc d) stack o = no_end_open n (open_of (get_or stack d Bracket)) (stack_of d stack)

-- ---- the loop: what is left decides

-- the kinds from i on decide, in this mode and with this stack
pub record Left (ks : List ℕ) (i : ℕ) (m : Mode) (stack : Stack) : Type 0 where
  pub inside : i ≤ length ks
  pub low : stack.depth ≤ i
  pub left : accepts_kinds AtText [] ks ≡ accepts_kinds m (open_in stack) (drop i ks)

-- nothing is read yet
pub left_start : (ks : List ℕ) (stack : Stack) → stack.depth ≡ 0 → Left ks 0 AtText stack
unfolding stack_of
left_start ks stack h = record { inside = omega arith; low = omega arith; left = rw h }

module _ {ks : List ℕ} {i : ℕ} {m : Mode} {stack : Stack} (h : Left ks i m stack) where
  one : i < length ks → (r : Option Mode) (after : Stack) → StepDone (kind_move (get_or ks i 0) m) stack r after
      → accepts_kinds AtText [] ks ≡ stepped r (open_in after) (λ n rest. accepts_kinds n rest (drop (suc i) ks))
  one l r after d = h.left ∙ rw (drop-cons ks i 0 l) (d.same (λ n rest. accepts_kinds n rest (drop (suc i) ks)))

  -- a token that is refused
  pub left_refused : {k : Move} {after : Stack} → i < length ks → k ≡ kind_move (get_or ks i 0) m → StepDone k stack None after → false ≡ accepts_kinds AtText [] ks
  left_refused {after = after} l e d = sym (one l None after (rw e at d))

  -- a token more
  pub left_next : {k : Move} {n : Mode} {after : Stack} → i < length ks → k ≡ kind_move (get_or ks i 0) m → StepDone k stack (Some n) after → Left ks (i + 1) n after
  left_next {n = n} {after = after} l q d =
      let step : StepDone (kind_move (get_or ks i 0) m) stack (Some n) after = rw q at d in
      record {
        inside = omega arith;
        low = omega (arith, step.bound, h.low);
        left = rw (add-one i) (one l (Some n) after step);
      }

  -- the tokens end where something is open
  pub left_open : length ks ≤ i → (stack.depth ≡ 0 → ⊥) → false ≡ accepts_kinds AtText [] ks
  left_open l o = sym (h.left ∙ rw (drop_of_length-le ks {i = i} l) (never m stack.depth stack.places o))

  -- the tokens end where nothing is open
  pub left_end : {t : Bool} → length ks ≤ i → stack.depth ≡ 0 → t ≡ mode_ends m → t ≡ accepts_kinds AtText [] ks
  unfolding stack_of
  left_end l o e = e ∙ sym (h.left ∙ rw (drop_of_length-le ks {i = i} l, o))

-- the kind of the token at a place
kind_there : (tokens : List Lexeme) (i : ℕ) (d : Lexeme) → i < length tokens → get_or (kinds_in tokens) i 0 ≡ kind_code (get_or tokens i d).kind
kind_there tokens i d l = get_or-map (λ x. kind_code x.kind) tokens i d 0 l

pub kinds_length : (tokens : List Lexeme) → length (kinds_in tokens) ≡ length tokens
kinds_length tokens = length-map tokens (λ x. kind_code x.kind)

pub move_there : (tokens : List Lexeme) (i : ℕ) (d : Lexeme) (m : Mode) (k : Move) → i < length tokens → k ≡ kind_move (kind_code (get_or tokens i d).kind) m
    → (i < length (kinds_in tokens)) × (k ≡ kind_move (get_or (kinds_in tokens) i 0) m)
move_there tokens i d m k l e = (omega (arith, kinds_length tokens), e ∙ ap (λ n. kind_move n m) (sym (kind_there tokens i d l)))
