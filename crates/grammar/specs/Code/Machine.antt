-- The machine of specs/Accept.antt as the code runs it: over kinds of tokens, with the stack in an array.
use Rattle.std.specs.Prelude.{ℕ, zero, suc, ◌+◌, ◌≤◌, List, [], ◌∷◌, Bool, false, cond, ◌≡◌, Option, Some, None, get_or, eqb}
use Rattle.tokens.specs.Token.{left_brace, right_brace, left_bracket, right_bracket, left_angle, right_angle, comma, colon, equals, semicolon, dollar_entry, dollar_extern}
use Rattle.grammar.specs.Accept.{Opened, open_of, sign_move, identifier_move, other_move, perform, may_end}
use Rattle.grammar.specs.declared.stack.Pair.{Pair}
use Rattle.grammar.specs.declared.stack.Pair.TheVariants.{Bracket}
use Rattle.grammar.specs.declared.stack.Stack.{Stack}
use Rattle.grammar.specs.declared.table.Mode.{Mode}
use Rattle.grammar.specs.declared.table.Move.{Move}

-- ---- the stack

-- what is open, by an array of which so many places are used
unfoldable pub stack_of : ℕ → List Pair → List Opened
stack_of zero s = []
stack_of (suc d) s = open_of (get_or s d Bracket) ∷ stack_of d s

abbrev pub open_in : Stack → List Opened
open_in s = stack_of s.depth s.places

-- a step, and then it goes on
abbrev pub stepped : Option Mode → List Opened → (Mode → List Opened → Bool) → Bool
stepped None stack then = false
stepped (Some m) stack then = then m stack

-- a step does what a move does, whatever comes after, and opens at most one place more
pub record StepDone (m : Move) (old : Stack) (r : Option Mode) (new : Stack) : Type 0 where
  pub same : (then : Mode → List Opened → Bool) → perform m (open_in old) then ≡ stepped r (open_in new) then
  pub bound : new.depth ≤ old.depth + 1

-- ---- kinds of tokens, by their numbers

-- may a text end in this mode, where nothing is open?
abbrev pub mode_ends : Mode → Bool
mode_ends m = may_end m []

-- braces, `$ENTRY` and `$EXTERN`, and other atoms
abbrev pub brace_move : ℕ → Mode → Move
brace_move k m =
    cond (eqb k 123) (sign_move left_brace m)
    (cond (eqb k 125) (sign_move right_brace m)
    (cond (eqb k 69) (sign_move dollar_entry m)
    (cond (eqb k 88) (sign_move dollar_extern m)
    (other_move m))))

-- `,`, `:`, `=` and `;`, and those above
abbrev pub separator_move : ℕ → Mode → Move
separator_move k m =
    cond (eqb k 44) (sign_move comma m)
    (cond (eqb k 58) (sign_move colon m)
    (cond (eqb k 61) (sign_move equals m)
    (cond (eqb k 59) (sign_move semicolon m)
    (brace_move k m))))

-- the move of a token by its kind
abbrev pub kind_move : ℕ → Mode → Move
kind_move k m =
    cond (eqb k 1) (identifier_move m)
    (cond (eqb k 40) (sign_move left_bracket m)
    (cond (eqb k 41) (sign_move right_bracket m)
    (cond (eqb k 60) (sign_move left_angle m)
    (cond (eqb k 62) (sign_move right_angle m)
    (separator_move k m)))))

-- the kinds from here on
abbrev pub accepts_kinds : Mode → List Opened → List ℕ → Bool
accepts_kinds m st [] = may_end m st
accepts_kinds m st (k ∷ ks) = perform (kind_move k m) st (λ n rest. accepts_kinds n rest ks)
