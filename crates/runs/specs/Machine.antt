-- A run of a law: document 01, "A run of a law", as a machine with one step. Its words stand beside the cases.
-- "A run is fed a law, one of its functions, any expression [..] and a list of such expressions, the answers of functions not defined."
-- "Its state: what is left to work out or try, the variables' values, the answers left."
-- docs/SPECIFICATION.md, 15.2 to 15.8.
use Rattle.std.specs.Prelude.{ℕ, zero, suc, List, [], ◌∷◌}
use Rattle.std.proofs.Math.Option.{none, some}
use Rattle.names.specs.Name.{folded, folded_index}
use Rattle.law.specs.Tree as tree
use Rattle.law.specs.Tree.{Run, Sentences, no_sentence, sentence, Conditions, no_condition, condition, Function, Law}
use Rattle.law.specs.Definition.{definition}
use Rattle.law.specs.Expression.{Literal, Expression, nothing, symbol, brackets, ◌⊕◌}
use Rattle.law.specs.Symbol.{symbol_of, literal_of}
use Rattle.matching.specs.Pattern.{pattern_of}
use Rattle.matching.specs.Match.{Values, none_bound, value_in, run_matches}

abbrev pub Env : Type 0
Env = Values Literal

-- what is left to try: sentences, for an argument and from the values around them; above these, the matches of one sentence's left side or condition,
-- with the sentence's record and the conditions and the result that follow
pub data Trial : Type 0 where
  sentences : Env → Expression → Sentences → Trial
  ways : List Env → ℕ → Conditions → Run → Trial → Trial

-- what waits for an expression to be worked out. Expression, Run and Env are what was worked out before, what comes after, and the values there
pub data Stack : Type 0 where
  over : Stack
  in_bracket : Expression → Run → Env → Stack → Stack
  in_call : ℕ → List ℕ → Expression → Run → Env → Stack → Stack
  in_block : ℕ → Sentences → Expression → Run → Env → Stack → Stack
  in_place : Expression → Run → Env → Stack → Stack
  in_condition : Run → Env → ℕ → Conditions → Run → Trial → Stack → Stack

pub data State : Type 0 where
  -- a result is worked out: what is left of it, and what it came to so far
  working : Run → Env → Expression → Stack → List Expression → State
  -- "a call is reached once its argument is worked out": its term record, its folded name, its argument
  called : ℕ → List ℕ → Expression → Stack → List Expression → State
  -- a block is reached: its term record, its sentences, the values around it, its argument
  entered : ℕ → Sentences → Env → Expression → Stack → List Expression → State
  -- sentences or matches are tried
  trying : Trial → Stack → List Expression → State
  -- "Once all hold, the sentence is chosen": its record, its result, its values
  chosen : ℕ → Run → Env → Stack → List Expression → State
  -- the run has come to its end with an expression, or was ended
  finished : Expression → State
  stopped : State

-- an expression is worked out. "After a call or block the values before it hold again."
unfoldable pub give : Expression → Stack → List Expression → State
give v over answers = finished v
give v (in_bracket u r env k) answers = working r env (u ⊕ brackets v nothing) k answers
give v (in_call n f u r env k) answers = called n f v (in_place u r env k) answers
give v (in_block n ss u r env k) answers = entered n ss env v (in_place u r env k) answers
give v (in_place u r env k) answers = working r env (u ⊕ v) k answers
give v (in_condition p env i cs r t k) answers = trying (ways (run_matches (pattern_of p) v env) i cs r t) k answers

-- "Where its function is not defined, the call takes the next answer; none left ends the run."
unfoldable pub answered : Stack → List Expression → State
answered k [] = stopped
answered k (a ∷ answers) = give a k answers

unfoldable pub step : Law → State → State
-- "A result is worked out left to right"
step law (working tree.Run.empty env u k answers) = give u k answers
step law (working (tree.Run.symbol a r) env u k answers) = working r env (u ⊕ symbol (literal_of (symbol_of a)) nothing) k answers
-- "a result variable without a value ends the run"
step law (working (tree.Run.variable kind i r) env u k answers) =
    elim (value_in env (record { kind = kind; index = folded_index i.spelled })) as (λ _. State) [
      | some v ↦ working r env (u ⊕ v) k answers
      | none ↦ stopped
    ]
step law (working (tree.Run.bracket q r) env u k answers) = working q env nothing (in_bracket u r env k) answers
step law (working (tree.Run.call m f q r) env u k answers) = working q env nothing (in_call m.at (folded f.spelled) u r env k) answers
step law (working (tree.Run.block m q ss r) env u k answers) = working q env nothing (in_block m.at ss u r env k) answers
-- "Else the function's sentences are tried in order, each with no values at first."
step law (called n f v k answers) =
    elim (definition law f) as (λ _. State) [
      | some ss ↦ trying (sentences none_bound v ss) k answers
      | none ↦ answered k answers
    ]
-- "A block goes like a call, but each of its sentences starts with the values around it."
step law (entered n ss env v k answers) = trying (sentences env v ss) k answers
-- "No sentence chosen ends the run."
step law (trying (sentences env v no_sentence) k answers) = stopped
step law (trying (sentences env v (sentence m p cs r ss)) k answers) = trying (ways (run_matches (pattern_of p) v env) m.at cs r (sentences env v ss)) k answers
step law (trying (ways [] i cs r t) k answers) = trying t k answers
-- "For each match of the left side (the pattern) conditions follow in order: the result is worked out, then each match of the condition's pattern is tried"
step law (trying (ways (env ∷ es) i no_condition r t) k answers) = chosen i r env k answers
step law (trying (ways (env ∷ es) i (condition q p cs) r t) k answers) =
    working q env nothing (in_condition p env i cs r (ways es i (condition q p cs) r t) k) answers
-- "and its result takes the call's place"
step law (chosen i r env k answers) = working r env nothing k answers
step law (finished v) = finished v
step law stopped = stopped

-- so many steps
unfoldable pub steps : Law → ℕ → State → State
steps law zero state = state
steps law (suc n) state = step law (steps law n state)

-- "It starts by reaching a call of that function on that expression." That call has no record; its function is this one, also where a later one has its
-- name. "A run may be cut off after any step"
unfoldable pub run : Law → Function → Expression → List Expression → ℕ → State
run law f v answers n = steps law n (trying (sentences none_bound v f.sentences) over answers)
