-- The grammar as a machine that reads tokens from left to right, which is what the code runs: a mode, and a stack of the brackets and calls that are open.
-- It accepts exactly the tokens that spell a text: `text_taken` of proofs/Machine.antt, `accepted_spells` of proofs/Sound.antt.
--
--   AtText          before `$ENTRY`, `$EXTERN` or a function; the end of a text
--   AfterEntry      after `$ENTRY`
--   AfterName       after a function's name, before `{`
--   AtExtern        before a name of an `$EXTERN` list
--   InExtern        after one
--   InPattern       in a pattern
--   InCondition     in a condition's result
--   InResult        in a sentence's result
--   AfterSemicolon  after a sentence's semicolon: a sentence may begin, or the function end
--   ConditionCall   after `<` in a condition's result, before a name
--   ResultCall      after `<` in a sentence's result, before a name
use Rattle.std.specs.Prelude.{List, [], ◌∷◌, Bool, true, false}
use Rattle.tokens.specs.Token.{Sign, left_brace, right_brace, left_bracket, right_bracket, left_angle, right_angle, comma, colon, equals, semicolon, dollar_entry, dollar_extern, Atom, identifier, number, variable, quoted, Token, sign, atom, Placed}
use Rattle.grammar.specs.declared.stack.Pair.{Pair}
use Rattle.grammar.specs.declared.stack.Pair.TheVariants.{Bracket, Call}
use Rattle.grammar.specs.declared.table.Mode.{Mode}
use Rattle.grammar.specs.declared.table.Mode.TheVariants.{AtText, AfterEntry, AfterName, AtExtern, InExtern, InPattern, InCondition, InResult, AfterSemicolon, ConditionCall, ResultCall}
use Rattle.grammar.specs.declared.table.Move.{Move}
use Rattle.grammar.specs.declared.table.Move.TheVariants.{Refuse, Stay, Leave, Open, Close}

-- ---- moves

-- what may be open
pub data Opened : Type 0 where
  bracket_open call_open : Opened

-- a bracket or a call, as moves have it
abbrev pub open_of : Pair → Opened
open_of Bracket = bracket_open
open_of Call = call_open

abbrev pub pair_of : Opened → Pair
pair_of bracket_open = Bracket
pair_of call_open = Call

-- a move that opens, and one that closes
abbrev pub opening : Opened → Mode → Move
opening o m = Open (pair_of o) m

abbrev pub closing : Opened → Mode → Move
closing o m = Close (pair_of o) m

-- a move for each mode
abbrev pub by_mode : (a b c d e f g h i j k : Move) → Mode → Move
by_mode a b c d e f g h i j k AtText = a
by_mode a b c d e f g h i j k AfterEntry = b
by_mode a b c d e f g h i j k AfterName = c
by_mode a b c d e f g h i j k AtExtern = d
by_mode a b c d e f g h i j k InExtern = e
by_mode a b c d e f g h i j k InPattern = f
by_mode a b c d e f g h i j k InCondition = g
by_mode a b c d e f g h i j k InResult = h
by_mode a b c d e f g h i j k AfterSemicolon = i
by_mode a b c d e f g h i j k ConditionCall = j
by_mode a b c d e f g h i j k ResultCall = k

-- a move at a text, after `$ENTRY`, after a function's name and before one of a list; none elsewhere
abbrev pub at_names : (a b c d : Move) → Mode → Move
at_names a b c d = by_mode a b c d Refuse Refuse Refuse Refuse Refuse Refuse Refuse

-- a move after a name of a list, in a pattern, in a condition's result, in a sentence's result and after a semicolon; none elsewhere
abbrev pub in_lists : (e f g h i : Move) → Mode → Move
in_lists e f g h i = by_mode Refuse Refuse Refuse Refuse e f g h i Refuse Refuse

-- the same without lists of names
abbrev pub in_terms : (f g h i : Move) → Mode → Move
in_terms f g h i = in_lists Refuse f g h i

-- a sign
abbrev pub sign_move : Sign → Mode → Move
sign_move left_bracket = in_terms (opening bracket_open InPattern) (opening bracket_open InCondition) (opening bracket_open InResult) (opening bracket_open InPattern)
sign_move right_bracket = in_terms (closing bracket_open InPattern) (closing bracket_open InCondition) (closing bracket_open InResult) Refuse
sign_move left_angle = in_terms Refuse (opening call_open ConditionCall) (opening call_open ResultCall) Refuse
sign_move right_angle = in_terms Refuse (closing call_open InCondition) (closing call_open InResult) Refuse
sign_move left_brace = at_names Refuse Refuse (Leave InPattern) Refuse
sign_move right_brace = in_terms Refuse Refuse (Leave AtText) (Leave AtText)
sign_move comma = in_lists (Leave AtExtern) (Leave InCondition) Refuse Refuse (Leave InCondition)
sign_move colon = in_terms Refuse (Leave InPattern) Refuse Refuse
sign_move equals = in_terms (Leave InResult) Refuse Refuse (Leave InResult)
sign_move semicolon = in_lists (Leave AtText) Refuse Refuse (Leave AfterSemicolon) Refuse
sign_move dollar_entry = at_names (Leave AfterEntry) Refuse Refuse Refuse
sign_move dollar_extern = at_names (Leave AtExtern) Refuse Refuse Refuse

-- an identifier: a name before a function, of a list or of a call, or a term
abbrev pub identifier_move : Mode → Move
identifier_move =
    by_mode (Leave AfterName) (Leave AfterName) Refuse (Leave InExtern) Refuse (Stay InPattern) (Stay InCondition) (Stay InResult) (Stay InPattern) (Stay InCondition) (Stay InResult)

-- a number, a variable or a quoted run: a term
abbrev pub other_move : Mode → Move
other_move = in_terms (Stay InPattern) (Stay InCondition) (Stay InResult) (Stay InPattern)

-- an atom
abbrev pub atom_move : Atom → Mode → Move
atom_move (identifier w) = identifier_move
atom_move (number w) = other_move
atom_move (variable k w) = other_move
atom_move (quoted w) = other_move

-- what a token does in a mode
abbrev pub move : Token → Mode → Move
move (sign g) = sign_move g
move (atom a) = atom_move a

-- ---- the machine

-- what is open last is closed, and then it goes on
abbrev pub closed_by : Opened → List Opened → (List Opened → Bool) → Bool
closed_by o [] then = false
closed_by bracket_open (bracket_open ∷ st) then = then st
closed_by bracket_open (call_open ∷ st) then = false
closed_by call_open (call_open ∷ st) then = then st
closed_by call_open (bracket_open ∷ st) then = false

-- a move, and then it goes on
abbrev pub perform : Move → List Opened → (Mode → List Opened → Bool) → Bool
perform Refuse st then = false
perform (Stay m) st then = then m st
perform (Leave m) [] then = then m []
perform (Leave m) (o ∷ st) then = false
perform (Open n m) st then = then m (open_of n ∷ st)
perform (Close n m) st then = closed_by (open_of n) st (then m)

-- where a text may end
abbrev pub may_end : Mode → List Opened → Bool
may_end AtText [] = true
may_end AtText (o ∷ st) = false
may_end AfterEntry st = false
may_end AfterName st = false
may_end AtExtern st = false
may_end InExtern st = false
may_end InPattern st = false
may_end InCondition st = false
may_end InResult st = false
may_end AfterSemicolon st = false
may_end ConditionCall st = false
may_end ResultCall st = false

-- the tokens from here on
abbrev pub accepts : Mode → List Opened → List Placed → Bool
accepts m st [] = may_end m st
accepts m st (p ∷ ps) = perform (move p.what m) st (λ n rest. accepts n rest ps)
