-- The phrase of some tokens, guessed without a check: what a text spells is guessed right, `text_read` of proofs/Unique.antt. So no tokens have two phrases, and
-- where the machine of specs/Accept.antt accepts tokens, this is their phrase.
--
-- Tokens are first put, from the last to the first, into rows: terms up to the next sign that no bracket or call uses up. Rows are then read as phrases.
use Rattle.std.specs.Prelude.{ℕ, List, [], ◌∷◌, Bool, true, false}
use Rattle.tokens.specs.Token.{Sign, left_brace, right_brace, left_bracket, right_bracket, left_angle, right_angle, comma, colon, equals, semicolon, dollar_entry, dollar_extern, Atom, identifier, number, variable, quoted, Token, sign, atom, Placed}
use Rattle.grammar.specs.Grammar.{Identifier, Terms, nothing, atomic, bracket, call, no_condition, condition, Sentence, Sentences, last, last_closed, more, Function, Names, last_name, more_names, Text, done, extern, function, entry}

-- ---- rows of terms

-- terms, and then others
infixl 65 ◌⊕◌
abbrev pub ◌⊕◌ : Terms → Terms → Terms
nothing ⊕ u = u
atomic at a rest ⊕ u = atomic at a (rest ⊕ u)
bracket l inside r rest ⊕ u = bracket l inside r (rest ⊕ u)
call l f inside r rest ⊕ u = call l f inside r (rest ⊕ u)

-- terms and the sign after them, with its place; and so on to the end
pub data Rows : Type 0 where
  end : Terms → Rows
  row : Terms → ℕ → Sign → Rows → Rows

-- terms in front of rows
abbrev pub front : Terms → Rows → Rows
front t (end u) = end (t ⊕ u)
front t (row u at g rows) = row (t ⊕ u) at g rows

-- an atom as a name
abbrev pub identifier_bytes : Atom → List ℕ
identifier_bytes (identifier w) = w
identifier_bytes (number w) = []
identifier_bytes (variable k w) = []
identifier_bytes (quoted w) = []

abbrev pub name_at : ℕ → Atom → Identifier
name_at at a = record { start = at; spelled = identifier_bytes a }

abbrev pub unnamed : Identifier
unnamed = record { start = 0; spelled = [] }

-- a call by its contents: the name and then the argument
abbrev pub called : ℕ → Terms → ℕ → Terms
called l nothing r = nothing
called l (atomic at a inside) r = call l (name_at at a) inside r nothing
called l (bracket x inside y rest) r = nothing
called l (call x f inside y rest) r = nothing

-- a bracket or a call, by the row up to its end
abbrev pub bracket_before : ℕ → Rows → Rows
bracket_before l (end t) = end t
bracket_before l (row t r g rows) = front (bracket l t r nothing) rows

abbrev pub call_before : ℕ → Rows → Rows
call_before l (end t) = end t
call_before l (row t r g rows) = front (called l t r) rows

-- a sign, or any token, in front of rows
abbrev pub sign_before : ℕ → Sign → Rows → Rows
sign_before at left_bracket rows = bracket_before at rows
sign_before at left_angle rows = call_before at rows
sign_before at right_bracket rows = row nothing at right_bracket rows
sign_before at right_angle rows = row nothing at right_angle rows
sign_before at left_brace rows = row nothing at left_brace rows
sign_before at right_brace rows = row nothing at right_brace rows
sign_before at comma rows = row nothing at comma rows
sign_before at colon rows = row nothing at colon rows
sign_before at equals rows = row nothing at equals rows
sign_before at semicolon rows = row nothing at semicolon rows
sign_before at dollar_entry rows = row nothing at dollar_entry rows
sign_before at dollar_extern rows = row nothing at dollar_extern rows

abbrev pub token_before : ℕ → Token → Rows → Rows
token_before at (sign g) rows = sign_before at g rows
token_before at (atom a) rows = front (atomic at a nothing) rows

-- the rows of some tokens
unfoldable pub rows_from : List Placed → Rows
rows_from [] = end nothing
rows_from (p ∷ ps) = token_before p.start p.what (rows_from ps)

-- ---- rows as phrases

-- what a sign decides: `,` `}` `$ENTRY` `$EXTERN`, or nothing
pub data Role : Type 0 where
  separates ends enters declares other : Role

abbrev pub role : Sign → Role
role comma = separates
role right_brace = ends
role dollar_entry = enters
role dollar_extern = declares
role left_bracket = other
role left_angle = other
role right_bracket = other
role right_angle = other
role left_brace = other
role colon = other
role equals = other
role semicolon = other

-- terms as a name
abbrev pub name_in : Terms → Identifier
name_in nothing = unnamed
name_in (atomic at a rest) = name_at at a
name_in (bracket l inside r rest) = unnamed
name_in (call l f inside r rest) = unnamed

-- a sentence whose pattern becomes that of a condition, after another pattern
abbrev pub conditioned : Terms → ℕ → Terms → ℕ → Sentence → Sentence
conditioned p c r d x = record { pattern = p; conditions = condition c r d x.pattern x.conditions; equals_at = x.equals_at; result = x.result }

abbrev pub with_condition : Terms → ℕ → Terms → ℕ → Sentences → Sentences
with_condition p c r d (last x) = last (conditioned p c r d x)
with_condition p c r d (last_closed x e) = last_closed (conditioned p c r d x) e
with_condition p c r d (more x e rest) = more (conditioned p c r d x) e rest

-- sentences, where the brace after them stands, and the text after it
abbrev pub Body : Type 0
Body = Sentences × ℕ × Text

-- a sentence without conditions
abbrev pub plain : Terms → ℕ → Terms → Sentence
plain p e r = record { pattern = p; conditions = no_condition; equals_at = e; result = r }

-- nothing, and then `}`
abbrev pub closes_body : Terms → Role → Bool
closes_body nothing ends = true
closes_body nothing separates = false
closes_body nothing enters = false
closes_body nothing declares = false
closes_body nothing other = false
closes_body (atomic at a rest) g = false
closes_body (bracket l inside r rest) g = false
closes_body (call l f inside r rest) g = false

-- do rows begin with `}`, and where does their first sign stand?
abbrev pub brace_next : Rows → Bool
brace_next (end t) = false
brace_next (row t at g rows) = closes_body t (role g)

abbrev pub brace_at : Rows → ℕ
brace_at (end t) = 0
brace_at (row t at g rows) = at

-- a function by its name, `{` and body
abbrev pub function_of : Identifier → ℕ → Body → Function
function_of f l b = record { name = f; left_at = l; sentences = b.0; right_at = b.1 }

-- a body by its first two rows, p before the sign at `at` and r before the sign at c, and what is read after them
abbrev pub body_after : Role → Terms → ℕ → Terms → ℕ → Role → Bool → (later : Body) (after_brace : Text) (tail_at : ℕ) (tail : Text) → Body
body_after separates p at r c h shut later after_brace tail_at tail = (with_condition p at r c later.0, later.1, later.2)
body_after ends p at r c h shut later after_brace tail_at tail = (last (plain p at r), c, after_brace)
body_after enters p at r c h shut later after_brace tail_at tail = (last (plain p at r), c, after_brace)
body_after declares p at r c h shut later after_brace tail_at tail = (last (plain p at r), c, after_brace)
body_after other p at r c ends shut later after_brace tail_at tail = (last (plain p at r), c, after_brace)
body_after other p at r c separates shut later after_brace tail_at tail = (last (plain p at r), c, after_brace)
body_after other p at r c enters shut later after_brace tail_at tail = (last (plain p at r), c, after_brace)
body_after other p at r c declares shut later after_brace tail_at tail = (last (plain p at r), c, after_brace)
body_after other p at r c other true later after_brace tail_at tail = (last_closed (plain p at r) c, tail_at, tail)
body_after other p at r c other false later after_brace tail_at tail = (more (plain p at r) c later.0, later.1, later.2)

-- names by the first row and what is read after it
abbrev pub names_after : Role → Identifier → ℕ → Names × Text → Text → Names × Text
names_after separates i c later tail = (more_names i c later.0, later.1)
names_after ends i c later tail = (last_name i c, tail)
names_after enters i c later tail = (last_name i c, tail)
names_after declares i c later tail = (last_name i c, tail)
names_after other i c later tail = (last_name i c, tail)

-- where rows end too early
abbrev pub no_body : Body
no_body = (last (plain nothing 0 nothing), 0, done)

abbrev pub no_names : Names × Text
no_names = (last_name unnamed 0, done)

-- a function, and the text after it
abbrev pub function_then : Identifier → ℕ → Body → Text
function_then f l b = function (function_of f l b) b.2

-- `$ENTRY`, and then a function
abbrev pub entry_before : ℕ → Text → Text
entry_before at done = done
entry_before at (extern x names rest) = done
entry_before at (function f rest) = entry at f rest
entry_before at (entry x f rest) = done

-- a text by its first row and what is read after it
abbrev pub text_after : Role → Terms → ℕ → (text : Text) (names : Names × Text) (body : Body) → Text
text_after declares t at text names body = extern at names.0 names.1
text_after enters t at text names body = entry_before at text
text_after separates t at text names body = function_then (name_in t) at body
text_after ends t at text names body = function_then (name_in t) at body
text_after other t at text names body = function_then (name_in t) at body

-- rows as a text, as the text after a row, as names and as a body
unfoldable mutual
  pub read_text : Rows → Text
  read_text (end t) = done
  read_text (row t at g rows) = text_after (role g) t at (read_text rows) (read_names rows) (read_body rows)

  pub read_tail : Rows → Text
  read_tail (end t) = done
  read_tail (row t at g rows) = read_text rows

  pub read_names : Rows → Names × Text
  read_names (end t) = no_names
  read_names (row t at g rows) = names_after (role g) (name_in t) at (read_names rows) (read_text rows)

  pub read_body : Rows → Body
  read_body (end t) = no_body
  read_body (row p at g (end r)) = no_body
  read_body (row p at g (row r c h rows)) = body_after (role g) p at r c (role h) (brace_next rows) (read_body rows) (read_text rows) (brace_at rows) (read_tail rows)

-- the phrase of some tokens, where they have one
unfoldable pub phrase : List Placed → Text
phrase ts = read_text (rows_from ts)
