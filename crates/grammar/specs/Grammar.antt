-- The grammar of a law typed as text, without a reader: phrases, and the tokens that spell each of them.
-- Document 02, R-1: "Taken: functions with one or more sentences, `$ENTRY` before a function, `$EXTERN` lists, s., t. and e. variables, single-quoted runs of one or
-- more characters, none `'` or backslash, identifiers, decimal numbers, brackets, calls, conditions, and `/* */` comments, which do not nest. Patterns hold no calls; a
-- text may hold no function. A function's last semicolon may be missing." Tokens are those of the lexical grammar (`Rattle.tokens`, specs/Token.antt).
--
--   text       = { extern | [ "$ENTRY" ] function }
--   extern     = "$EXTERN" identifier { "," identifier } ";"
--   function   = identifier "{" sentence { ";" sentence } [ ";" ] "}"
--   sentence   = pattern { "," result ":" pattern } "=" result
--   result     = { atom | "(" result ")" | "<" identifier result ">" }
--   pattern    = { atom | "(" pattern ")" }
--   atom       = identifier | number | variable | quoted
--
-- Patterns and results are both `Terms`; that a pattern holds no call is asked by `text_allowed`.
-- docs/SPECIFICATION.md, 19.5.
use Rattle.std.specs.Prelude.{ℕ, List, [], ◌∷◌, Bool, true, false, ◌&&◌, ◌≡◌}
use Rattle.tokens.specs.Token.{Sign, left_brace, right_brace, left_bracket, right_bracket, left_angle, right_angle, comma, colon, equals, semicolon, dollar_entry, dollar_extern, Atom, identifier, sign, atom, Piece, pieces_bytes, Lexed, Placed, placed}

-- a sign, an atom and an identifier at a byte
abbrev pub sign_at : ℕ → Sign → Placed
sign_at at g = record { start = at; what = sign g }

abbrev pub atom_at : ℕ → Atom → Placed
atom_at at a = record { start = at; what = atom a }

-- an identifier by its bytes, and where it starts
pub record Identifier : Type 0 where
  pub start : ℕ
  pub spelled : List ℕ

abbrev pub identifier_at : Identifier → Placed
identifier_at i = atom_at i.start (identifier i.spelled)

-- ---- phrases; the numbers say at which bytes signs stand

-- terms in a row: an atom or a bracket or a call, and then the rest
pub data Terms : Type 0 where
  nothing : Terms
  atomic : ℕ → Atom → Terms → Terms
  -- `(`, contents, `)`, rest
  bracket : ℕ → Terms → ℕ → Terms → Terms
  -- `<`, name, argument, `>`, rest
  call : ℕ → Identifier → Terms → ℕ → Terms → Terms

-- the conditions of a sentence
pub data Conditions : Type 0 where
  no_condition : Conditions
  -- `,`, result, `:`, pattern, the conditions after it
  condition : ℕ → Terms → ℕ → Terms → Conditions → Conditions

-- pattern, conditions, `=`, result
pub record Sentence : Type 0 where
  pub pattern : Terms
  pub conditions : Conditions
  pub equals_at : ℕ
  pub result : Terms

-- the sentences of a function, the last with or without a semicolon
pub data Sentences : Type 0 where
  last : Sentence → Sentences
  last_closed : Sentence → ℕ → Sentences
  more : Sentence → ℕ → Sentences → Sentences

-- name, `{`, sentences, `}`
pub record Function : Type 0 where
  pub name : Identifier
  pub left_at : ℕ
  pub sentences : Sentences
  pub right_at : ℕ

-- the names of an `$EXTERN` list, with `,` and `;`
pub data Names : Type 0 where
  last_name : Identifier → ℕ → Names
  more_names : Identifier → ℕ → Names → Names

-- a text: an `$EXTERN` list or a function, with or without `$ENTRY`, and then the rest
pub data Text : Type 0 where
  done : Text
  extern : ℕ → Names → Text → Text
  function : Function → Text → Text
  entry : ℕ → Function → Text → Text

-- ---- the tokens that spell a phrase, in front of those after it; each clause is a rule of the grammar

abbrev pub spell_terms : Terms → List Placed → List Placed
spell_terms nothing after = after
spell_terms (atomic at a rest) after = atom_at at a ∷ spell_terms rest after
spell_terms (bracket l inside r rest) after = sign_at l left_bracket ∷ spell_terms inside (sign_at r right_bracket ∷ spell_terms rest after)
spell_terms (call l f inside r rest) after = sign_at l left_angle ∷ identifier_at f ∷ spell_terms inside (sign_at r right_angle ∷ spell_terms rest after)

abbrev pub spell_conditions : Conditions → List Placed → List Placed
spell_conditions no_condition after = after
spell_conditions (condition c result d pattern rest) after =
    sign_at c comma ∷ spell_terms result (sign_at d colon ∷ spell_terms pattern (spell_conditions rest after))

abbrev pub spell_sentence : Sentence → List Placed → List Placed
spell_sentence x after = spell_terms x.pattern (spell_conditions x.conditions (sign_at x.equals_at equals ∷ spell_terms x.result after))

abbrev pub spell_sentences : Sentences → List Placed → List Placed
spell_sentences (last x) after = spell_sentence x after
spell_sentences (last_closed x c) after = spell_sentence x (sign_at c semicolon ∷ after)
spell_sentences (more x c rest) after = spell_sentence x (sign_at c semicolon ∷ spell_sentences rest after)

abbrev pub spell_function : Function → List Placed → List Placed
spell_function f after = identifier_at f.name ∷ sign_at f.left_at left_brace ∷ spell_sentences f.sentences (sign_at f.right_at right_brace ∷ after)

abbrev pub spell_names : Names → List Placed → List Placed
spell_names (last_name i c) after = identifier_at i ∷ sign_at c semicolon ∷ after
spell_names (more_names i c rest) after = identifier_at i ∷ sign_at c comma ∷ spell_names rest after

abbrev pub spell_text : Text → List Placed
spell_text done = []
spell_text (extern at names rest) = sign_at at dollar_extern ∷ spell_names names (spell_text rest)
spell_text (function f rest) = spell_function f (spell_text rest)
spell_text (entry at f rest) = sign_at at dollar_entry ∷ spell_function f (spell_text rest)

-- ---- "Patterns hold no calls"

-- terms without calls
abbrev pub call_free : Terms → Bool
call_free nothing = true
call_free (atomic at a rest) = call_free rest
call_free (bracket l inside r rest) = call_free inside && call_free rest
call_free (call l f inside r rest) = false

-- all patterns are without calls
abbrev pub conditions_allowed : Conditions → Bool
conditions_allowed no_condition = true
conditions_allowed (condition c result d pattern rest) = call_free pattern && conditions_allowed rest

abbrev pub sentence_allowed : Sentence → Bool
sentence_allowed x = call_free x.pattern && conditions_allowed x.conditions

abbrev pub sentences_allowed : Sentences → Bool
sentences_allowed (last x) = sentence_allowed x
sentences_allowed (last_closed x c) = sentence_allowed x
sentences_allowed (more x c rest) = sentence_allowed x && sentences_allowed rest

abbrev pub text_allowed : Text → Bool
text_allowed done = true
text_allowed (extern at names rest) = text_allowed rest
text_allowed (function f rest) = sentences_allowed f.sentences && text_allowed rest
text_allowed (entry at f rest) = sentences_allowed f.sentences && text_allowed rest

-- ---- the grammar

-- these bytes are a text of the grammar, and this is its phrase
pub record Written (bytes : List ℕ) (text : Text) : Type 0 where
  pub pieces : List Piece
  pub lexed : Lexed pieces
  pub whole : pieces_bytes pieces ≡ bytes
  pub allowed : text_allowed text ≡ true
  pub spelled : spell_text text ≡ placed 0 pieces
