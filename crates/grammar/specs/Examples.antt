-- Syntactic corners of document 02's R-1, by computation: texts of the grammar, and texts outside it (refusal 16). Then two texts with their phrases.
use Rattle.std.specs.Prelude.{ℕ, List, [], ◌∷◌, ◌++◌, map, Bool, true, false, ◌≡◌, refl, replicate}
use Prim.Native.String.{String}
use Rattle.std.proofs.Math.Option.{Option, none, some}
use Rattle.names.specs.Name.{every_byte}
use Rattle.law.specs.Text.{bytes_of}
use Rattle.law.specs.Tree.{symbol_kind}
use Rattle.tokens.specs.Token.{utf8, characters_bytes, variable, quoted, unclosed, placed}
use Rattle.tokens.specs.Lex.{leading, begins, character_in, characters_to, index_after, guess, next, lex_from, lex}
use Rattle.grammar.specs.Grammar.{Identifier, nothing, atomic, bracket, call, no_condition, condition, last, last_closed, last_name, Text, done, extern, function, entry}
use Rattle.grammar.specs.Parse.{rows_from, read_text, phrase}
use Rattle.grammar.specs.Read.{phrase_of}

-- ---- how a row is written

-- a text, and whether it is one of the grammar
abbrev Row : Type 0
Row = List ℕ × Bool

abbrev taken : String → Row
taken text = (bytes_of text, true)

abbrev outside : String → Row
outside text = (bytes_of text, false)

abbrev is_text : Option Text → Bool
is_text none = false
is_text (some x) = true

abbrev texts_found : List Row → List Bool
texts_found rows = map (λ (r : Row). is_text (phrase_of r.0)) rows

abbrev wanted : List Row → List Bool
wanted rows = map (λ (r : Row). r.1) rows

-- ---- functions and sentences

abbrev functions : List Row
functions =
    -- a text may hold no function
    taken ""
    ∷ taken " /* nothing */ "
    -- one or more sentences, the last semicolon or none
    ∷ taken "F{=}"
    ∷ taken "F { = ; }"
    ∷ taken "F { = ; = }"
    ∷ taken "F { s.X e.Y = e.Y s.X; e.Z = 'no'; } G { 1 = one }"
    ∷ outside "F { }"
    ∷ outside "F { ; }"
    ∷ outside "F { = ; ; }"
    ∷ outside "F { = ; };"
    ∷ outside "F { a }"
    ∷ outside "F { a = b = c }"
    -- cut off, or without a name
    ∷ outside "F"
    ∷ outside "F {"
    ∷ outside "F { ="
    ∷ outside "F { = ;"
    ∷ outside "{ = }"
    ∷ outside "1 { = }"
    ∷ outside "F G { = }"
    ∷ outside "F { = } }"
    -- a stray token, though each other part is right
    ∷ outside "F { e.1e.2 = }"
    ∷ taken "F { e.1 e.2 = }"
    ∷ []

-- ---- conditions

abbrev conditions : List Row
conditions =
    taken "F { , : = }"
    ∷ taken "F { a, b : c = d }"
    ∷ taken "F { a, <G> : c, <H c> : d = e; , : , : = }"
    ∷ outside "F { a = b, c }"
    ∷ outside "F { a, b = c }"
    ∷ outside "F { a : b = c }"
    ∷ outside "F { a, b : c }"
    ∷ outside "F { a = b : c }"
    ∷ []

-- ---- brackets and calls

abbrev calls : List Row
calls =
    taken "F { (a (b) ()) = ((a) (b)) }"
    ∷ taken "F { = <G> <G 1 (<H>) <H <G>>> }"
    -- a call begins with a name
    ∷ outside "F { = <> }"
    ∷ outside "F { = <1> }"
    ∷ outside "F { = <s.X> }"
    ∷ outside "F { = <'G'> }"
    ∷ outside "F { = <(G)> }"
    ∷ outside "F { = <<G>> }"
    -- what is opened last is closed first, and in its own part of the sentence
    ∷ outside "F { = (<G)> }"
    ∷ outside "F { = <G (>) }"
    ∷ outside "F { = (a }"
    ∷ outside "F { = a) }"
    ∷ outside "F { = <G }"
    ∷ outside "F { = G> }"
    ∷ outside "F { (a = b) }"
    ∷ outside "F { (a, b) : c = d }"
    ∷ outside "F { = (a; b) = }"
    -- patterns hold no calls, a condition's result may
    ∷ outside "F { <G> = }"
    ∷ outside "F { (<G>) = }"
    ∷ outside "F { a, b : <G> = }"
    ∷ outside "F { a = b; <G> = }"
    ∷ taken "F { , (<G>) : = }"
    ∷ []

-- ---- `$ENTRY` and `$EXTERN`

abbrev declarations : List Row
declarations =
    taken "$ENTRYGo{=}"
    ∷ taken "$ENTRY F { = } G { = } $ENTRY H { = }"
    ∷ outside "$ENTRY"
    ∷ outside "$ENTRY $ENTRY F { = }"
    ∷ outside "$ENTRY $EXTERN F;"
    ∷ outside "F $ENTRY { = }"
    ∷ taken "$EXTERNF;"
    ∷ taken "$EXTERN F, G; $EXTERN H; F { = } $EXTERN F;"
    ∷ outside "$EXTERN"
    ∷ outside "$EXTERN ;"
    ∷ outside "$EXTERN F"
    ∷ outside "$EXTERN F,;"
    ∷ outside "$EXTERN , F;"
    ∷ outside "$EXTERN F G;"
    ∷ outside "$EXTERN F;;"
    ∷ outside "$EXTERN 1;"
    ∷ outside "$EXTRN F;"
    ∷ []

-- ---- depth: the grammar has no limit

abbrev nested : ℕ → ℕ → List ℕ
nested m n = bytes_of "F{" ++ replicate m 40 ++ replicate n 41 ++ bytes_of "=}"

abbrev deep : List Row
deep = (nested 99 99, true) ∷ (nested 99 98, false) ∷ (nested 98 99, false) ∷ []

-- ---- all of them

abbrev corners : List Row
corners = functions ++ conditions ++ calls ++ declarations ++ deep

syntactic_corners : texts_found corners ≡ wanted corners
unfolding
    bytes_of every_byte utf8 characters_bytes unclosed placed leading begins character_in characters_to index_after guess next lex_from lex
    rows_from read_text phrase phrase_of
syntactic_corners = refl

-- ---- phrases, with the bytes where names and signs stand

abbrev named : ℕ → String → Identifier
named at w = record { start = at; spelled = bytes_of w }

-- the condition's comma, colon and `=` with nothing between them
bare_condition : phrase_of (bytes_of "F { , : = }") ≡ some (function (record {
  name = named 0 "F";
  left_at = 2;
  sentences = last (record { pattern = nothing; conditions = condition 4 nothing 6 nothing no_condition; equals_at = 8; result = nothing });
  right_at = 10;
}) done)
unfolding
    bytes_of every_byte utf8 characters_bytes unclosed placed leading begins character_in characters_to index_after guess next lex_from lex
    rows_from read_text phrase phrase_of
bare_condition = refl

small_law : phrase_of (bytes_of "$EXTERN G; $ENTRY F { s.1 = (<G 'ab'>); }") ≡ some (extern 0 (last_name (named 8 "G") 9) (entry 11 (record {
  name = named 18 "F";
  left_at = 20;
  sentences =
      last_closed (record {
        pattern = atomic 22 (variable symbol_kind (bytes_of "1")) nothing;
        conditions = no_condition;
        equals_at = 26;
        result = bracket 28 (call 29 (named 30 "G") (atomic 32 (quoted (bytes_of "ab")) nothing) 36 nothing) 37 nothing;
      }) 38;
  right_at = 40;
}) done))
unfolding
    bytes_of every_byte utf8 characters_bytes unclosed placed leading begins character_in characters_to index_after guess next lex_from lex
    rows_from read_text phrase phrase_of
small_law = refl
