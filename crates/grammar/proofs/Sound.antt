-- What the machine accepts spells a text, `accepted_spells`: for each mode and stack, what is left is the rest of a phrase (`Fine`), built token by token from the end.
use Prim.Native.Nat.{ℕ}
use mathlib.Core.List.{List, [], ◌∷◌}
use mathlib.Core.Bool.{Bool, true, ◌&&◌}
use mathlib.Core.Path.{◌≡◌, refl, ap, ◌∙◌}
use lib.Dec.{T}
use Rattle.file.proofs.Below.{both, both_first, both_second}
use Rattle.tokens.specs.Token.{left_brace, right_brace, left_bracket, right_bracket, left_angle, right_angle, comma, colon, equals, semicolon}
use Rattle.tokens.specs.Token.{dollar_entry, dollar_extern, identifier, number, variable, quoted, Token, sign, atom, Placed}
use Rattle.grammar.specs.Grammar.{sign_at, atom_at, Identifier, identifier_at, Terms, nothing, Sentence, Sentences, last, last_closed, more, Function, Names}
use Rattle.grammar.specs.Grammar.{last_name, more_names, Text, done, extern, function, entry, spell_terms, spell_conditions, spell_sentences, spell_function}
use Rattle.grammar.specs.Grammar.{spell_names, spell_text, call_free, conditions_allowed, sentence_allowed, sentences_allowed, text_allowed}
use Rattle.grammar.specs.Parse.{◌⊕◌, with_condition, Body, plain}
use Rattle.grammar.specs.Accept.{Opened, bracket_open, call_open, move, perform, accepts}
use Rattle.grammar.proofs.Levels.{spell_plus, free_plus, Found, Laws, found_atom, found_bracket, found_call, found_close}
use Rattle.grammar.specs.declared.table.Mode.{Mode}
use Rattle.grammar.specs.declared.table.Mode.TheVariants.{AtText, AfterEntry, AfterName, AtExtern, InExtern, InPattern}
use Rattle.grammar.specs.declared.table.Mode.TheVariants.{InCondition, InResult, AfterSemicolon, ConditionCall, ResultCall}

-- ---- what is left in each mode

abbrev spell_body : Body → List Placed
spell_body b = spell_sentences b.0 (sign_at b.1 right_brace ∷ spell_text b.2)

abbrev body_allowed : Body → Bool
body_allowed b = sentences_allowed b.0 && text_allowed b.2

-- after a semicolon
data SemicolonRest : Type 0 where
  brace_now : ℕ → Text → SemicolonRest
  goes_on : Body → SemicolonRest

abbrev spell_semicolon : SemicolonRest → List Placed
spell_semicolon (brace_now c x) = sign_at c right_brace ∷ spell_text x
spell_semicolon (goes_on b) = spell_body b

abbrev semicolon_allowed : SemicolonRest → Bool
semicolon_allowed (brace_now c x) = text_allowed x
semicolon_allowed (goes_on b) = body_allowed b

-- after a result
data SentenceRest : Type 0 where
  brace_then : ℕ → Text → SentenceRest
  semicolon_then : ℕ → SemicolonRest → SentenceRest

abbrev spell_sentence_rest : SentenceRest → List Placed
spell_sentence_rest (brace_then c x) = sign_at c right_brace ∷ spell_text x
spell_sentence_rest (semicolon_then c d) = sign_at c semicolon ∷ spell_semicolon d

abbrev sentence_rest_allowed : SentenceRest → Bool
sentence_rest_allowed (brace_then c x) = text_allowed x
sentence_rest_allowed (semicolon_then c d) = semicolon_allowed d

-- in a condition's result, and in a result
abbrev ConditionRest : Type 0
ConditionRest = Terms × ℕ × Body

abbrev ResultRest : Type 0
ResultRest = Terms × SentenceRest

abbrev spell_condition : ConditionRest → List Placed
spell_condition x = spell_terms x.0 (sign_at x.1 colon ∷ spell_body x.2)

abbrev spell_result : ResultRest → List Placed
spell_result x = spell_terms x.0 (spell_sentence_rest x.1)

abbrev fronted : Terms → Sentence → Sentence
fronted t x = record { pattern = t ⊕ x.pattern; conditions = x.conditions; equals_at = x.equals_at; result = x.result }

abbrev front_sentences : Terms → Sentences → Sentences
front_sentences t (last x) = last (fronted t x)
front_sentences t (last_closed x c) = last_closed (fronted t x) c
front_sentences t (more x c rest) = more (fronted t x) c rest

abbrev front_body : Terms → Body → Body
front_body t b = (front_sentences t b.0, b.1, b.2)

abbrev front_condition : Terms → ConditionRest → ConditionRest
front_condition t x = (t ⊕ x.0, x.1, x.2)

abbrev front_result : Terms → ResultRest → ResultRest
front_result t x = (t ⊕ x.0, x.1)

abbrev any_terms : Terms → Bool
any_terms t = true

abbrev PatternFound : List Opened → List Placed → Type 0
PatternFound = Found Body spell_body front_body body_allowed call_free

abbrev ConditionFound : List Opened → List Placed → Type 0
ConditionFound = Found ConditionRest spell_condition front_condition (λ x. body_allowed x.2) any_terms

abbrev ResultFound : List Opened → List Placed → Type 0
ResultFound = Found ResultRest spell_result front_result (λ x. sentence_rest_allowed x.1) any_terms

spell_sentences_lem : (t : Terms) (ss : Sentences) (after : List Placed) → spell_sentences (front_sentences t ss) after ≡ spell_terms t (spell_sentences ss after)
spell_sentences_lem t (last x) after = spell_plus t x.pattern (spell_conditions x.conditions (sign_at x.equals_at equals ∷ spell_terms x.result after))
spell_sentences_lem t (last_closed x c) after =
    spell_plus t x.pattern (spell_conditions x.conditions (sign_at x.equals_at equals ∷ spell_terms x.result (sign_at c semicolon ∷ after)))
spell_sentences_lem t (more x c rest) after =
    spell_plus t x.pattern (spell_conditions x.conditions (sign_at x.equals_at equals ∷ spell_terms x.result (sign_at c semicolon ∷ spell_sentences rest after)))

ok_sentence : (t : Terms) (x : Sentence) → call_free t ≡ true → sentence_allowed x ≡ true → sentence_allowed (fronted t x) ≡ true
ok_sentence t x h k =
    both (call_free (t ⊕ x.pattern)) (conditions_allowed x.conditions) (free_plus t x.pattern h (both_first (call_free x.pattern) (conditions_allowed x.conditions) k))
    (both_second (call_free x.pattern) (conditions_allowed x.conditions) k)

ok_sentences : (t : Terms) (ss : Sentences) → call_free t ≡ true → sentences_allowed ss ≡ true → sentences_allowed (front_sentences t ss) ≡ true
ok_sentences t (last x) h k = ok_sentence t x h k
ok_sentences t (last_closed x c) h k = ok_sentence t x h k
ok_sentences t (more x c rest) h k =
    both (sentence_allowed (fronted t x)) (sentences_allowed rest) (ok_sentence t x h (both_first (sentence_allowed x) (sentences_allowed rest) k))
    (both_second (sentence_allowed x) (sentences_allowed rest) k)

pattern_laws : Laws Body spell_body front_body body_allowed call_free
pattern_laws =
    record {
      spell_front = λ t x. spell_sentences_lem t x.0 (sign_at x.1 right_brace ∷ spell_text x.2);
      ok_front = λ t x h k.
          both (sentences_allowed (front_sentences t x.0)) (text_allowed x.2)
          (ok_sentences t x.0 h (both_first (sentences_allowed x.0) (text_allowed x.2) k)) (both_second (sentences_allowed x.0) (text_allowed x.2) k);
      ok_plus = free_plus;
      ok_nothing = refl;
      ok_atomic = λ at a. refl;
      ok_bracket = λ l t c h. both (call_free t) true h refl;
    }

condition_laws : Laws ConditionRest spell_condition front_condition (λ x. body_allowed x.2) any_terms
condition_laws =
    record {
      spell_front = λ t x. spell_plus t x.0 (sign_at x.1 colon ∷ spell_body x.2);
      ok_front = λ t x h k. k;
      ok_plus = λ t u h k. refl;
      ok_nothing = refl;
      ok_atomic = λ at a. refl;
      ok_bracket = λ l t c h. refl;
    }

result_laws : Laws ResultRest spell_result front_result (λ x. sentence_rest_allowed x.1) any_terms
result_laws =
    record {
      spell_front = λ t x. spell_plus t x.0 (spell_sentence_rest x.1);
      ok_front = λ t x h k. k;
      ok_plus = λ t u h k. refl;
      ok_nothing = refl;
      ok_atomic = λ at a. refl;
      ok_bracket = λ l t c h. refl;
    }

-- ---- the tokens that are accepted in each mode

record TextFound (ts : List Placed) : Type 0 where
  text : Text
  spells : spell_text text ≡ ts
  allowed : text_allowed text ≡ true

record FunctionFound (ts : List Placed) : Type 0 where
  fun : Function
  text : Text
  spells : spell_function fun (spell_text text) ≡ ts
  allowed : sentences_allowed fun.sentences && text_allowed text ≡ true

record NameFound (ts : List Placed) : Type 0 where
  left : ℕ
  body : Body
  spells : sign_at left left_brace ∷ spell_body body ≡ ts
  allowed : body_allowed body ≡ true

record NamesFound (ts : List Placed) : Type 0 where
  names : Names
  text : Text
  spells : spell_names names (spell_text text) ≡ ts
  allowed : text_allowed text ≡ true

-- the list after a name of it
record ListFound (ts : List Placed) : Type 0 where
  names : Identifier → Names
  text : Text
  spells : (i : Identifier) → spell_names (names i) (spell_text text) ≡ identifier_at i ∷ ts
  allowed : text_allowed text ≡ true

record ClosedFound (ts : List Placed) : Type 0 where
  brace_next : SemicolonRest
  spells : spell_semicolon brace_next ≡ ts
  allowed : semicolon_allowed brace_next ≡ true

-- the name of a call, and what is inside it
record CallFound (F : List Placed → Type 0) (ts : List Placed) : Type 0 where
  name : Identifier
  after : List Placed
  spells : identifier_at name ∷ after ≡ ts
  inside : F after

abbrev Fine : Mode → List Opened → List Placed → Type 0
Fine AtText st ts = TextFound ts
Fine AfterEntry st ts = FunctionFound ts
Fine AfterName st ts = NameFound ts
Fine AtExtern st ts = NamesFound ts
Fine InExtern st ts = ListFound ts
Fine InPattern st ts = PatternFound st ts
Fine InCondition st ts = ConditionFound st ts
Fine InResult st ts = ResultFound st ts
Fine AfterSemicolon [] ts = ClosedFound ts
Fine AfterSemicolon (o ∷ st) ts = Unit {0}
Fine ConditionCall st ts = CallFound (ConditionFound st) ts
Fine ResultCall st ts = CallFound (ResultFound st) ts

-- ---- one token in front

name_found : (i : Identifier) (ts : List Placed) → NameFound ts → FunctionFound (identifier_at i ∷ ts)
name_found i ts f =
    record {
      fun = record { name = i; left_at = f.left; sentences = f.body.0; right_at = f.body.1 };
      text = f.body.2;
      spells = ap (◌∷◌ (identifier_at i)) f.spells;
      allowed = f.allowed;
    }

function_found : (ts : List Placed) → FunctionFound ts → TextFound ts
function_found ts f = record { text = function f.fun f.text; spells = f.spells; allowed = f.allowed }

entry_found : (at : ℕ) (ts : List Placed) → FunctionFound ts → TextFound (sign_at at dollar_entry ∷ ts)
entry_found at ts f = record { text = entry at f.fun f.text; spells = ap (◌∷◌ (sign_at at dollar_entry)) f.spells; allowed = f.allowed }

extern_found : (at : ℕ) (ts : List Placed) → NamesFound ts → TextFound (sign_at at dollar_extern ∷ ts)
extern_found at ts f = record { text = extern at f.names f.text; spells = ap (◌∷◌ (sign_at at dollar_extern)) f.spells; allowed = f.allowed }

list_found : (i : Identifier) (ts : List Placed) → ListFound ts → NamesFound (identifier_at i ∷ ts)
list_found i ts f = record { names = f.names i; text = f.text; spells = f.spells i; allowed = f.allowed }

list_more : (c : ℕ) (ts : List Placed) → NamesFound ts → ListFound (sign_at c comma ∷ ts)
list_more c ts f =
    record {
      names = λ i. more_names i c f.names;
      text = f.text;
      spells = λ i. ap (λ z. identifier_at i ∷ sign_at c comma ∷ z) f.spells;
      allowed = f.allowed;
    }

list_end : (c : ℕ) (ts : List Placed) → TextFound ts → ListFound (sign_at c semicolon ∷ ts)
list_end c ts f =
    record {
      names = λ i. last_name i c;
      text = f.text;
      spells = λ i. ap (λ z. identifier_at i ∷ sign_at c semicolon ∷ z) f.spells;
      allowed = f.allowed;
    }

name_body : (l : ℕ) (ts : List Placed) → PatternFound [] ts → NameFound (sign_at l left_brace ∷ ts)
name_body l ts f = record { left = l; body = f.rest; spells = ap (◌∷◌ (sign_at l left_brace)) f.spells; allowed = f.allowed }

-- a condition after a pattern
spell_condition_lem : (c : ℕ) (a : Terms) (d : ℕ) (ss : Sentences) (after : List Placed)
    → spell_sentences (with_condition nothing c a d ss) after ≡ sign_at c comma ∷ spell_terms a (sign_at d colon ∷ spell_sentences ss after)
spell_condition_lem c a d (last x) after = refl
spell_condition_lem c a d (last_closed x e) after = refl
spell_condition_lem c a d (more x e rest) after = refl

ok_condition : (c : ℕ) (a : Terms) (d : ℕ) (ss : Sentences) → sentences_allowed ss ≡ true → sentences_allowed (with_condition nothing c a d ss) ≡ true
ok_condition c a d (last x) h = h
ok_condition c a d (last_closed x e) h = h
ok_condition c a d (more x e rest) h = h

pattern_comma : (c : ℕ) (ts : List Placed) → ConditionFound [] ts → PatternFound [] (sign_at c comma ∷ ts)
pattern_comma c ts f =
    let a = f.rest.0 in
    let d = f.rest.1 in
    let b = f.rest.2 in
    record {
      rest = (with_condition nothing c a d b.0, b.1, b.2);
      spells = spell_condition_lem c a d b.0 (sign_at b.1 right_brace ∷ spell_text b.2) ∙ ap (◌∷◌ (sign_at c comma)) f.spells;
      allowed =
          both (sentences_allowed (with_condition nothing c a d b.0)) (text_allowed b.2)
          (ok_condition c a d b.0 (both_first (sentences_allowed b.0) (text_allowed b.2) f.allowed))
          (both_second (sentences_allowed b.0) (text_allowed b.2) f.allowed);
    }

-- a result after a pattern
abbrev body_of : ℕ → Terms → SentenceRest → Body
body_of e r (brace_then c x) = (last (plain nothing e r), c, x)
body_of e r (semicolon_then c (brace_now d x)) = (last_closed (plain nothing e r) c, d, x)
body_of e r (semicolon_then c (goes_on b)) = (more (plain nothing e r) c b.0, b.1, b.2)

spell_result_lem : (e : ℕ) (r : Terms) (t : SentenceRest) → spell_body (body_of e r t) ≡ sign_at e equals ∷ spell_terms r (spell_sentence_rest t)
spell_result_lem e r (brace_then c x) = refl
spell_result_lem e r (semicolon_then c (brace_now d x)) = refl
spell_result_lem e r (semicolon_then c (goes_on b)) = refl

ok_result : (e : ℕ) (r : Terms) (t : SentenceRest) → sentence_rest_allowed t ≡ true → body_allowed (body_of e r t) ≡ true
ok_result e r (brace_then c x) h = h
ok_result e r (semicolon_then c (brace_now d x)) h = h
ok_result e r (semicolon_then c (goes_on b)) h = h

pattern_equals : (e : ℕ) (ts : List Placed) → ResultFound [] ts → PatternFound [] (sign_at e equals ∷ ts)
pattern_equals e ts f =
    record {
      rest = body_of e f.rest.0 f.rest.1;
      spells = spell_result_lem e f.rest.0 f.rest.1 ∙ ap (◌∷◌ (sign_at e equals)) f.spells;
      allowed = ok_result e f.rest.0 f.rest.1 f.allowed;
    }

condition_colon : (d : ℕ) (ts : List Placed) → PatternFound [] ts → ConditionFound [] (sign_at d colon ∷ ts)
condition_colon d ts f = record { rest = (nothing, d, f.rest); spells = ap (◌∷◌ (sign_at d colon)) f.spells; allowed = f.allowed }

result_brace : (c : ℕ) (ts : List Placed) → TextFound ts → ResultFound [] (sign_at c right_brace ∷ ts)
result_brace c ts f = record { rest = (nothing, brace_then c f.text); spells = ap (◌∷◌ (sign_at c right_brace)) f.spells; allowed = f.allowed }

result_semicolon : (c : ℕ) (ts : List Placed) → ClosedFound ts → ResultFound [] (sign_at c semicolon ∷ ts)
result_semicolon c ts f = record { rest = (nothing, semicolon_then c f.brace_next); spells = ap (◌∷◌ (sign_at c semicolon)) f.spells; allowed = f.allowed }

closed_brace : (c : ℕ) (ts : List Placed) → TextFound ts → ClosedFound (sign_at c right_brace ∷ ts)
closed_brace c ts f = record { brace_next = brace_now c f.text; spells = ap (◌∷◌ (sign_at c right_brace)) f.spells; allowed = f.allowed }

closed_body : (ts : List Placed) → PatternFound [] ts → ClosedFound ts
closed_body ts f = record { brace_next = goes_on f.rest; spells = f.spells; allowed = f.allowed }

call_found_lem : (F : List Placed → Type 0) (i : Identifier) (ts : List Placed) → F ts → CallFound F (identifier_at i ∷ ts)
call_found_lem F i ts f = record { name = i; after = ts; spells = refl; inside = f }

condition_call : (l : ℕ) (st : List Opened) (ts : List Placed) → CallFound (ConditionFound (call_open ∷ st)) ts → ConditionFound st (sign_at l left_angle ∷ ts)
condition_call l st ts f =
    rw (← f.spells) (found_call ConditionRest spell_condition front_condition (λ x. body_allowed x.2) any_terms condition_laws l f.name st f.after (λ t. refl) f.inside)

result_call : (l : ℕ) (st : List Opened) (ts : List Placed) → CallFound (ResultFound (call_open ∷ st)) ts → ResultFound st (sign_at l left_angle ∷ ts)
result_call l st ts f =
    rw (← f.spells) (found_call ResultRest spell_result front_result (λ x. sentence_rest_allowed x.1) any_terms result_laws l f.name st f.after (λ t. refl) f.inside)

-- ---- every token in every mode

abbrev Then : List Placed → Type 0
Then ps = (n : Mode) (rest : List Opened) → T (accepts n rest ps) → Fine n rest ps

abbrev Stepping : Mode → List Opened → ℕ → Token → List Placed → Type 0
Stepping m st at t ps = T (perform (move t m) st (λ n rest. accepts n rest ps)) → Then ps → Fine m st (record { start = at; what = t } ∷ ps)

step_text : (at : ℕ) (t : Token) (st : List Opened) (ps : List Placed) → Stepping AtText st at t ps
step_text at (sign dollar_entry) [] ps h ih = entry_found at ps (ih AfterEntry [] h)
step_text at (sign dollar_extern) [] ps h ih = extern_found at ps (ih AtExtern [] h)
step_text at (atom (identifier w)) [] ps h ih =
    function_found (atom_at at (identifier w) ∷ ps) (name_found (record { start = at; spelled = w }) ps (ih AfterName [] h))
step_text at (sign left_brace) st ps h ih = elim h [ ]
step_text at (sign right_brace) st ps h ih = elim h [ ]
step_text at (sign left_bracket) st ps h ih = elim h [ ]
step_text at (sign right_bracket) st ps h ih = elim h [ ]
step_text at (sign left_angle) st ps h ih = elim h [ ]
step_text at (sign right_angle) st ps h ih = elim h [ ]
step_text at (sign comma) st ps h ih = elim h [ ]
step_text at (sign colon) st ps h ih = elim h [ ]
step_text at (sign equals) st ps h ih = elim h [ ]
step_text at (sign semicolon) st ps h ih = elim h [ ]
step_text at (sign dollar_entry) (_ ∷ _) ps h ih = elim h [ ]
step_text at (sign dollar_extern) (_ ∷ _) ps h ih = elim h [ ]
step_text at (atom (identifier w)) (_ ∷ _) ps h ih = elim h [ ]
step_text at (atom (number _)) st ps h ih = elim h [ ]
step_text at (atom (variable _ _)) st ps h ih = elim h [ ]
step_text at (atom (quoted _)) st ps h ih = elim h [ ]

step_entry : (at : ℕ) (t : Token) (st : List Opened) (ps : List Placed) → Stepping AfterEntry st at t ps
step_entry at (sign comma) st ps h ih = absurd h
step_entry at (atom (identifier w)) [] ps h ih = name_found (record { start = at; spelled = w }) ps (ih AfterName [] h)
step_entry at (sign left_brace) st ps h ih = elim h [ ]
step_entry at (sign right_brace) st ps h ih = elim h [ ]
step_entry at (sign left_bracket) st ps h ih = elim h [ ]
step_entry at (sign right_bracket) st ps h ih = elim h [ ]
step_entry at (sign left_angle) st ps h ih = elim h [ ]
step_entry at (sign right_angle) st ps h ih = elim h [ ]
step_entry at (sign colon) st ps h ih = elim h [ ]
step_entry at (sign equals) st ps h ih = elim h [ ]
step_entry at (sign semicolon) st ps h ih = elim h [ ]
step_entry at (sign dollar_entry) st ps h ih = elim h [ ]
step_entry at (sign dollar_extern) st ps h ih = elim h [ ]
step_entry at (atom (identifier w)) (_ ∷ _) ps h ih = elim h [ ]
step_entry at (atom (number _)) st ps h ih = elim h [ ]
step_entry at (atom (variable _ _)) st ps h ih = elim h [ ]
step_entry at (atom (quoted _)) st ps h ih = elim h [ ]

step_name : (at : ℕ) (t : Token) (st : List Opened) (ps : List Placed) → Stepping AfterName st at t ps
step_name at (atom (identifier w)) st ps h ih = absurd h
step_name at (sign left_brace) [] ps h ih = name_body at ps (ih InPattern [] h)
step_name at (sign left_brace) (_ ∷ _) ps h ih = elim h [ ]
step_name at (sign right_brace) st ps h ih = elim h [ ]
step_name at (sign left_bracket) st ps h ih = elim h [ ]
step_name at (sign right_bracket) st ps h ih = elim h [ ]
step_name at (sign left_angle) st ps h ih = elim h [ ]
step_name at (sign right_angle) st ps h ih = elim h [ ]
step_name at (sign comma) st ps h ih = elim h [ ]
step_name at (sign colon) st ps h ih = elim h [ ]
step_name at (sign equals) st ps h ih = elim h [ ]
step_name at (sign semicolon) st ps h ih = elim h [ ]
step_name at (sign dollar_entry) st ps h ih = elim h [ ]
step_name at (sign dollar_extern) st ps h ih = elim h [ ]
step_name at (atom (number _)) st ps h ih = elim h [ ]
step_name at (atom (variable _ _)) st ps h ih = elim h [ ]
step_name at (atom (quoted _)) st ps h ih = elim h [ ]

step_extern : (at : ℕ) (t : Token) (st : List Opened) (ps : List Placed) → Stepping AtExtern st at t ps
step_extern at (sign comma) st ps h ih = absurd h
step_extern at (atom (identifier w)) [] ps h ih = list_found (record { start = at; spelled = w }) ps (ih InExtern [] h)
step_extern at (sign left_brace) st ps h ih = elim h [ ]
step_extern at (sign right_brace) st ps h ih = elim h [ ]
step_extern at (sign left_bracket) st ps h ih = elim h [ ]
step_extern at (sign right_bracket) st ps h ih = elim h [ ]
step_extern at (sign left_angle) st ps h ih = elim h [ ]
step_extern at (sign right_angle) st ps h ih = elim h [ ]
step_extern at (sign colon) st ps h ih = elim h [ ]
step_extern at (sign equals) st ps h ih = elim h [ ]
step_extern at (sign semicolon) st ps h ih = elim h [ ]
step_extern at (sign dollar_entry) st ps h ih = elim h [ ]
step_extern at (sign dollar_extern) st ps h ih = elim h [ ]
step_extern at (atom (identifier w)) (_ ∷ _) ps h ih = elim h [ ]
step_extern at (atom (number _)) st ps h ih = elim h [ ]
step_extern at (atom (variable _ _)) st ps h ih = elim h [ ]
step_extern at (atom (quoted _)) st ps h ih = elim h [ ]

step_in_extern : (at : ℕ) (t : Token) (st : List Opened) (ps : List Placed) → Stepping InExtern st at t ps
step_in_extern at (atom (identifier w)) st ps h ih = absurd h
step_in_extern at (sign comma) [] ps h ih = list_more at ps (ih AtExtern [] h)
step_in_extern at (sign semicolon) [] ps h ih = list_end at ps (ih AtText [] h)
step_in_extern at (sign left_brace) st ps h ih = elim h [ ]
step_in_extern at (sign right_brace) st ps h ih = elim h [ ]
step_in_extern at (sign left_bracket) st ps h ih = elim h [ ]
step_in_extern at (sign right_bracket) st ps h ih = elim h [ ]
step_in_extern at (sign left_angle) st ps h ih = elim h [ ]
step_in_extern at (sign right_angle) st ps h ih = elim h [ ]
step_in_extern at (sign comma) (_ ∷ _) ps h ih = elim h [ ]
step_in_extern at (sign colon) st ps h ih = elim h [ ]
step_in_extern at (sign equals) st ps h ih = elim h [ ]
step_in_extern at (sign semicolon) (_ ∷ _) ps h ih = elim h [ ]
step_in_extern at (sign dollar_entry) st ps h ih = elim h [ ]
step_in_extern at (sign dollar_extern) st ps h ih = elim h [ ]
step_in_extern at (atom (number _)) st ps h ih = elim h [ ]
step_in_extern at (atom (variable _ _)) st ps h ih = elim h [ ]
step_in_extern at (atom (quoted _)) st ps h ih = elim h [ ]

step_pattern : (at : ℕ) (t : Token) (st : List Opened) (ps : List Placed) → Stepping InPattern st at t ps
step_pattern at (atom (identifier w)) st ps h ih = found_atom Body spell_body front_body body_allowed call_free pattern_laws at (identifier w) st ps (ih InPattern st h)
step_pattern at (atom (number w)) st ps h ih = found_atom Body spell_body front_body body_allowed call_free pattern_laws at (number w) st ps (ih InPattern st h)
step_pattern at (atom (variable k w)) st ps h ih = found_atom Body spell_body front_body body_allowed call_free pattern_laws at (variable k w) st ps (ih InPattern st h)
step_pattern at (atom (quoted w)) st ps h ih = found_atom Body spell_body front_body body_allowed call_free pattern_laws at (quoted w) st ps (ih InPattern st h)
step_pattern at (sign left_bracket) st ps h ih = found_bracket Body spell_body front_body body_allowed call_free pattern_laws at st ps (ih InPattern (bracket_open ∷ st) h)
step_pattern at (sign right_bracket) (bracket_open ∷ st) ps h ih = found_close Body spell_body front_body body_allowed call_free pattern_laws at bracket_open st ps (ih InPattern st h)
step_pattern at (sign comma) [] ps h ih = pattern_comma at ps (ih InCondition [] h)
step_pattern at (sign equals) [] ps h ih = pattern_equals at ps (ih InResult [] h)
step_pattern at (sign left_brace) st ps h ih = elim h [ ]
step_pattern at (sign right_brace) st ps h ih = elim h [ ]
step_pattern at (sign right_bracket) [] ps h ih = elim h [ ]
step_pattern at (sign right_bracket) (call_open ∷ st) ps h ih = elim h [ ]
step_pattern at (sign left_angle) st ps h ih = elim h [ ]
step_pattern at (sign right_angle) st ps h ih = elim h [ ]
step_pattern at (sign comma) (_ ∷ st) ps h ih = elim h [ ]
step_pattern at (sign colon) st ps h ih = elim h [ ]
step_pattern at (sign equals) (_ ∷ st) ps h ih = elim h [ ]
step_pattern at (sign semicolon) st ps h ih = elim h [ ]
step_pattern at (sign dollar_entry) st ps h ih = elim h [ ]
step_pattern at (sign dollar_extern) st ps h ih = elim h [ ]

step_condition : (at : ℕ) (t : Token) (st : List Opened) (ps : List Placed) → Stepping InCondition st at t ps
step_condition at (atom (identifier w)) st ps h ih =
    found_atom ConditionRest spell_condition front_condition (λ x. body_allowed x.2) any_terms condition_laws at (identifier w) st ps (ih InCondition st h)
step_condition at (atom (number w)) st ps h ih = found_atom ConditionRest spell_condition front_condition (λ x. body_allowed x.2) any_terms condition_laws at (number w) st ps (ih InCondition st h)
step_condition at (atom (variable k w)) st ps h ih =
    found_atom ConditionRest spell_condition front_condition (λ x. body_allowed x.2) any_terms condition_laws at (variable k w) st ps (ih InCondition st h)
step_condition at (atom (quoted w)) st ps h ih = found_atom ConditionRest spell_condition front_condition (λ x. body_allowed x.2) any_terms condition_laws at (quoted w) st ps (ih InCondition st h)
step_condition at (sign left_bracket) st ps h ih =
    found_bracket ConditionRest spell_condition front_condition (λ x. body_allowed x.2) any_terms condition_laws at st ps (ih InCondition (bracket_open ∷ st) h)
step_condition at (sign right_bracket) (bracket_open ∷ st) ps h ih =
    found_close ConditionRest spell_condition front_condition (λ x. body_allowed x.2) any_terms condition_laws at bracket_open st ps (ih InCondition st h)
step_condition at (sign left_angle) st ps h ih = condition_call at st ps (ih ConditionCall (call_open ∷ st) h)
step_condition at (sign right_angle) (call_open ∷ st) ps h ih =
    found_close ConditionRest spell_condition front_condition (λ x. body_allowed x.2) any_terms condition_laws at call_open st ps (ih InCondition st h)
step_condition at (sign colon) [] ps h ih = condition_colon at ps (ih InPattern [] h)
step_condition at (sign left_brace) st ps h ih = elim h [ ]
step_condition at (sign right_brace) st ps h ih = elim h [ ]
step_condition at (sign right_bracket) [] ps h ih = elim h [ ]
step_condition at (sign right_bracket) (call_open ∷ st) ps h ih = elim h [ ]
step_condition at (sign right_angle) [] ps h ih = elim h [ ]
step_condition at (sign right_angle) (bracket_open ∷ st) ps h ih = elim h [ ]
step_condition at (sign comma) st ps h ih = elim h [ ]
step_condition at (sign colon) (_ ∷ st) ps h ih = elim h [ ]
step_condition at (sign equals) st ps h ih = elim h [ ]
step_condition at (sign semicolon) st ps h ih = elim h [ ]
step_condition at (sign dollar_entry) st ps h ih = elim h [ ]
step_condition at (sign dollar_extern) st ps h ih = elim h [ ]

step_result : (at : ℕ) (t : Token) (st : List Opened) (ps : List Placed) → Stepping InResult st at t ps
step_result at (atom (identifier w)) st ps h ih = found_atom ResultRest spell_result front_result (λ x. sentence_rest_allowed x.1) any_terms result_laws at (identifier w) st ps (ih InResult st h)
step_result at (atom (number w)) st ps h ih = found_atom ResultRest spell_result front_result (λ x. sentence_rest_allowed x.1) any_terms result_laws at (number w) st ps (ih InResult st h)
step_result at (atom (variable k w)) st ps h ih = found_atom ResultRest spell_result front_result (λ x. sentence_rest_allowed x.1) any_terms result_laws at (variable k w) st ps (ih InResult st h)
step_result at (atom (quoted w)) st ps h ih = found_atom ResultRest spell_result front_result (λ x. sentence_rest_allowed x.1) any_terms result_laws at (quoted w) st ps (ih InResult st h)
step_result at (sign left_bracket) st ps h ih = found_bracket ResultRest spell_result front_result (λ x. sentence_rest_allowed x.1) any_terms result_laws at st ps (ih InResult (bracket_open ∷ st) h)
step_result at (sign right_bracket) (bracket_open ∷ st) ps h ih =
    found_close ResultRest spell_result front_result (λ x. sentence_rest_allowed x.1) any_terms result_laws at bracket_open st ps (ih InResult st h)
step_result at (sign left_angle) st ps h ih = result_call at st ps (ih ResultCall (call_open ∷ st) h)
step_result at (sign right_angle) (call_open ∷ st) ps h ih = found_close ResultRest spell_result front_result (λ x. sentence_rest_allowed x.1) any_terms result_laws at call_open st ps (ih InResult st h)
step_result at (sign right_brace) [] ps h ih = result_brace at ps (ih AtText [] h)
step_result at (sign semicolon) [] ps h ih = result_semicolon at ps (ih AfterSemicolon [] h)
step_result at (sign left_brace) st ps h ih = elim h [ ]
step_result at (sign right_brace) (_ ∷ st) ps h ih = elim h [ ]
step_result at (sign right_bracket) [] ps h ih = elim h [ ]
step_result at (sign right_bracket) (call_open ∷ st) ps h ih = elim h [ ]
step_result at (sign right_angle) [] ps h ih = elim h [ ]
step_result at (sign right_angle) (bracket_open ∷ st) ps h ih = elim h [ ]
step_result at (sign comma) st ps h ih = elim h [ ]
step_result at (sign colon) st ps h ih = elim h [ ]
step_result at (sign equals) st ps h ih = elim h [ ]
step_result at (sign semicolon) (_ ∷ st) ps h ih = elim h [ ]
step_result at (sign dollar_entry) st ps h ih = elim h [ ]
step_result at (sign dollar_extern) st ps h ih = elim h [ ]

-- after a semicolon the stack is empty, and anything but `}` is read as in a pattern
step_semicolon : (at : ℕ) (t : Token) (st : List Opened) (ps : List Placed) → Stepping AfterSemicolon st at t ps
step_semicolon at (sign right_brace) [] ps h ih = closed_brace at ps (ih AtText [] h)
step_semicolon at (sign comma) [] ps h ih = closed_body (sign_at at comma ∷ ps) (pattern_comma at ps (ih InCondition [] h))
step_semicolon at (sign equals) [] ps h ih = closed_body (sign_at at equals ∷ ps) (pattern_equals at ps (ih InResult [] h))
step_semicolon at (atom (identifier w)) [] ps h ih =
    closed_body (atom_at at (identifier w) ∷ ps)
    (found_atom Body spell_body front_body body_allowed call_free pattern_laws at (identifier w) [] ps (ih InPattern [] h))
step_semicolon at (atom (identifier w)) (o ∷ st) ps h ih = tt
step_semicolon at (atom (number w)) [] ps h ih = closed_body (atom_at at (number w) ∷ ps) (found_atom Body spell_body front_body body_allowed call_free pattern_laws at (number w) [] ps (ih InPattern [] h))
step_semicolon at (atom (number w)) (o ∷ st) ps h ih = tt
step_semicolon at (atom (variable k w)) [] ps h ih =
    closed_body (atom_at at (variable k w) ∷ ps)
    (found_atom Body spell_body front_body body_allowed call_free pattern_laws at (variable k w) [] ps (ih InPattern [] h))
step_semicolon at (atom (variable k w)) (o ∷ st) ps h ih = tt
step_semicolon at (atom (quoted w)) [] ps h ih = closed_body (atom_at at (quoted w) ∷ ps) (found_atom Body spell_body front_body body_allowed call_free pattern_laws at (quoted w) [] ps (ih InPattern [] h))
step_semicolon at (atom (quoted w)) (o ∷ st) ps h ih = tt
step_semicolon at (sign left_bracket) [] ps h ih =
    closed_body (sign_at at left_bracket ∷ ps)
    (found_bracket Body spell_body front_body body_allowed call_free pattern_laws at [] ps (ih InPattern (bracket_open ∷ []) h))
step_semicolon at (sign left_bracket) (o ∷ st) ps h ih = tt
step_semicolon at (sign left_brace) st ps h ih = elim h [ ]
step_semicolon at (sign right_brace) (o ∷ st) ps h ih = elim h [ ]
step_semicolon at (sign right_bracket) st ps h ih = elim h [ ]
step_semicolon at (sign left_angle) st ps h ih = elim h [ ]
step_semicolon at (sign right_angle) st ps h ih = elim h [ ]
step_semicolon at (sign comma) (o ∷ st) ps h ih = elim h [ ]
step_semicolon at (sign colon) st ps h ih = elim h [ ]
step_semicolon at (sign equals) (o ∷ st) ps h ih = elim h [ ]
step_semicolon at (sign semicolon) st ps h ih = elim h [ ]
step_semicolon at (sign dollar_entry) st ps h ih = elim h [ ]
step_semicolon at (sign dollar_extern) st ps h ih = elim h [ ]

step_condition_call : (at : ℕ) (t : Token) (st : List Opened) (ps : List Placed) → Stepping ConditionCall st at t ps
step_condition_call at (sign comma) st ps h ih = absurd h
step_condition_call at (atom (identifier w)) st ps h ih = call_found_lem (ConditionFound st) (record { start = at; spelled = w }) ps (ih InCondition st h)
step_condition_call at (sign left_brace) st ps h ih = elim h [ ]
step_condition_call at (sign right_brace) st ps h ih = elim h [ ]
step_condition_call at (sign left_bracket) st ps h ih = elim h [ ]
step_condition_call at (sign right_bracket) st ps h ih = elim h [ ]
step_condition_call at (sign left_angle) st ps h ih = elim h [ ]
step_condition_call at (sign right_angle) st ps h ih = elim h [ ]
step_condition_call at (sign colon) st ps h ih = elim h [ ]
step_condition_call at (sign equals) st ps h ih = elim h [ ]
step_condition_call at (sign semicolon) st ps h ih = elim h [ ]
step_condition_call at (sign dollar_entry) st ps h ih = elim h [ ]
step_condition_call at (sign dollar_extern) st ps h ih = elim h [ ]
step_condition_call at (atom (number _)) st ps h ih = elim h [ ]
step_condition_call at (atom (variable _ _)) st ps h ih = elim h [ ]
step_condition_call at (atom (quoted _)) st ps h ih = elim h [ ]

step_result_call : (at : ℕ) (t : Token) (st : List Opened) (ps : List Placed) → Stepping ResultCall st at t ps
step_result_call at (sign comma) st ps h ih = absurd h
step_result_call at (atom (identifier w)) st ps h ih = call_found_lem (ResultFound st) (record { start = at; spelled = w }) ps (ih InResult st h)
step_result_call at (sign left_brace) st ps h ih = elim h [ ]
step_result_call at (sign right_brace) st ps h ih = elim h [ ]
step_result_call at (sign left_bracket) st ps h ih = elim h [ ]
step_result_call at (sign right_bracket) st ps h ih = elim h [ ]
step_result_call at (sign left_angle) st ps h ih = elim h [ ]
step_result_call at (sign right_angle) st ps h ih = elim h [ ]
step_result_call at (sign colon) st ps h ih = elim h [ ]
step_result_call at (sign equals) st ps h ih = elim h [ ]
step_result_call at (sign semicolon) st ps h ih = elim h [ ]
step_result_call at (sign dollar_entry) st ps h ih = elim h [ ]
step_result_call at (sign dollar_extern) st ps h ih = elim h [ ]
step_result_call at (atom (number _)) st ps h ih = elim h [ ]
step_result_call at (atom (variable _ _)) st ps h ih = elim h [ ]
step_result_call at (atom (quoted _)) st ps h ih = elim h [ ]

step : (m : Mode) (at : ℕ) (t : Token) (st : List Opened) (ps : List Placed) → Stepping m st at t ps
step AtText at t st ps h ih = step_text at t st ps h ih
step AfterEntry at t st ps h ih = step_entry at t st ps h ih
step AfterName at t st ps h ih = step_name at t st ps h ih
step AtExtern at t st ps h ih = step_extern at t st ps h ih
step InExtern at t st ps h ih = step_in_extern at t st ps h ih
step InPattern at t st ps h ih = step_pattern at t st ps h ih
step InCondition at t st ps h ih = step_condition at t st ps h ih
step InResult at t st ps h ih = step_result at t st ps h ih
step AfterSemicolon at t st ps h ih = step_semicolon at t st ps h ih
step ConditionCall at t st ps h ih = step_condition_call at t st ps h ih
step ResultCall at t st ps h ih = step_result_call at t st ps h ih

sound_end : (m : Mode) (st : List Opened) → T (accepts m st []) → Fine m st []
sound_end AtText [] h = record { text = done; spells = refl; allowed = refl }
sound_end AtText (_ ∷ _) h = elim h [ ]
sound_end AfterEntry st h = elim h [ ]
sound_end AfterName st h = elim h [ ]
sound_end AtExtern st h = elim h [ ]
sound_end InExtern st h = elim h [ ]
sound_end InPattern st h = elim h [ ]
sound_end InCondition st h = elim h [ ]
sound_end InResult st h = elim h [ ]
sound_end AfterSemicolon st h = elim h [ ]
sound_end ConditionCall st h = elim h [ ]
sound_end ResultCall st h = elim h [ ]

sound : (ts : List Placed) (m : Mode) (st : List Opened) → T (accepts m st ts) → Fine m st ts
sound [] m st h = sound_end m st h
sound (p ∷ ps) m st h = step m p.start p.what st ps h (λ n rest k. sound ps n rest k)

-- what is accepted spells a text
pub accepted_spells : (ts : List Placed) → accepts AtText [] ts ≡ true → (x : Text) × (spell_text x ≡ ts) × (text_allowed x ≡ true)
accepted_spells ts h = let f = sound ts AtText [] (rw h tt) in (f.text, f.spells, f.allowed)
