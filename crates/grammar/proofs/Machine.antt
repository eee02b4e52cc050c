-- The machine accepts the tokens that spell a text, `text_taken`.
use Prim.Native.Nat.{ℕ}
use mathlib.Core.List.{List, [], ◌∷◌}
use mathlib.Core.Bool.{true, false, true≢false, false≢true}
use mathlib.Core.Path.{◌≡◌, refl, ◌∙◌}
use Rattle.file.proofs.Below.{both_first, both_second}
use Rattle.tokens.specs.Token.{right_brace, right_bracket, right_angle, colon, equals, semicolon, identifier, number, variable, quoted, Placed}
use Rattle.grammar.specs.Grammar.{sign_at, Terms, nothing, atomic, bracket, call, Conditions, no_condition, condition, Sentence, Sentences, last, last_closed}
use Rattle.grammar.specs.Grammar.{more, Names, last_name, more_names, Text, done, extern, function, entry, spell_terms, spell_conditions, spell_sentence}
use Rattle.grammar.specs.Grammar.{spell_sentences, spell_names, spell_text, call_free, conditions_allowed, sentence_allowed, sentences_allowed, text_allowed}
use Rattle.grammar.specs.Accept.{Opened, bracket_open, call_open, accepts}
use Rattle.grammar.specs.declared.table.Mode.TheVariants.{AtText, AtExtern, InPattern, InCondition, InResult, AfterSemicolon}

-- ---- what spells a text is accepted

pattern_taken : (t : Terms) (st : List Opened) (after : List Placed) → call_free t ≡ true → accepts InPattern st (spell_terms t after) ≡ accepts InPattern st after
pattern_taken nothing st after h = refl
pattern_taken (atomic at (identifier w) rest) st after h = pattern_taken rest st after h
pattern_taken (atomic at (number w) rest) st after h = pattern_taken rest st after h
pattern_taken (atomic at (variable k w) rest) st after h = pattern_taken rest st after h
pattern_taken (atomic at (quoted w) rest) st after h = pattern_taken rest st after h
pattern_taken (bracket l inside r rest) st after h =
    pattern_taken inside (bracket_open ∷ st) (sign_at r right_bracket ∷ spell_terms rest after) (both_first (call_free inside) (call_free rest) h)
    ∙ pattern_taken rest st after (both_second (call_free inside) (call_free rest) h)
pattern_taken (call l f inside r rest) st after h = let z : true ≡ false = cc in absurd (true≢false z)

condition_taken : (t : Terms) (st : List Opened) (after : List Placed) → accepts InCondition st (spell_terms t after) ≡ accepts InCondition st after
condition_taken nothing st after = refl
condition_taken (atomic at (identifier w) rest) st after = condition_taken rest st after
condition_taken (atomic at (number w) rest) st after = condition_taken rest st after
condition_taken (atomic at (variable k w) rest) st after = condition_taken rest st after
condition_taken (atomic at (quoted w) rest) st after = condition_taken rest st after
condition_taken (bracket l inside r rest) st after = condition_taken inside (bracket_open ∷ st) (sign_at r right_bracket ∷ spell_terms rest after) ∙ condition_taken rest st after
condition_taken (call l f inside r rest) st after = condition_taken inside (call_open ∷ st) (sign_at r right_angle ∷ spell_terms rest after) ∙ condition_taken rest st after

result_taken : (t : Terms) (st : List Opened) (after : List Placed) → accepts InResult st (spell_terms t after) ≡ accepts InResult st after
result_taken nothing st after = refl
result_taken (atomic at (identifier w) rest) st after = result_taken rest st after
result_taken (atomic at (number w) rest) st after = result_taken rest st after
result_taken (atomic at (variable k w) rest) st after = result_taken rest st after
result_taken (atomic at (quoted w) rest) st after = result_taken rest st after
result_taken (bracket l inside r rest) st after = result_taken inside (bracket_open ∷ st) (sign_at r right_bracket ∷ spell_terms rest after) ∙ result_taken rest st after
result_taken (call l f inside r rest) st after = result_taken inside (call_open ∷ st) (sign_at r right_angle ∷ spell_terms rest after) ∙ result_taken rest st after

-- conditions, `=` and the result
conditions_taken : (cs : Conditions) (e : ℕ) (r : Terms) (after : List Placed) → conditions_allowed cs ≡ true
    → accepts InPattern [] (spell_conditions cs (sign_at e equals ∷ spell_terms r after)) ≡ accepts InResult [] after
conditions_taken no_condition e r after h = result_taken r [] after
conditions_taken (condition c a d p cs) e r after h =
    condition_taken a [] (sign_at d colon ∷ spell_terms p (spell_conditions cs (sign_at e equals ∷ spell_terms r after)))
    ∙ pattern_taken p [] (spell_conditions cs (sign_at e equals ∷ spell_terms r after)) (both_first (call_free p) (conditions_allowed cs) h)
    ∙ conditions_taken cs e r after (both_second (call_free p) (conditions_allowed cs) h)

sentence_taken : (x : Sentence) (after : List Placed) → sentence_allowed x ≡ true → accepts InPattern [] (spell_sentence x after) ≡ accepts InResult [] after
sentence_taken x after h =
    pattern_taken x.pattern [] (spell_conditions x.conditions (sign_at x.equals_at equals ∷ spell_terms x.result after))
    (both_first (call_free x.pattern) (conditions_allowed x.conditions) h)
    ∙ conditions_taken x.conditions x.equals_at x.result after (both_second (call_free x.pattern) (conditions_allowed x.conditions) h)

-- a sentence may follow a semicolon
follows : (p : Terms) (cs : Conditions) (e : ℕ) (r : Terms) (after : List Placed) → call_free p ≡ true
    → accepts AfterSemicolon [] (spell_terms p (spell_conditions cs (sign_at e equals ∷ spell_terms r after)))
    ≡ accepts InPattern [] (spell_terms p (spell_conditions cs (sign_at e equals ∷ spell_terms r after)))
follows nothing no_condition e r after h = refl
follows nothing (condition c a d q cs) e r after h = refl
follows (atomic at (identifier w) rest) cs e r after h = refl
follows (atomic at (number w) rest) cs e r after h = refl
follows (atomic at (variable k w) rest) cs e r after h = refl
follows (atomic at (quoted w) rest) cs e r after h = refl
follows (bracket l inside m rest) cs e r after h = refl
follows (call l f inside m rest) cs e r after h = absurd (false≢true h)

sentence_follows : (x : Sentence) (after : List Placed) → sentence_allowed x ≡ true → accepts AfterSemicolon [] (spell_sentence x after) ≡ accepts InPattern [] (spell_sentence x after)
sentence_follows x after h = follows x.pattern x.conditions x.equals_at x.result after (both_first (call_free x.pattern) (conditions_allowed x.conditions) h)

sentences_follow : (ss : Sentences) (after : List Placed) → sentences_allowed ss ≡ true → accepts AfterSemicolon [] (spell_sentences ss after) ≡ accepts InPattern [] (spell_sentences ss after)
sentences_follow (last x) after h = sentence_follows x after h
sentences_follow (last_closed x c) after h = sentence_follows x (sign_at c semicolon ∷ after) h
sentences_follow (more x c rest) after h =
    sentence_follows x (sign_at c semicolon ∷ spell_sentences rest after) (both_first (sentence_allowed x) (sentences_allowed rest) h)

sentences_taken : (ss : Sentences) (c : ℕ) (after : List Placed) → sentences_allowed ss ≡ true
    → accepts InPattern [] (spell_sentences ss (sign_at c right_brace ∷ after)) ≡ accepts AtText [] after
sentences_taken (last x) c after h = sentence_taken x (sign_at c right_brace ∷ after) h
sentences_taken (last_closed x e) c after h = sentence_taken x (sign_at e semicolon ∷ sign_at c right_brace ∷ after) h
sentences_taken (more x e rest) c after h =
    let later : sentences_allowed rest ≡ true = both_second (sentence_allowed x) (sentences_allowed rest) h in
    sentence_taken x (sign_at e semicolon ∷ spell_sentences rest (sign_at c right_brace ∷ after)) (both_first (sentence_allowed x) (sentences_allowed rest) h)
    ∙ sentences_follow rest (sign_at c right_brace ∷ after) later
    ∙ sentences_taken rest c after later

names_taken : (names : Names) (after : List Placed) → accepts AtExtern [] (spell_names names after) ≡ accepts AtText [] after
names_taken (last_name i c) after = refl
names_taken (more_names i c rest) after = names_taken rest after

-- a text is accepted
pub text_taken : (text : Text) → text_allowed text ≡ true → accepts AtText [] (spell_text text) ≡ true
text_taken done h = refl
text_taken (extern at names rest) h = names_taken names (spell_text rest) ∙ text_taken rest h
text_taken (function f rest) h =
    sentences_taken f.sentences f.right_at (spell_text rest) (both_first (sentences_allowed f.sentences) (text_allowed rest) h)
    ∙ text_taken rest (both_second (sentences_allowed f.sentences) (text_allowed rest) h)
text_taken (entry at f rest) h =
    sentences_taken f.sentences f.right_at (spell_text rest) (both_first (sentences_allowed f.sentences) (text_allowed rest) h)
    ∙ text_taken rest (both_second (sentences_allowed f.sentences) (text_allowed rest) h)
