-- A token of a text stands in the text at its place. So the names of a phrase are spelled there, and its spans lie inside the text.
use Prim.Native.Nat.{ℕ, suc, ◌+◌, ◌≤◌}
use mathlib.Core.List.{List, [], ◌∷◌, ◌++◌, append_assoc, nil≢cons, tail-eq_of_cons-eq, flat_map}
use mathlib.Core.Bool.{Bool, true, not, ◌&&◌, and-true, false≢true}
use mathlib.Core.Path.{◌≡◌, refl, ◌∙◌}
use native.Mathlib.Omega.{arith}
use lib.ListN.{length, take, drop, length-append}
use lib.Seq.{drop_at, take-append_seam, drop-drop}
use lib.Dec.{eqb}
use borrow.Author.Tests.{le-leb}
use Rattle.names.specs.Name.{digit_byte, letter_byte, name_byte, every_byte, length_allowed, name_allowed, number_allowed}
use Rattle.file.specs.Fields.{scalar_allowed}
use Rattle.file.proofs.Below.{both, both_first, both_second}
use Rattle.law.specs.Tree.{Kind}
use Rattle.tokens.specs.Token.{right_brace, right_bracket, right_angle, colon, equals, semicolon, Atom, identifier, number}
use Rattle.tokens.specs.Token.{variable, quoted, quotable, atom_allowed, atom_bytes, kind_byte, token_allowed, token_bytes}
use Rattle.tokens.specs.Token.{Piece, blank, comment, token, piece_bytes, pieces_bytes, Lexed, Placed, placed}
use Rattle.grammar.specs.Grammar.{sign_at, atom_at, Terms, nothing, atomic, bracket, call, Conditions, no_condition, condition, Sentence, Sentences}
use Rattle.grammar.specs.Grammar.{last, last_closed, more, Function, Names, last_name, more_names, Text, done, extern, function, entry, spell_terms}
use Rattle.grammar.specs.Grammar.{spell_conditions, spell_sentence, spell_sentences, spell_function, spell_names, spell_text, Written}
use Rattle.encoding.specs.Encode.{start_of, end_of, conditions_start, sentence_list, sentences_in, functions_of, sentences_of}
use Rattle.encoding.specs.LawOfText.{short}
use Rattle.encoding.proofs.Lists.{All, all_append}
use Rattle.encoding.proofs.TermsRead.{Spelled, Word, AtomWithin, Within}
use Rattle.encoding.proofs.SentencesRead.{WithinConditions, WithinSentence}

-- a token that may be one, and whose bytes stand at its place
pub record Standing (b : List ℕ) (p : Placed) : Type 0 where
  pub allowed : token_allowed p.what ≡ true
  pub here : Spelled b p.start (token_bytes p.what)

-- bytes that stand between others
spelled_between : (front w after b : List ℕ) (at : ℕ) → front ++ (w ++ after) ≡ b → length front ≡ at → Spelled b at w
spelled_between front w after b at e l =
    record {
      inside = rw (← e, length-append front (w ++ after), length-append w after, l) (omega arith);
      same = rw (← e, drop_at front (w ++ after) at l) (take-append_seam w after);
    }

-- tokens stand where they are placed
pub placed_stand : (b : List ℕ) (ps : List Piece) (front : List ℕ) (at : ℕ) → Lexed ps → front ++ pieces_bytes ps ≡ b → length front ≡ at → All (Standing b) (placed at ps)
unfolding placed pieces_bytes
placed_stand b [] front at h e l = tt
placed_stand b (blank k ∷ ps) front at h e l =
    placed_stand b ps (front ++ piece_bytes (blank k)) (at + length (piece_bytes (blank k))) h.2 (append_assoc front (piece_bytes (blank k)) (pieces_bytes ps) ∙ e)
    (length-append front (piece_bytes (blank k)) ∙ rw l)
placed_stand b (comment cs ∷ ps) front at h e l =
    placed_stand b ps (front ++ piece_bytes (comment cs)) (at + length (piece_bytes (comment cs))) h.2 (append_assoc front (piece_bytes (comment cs)) (pieces_bytes ps) ∙ e)
    (length-append front (piece_bytes (comment cs)) ∙ rw l)
placed_stand b (token t ∷ ps) front at h e l = (
  record { allowed = h.0; here = spelled_between front (token_bytes t) (pieces_bytes ps) b at e l },
  placed_stand b ps (front ++ token_bytes t) (at + length (token_bytes t)) h.2 (append_assoc front (token_bytes t) (pieces_bytes ps) ∙ e)
      (length-append front (token_bytes t) ∙ rw l),
)

written_stand : (b : List ℕ) (x : Text) → Written b x → All (Standing b) (spell_text x)
written_stand b x w = rw w.spelled (placed_stand b w.pieces [] 0 w.lexed w.whole refl)

-- ---- atoms

-- an index behind its letter and point
second_tail : (d : List ℕ) (x y n : ℕ) (i : List ℕ) → take (suc (suc n)) d ≡ x ∷ y ∷ i → take n (drop 2 d) ≡ i
second_tail [] x y n i h = absurd (nil≢cons h)
second_tail (a ∷ []) x y n i h = absurd (nil≢cons (tail-eq_of_cons-eq h))
second_tail (a ∷ c ∷ d) x y n i h = tail-eq_of_cons-eq (tail-eq_of_cons-eq h)

index_spelled : (b : List ℕ) (at : ℕ) (k : Kind) (i : List ℕ) → Spelled b at (atom_bytes (variable k i)) → Spelled b (at + 2) i
index_spelled b at k i s =
    record {
      inside = omega (arith, s.inside);
      same = rw (← drop-drop 2 at b) (second_tail (drop at b) (kind_byte k) 46 (length i) i s.same);
    }

scalars : (cs : List ℕ) → every_byte quotable cs ≡ true → every_byte scalar_allowed cs ≡ true
unfolding every_byte
scalars [] h = refl
scalars (c ∷ cs) h =
    let q = both_first (quotable c) (every_byte quotable cs) h in
    both (scalar_allowed c) (every_byte scalar_allowed cs)
    (both_first (scalar_allowed c) (not (eqb c 39)) (both_first (scalar_allowed c && not (eqb c 39)) (not (eqb c 92)) q))
    (scalars cs (both_second (quotable c) (every_byte quotable cs) h))

-- bytes that are all allowed may be spelled if they are not too many
limited : (p : ℕ → Bool) (c : ℕ) (cs : List ℕ) → every_byte p (c ∷ cs) ≡ true → length_allowed (length (c ∷ cs)) && every_byte p (c ∷ cs) ≡ short (c ∷ cs)
limited p c cs h = rw (h, le-leb 1 (length (c ∷ cs)) (omega arith)) (and-true (short (c ∷ cs)))

identifier_limited : (w : List ℕ) → atom_allowed (identifier w) ≡ true → name_allowed w ≡ short w
unfolding every_byte
identifier_limited [] h = absurd (false≢true h)
identifier_limited (c ∷ cs) h =
    let letter = both_first (letter_byte c) (every_byte name_byte cs) h in
    limited name_byte c cs (both (name_byte c) (every_byte name_byte cs) (rw letter) (both_second (letter_byte c) (every_byte name_byte cs) h))

number_limited : (w : List ℕ) → atom_allowed (number w) ≡ true → number_allowed w ≡ short w
number_limited [] h = absurd (false≢true h)
number_limited (c ∷ cs) h = limited digit_byte c cs h

index_limited : (k : Kind) (i : List ℕ) → atom_allowed (variable k i) ≡ true → name_allowed i ≡ short i
index_limited k [] h = absurd (false≢true h)
index_limited k (c ∷ cs) h = limited name_byte c cs h

atom_within : (b : List ℕ) (at : ℕ) (a : Atom) → Standing b (atom_at at a) → AtomWithin b at a
atom_within b at (identifier w) s = (s.here, identifier_limited w s.allowed)
atom_within b at (number w) s = (s.here, number_limited w s.allowed)
atom_within b at (variable k i) s = (index_spelled b at k i s.here, index_limited k i s.allowed)
atom_within b at (quoted []) s = absurd (false≢true s.allowed)
atom_within b at (quoted (c ∷ cs)) s = scalars (c ∷ cs) s.allowed

-- ---- phrases; each law also says that the tokens after the phrase stand

module _ (b : List ℕ) where
  abbrev Stand : List Placed → Type 0
  Stand = All (Standing b)

  terms_within : (t : Terms) (after : List Placed) → Stand (spell_terms t after) → Within b t × Stand after
  terms_within nothing after h = (tt, h)
  terms_within (atomic at a rest) after h =
      let r = terms_within rest after h.1 in
      ((atom_within b at a h.0, r.0), r.1)
  terms_within (bracket l inside m rest) after h =
      let i = terms_within inside (sign_at m right_bracket ∷ spell_terms rest after) h.1 in
      let r = terms_within rest after i.1.1 in
      ((i.0, r.0), r.1)
  terms_within (call l f inside m rest) after h =
      let i = terms_within inside (sign_at m right_angle ∷ spell_terms rest after) h.1.1 in
      let r = terms_within rest after i.1.1 in
      ((atom_within b f.start (identifier f.spelled) h.1.0, omega (arith, h.0.here.inside), omega (arith, i.1.0.here.inside), i.0, r.0), r.1)

  -- their span
  start_inside : (t : Terms) (other : ℕ) (after : List Placed) → Stand (spell_terms t after) → other ≤ length b → start_of t other ≤ length b
  start_inside nothing other after h k = k
  start_inside (atomic at a rest) other after h k = omega (arith, h.0.here.inside)
  start_inside (bracket l inside m rest) other after h k = omega (arith, h.0.here.inside)
  start_inside (call l f inside m rest) other after h k = omega (arith, h.0.here.inside)

  end_inside : (t : Terms) (other : ℕ) (after : List Placed) → Stand (spell_terms t after) → other ≤ length b → end_of t other ≤ length b
  end_inside nothing other after h k = k
  end_inside (atomic at a rest) other after h k = end_inside rest (at + length (atom_bytes a)) after h.1 h.0.here.inside
  end_inside (bracket l inside m rest) other after h k =
      let i = terms_within inside (sign_at m right_bracket ∷ spell_terms rest after) h.1 in
      end_inside rest (m + 1) after i.1.1 i.1.0.here.inside
  end_inside (call l f inside m rest) other after h k =
      let i = terms_within inside (sign_at m right_angle ∷ spell_terms rest after) h.1.1 in
      end_inside rest (m + 1) after i.1.1 i.1.0.here.inside

  conditions_within_lem : (cs : Conditions) (after : List Placed) → Stand (spell_conditions cs after) → WithinConditions b cs × Stand after
  conditions_within_lem no_condition after h = (tt, h)
  conditions_within_lem (condition c result d pattern rest) after h =
      let x = terms_within result (sign_at d colon ∷ spell_terms pattern (spell_conditions rest after)) h.1 in
      let y = terms_within pattern (spell_conditions rest after) x.1.1 in
      let r = conditions_within_lem rest after y.1 in
      ((x.0, y.0, r.0), r.1)

  conditions_start_lem : (cs : Conditions) (other : ℕ) (after : List Placed) → Stand (spell_conditions cs after) → other ≤ length b → conditions_start cs other ≤ length b
  conditions_start_lem no_condition other after h k = k
  conditions_start_lem (condition c x d y rest) other after h k = omega (arith, h.0.here.inside)

  sentence_within : (x : Sentence) (after : List Placed) → Stand (spell_sentence x after) → WithinSentence b x × Stand after
  sentence_within x after h =
      let tail = sign_at x.equals_at equals ∷ spell_terms x.result after in
      let p = terms_within x.pattern (spell_conditions x.conditions tail) h in
      let c = conditions_within_lem x.conditions tail p.1 in
      let r = terms_within x.result after c.1.1 in (
        record {
          pattern = p.0;
          conditions = c.0;
          result = r.0;
          starts =
              start_inside x.pattern (conditions_start x.conditions x.equals_at) (spell_conditions x.conditions tail) h
              (conditions_start_lem x.conditions x.equals_at tail p.1 (omega (arith, c.1.0.here.inside)));
          ends = end_inside x.result (x.equals_at + 1) after c.1.1 c.1.0.here.inside;
        },
        r.1,
      )

  sentences_within_lem : (ss : Sentences) (after : List Placed) → Stand (spell_sentences ss after) → All (WithinSentence b) (sentence_list ss) × Stand after
  sentences_within_lem (last x) after h = let r = sentence_within x after h in ((r.0, tt), r.1)
  sentences_within_lem (last_closed x c) after h = let r = sentence_within x (sign_at c semicolon ∷ after) h in ((r.0, tt), r.1.1)
  sentences_within_lem (more x c rest) after h =
      let r = sentence_within x (sign_at c semicolon ∷ spell_sentences rest after) h in
      let s = sentences_within_lem rest after r.1.1 in
      ((r.0, s.0), s.1)

  names_stand : (names : Names) (after : List Placed) → Stand (spell_names names after) → Stand after
  names_stand (last_name i c) after h = h.1.1
  names_stand (more_names i c rest) after h = names_stand rest after h.1.1

  -- a function's name is spelled where it stands
  abbrev pub NameStands : Function → Type 0
  NameStands f = Word name_allowed b f.name.start f.name.spelled

  abbrev TextWithin : Text → Type 0
  TextWithin x = All (WithinSentence b) (sentences_of x) × All NameStands (functions_of x)

  function_within : (f : Function) (rest : Text) → Stand (spell_function f (spell_text rest)) → (Stand (spell_text rest) → TextWithin rest) → TextWithin (function f rest)
  unfolding flat_map
  function_within f rest h later =
      let s = sentences_within_lem f.sentences (sign_at f.right_at right_brace ∷ spell_text rest) h.1.1 in
      let r = later s.1.1 in
      (all_append (WithinSentence b) (sentences_in f) (sentences_of rest) s.0 r.0, (atom_within b f.name.start (identifier f.name.spelled) h.0, r.1))

  text_within : (x : Text) → Stand (spell_text x) → TextWithin x
  unfolding flat_map
  text_within done h = (tt, tt)
  text_within (extern at names rest) h = text_within rest (names_stand names (spell_text rest) h.1)
  text_within (function f rest) h = function_within f rest h (λ k. text_within rest k)
  text_within (entry at f rest) h = function_within f rest h.1 (λ k. text_within rest k)

  -- of a text of the grammar
  pub sentences_inside : (x : Text) → Written b x → All (WithinSentence b) (sentences_of x)
  sentences_inside x w = (text_within x (written_stand b x w)).0

  pub names_inside : (x : Text) → Written b x → All NameStands (functions_of x)
  names_inside x w = (text_within x (written_stand b x w)).1
