-- Laws of inference by rounds (specs/Infer.antt). Tables only grow; a round that changes nothing leaves the table as it is, so that a settled
-- table is closed: what a sentence's result may be by the table is within the table's format of its function.
use Prim.Native.Nat.{ℕ, zero, suc, ◌+◌}
use mathlib.Core.Bool.{Bool, true, false, ◌||◌, false≢true, or-true}
use mathlib.Core.List.{List, [], ◌∷◌}
use mathlib.Core.Logic.{◌⊎◌, inl, inr}
use mathlib.Core.Option.{Option, some}
use mathlib.Core.Path.{◌≡◌, refl, sym, ap, ◌∙◌}
use native.Mathlib.Omega.{arith}
use lib.ListN.{length, get_elem?}
use lib.Dec.{ltb}
use borrow.Author.Tests.{not-false}
use Rattle.names.specs.Name.{same_bytes}
use Rattle.names.proofs.Laws.{same_sound, same_refl}
use Rattle.file.specs.Answer.{given, ◌>>=◌}
use Rattle.file.proofs.Answers.{bind_given, pass_given}
use Rattle.law.specs.Tree.{Mark, Run, Sentences, no_sentence, sentence, Conditions, Function, Law, skip}
use Rattle.shapes.specs.Format.{Shapes, Format, never, of, size}
use Rattle.shapes.specs.Join.{join_formats}
use Rattle.shapes.specs.Same.{same_format}
use Rattle.shapes.proofs.JoinLaws.{Within, some_of, some_admitted, join_over_left, join_over_right, within_join, join_within}
use Rattle.shapes.proofs.SameLaws.{same_equal}
use Rattle.formats.specs.FormatOf.{pattern_shapes, Results, result_shapes}
use Rattle.formats.specs.Infer.{Entry, names_of, find, or_never, all_at, join_results, join_patterns, round, Rounds, rounds_from, arguments, Inferred, infer_within, infer, round_limit}
use Rattle.formats.specs.Code.Entries.{entry_names}
use Rattle.formats.proofs.EntryLaws.{names_all_at, names_renew, name_of, updated, changes, round_turn, arguments_turn, rounds_first, rounds_hold}
use Rattle.formats.proofs.TableLaws.{defines, found_defined, found_some, find_renew, find_renew_other, renew_same}

-- ---- what holds of every sentence, and of every function

-- of its pattern and its result
abbrev pub EachSentence : (Run → Run → Type 0) → Sentences → Type 0
EachSentence P no_sentence = Unit {0}
EachSentence P (sentence m p cs r ss) = P p r × EachSentence P ss

-- of the function
abbrev pub EachFunction : (Function → Type 0) → Law → Type 0
EachFunction P [] = Unit {0}
EachFunction P (f ∷ fs) = P f × EachFunction P fs

module _ (P Q : Run → Run → Type 0) where
  -- what follows from it holds of every sentence too
  pub each_sentence_map : ((p r : Run) → P p r → Q p r) → (ss : Sentences) → EachSentence P ss → EachSentence Q ss
  each_sentence_map k no_sentence h = tt
  each_sentence_map k (sentence m p cs r ss) h = (k p r h.0, each_sentence_map k ss h.1)

module _ (P Q : Function → Type 0) where
  -- and of every function
  pub each_function_map : ((f : Function) → P f → Q f) → (law : Law) → EachFunction P law → EachFunction Q law
  each_function_map k [] h = tt
  each_function_map k (f ∷ fs) h = (k f h.0, each_function_map k fs h.1)

module _ (P : Run → Run → Type 0) where
  -- of the sentences from a position on
  pub each_skip : (i : ℕ) (ss : Sentences) → EachSentence P ss → EachSentence P (skip i ss)
  unfolding skip
  each_skip zero ss h = h
  each_skip (suc i) no_sentence h = tt
  each_skip (suc i) (sentence m p cs r ss) h = each_skip i ss h.1

  -- of the sentence at a position
  pub each_sentence_at : (i : ℕ) (ss : Sentences) (m : Mark) (p : Run) (cs : Conditions) (r : Run) (after : Sentences)
      → skip i ss ≡ sentence m p cs r after → EachSentence P ss → P p r
  each_sentence_at i ss m p cs r after e h =
      let k : EachSentence P (sentence m p cs r after) = rw e at (each_skip i ss h) in
      k.0

module _ (P : Function → Type 0) where
  -- of the function at a position
  pub each_function_at : (i : ℕ) (law : Law) (f : Function) → get_elem? law i ≡ some f → EachFunction P law → P f
  each_function_at i [] f e h = let z : ◌≡◌ {A = ℕ} 0 1 = cc in absurd (omega arith)
  each_function_at zero (g ∷ gs) f e h =
      let q : g ≡ f = cc in
      rw q at h.0
  each_function_at (suc i) (g ∷ gs) f e h = each_function_at i gs f e h.1

-- ---- one function's turn

-- the join of the results is over each, and over what was joined before
pub results_joined : (limit : ℕ) (t : Results) (f : Format) (ss : Sentences) (g : Format) → join_results limit t f ss ≡ given g
    → Within f g × EachSentence (λ p r. Within (of (result_shapes t r)) g) ss
unfolding join_results
results_joined limit t f no_sentence g h =
    let e : f ≡ g = cc in
    (λ x a. rw e at a, tt)
results_joined limit t f (sentence m p cs r ss) g h =
    pass_given 10 (ltb limit (size (result_shapes t r))) (join_results limit t (join_formats f (of (result_shapes t r))) ss) g h (λ few k.
    let (over, each) = results_joined limit t (join_formats f (of (result_shapes t r))) ss g k in (
      λ x a. over x (join_over_left f (of (result_shapes t r)) x a),
      (λ x a. over x (join_over_right f (of (result_shapes t r)) x a), each),
    )
    )

-- and so of the patterns
pub patterns_joined : (limit : ℕ) (f : Format) (ss : Sentences) (g : Format) → join_patterns limit f ss ≡ given g
    → Within f g × EachSentence (λ p r. Within (of (pattern_shapes p)) g) ss
unfolding join_patterns
patterns_joined limit f no_sentence g h =
    let e : f ≡ g = cc in
    (λ x a. rw e at a, tt)
patterns_joined limit f (sentence m p cs r ss) g h =
    pass_given 10 (ltb limit (size (pattern_shapes p))) (join_patterns limit (join_formats f (of (pattern_shapes p))) ss) g h (λ few k.
    let (over, each) = patterns_joined limit (join_formats f (of (pattern_shapes p))) ss g k in (
      λ x a. over x (join_over_left f (of (pattern_shapes p)) x a),
      (λ x a. over x (join_over_right f (of (pattern_shapes p)) x a), each),
    )
    )

-- ---- tables grow

-- each format of the first is within the second's of the same name
abbrev pub Grows : List Entry → List Entry → Type 0
Grows es next = (n : List ℕ) (f : Format) → find es n ≡ some f → (g : Format) × (find next n ≡ some g) × Within f g

-- a table that grows twice grows
grows_then : (a b c : List Entry) → Grows a b → Grows b c → Grows a c
grows_then a b c h k n f e =
    let (g, e₁, u) = h n f e in
    let (i, e₂, v) = k n g e₁ in
    (i, e₂, λ x p. v x (u x p))

-- the function's own format is the join
find_updated : (n : List ℕ) (g : Format) (es : List Entry) (f : Format) → find es n ≡ some f → find (updated n g es) n ≡ some (join_formats f g)
find_updated n g es f e = rw e (find_renew n (join_formats f g) es (rw e))

-- a function's turn lets the table grow
updated_grows : (m : List ℕ) (g : Format) (es : List Entry) → Grows es (updated m g es)
updated_grows m g es n f e = go (same_bytes m n) refl
  where
    go : (b : Bool) → same_bytes m n ≡ b → (h : Format) × (find (updated m g es) n ≡ some h) × Within f h
    go true q = (join_formats f g, rw (same_sound m n q) (find_updated n g es f e), join_over_left f g)
    go false q = (f, find_renew_other n m (join_formats (or_never (find es m)) g) es q ∙ e, λ x a. a)

-- ---- a round

-- the table grows and keeps its names
pub round_grows : (limit : ℕ) (law : Law) (es : List Entry) (c : Bool) (next : List Entry × Bool) → round limit law es c ≡ given next
    → Grows es next.0 × (entry_names next.0 ≡ entry_names es)
unfolding round
round_grows limit [] es c next h =
    let e : es ≡ next.0 = cc in
    (λ n f k. (f, rw e at k, λ x a. a), ap entry_names (sym e))
round_grows limit (f ∷ fs) es c next h =
    round_turn limit f fs es c next h (λ g e k.
    let (grows, names) = round_grows limit fs (updated (name_of f) g es) (c || changes f g es) next k in (
      grows_then es (updated (name_of f) g es) next.0 (updated_grows (name_of f) g es) grows,
      names ∙ names_renew (name_of f) (join_formats (or_never (find es (name_of f))) g) es,
    )
    )

-- a function whose turn finds nothing new in the table
abbrev Quiet : ℕ → List Entry → Function → Type 0
Quiet limit es f =
    (g : Format) × (join_results limit (find es) never f.sentences ≡ given g) × (join_formats (or_never (find es (name_of f))) g ≡ or_never (find es (name_of f)))

-- neither of two tests holds
neither : (a b : Bool) → a || b ≡ false → (a ≡ false) × (b ≡ false)
neither true b h = absurd (false≢true (sym h))
neither false b h = (refl, h)

-- in a round that changed nothing the table stays the same, and no function's turn finds anything new
round_quiet : (limit : ℕ) (law : Law) (es : List Entry) (c : Bool) (next : List Entry × Bool) → round limit law es c ≡ given next → next.1 ≡ false
    → (c ≡ false) × (next.0 ≡ es) × EachFunction (Quiet limit es) law
unfolding round
round_quiet limit [] es c next h q =
    let e : (es, c) ≡ next = cc in
    (ap (λ p. p.1) e ∙ q, ap (λ p. p.0) (sym e), tt)
round_quiet limit (f ∷ fs) es c next h q =
    round_turn limit f fs es c next h (λ g e k.
    let (still, same, each) = round_quiet limit fs (updated (name_of f) g es) (c || changes f g es) next k q in
    let (still_before, no_change) = neither c (changes f g es) still in
    let old : Format = or_never (find es (name_of f)) in
    let join_same : join_formats old g ≡ old = same_equal (join_formats old g) old (not-false (same_format (join_formats old g) old) no_change) in
    let table_same : updated (name_of f) g es ≡ es = rw join_same (renew_same (name_of f) es) in
    (still_before, same ∙ table_same, ((g, e, join_same), rw table_same at each))
    )

-- ---- a settled table is closed

-- the table has a format for the function, and what each sentence's result may be by the table adds nothing to it
pub record ResultsWithin (results : List Entry) (f : Function) : Type 0 where
  pub format : Format
  pub is_found : find results (name_of f) ≡ some format
  pub each : EachSentence (λ p r. join_formats format (of (result_shapes (find results) r)) ≡ format) f.sentences

-- the same of the patterns
pub record PatternsWithin (arguments : List Entry) (f : Function) : Type 0 where
  pub format : Format
  pub is_found : find arguments (name_of f) ≡ some format
  pub each : EachSentence (λ p r. join_formats format (of (pattern_shapes p)) ≡ format) f.sentences

-- hence the function's format admits what the format of any of its sentences' results admits
pub results_admitted : (results : List Entry) (f : Function) (w : ResultsWithin results f)
    → EachSentence (λ p r. Within (of (result_shapes (find results) r)) w.format) f.sentences
results_admitted results f w =
    each_sentence_map _ _ (λ p r e. join_within w.format (of (result_shapes (find results) r)) e) f.sentences w.each

-- and so of the patterns
pub patterns_admitted : (arguments : List Entry) (f : Function) (w : PatternsWithin arguments f)
    → EachSentence (λ p r. Within (of (pattern_shapes p)) w.format) f.sentences
patterns_admitted arguments f w =
    each_sentence_map _ _ (λ p r e. join_within w.format (of (pattern_shapes p)) e) f.sentences w.each

-- a table has the names of functions
abbrev pub Names : List Entry → Law → Type 0
Names es law = EachFunction (λ f. (g : Format) × (find es (name_of f) ≡ some g)) law

-- a table of the law's names has them
names_found : (es : List Entry) (law : Law) → entry_names es ≡ names_of law → Names es law
names_found es law e = go law (λ n h. h)
  where
    go : (fs : Law) → ((n : List ℕ) → defines fs n ≡ true → defines law n ≡ true) → Names es fs
    go [] h = tt
    go (f ∷ fs) h = (
      found_some (find es (name_of f)) (found_defined law es (name_of f) e ∙ h (name_of f) (rw (same_refl (name_of f)))),
      go fs (λ n k. h n (rw k (or-true (same_bytes (name_of f) n)))),
    )

-- a function whose turn finds nothing new
quiet_within : (limit : ℕ) (es : List Entry) (f : Function) (format : Format) → find es (name_of f) ≡ some format → Quiet limit es f → ResultsWithin es f
quiet_within limit es f format e (g, h, same) =
    let (over, each) = results_joined limit (find es) never f.sentences g h in
    let join_same : join_formats format g ≡ format = rw e at same in
    record {
      format = format;
      is_found = e;
      each =
          each_sentence_map _ _ (λ p r within. within_join format (of (result_shapes (find es) r)) (λ x a. join_within format g join_same x (within x a)))
          f.sentences each;
    }

-- and so of all functions
all_quiet_within : (limit : ℕ) (es : List Entry) (law : Law) → Names es law → EachFunction (Quiet limit es) law → EachFunction (ResultsWithin es) law
all_quiet_within limit es [] n h = tt
all_quiet_within limit es (f ∷ fs) n h =
    let (format, e) = n.0 in
    (quiet_within limit es f format e h.0, all_quiet_within limit es fs n.1 h.1)

module _ (limit : ℕ) (law : Law) where
  -- a settled table is at rest: a further round changes nothing
  pub settled_rests : (left : ℕ) (es : List Entry) (done : ℕ) (r : Rounds) → rounds_from limit left law es done ≡ given r → r.settled ≡ true
      → round limit law r.results false ≡ given (r.results, false)
  unfolding rounds_from
  settled_rests zero es done r h q =
      let e : false ≡ r.settled = cc in
      absurd (false≢true (e ∙ q))
  settled_rests (suc left) es done r h q =
      rounds_first limit left law es done r h
      (λ next e k. settled_rests left next (suc done) r k q)
      (λ next e k.
      let (still, same, each) = round_quiet limit law es false (next, false) e refl in
      let f : r.results ≡ es = cc in
      rw f (e ∙ rw same)
      )

  -- a table of the law's names that is at rest is closed
  pub rest_closed : (es : List Entry) → entry_names es ≡ names_of law → round limit law es false ≡ given (es, false) → EachFunction (ResultsWithin es) law
  rest_closed es names h =
      let (still, same, each) = round_quiet limit law es false (es, false) h refl in
      all_quiet_within limit es law (names_found es law names) each

-- ---- the arguments' table

-- a table that grows keeps its names
names_grow : (es next : List Entry) (law : Law) → Grows es next → Names es law → Names next law
names_grow es next law grows =
    each_function_map _ _ (λ f (g, e).
    let (h, e₁, over) = grows (name_of f) g e in
    (h, e₁)
    ) law

-- the table grows and keeps its names
pub arguments_grow : (limit : ℕ) (law : Law) (es next : List Entry) → arguments limit law es ≡ given next
    → Grows es next × (entry_names next ≡ entry_names es)
unfolding arguments
arguments_grow limit [] es next h =
    let e : es ≡ next = cc in
    (λ n f k. (f, rw e at k, λ x a. a), ap entry_names (sym e))
arguments_grow limit (f ∷ fs) es next h =
    arguments_turn limit f fs es next h (λ g e k.
    let (grows, names) = arguments_grow limit fs (updated (name_of f) g es) next k in (
      grows_then es (updated (name_of f) g es) next (updated_grows (name_of f) g es) grows,
      names ∙ names_renew (name_of f) (join_formats (or_never (find es (name_of f))) g) es,
    )
    )

-- each pattern is within its function's format
arguments_within : (limit : ℕ) (law : Law) (es next : List Entry) → Names es law → arguments limit law es ≡ given next → EachFunction (PatternsWithin next) law
arguments_within limit [] es next n h = tt
arguments_within limit (f ∷ fs) es next n h =
    arguments_turn limit f fs es next h (λ g e k.
    let now : List Entry = updated (name_of f) g es in
    let (old, is-old) = n.0 in
    let (grows, names) = arguments_grow limit fs now next k in
    let (format, is_found, over) = grows (name_of f) (join_formats old g) (find_updated (name_of f) g es old is-old) in
    let (start, each) = patterns_joined limit never f.sentences g e in (
      record {
        format = format;
        is_found = is_found;
        each =
            each_sentence_map _ _ (λ p r within. within_join format (of (pattern_shapes p)) (λ x a. over x (join_over_right old g x (within x a))))
            f.sentences each;
      },
      arguments_within limit fs now next (names_grow es now fs (updated_grows (name_of f) g es) n.1) k,
    )
    )

-- ---- after a round only names none of whose functions has a sentence are at never

-- a function has no sentence, or its format is not never
abbrev pub Filled : List Entry → Function → Type 0
Filled es f = (f.sentences ≡ no_sentence) ⊎ ((g : Shapes) × (find es (name_of f) ≡ some (of g)))

-- what is over a format that is not never is not never
within_of : (f : Shapes) (g : Format) → Within (of f) g → (h : Shapes) × (g ≡ of h)
within_of f never l = absurd (l (some_of f) (some_admitted f))
within_of f (of h) l = (h, refl)

-- so it stays as the table grows
pub filled_grow : (es next : List Entry) → Grows es next → (f : Function) → Filled es f → Filled next f
filled_grow es next grows f (inl e) = inl e
filled_grow es next grows f (inr (g, e)) =
    let (h, e₁, over) = grows (name_of f) (of g) e in
    let (i, e₂) = within_of g h over in
    inr (i, e₁ ∙ ap some e₂)

-- a join of a sentence's result is not never
results_of : (limit : ℕ) (t : Results) (ss : Sentences) (g : Format) → join_results limit t never ss ≡ given g
    → (ss ≡ no_sentence) ⊎ ((h : Shapes) × (g ≡ of h))
results_of limit t no_sentence g e = inl refl
results_of limit t (sentence m p cs r ss) g e =
    let (start, each) = results_joined limit t never (sentence m p cs r ss) g e in
    inr (within_of (result_shapes t r) g each.0)

-- a round leaves only functions without sentences at never
pub round_fills : (limit : ℕ) (law : Law) (es : List Entry) (c : Bool) (next : List Entry × Bool) → Names es law → round limit law es c ≡ given next
    → EachFunction (Filled next.0) law
round_fills limit [] es c next n h = tt
round_fills limit (f ∷ fs) es c next n h =
    round_turn limit f fs es c next h (λ g e k.
    let now : List Entry = updated (name_of f) g es in
    let (old, is-old) = n.0 in
    let (grows, names) = round_grows limit fs now (c || changes f g es) next k in
    let here : Filled now f = turn old g (find now (name_of f)) (find_updated (name_of f) g es old is-old) (results_of limit (find es) f.sentences g e) in (
      filled_grow now next.0 grows f here,
      round_fills limit fs now (c || changes f g es) next (names_grow es now fs (updated_grows (name_of f) g es) n.1) k,
    )
    )
  where
    turn : (old g : Format) (o : Option Format) → o ≡ some (join_formats old g) → (f.sentences ≡ no_sentence) ⊎ ((h : Shapes) × (g ≡ of h))
        → (f.sentences ≡ no_sentence) ⊎ ((h : Shapes) × (o ≡ some (of h)))
    turn old g o e (inl q) = inl q
    turn old g o e (inr (h, q)) =
        let (i, k) = within_of h (join_formats old g) (λ x a. join_over_right old g x (rw q a)) in
        inr (i, e ∙ ap some k)

-- and so after any number of rounds but none
pub rounds_fill : (limit left : ℕ) (law : Law) (es : List Entry) (done : ℕ) (r : Rounds) → Names es law
    → rounds_from limit (suc left) law es done ≡ given r → EachFunction (Filled r.results) law
rounds_fill limit left law es done r n h =
    rounds_first limit left law es done r h
    (λ next e k.
    rounds_hold limit law (λ t. EachFunction (Filled t) law)
    (λ t u filled given-round. each_function_map _ _ (filled_grow t u.0 (round_grows limit law t false u given-round).0) law filled)
    left next (suc done) r (round_fills limit law es false (next, true) n e) k
    )
    (λ next e k.
    let same : next ≡ r.results = cc in
    rw same at (round_fills limit law es false (next, false) n e)
    )

-- ---- what holds of inferred formats

pub record Holds (limit : ℕ) (law : Law) (i : Inferred) : Type 0 where
  -- both tables have the law's names, sorted
  pub argument_names : entry_names i.formats.arguments ≡ names_of law
  pub result_names : entry_names i.formats.results ≡ names_of law
  -- each pattern is within its function's argument format
  pub patterns : EachFunction (PatternsWithin i.formats.arguments) law
  -- settled results are at rest, and closed
  pub rests : i.settled ≡ true → round limit law i.formats.results false ≡ given (i.formats.results, false)
  pub results : i.settled ≡ true → EachFunction (ResultsWithin i.formats.results) law
  -- only functions without sentences are at never
  pub filled : EachFunction (Filled i.formats.results) law

-- inference that is given, taken apart into the arguments and the rounds
pub inferred_parts : {R : Type 0} (limit most : ℕ) (law : Law) (i : Inferred) → infer_within limit most law ≡ given i
    → ((found : List Entry) → arguments limit law (all_at never (names_of law)) ≡ given found
    → (r : Rounds) → rounds_from limit most law (all_at never (names_of law)) 0 ≡ given r
    → record { formats = record { arguments = found; results = r.results }; rounds = r.rounds; settled = r.settled } ≡ i → R) → R
unfolding infer_within
inferred_parts limit most law i h use-of =
    bind_given (arguments limit law (all_at never (names_of law)))
    (λ found. rounds_from limit most law (all_at never (names_of law)) 0
    >>= (λ r. given (record { formats = record { arguments = found; results = r.results }; rounds = r.rounds; settled = r.settled }))) i h
    (λ found e k.
    bind_given (rounds_from limit most law (all_at never (names_of law)) 0)
    (λ r. given (record { formats = record { arguments = found; results = r.results }; rounds = r.rounds; settled = r.settled })) i k
    (λ r f l. use-of found e r f (cc))
    )

-- it holds after one round or more
pub infer_within_holds : (limit most : ℕ) (law : Law) (i : Inferred) → infer_within limit (suc most) law ≡ given i → Holds limit law i
infer_within_holds limit most law i h = inferred_parts limit (suc most) law i h (λ found e r f same. rw same at (all found e r f))
  where
    start : List Entry
    start = all_at never (names_of law)

    start_names : entry_names start ≡ names_of law
    start_names = names_all_at never (names_of law)

    all : (found : List Entry) → arguments limit law start ≡ given found → (r : Rounds) → rounds_from limit (suc most) law start 0 ≡ given r
        → Holds limit law (record { formats = record { arguments = found; results = r.results }; rounds = r.rounds; settled = r.settled })
    all found e r f =
        let names : entry_names r.results ≡ names_of law =
        rounds_hold limit law (λ t. entry_names t ≡ names_of law) (λ t u n g. (round_grows limit law t false u g).1 ∙ n) (suc most) start 0 r start_names f in
        record {
          argument_names = (arguments_grow limit law start found e).1 ∙ start_names;
          result_names = names;
          patterns = arguments_within limit law start found (names_found start law start_names) e;
          rests = settled_rests limit law (suc most) start 0 r f;
          results = λ q. rest_closed limit law r.results names (settled_rests limit law (suc most) start 0 r f q);
          filled = rounds_fill limit most law start 0 r (names_found start law start_names) f;
        }

-- so it holds of what is inferred: four rounds at least may run
pub infer_holds : (limit : ℕ) (law : Law) (i : Inferred) → infer limit law ≡ given i → Holds limit law i
unfolding infer
infer_holds limit law i h =
    let more : round_limit law ≡ suc (length (names_of law) + 3) = omega arith in
    infer_within_holds limit (length (names_of law) + 3) law i (rw more at h)

-- ---- the same of the sentence at a position of the function at a position

module _ (limit : ℕ) (law : Law) (i : Inferred) (h : infer limit law ≡ given i) (k : ℕ) (f : Function) (at-k : get_elem? law k ≡ some f)
    (j : ℕ) (m : Mark) (p : Run) (cs : Conditions) (r : Run) (after : Sentences) (at_j : skip j f.sentences ≡ sentence m p cs r after) where
  -- its pattern's format adds nothing to the function's argument format
  pub pattern_closed : (format : Format) × (find i.formats.arguments (name_of f) ≡ some format) × (join_formats format (of (pattern_shapes p)) ≡ format)
  pattern_closed =
      let w : PatternsWithin i.formats.arguments f = each_function_at (PatternsWithin i.formats.arguments) k law f at-k (infer_holds limit law i h).patterns in
      (w.format, w.is_found, each_sentence_at _ j f.sentences m p cs r after at_j w.each)

  -- its result's format by a settled table adds nothing to the function's format there
  pub result_closed : i.settled ≡ true → (format : Format) × (find i.formats.results (name_of f) ≡ some format)
      × (join_formats format (of (result_shapes (find i.formats.results) r)) ≡ format)
  result_closed settled =
      let w : ResultsWithin i.formats.results f = each_function_at (ResultsWithin i.formats.results) k law f at-k ((infer_holds limit law i h).results settled) in
      (w.format, w.is_found, each_sentence_at _ j f.sentences m p cs r after at_j w.each)
