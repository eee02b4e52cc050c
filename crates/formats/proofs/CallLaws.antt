-- From the argument formats and the rounds to the whole call.
use Prim.Native.Nat.{ℕ, zero, suc, ◌+◌, ◌*◌, ◌≤◌, ◌<◌}
use mathlib.Core.Bool.{Bool, true, false, ◌||◌, false≢true}
use Rattle.std.specs.Result.{is_err}
use mathlib.Core.List.{List, [], ◌∷◌, ◌++◌}
use mathlib.Core.Path.{◌≡◌, refl, sym, ap, ◌∙◌}
use native.Mathlib.Omega.{arith}
use borrow.Author.Tests.{lt-ltb, le-ltb}
use lib.Dec.{ltb}
use lib.ListN.{length, drop, replicate}
use Rattle.file.specs.Answer.{Answer, refused, given, ◌>>=◌, ◌>>◌, refuse_if}
use Rattle.law.specs.Tree.{Law, Sentences, no_sentence, sentence}
use Rattle.shapes.specs.Format.{Format, never, of, size}
use Rattle.shapes.specs.Join.{join_formats}
use Rattle.formats.specs.FormatOf.{Results, result_shapes, pattern_shapes}
use Rattle.formats.specs.Infer.{Entry, Inferred, Rounds, names_of, all_at, find, join_results, join_patterns, round, rounds_from, round_limit, arguments, infer_within, infer}
use Rattle.formats.specs.Store.{store_size}
use Rattle.formats.specs.Code.Entries.{StoreHolds, start_of}
use Rattle.formats.specs.Code.Turns.{RoundAsked, Holding, too_wide, arguments_stop, rounds_stop, ArgumentsIs, RoundsIs, StartedIs, InferIs}
use Rattle.formats.specs.Call.{inferred_outcome, law_outcome, call_outcome, infer_outcome}
use Rattle.std.specs.Prelude.{Result, Ok, Err}
use Rattle.formats.specs.declared.slots.Slots.{Slots}
use Rattle.formats.specs.declared.placed.Placed.{Placed}
use Rattle.formats.specs.declared.TooWide.{TooWide}
use Rattle.formats.specs.declared.Inferred as code
use Rattle.formats.specs.declared.Unformed.{Unformed}
use Rattle.formats.specs.declared.Unformed.TheVariants as unformed
use Rattle.formats.proofs.EntryLaws.{name_of, updated, changes, infer_given, infer_arguments_over, infer_rounds_over}
use Rattle.formats.proofs.StateLaws.{read_past, start_holds}
use Rattle.formats.proofs.RoundSteps.{names_at_most}
use Rattle.formats.proofs.TurnSteps.{made_not, made_is}
use Rattle.formats.specs.Code.Slots.{SlotsOf, file_names}
use Rattle.file.specs.Sections.{file_of, number_of}
use Rattle.file.proofs.Answers.{map_refused, map_given}
use Rattle.law.specs.Code.Index.{Indexed, Readable}
use Rattle.law.specs.Reading.{tree_of}
use Rattle.law.specs.Law.{law_of, check_answer, check_of}
use Rattle.law.specs.Code.Accepted.{IndexAfter}
use Rattle.file.specs.declared.Refusal.{Refusal}
use Rattle.law.proofs.Accepted.{law_accepted}
use Rattle.law.proofs.Allowed.{accepted_readable}

-- ---- 10 is the only refusal of inference

-- an answer that is given, or refused with 10
abbrev pub OnlyTen : {A : Type 0} → Answer A → Type 0
OnlyTen (given a) = Unit {0}
OnlyTen (refused n) = n ≡ 10

pub only_then : {A B : Type 0} (a : Answer A) (next : A → Answer B) → OnlyTen a → ((x : A) → OnlyTen (next x)) → OnlyTen (a >>= next)
only_then (given x) next h k = k x
only_then (refused n) next h k = h

pub only_pass : {A : Type 0} (b : Bool) (next : Answer A) → OnlyTen next → OnlyTen (refuse_if 10 b >> next)
only_pass true next h = refl
only_pass false next h = h

results_ten : (limit : ℕ) (t : Results) (f : Format) (ss : Sentences) → OnlyTen (join_results limit t f ss)
unfolding join_results
results_ten limit t f no_sentence = tt
results_ten limit t f (sentence m p cs r ss) =
    only_pass (ltb limit (size (result_shapes t r))) (join_results limit t (join_formats f (of (result_shapes t r))) ss)
    (results_ten limit t (join_formats f (of (result_shapes t r))) ss)

patterns_ten : (limit : ℕ) (f : Format) (ss : Sentences) → OnlyTen (join_patterns limit f ss)
unfolding join_patterns
patterns_ten limit f no_sentence = tt
patterns_ten limit f (sentence m p cs r ss) =
    only_pass (ltb limit (size (pattern_shapes p))) (join_patterns limit (join_formats f (of (pattern_shapes p))) ss)
    (patterns_ten limit (join_formats f (of (pattern_shapes p))) ss)

round_ten : (limit : ℕ) (law : Law) (es : List Entry) (changed : Bool) → OnlyTen (round limit law es changed)
unfolding round
round_ten limit [] es changed = tt
round_ten limit (f ∷ fs) es changed =
    only_then (join_results limit (find es) never f.sentences) (λ g. round limit fs (updated (name_of f) g es) (changed || changes f g es))
    (results_ten limit (find es) never f.sentences)
    (λ g. round_ten limit fs (updated (name_of f) g es) (changed || changes f g es))

arguments_ten : (limit : ℕ) (law : Law) (es : List Entry) → OnlyTen (arguments limit law es)
unfolding arguments
arguments_ten limit [] es = tt
arguments_ten limit (f ∷ fs) es =
    only_then (join_patterns limit never f.sentences) (λ g. arguments limit fs (updated (name_of f) g es))
    (patterns_ten limit never f.sentences)
    (λ g. arguments_ten limit fs (updated (name_of f) g es))

rounds_ten : (limit left : ℕ) (law : Law) (es : List Entry) (done : ℕ) → OnlyTen (rounds_from limit left law es done)
unfolding rounds_from
rounds_ten limit zero law es done = tt
rounds_ten limit (suc left) law es done =
    only_then (round limit law es false) next (round_ten limit law es false) (λ p. next_ten p.0 p.1 (λ es₁. rounds_ten limit left law es₁ (suc done)))
  where
    next : List Entry × Bool → Answer Rounds
    next p = elim p.1 as (λ _. Answer Rounds) [
      | true ↦ rounds_from limit left law p.0 (suc done)
      | false ↦ given (record { results = p.0; rounds = suc done; settled = true })
    ]

    next_ten : (es₁ : List Entry) (changed : Bool) → ((es₂ : List Entry) → OnlyTen (rounds_from limit left law es₂ (suc done))) → OnlyTen (next (es₁, changed))
    next_ten es₁ true again = again es₁
    next_ten es₁ false again = tt

pub infer_ten : (limit : ℕ) (law : Law) → OnlyTen (infer limit law)
unfolding infer infer_within
infer_ten limit law =
    only_then (arguments limit law (all_at never (names_of law)))
    (λ found. rounds_from limit (round_limit law) law (all_at never (names_of law))
    0 >>= (λ r. given (record { formats = record { arguments = found; results = r.results }; rounds = r.rounds; settled = r.settled })))
    (arguments_ten limit law (all_at never (names_of law)))
    (λ found. only_then (rounds_from limit (round_limit law) law (all_at never (names_of law)) 0)
    (λ r. given (record { formats = record { arguments = found; results = r.results }; rounds = r.rounds; settled = r.settled }))
    (rounds_ten limit (round_limit law) law (all_at never (names_of law)) 0) (λ r. tt))

-- ---- the arguments, then the rounds

module _ (limit : ℕ) (law : Law) (tail : List ℕ) where
  abbrev start : List Entry
  start = all_at never (names_of law)

  -- a pattern passes the limit on shapes
  pub started_over : (after : List ℕ) (ok : Result (Unit {0}) TooWide) → ok ≡ Err too_wide → ArgumentsIs limit (names_of law) (arguments limit law start) (arguments_stop limit law start) start tail after ok
      → StartedIs limit (names_of law) (infer limit law) tail after (Err too_wide)
  started_over after ok e h = go (arguments limit law start) refl h
    where
      go : (a : Answer (List Entry)) → arguments limit law start ≡ a → ArgumentsIs limit (names_of law) a (arguments_stop limit law start) start tail after ok
          → StartedIs limit (names_of law) (infer limit law) tail after (Err too_wide)
      go (given found) is k = absurd (made_not tt (sym k.1 ∙ e))
      go (refused n) is k = rw (infer_arguments_over limit law n is) (arguments_stop limit law start, start, k.0, refl)

  -- the argument formats are there
  pub started_arguments : (after : List ℕ) (ok : Result (Unit {0}) TooWide) → ok ≡ Ok tt → ArgumentsIs limit (names_of law) (arguments limit law start) (arguments_stop limit law start) start tail after ok
      → (found : List Entry) × (arguments limit law start ≡ given found) × StoreHolds limit (names_of law) found start tail after
  started_arguments after ok e h = go (arguments limit law start) refl h
    where
      go : (a : Answer (List Entry)) → arguments limit law start ≡ a → ArgumentsIs limit (names_of law) a (arguments_stop limit law start) start tail after ok
          → (found : List Entry) × (arguments limit law start ≡ given found) × StoreHolds limit (names_of law) found start tail after
      go (given found) is k = (found, is, k.0)
      go (refused n) is k = absurd (made_not tt (sym e ∙ k.1))

  -- and the rounds
  pub started_rounds : (found : List Entry) (after : List ℕ) (r : Result code.Inferred TooWide) (most : ℕ) → most ≡ round_limit law → arguments limit law start ≡ given found
      → RoundsIs limit (names_of law) (rounds_from limit most law start 0) (rounds_stop limit most law start) found tail after r
      → StartedIs limit (names_of law) (infer limit law) tail after r
  started_rounds found after r most rounds a h = go (rounds_from limit (round_limit law) law start 0) refl (rw rounds at h)
    where
      go : (b : Answer Rounds) → rounds_from limit (round_limit law) law start 0 ≡ b → RoundsIs limit (names_of law) b (rounds_stop limit (round_limit law) law start) found tail after r
          → StartedIs limit (names_of law) (infer limit law) tail after r
      go (given rounds) is k = rw (infer_given limit law found rounds a is) (k.0, k.1)
      go (refused n) is k = rw (infer_rounds_over limit law found n a is) (found, rounds_stop limit (round_limit law) law start, k.0, k.1)

pub holding : {limit : ℕ} {names : List (List ℕ)} {found results : List Entry} {tail store : List ℕ} → StoreHolds limit names found results tail store
    → Holding limit names store
holding {limit} {names} {found} {results} {tail} h = record { arguments = found; results = results; tail = tail; holds = h }

-- ---- the store before it

module _ {bytes index : List ℕ} {slots : Slots} {limit : ℕ} (h : Indexed bytes index) (readable : Readable (file_of bytes)) (places : SlotsOf (file_of bytes) slots)
    (small : limit ≤ 64) (count : ℕ) (names : count ≡ length (file_names (file_of bytes))) where
  pub store_asked : RoundAsked bytes index slots limit count
  store_asked = record { indexed = h; readable = readable; places = places; names = names; small = small }

  pub store_few : 2 * count ≤ 128
  store_few = omega (arith, names_at_most store_asked)

  pub store_started : (tail store : List ℕ) → store ≡ start_of limit (2 * count) ++ tail
      → StoreHolds limit (file_names (file_of bytes)) (all_at never (file_names (file_of bytes))) (all_at never (file_names (file_of bytes))) tail store
  store_started tail store is =
      rw is (start_holds limit (2 * count) (file_names (file_of bytes)) tail (omega (arith, names_at_most store_asked, store_asked.names)) (omega (arith, store_asked.names)))

-- what is asked of a placed law
pub placed_asked : (placed : Placed) → RoundAsked placed.law.bytes.now placed.law.index.now placed.slots.now placed.limit (length (file_names (file_of placed.law.bytes.now)))
placed_asked placed = store_asked placed.law.indexed placed.readable placed.places placed.small _ refl

-- what the test of an answer tells
pub refused_is : (r : Result code.Inferred TooWide) → is_err r ≡ true → r ≡ Err too_wide
refused_is (Ok made) e = absurd (false≢true e)
refused_is (Err wide) e = refl

pub given_is : (r : Result code.Inferred TooWide) → is_err r ≡ false → (made : code.Inferred) × (r ≡ Ok made)
given_is (Ok made) e = (made, refl)
given_is (Err wide) e = absurd (false≢true (sym e))

-- ---- the store after it

module _ (limit : ℕ) (law : Law) (before middle : List ℕ) (r : Result code.Inferred TooWide) (h : StartedIs limit (names_of law) (infer limit law) (drop (store_size limit) before) middle r) where
  -- it is cleared where a row has too many shapes
  pub infer_cleared : (after : List ℕ) → r ≡ Err too_wide → after ≡ replicate (store_size limit) 0 ++ drop (store_size limit) middle
      → InferIs limit (infer limit law) before after (Err too_wide)
  infer_cleared after e cleared = go (infer limit law) h
    where
      go : (a : Answer Inferred) → StartedIs limit (names_of law) a (drop (store_size limit) before) middle r → InferIs limit a before after (Err too_wide)
      go (given i) k = absurd (made_not _ (sym k.1 ∙ e))
      go (refused n) k =
          let past : drop (store_size limit) middle ≡ drop (store_size limit) before = store_past k.2 in
          (cleared ∙ rw past, refl)
        where
          store_past : {found results : List Entry} → StoreHolds limit (names_of law) found results (drop (store_size limit) before) middle
              → drop (store_size limit) middle ≡ drop (store_size limit) before
          store_past held =
              let none : store_size limit + 0 ≡ store_size limit = omega arith in
              rw none at (read_past held 0)

  pub infer_ran : (made : code.Inferred) → r ≡ Ok made → InferIs limit (infer limit law) before middle (Ok made)
  infer_ran made e = go (infer limit law) h
    where
      go : (a : Answer Inferred) → StartedIs limit (names_of law) a (drop (store_size limit) before) middle r → InferIs limit a before middle (Ok made)
      go (given i) k = (k.0.words, sym e ∙ k.1)
      go (refused n) k = absurd (made_not made (sym e ∙ k.3))

-- ---- what the call answers

pub outcome_short : (limit : ℕ) (law : Law) (before : List ℕ) → length before < store_size limit
    → infer_outcome (Err unformed.StoreShort) before ≡ law_outcome limit before (given law)
outcome_short limit law before short = rw (lt-ltb (length before) (store_size limit) short, law_outcome)

module _ (limit : ℕ) (law : Law) (before after : List ℕ) (long : store_size limit ≤ length before) (r : Result code.Inferred TooWide)
    (h : InferIs limit (infer limit law) before after r) where
  pub outcome_over : r ≡ Err too_wide → infer_outcome (Err unformed.TooWide) after ≡ law_outcome limit before (given law)
  outcome_over e = rw (le-ltb (length before) (store_size limit) long, law_outcome) (go (infer limit law) (infer_ten limit law) h)
    where
      go : (a : Answer Inferred) → OnlyTen a → InferIs limit a before after r → infer_outcome (Err unformed.TooWide) after ≡ inferred_outcome limit before a
      go (given i) ten k = absurd (made_not _ (sym k.1 ∙ e))
      go (refused n) ten k = rw (ten, k.0)

  pub outcome_formed : (made : code.Inferred) → r ≡ Ok made → infer_outcome (Ok made) after ≡ law_outcome limit before (given law)
  outcome_formed made e = rw (le-ltb (length before) (store_size limit) long, law_outcome) (go (infer limit law) h)
    where
      go : (a : Answer Inferred) → InferIs limit a before after r → infer_outcome (Ok made) after ≡ inferred_outcome limit before a
      go (refused n) k = absurd (made_not made (sym e ∙ k.1))
      go (given i) k =
          let same : made ≡ record { rounds = i.rounds; settled = i.settled } = made_is (sym e ∙ k.1) in
          rw (same, k.0)

-- ---- a law that is accepted, and one that is not

law_read : (bytes : List ℕ) (answer : Result (Unit {0}) Refusal) → answer ≡ Ok tt → check_answer answer ≡ check_of bytes
    → Readable (file_of bytes) × (law_of bytes ≡ given (tree_of (file_of bytes)))
law_read bytes answer e h =
    let accepted : given tt ≡ check_of bytes = rw e at h in
    map_given (λ _. tt) (law_of bytes) tt accepted (λ law is same.
    let (all, tree) = law_accepted bytes law is in
    (accepted_readable bytes all, is ∙ ap (λ x. given x) tree)
    )

pub call_accepted : (bytes index : List ℕ) (answer : Result (Unit {0}) Refusal) → answer ≡ Ok tt → check_answer answer ≡ check_of bytes → IndexAfter answer bytes index
    → Indexed bytes index × Readable (file_of bytes)
call_accepted bytes index answer e h k = (rw e at k, (law_read bytes answer e h).0)

pub outcome_accepted : (limit : ℕ) (bytes store after : List ℕ) (answer : Result (Unit {0}) Refusal) → answer ≡ Ok tt → check_answer answer ≡ check_of bytes
    → (r : Result code.Inferred Unformed) → infer_outcome r after ≡ law_outcome limit store (given (tree_of (file_of bytes))) → infer_outcome r after ≡ call_outcome limit bytes store
unfolding call_outcome
outcome_accepted limit bytes store after answer e h r is = rw (law_read bytes answer e h).1 is

pub outcome_refused : (limit : ℕ) (bytes store : List ℕ) (why : Refusal) (answer : Result (Unit {0}) Refusal) → answer ≡ Err why → check_answer answer ≡ check_of bytes
    → infer_outcome (Err (unformed.Refused why)) store ≡ call_outcome limit bytes store
unfolding call_outcome
outcome_refused limit bytes store why answer e h =
    let refusal : refused (number_of why) ≡ check_of bytes = rw e at h in
    rw (map_refused (λ _. tt) (law_of bytes) (number_of why) refusal)
