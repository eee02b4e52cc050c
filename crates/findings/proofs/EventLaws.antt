-- Where no argument is too wide, what all lints meet are the findings that are shown, in their order.
use Prim.Native.Nat.{ℕ, suc}
use mathlib.Core.Bool.{Bool, true, false, cond, ◌&&◌, ◌||◌}
use mathlib.Core.List.{List, [], ◌∷◌, ◌++◌, map}
use mathlib.Core.Option.{Option, none, some}
use mathlib.Core.Path.{◌≡◌, refl, sym, ap, ◌∙◌}
use lib.Dec.{eqb, ltb, leb}
use Rattle.law.specs.Tree.{Name, Mark, Sentences, no_sentence, sentence, Function, Law}
use Rattle.law.specs.Variables.{Variable}
use Rattle.shapes.specs.Format.{of, size}
use Rattle.shapes.specs.Disjoint.{disjoint_formats}
use Rattle.formats.specs.Infer.{Formats}
use Rattle.matching.specs.Pattern.{pattern_of}
use Rattle.matching.specs.Match.{when, each}
use Rattle.matching.specs.Literal.{is_literal}
use Rattle.lints.specs.Lint.{Lint, dead_sentence, recognition_impossible, builtin_domain, open_expressions, lint_number, lints}
use Rattle.lints.specs.Finding.{Failure, by_formats, by_literals, lint_of, Remark, Finding, finding_words, finding_in, findings_from}
use Rattle.lints.specs.Calls.{Call, callee, sentence_calls}
use Rattle.lints.specs.Dead.{Earlier, unconditional, earliest, dead_by, dead_after, own_dead, block_dead, sentence_blocks, dead_remarks, dead_findings}
use Rattle.lints.specs.Recognition.{compared, passed, accepted, judged, recognition_remarks, recognition_findings, some_over, arguments_over}
use Rattle.lints.specs.Builtin.{failed, failure, domain_in, builtins, builtin_on, builtin_remarks, builtin_findings}
use Rattle.lints.specs.Open.{e_occurrences, open_in, open_remarks, open_findings}
use Rattle.lints.specs.Levels.{Settings, severity_of, is_shown, shown}
use Rattle.lints.specs.Code.Overrides.{lint_meant, lint_coded}
use Rattle.lints.specs.Findings.{findings_by, findings_of}
use Rattle.findings.specs.declared.Task.{Task}
use Rattle.findings.specs.Code.Events.{Event, noting, too_wide}
use Rattle.findings.specs.Code.Tasks.{remark_event, remark_events, recognition_events, call_events, block_events, function_events, at_position, functions_events}
use Rattle.findings.specs.Code.All.{task_for, task_events, events_by, all_events}
use Rattle.findings.proofs.WalkEvents.{each_append, walk_sentence_calls, walk_sentence_blocks}

-- the code's lint has the lint's number
pub coded_number : (l : Lint) → lint_number (lint_meant (lint_coded l)) ≡ lint_number l
coded_number dead_sentence = refl
coded_number recognition_impossible = refl
coded_number builtin_domain = refl
coded_number open_expressions = refl

-- ---- lists

map-append : {X Y : Type 0} (f : X → Y) (xs ys : List X) → map f (xs ++ ys) ≡ map f xs ++ map f ys
map-append f [] ys = refl
map-append f (x ∷ xs) ys = rw (map-append f xs ys)

when_map : {X Y : Type 0} (f : X → Y) (b : Bool) (xs : List X) → map f (when b xs) ≡ when b (map f xs)
when_map f true xs = refl
when_map f false xs = refl

when_append : {X : Type 0} (b : Bool) (xs ys : List X) → when b xs ++ when b ys ≡ when b (xs ++ ys)
when_append true xs ys = refl
when_append false xs ys = refl

when_or : {X : Type 0} (b : Bool) (xs : List X) → when (b || true) (when b xs) ≡ when b xs
when_or true xs = refl
when_or false xs = refl

or-false : (b : Bool) → (b || false) ≡ b
or-false true = refl
or-false false = refl

-- ---- remarks of one lint

abbrev Of : Lint → List Remark → Type 0
Of l [] = Unit {0}
Of l (r ∷ rs) = (lint_of r.claim ≡ l) × Of l rs

of_append : (l : Lint) (xs ys : List Remark) → Of l xs → Of l ys → Of l (xs ++ ys)
of_append l [] ys a b = b
of_append l (x ∷ xs) ys (e, a) b = (e, of_append l xs ys a b)

of_each : {X : Type 0} (l : Lint) (f : X → List Remark) → ((x : X) → Of l (f x)) → (xs : List X) → Of l (each f xs)
of_each l f h [] = tt
of_each l f h (x ∷ xs) = of_append l (f x) (each f xs) (h x) (of_each l f h xs)

of_when : (l : Lint) (b : Bool) (rs : List Remark) → Of l rs → Of l (when b rs)
of_when l true rs h = h
of_when l false rs h = tt

dead_by_lem : (in_block : Bool) (m : Mark) (n : ℕ) (e : Option ℕ) → Of dead_sentence (dead_by in_block m n e)
dead_by_lem in_block m n none = tt
dead_by_lem in_block m n (some k) = (refl, tt)

dead_after_lem : (in_block : Bool) (valued : List Variable) (earlier : List Earlier) (n : ℕ) (ss : Sentences) → Of dead_sentence (dead_after in_block valued earlier n ss)
unfolding dead_after
dead_after_lem in_block valued earlier n no_sentence = tt
dead_after_lem in_block valued earlier n (sentence m p cs r ss) =
    of_append dead_sentence (dead_by in_block m n (earliest valued earlier (pattern_of p))) _ (dead_by_lem in_block m n (earliest valued earlier (pattern_of p)))
    (dead_after_lem in_block valued (earlier ++ unconditional cs n p) (suc n) ss)

dead_of : (f : Function) → Of dead_sentence (dead_remarks f)
unfolding dead_remarks
dead_of f =
    of_append dead_sentence (own_dead f.sentences) _ (dead_after_lem false [] [] 1 f.sentences)
    (of_each dead_sentence block_dead (λ ss. dead_after_lem true [] [] 1 ss) (sentence_blocks f.sentences))

judged_of : (formats : Formats) (c : Call) → Of recognition_impossible (judged formats c)
unfolding judged
judged_of formats c = go (disjoint_formats (of (passed formats c)) (accepted formats c)) (is_literal c.argument)
  where
    go : (apart literal : Bool) → Of recognition_impossible (cond apart
        (record { subject = c.mark; claim = by_formats c.name (accepted formats c) (of (passed formats c)) } ∷ [])
        (when literal (record { subject = c.mark; claim = by_literals c.name } ∷ [])))
    go true literal = (refl, tt)
    go false true = (refl, tt)
    go false false = tt

recognition_of : (law : Law) (formats : Formats) (f : Function) → Of recognition_impossible (recognition_remarks law formats f)
unfolding recognition_remarks
recognition_of law formats f =
    of_each recognition_impossible (λ (c : Call). when (compared law c) (judged formats c))
    (λ c. of_when recognition_impossible (compared law c) (judged formats c) (judged_of formats c)) (sentence_calls f.sentences)

failed_of : (c : Call) (why : Option Failure) → Of builtin_domain (failed c why)
failed_of c none = tt
failed_of c (some why) = (refl, tt)

builtin_of : (law : Law) (f : Function) → Of builtin_domain (builtin_remarks law f)
unfolding builtin_remarks builtin_on
builtin_of law f = of_each builtin_domain (builtin_on law) (λ c. failed_of c (failure (domain_in builtins (callee c)) c.argument)) (sentence_calls f.sentences)

open_in_lem : (ss : Sentences) → Of open_expressions (open_in ss)
unfolding open_in
open_in_lem no_sentence = tt
open_in_lem (sentence m p cs r ss) =
    of_append open_expressions (when (leb 2 (e_occurrences p)) _) (open_in ss) (of_when open_expressions (leb 2 (e_occurrences p)) _ (refl, tt)) (open_in_lem ss)

open_of_lem : (f : Function) → Of open_expressions (open_remarks f)
unfolding open_remarks
open_of_lem f = open_in_lem f.sentences

-- ---- findings of one lint

abbrev OfFound : Lint → List Finding → Type 0
OfFound l [] = Unit {0}
OfFound l (f ∷ fs) = (lint_of f.claim ≡ l) × OfFound l fs

found_append : (l : Lint) (xs ys : List Finding) → OfFound l xs → OfFound l ys → OfFound l (xs ++ ys)
found_append l [] ys a b = b
found_append l (x ∷ xs) ys (e, a) b = (e, found_append l xs ys a b)

found_in_lem : (l : Lint) (p : ℕ) (owner : Name) (rs : List Remark) → Of l rs → OfFound l (map (finding_in p owner) rs)
found_in_lem l p owner [] h = tt
found_in_lem l p owner (r ∷ rs) (e, h) = (e, found_in_lem l p owner rs h)

found_from : (l : Lint) (remarks : Function → List Remark) → ((f : Function) → Of l (remarks f)) → (p : ℕ) (fs : Law) → OfFound l (findings_from remarks p fs)
unfolding findings_from
found_from l remarks h p [] = tt
found_from l remarks h p (f ∷ fs) =
    found_append l (map (finding_in p f.name) (remarks f)) (findings_from remarks (suc p) fs) (found_in_lem l p f.name (remarks f) (h f))
    (found_from l remarks h (suc p) fs)

module _ (settings : Settings) where
  -- the words of a finding under the settings, as an event
  abbrev pub words_under : Finding → List ℕ
  words_under f = finding_words (severity_of settings (lint_of f.claim)) f

  abbrev pub event_of : Finding → Event
  event_of f = noting (words_under f)

  -- settings show all findings of a lint, or none
  shown_of : (l : Lint) (b : Bool) → is_shown settings l ≡ b → (fs : List Finding) → OfFound l fs → shown settings fs ≡ when b fs
  unfolding shown
  shown_of l true q [] h = refl
  shown_of l false q [] h = refl
  shown_of l true q (f ∷ fs) (e, h) = rw (e, q) (ap (λ (t : List Finding). f ∷ t) (shown_of l true q fs h))
  shown_of l false q (f ∷ fs) (e, h) = rw (e, q) (shown_of l false q fs h)

  shown_append : (xs ys : List Finding) → shown settings (xs ++ ys) ≡ shown settings xs ++ shown settings ys
  unfolding shown
  shown_append xs ys = each_append (λ (f : Finding). when (is_shown settings (lint_of f.claim)) (f ∷ [])) xs ys

  module _ (room limit : ℕ) where
    abbrev task_at : Lint → ℕ → Task
    task_at l p = at_position (task_for settings room limit l) p

    remark_found : (l : Lint) (p : ℕ) (owner : Name) (r : Remark) → lint_of r.claim ≡ l → remark_event (task_at l p) r ≡ event_of (finding_in p owner r)
    unfolding finding_words
    remark_found l p owner r e = rw (← e) (rw (coded_number (lint_of r.claim)))

    remarks_found : (l : Lint) (p : ℕ) (owner : Name) (rs : List Remark) → Of l rs → remark_events (task_at l p) rs ≡ map event_of (map (finding_in p owner) rs)
    unfolding remark_events
    remarks_found l p owner [] h = refl
    remarks_found l p owner (r ∷ rs) (e, h) = cc (remark_found l p owner r e, remarks_found l p owner rs h)

    module _ (law : Law) (formats : Formats) where
      -- function by function
      functions_found : (l : Lint) (remarks : Function → List Remark) → ((f : Function) → Of l (remarks f))
          → ((p : ℕ) (f : Function) → function_events law formats (task_at l p) f.sentences ≡ remark_events (task_at l p) (remarks f))
          → (p : ℕ) (fs : Law) → functions_events law formats (task_for settings room limit l) p fs ≡ map event_of (findings_from remarks p fs)
      unfolding functions_events findings_from
      functions_found l remarks ofs says p [] = refl
      functions_found l remarks ofs says p (f ∷ fs) =
          rw (
            says p f,
            remarks_found l p f.name (remarks f) (ofs f),
            functions_found l remarks ofs says (suc p) fs,
            map-append event_of (map (finding_in p f.name) (remarks f)) (findings_from remarks (suc p) fs),
          )

      -- a lint other than 2, under the settings
      task_found : (l : Lint) (remarks : Function → List Remark) → eqb (lint_number l) 2 ≡ false → ((f : Function) → Of l (remarks f))
          → ((p : ℕ) (f : Function) → function_events law formats (task_at l p) f.sentences ≡ remark_events (task_at l p) (remarks f))
          → task_events law formats (task_for settings room limit l) ≡ map event_of (shown settings (findings_from remarks 0 law))
      unfolding task_events
      task_found l remarks other ofs says =
          rw (
            coded_number l,
            other,
            or-false (is_shown settings l),
            functions_found l remarks ofs says 0 law,
            shown_of l (is_shown settings l) refl (findings_from remarks 0 law) (found_from l remarks ofs 0 law),
            when_map event_of (is_shown settings l) (findings_from remarks 0 law),
          )

      -- ---- lints 1, 3 and 4 in one function

      map_each : {X : Type 0} (task : Task) (f : X → List Remark) (xs : List X) → each (λ (x : X). remark_events task (f x)) xs ≡ remark_events task (each f xs)
      unfolding remark_events
      map_each task f [] = refl
      map_each task f (x ∷ xs) = rw (map_each task f xs, map-append (remark_event task) (f x) (each f xs))

      remarks_both : (task : Task) (xs ys : List Remark) → remark_events task xs ++ remark_events task ys ≡ remark_events task (xs ++ ys)
      unfolding remark_events
      remarks_both task xs ys = sym (map-append (remark_event task) xs ys)

      dead_says : (p : ℕ) (f : Function) → function_events law formats (task_at dead_sentence p) f.sentences ≡ remark_events (task_at dead_sentence p) (dead_remarks f)
      unfolding function_events call_events block_events dead_remarks
      dead_says p f =
          rw (walk_sentence_blocks (call_events law formats (task_at dead_sentence p)) (block_events (task_at dead_sentence p)) (λ c. refl) f.sentences)
          (ap (λ (es : List Event). remark_events (task_at dead_sentence p) (own_dead f.sentences) ++ es) (map_each (task_at dead_sentence p) block_dead (sentence_blocks f.sentences))
          ∙ remarks_both (task_at dead_sentence p) (own_dead f.sentences) (each block_dead (sentence_blocks f.sentences)))

      builtin_says : (p : ℕ) (f : Function)
          → function_events law formats (task_at builtin_domain p) f.sentences ≡ remark_events (task_at builtin_domain p) (builtin_remarks law f)
      unfolding function_events call_events block_events builtin_remarks
      builtin_says p f =
          rw (walk_sentence_calls (call_events law formats (task_at builtin_domain p)) (block_events (task_at builtin_domain p)) (λ ss. refl) f.sentences)
          (map_each (task_at builtin_domain p) (builtin_on law) (sentence_calls f.sentences))

      open_says : (p : ℕ) (f : Function) → function_events law formats (task_at open_expressions p) f.sentences ≡ remark_events (task_at open_expressions p) (open_remarks f)
      unfolding function_events open_remarks
      open_says p f = refl

      -- ---- lint 2, where no argument is too wide

      -- one call
      call_says : (is over shows : Bool) (es : List Event) → (is && over) ≡ false
          → when is (cond over (too_wide ∷ []) (when shows es)) ≡ when shows (when is es)
      call_says true true shows es h = cc
      call_says true false shows es h = refl
      call_says false over true es h = refl
      call_says false over false es h = refl

      parts : (a b : Bool) → (a || b) ≡ false → (a ≡ false) × (b ≡ false)
      parts true b h = (h, cc)
      parts false b h = (refl, h)

      -- so many calls
      calls_say : (task : Task) (cs : List Call) → some_over task.limit law formats cs ≡ false
          → each (recognition_events law formats task) cs
          ≡ when task.shown (remark_events task (each (λ (c : Call). when (compared law c) (judged formats c)) cs))
      unfolding some_over recognition_events remark_events
      calls_say task [] h = go task.shown
        where
          go : (b : Bool) → ◌≡◌ {A = List Event} [] (when b [])
          go true = refl
          go false = refl
      calls_say task (c ∷ cs) h =
          let (here, later) = parts (compared law c && ltb task.limit (size (passed formats c))) (some_over task.limit law formats cs) h in
          rw (
            call_says (compared law c) (ltb task.limit (size (passed formats c))) task.shown (map (remark_event task) (judged formats c)) here,
            calls_say task cs later,
            map-append (remark_event task) (when (compared law c) (judged formats c)) (each (λ (d : Call). when (compared law d) (judged formats d)) cs),
            when_map (remark_event task) (compared law c) (judged formats c),
          )
          (when_append task.shown _ _)

      recognition_says : (p : ℕ) (f : Function) → some_over limit law formats (sentence_calls f.sentences) ≡ false
          → function_events law formats (task_at recognition_impossible p) f.sentences
          ≡ when (is_shown settings recognition_impossible) (remark_events (task_at recognition_impossible p) (recognition_remarks law formats f))
      unfolding function_events call_events block_events recognition_remarks
      recognition_says p f h =
          rw (walk_sentence_calls (call_events law formats (task_at recognition_impossible p)) (block_events (task_at recognition_impossible p)) (λ ss. refl) f.sentences)
          (calls_say (task_at recognition_impossible p) (sentence_calls f.sentences) h)

      pub over_append : (xs ys : List Call) → some_over limit law formats (xs ++ ys) ≡ (some_over limit law formats xs || some_over limit law formats ys)
      unfolding some_over
      over_append [] ys = refl
      over_append (x ∷ xs) ys = rw (over_append xs ys) (assoc (compared law x && ltb limit (size (passed formats x))) (some_over limit law formats xs) (some_over limit law formats ys))
        where
          assoc : (a b c : Bool) → (a || (b || c)) ≡ ((a || b) || c)
          assoc true b c = refl
          assoc false b c = refl

      recognitions_say : (p : ℕ) (fs : Law) → some_over limit law formats (each (λ (f : Function). sentence_calls f.sentences) fs) ≡ false
          → functions_events law formats (task_for settings room limit recognition_impossible) p fs
          ≡ when (is_shown settings recognition_impossible) (map event_of (findings_from (recognition_remarks law formats) p fs))
      unfolding functions_events findings_from
      recognitions_say p [] h = go (is_shown settings recognition_impossible)
        where
          go : (b : Bool) → ◌≡◌ {A = List Event} [] (when b [])
          go true = refl
          go false = refl
      recognitions_say p (f ∷ fs) h =
          let (here, later) = parts (some_over limit law formats (sentence_calls f.sentences))
          (some_over limit law formats (each (λ (g : Function). sentence_calls g.sentences) fs))
          (rw (over_append (sentence_calls f.sentences) (each (λ (g : Function). sentence_calls g.sentences) fs)) at h) in
          rw (
            recognition_says p f here,
            recognitions_say (suc p) fs later,
            remarks_found recognition_impossible p f.name (recognition_remarks law formats f) (recognition_of law formats f),
            map-append event_of (map (finding_in p f.name) (recognition_remarks law formats f)) (findings_from (recognition_remarks law formats) (suc p) fs),
          )
          (when_append (is_shown settings recognition_impossible) _ _)

      recognition_found : some_over limit law formats (each (λ (f : Function). sentence_calls f.sentences) law) ≡ false
          → task_events law formats (task_for settings room limit recognition_impossible)
          ≡ map event_of (shown settings (findings_from (recognition_remarks law formats) 0 law))
      unfolding task_events
      recognition_found h =
          rw (
            recognitions_say 0 law h,
            shown_of recognition_impossible (is_shown settings recognition_impossible) refl (findings_from (recognition_remarks law formats) 0 law)
                (found_from recognition_impossible (recognition_remarks law formats) (recognition_of law formats) 0 law),
            when_map event_of (is_shown settings recognition_impossible) (findings_from (recognition_remarks law formats) 0 law),
          )
          (when_or (is_shown settings recognition_impossible) (map event_of (findings_from (recognition_remarks law formats) 0 law)))

      -- each lint, where no argument is too wide
      lint_found : arguments_over limit law formats ≡ false → (l : Lint)
          → events_by law formats settings room limit l ≡ map event_of (shown settings (findings_by law formats l))
      unfolding arguments_over dead_findings recognition_findings builtin_findings open_findings
      lint_found h dead_sentence = task_found dead_sentence dead_remarks refl dead_of dead_says
      lint_found h recognition_impossible = recognition_found h
      lint_found h builtin_domain = task_found builtin_domain (builtin_remarks law) refl (builtin_of law) builtin_says
      lint_found h open_expressions = task_found open_expressions open_remarks refl open_of_lem open_says

      -- one after the other
      lints_found : ((l : Lint) → events_by law formats settings room limit l ≡ map event_of (shown settings (findings_by law formats l))) → (ls : List Lint)
          → each (events_by law formats settings room limit) ls ≡ map event_of (shown settings (each (findings_by law formats) ls))
      unfolding shown
      lints_found each-lint [] = refl
      lints_found each-lint (l ∷ ls) =
          rw (
            each-lint l,
            lints_found each-lint ls,
            shown_append (findings_by law formats l) (each (findings_by law formats) ls),
            map-append event_of (shown settings (findings_by law formats l)) (shown settings (each (findings_by law formats) ls)),
          )

      pub all_found_lem : arguments_over limit law formats ≡ false → all_events law formats settings room limit ≡ map event_of (shown settings (findings_of law formats))
      unfolding all_events findings_of
      all_found_lem h = lints_found (lint_found h) lints
