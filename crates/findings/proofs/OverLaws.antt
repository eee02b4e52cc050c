-- Where an argument that is compared is too wide, collecting ends there.
use Prim.Native.Nat.{ℕ, suc}
use mathlib.Core.Bool.{Bool, true, false, cond, ◌&&◌, ◌||◌}
use mathlib.Core.List.{List, [], ◌∷◌, ◌++◌}
use mathlib.Core.Path.{◌≡◌, refl, ap}
use lib.Dec.{ltb}
use Rattle.law.specs.Tree.{Function, Law}
use Rattle.shapes.specs.Format.{size}
use Rattle.formats.specs.Infer.{Formats}
use Rattle.matching.specs.Match.{when, each}
use Rattle.lints.specs.Lint.{dead_sentence, recognition_impossible, builtin_domain, open_expressions}
use Rattle.lints.specs.Calls.{Call, sentence_calls}
use Rattle.lints.specs.Recognition.{compared, passed, judged, some_over, arguments_over}
use Rattle.lints.specs.Levels.{Settings, is_shown}
use Rattle.findings.specs.declared.Task.{Task}
use Rattle.std.specs.Prelude.{Ok, Err}
use Rattle.findings.specs.declared.Ended.TheVariants as ended
use Rattle.findings.specs.Code.Events.{Tally, Over, Event, too_wide, Sink, sink_of, met, collect}
use Rattle.findings.specs.Code.Tasks.{remark_events, recognition_events, call_events, block_events, function_events, at_position, functions_events}
use Rattle.findings.specs.Code.All.{task_for, task_events, all_events}
use Rattle.findings.proofs.CollectLaws.{collect_append}
use Rattle.findings.proofs.WalkEvents.{walk_sentence_calls}
use Rattle.findings.proofs.EventLaws.{over_append}

-- once an argument was too wide, nothing changes
collect_over : (room : ℕ) (words : List ℕ) (es : List Event) → collect room (sink_of Over words) es ≡ sink_of Over words
unfolding collect
collect_over room words [] = refl
collect_over room words (e ∷ es) = collect_over room words es

-- collecting so many events ends, from wherever it begins
abbrev Ends : ℕ → List Event → Type 0
Ends room es = (s : Sink) → (collect room s es).tally ≡ Over

-- it then ends also with others before or after them
ends_before : (room : ℕ) (es fs : List Event) → Ends room es → Ends room (es ++ fs)
ends_before room es fs h s =
    let stop : collect room s es ≡ sink_of Over (collect room s es).words = ap (λ (t : Tally). sink_of t (collect room s es).words) (h s) in
    rw (collect_append room s es fs, stop, collect_over room (collect room s es).words fs)

ends_after : (room : ℕ) (es fs : List Event) → Ends room fs → Ends room (es ++ fs)
ends_after room es fs h s = rw (collect_append room s es fs) (h (collect room s es))

wide_ends : (room : ℕ) → Ends room (too_wide ∷ [])
unfolding collect
wide_ends room s = go s.tally
  where
    go : (t : Tally) → (met room too_wide t s.words).tally ≡ Over
    go (Err ended.TooWide) = refl
    go (Err ended.Full) = refl
    go (Ok n) = refl

-- one or the other
either : (a b : Bool) {P : Type 0} → (a || b) ≡ true → (a ≡ true → P) → (b ≡ true → P) → P
either true b h f g = f refl
either false b h f g = g h

module _ (law : Law) (formats : Formats) where
  call_ends : (task : Task) (c : Call) → (compared law c && ltb task.limit (size (passed formats c))) ≡ true → Ends task.room (recognition_events law formats task c)
  unfolding recognition_events
  call_ends task c h = go (compared law c) (ltb task.limit (size (passed formats c))) h
    where
      go : (is over : Bool) → (is && over) ≡ true → Ends task.room (when is (cond over (too_wide ∷ []) (when task.shown (remark_events task (judged formats c)))))
      go true true e = wide_ends task.room
      go true false e = λ s. cc
      go false over e = λ s. cc

  calls_end : (task : Task) (cs : List Call) → some_over task.limit law formats cs ≡ true → Ends task.room (each (recognition_events law formats task) cs)
  unfolding some_over
  calls_end task [] h = λ s. cc
  calls_end task (c ∷ cs) h =
      either (compared law c && ltb task.limit (size (passed formats c))) (some_over task.limit law formats cs) h
      (λ e. ends_before task.room (recognition_events law formats task c) (each (recognition_events law formats task) cs) (call_ends task c e))
      (λ e. ends_after task.room (recognition_events law formats task c) (each (recognition_events law formats task) cs) (calls_end task cs e))

  module _ (settings : Settings) (room limit : ℕ) where
    abbrev task : Task
    task = task_for settings room limit recognition_impossible

    function_ends : (p : ℕ) (f : Function) → some_over limit law formats (sentence_calls f.sentences) ≡ true
        → Ends room (function_events law formats (at_position task p) f.sentences)
    unfolding function_events call_events block_events
    function_ends p f h =
        rw (walk_sentence_calls (call_events law formats (at_position task p)) (block_events (at_position task p)) (λ ss. refl) f.sentences)
        (calls_end (at_position task p) (sentence_calls f.sentences) h)

    functions_end : (p : ℕ) (fs : Law) → some_over limit law formats (each (λ (f : Function). sentence_calls f.sentences) fs) ≡ true
        → Ends room (functions_events law formats task p fs)
    unfolding functions_events some_over
    functions_end p [] h = λ s. cc
    functions_end p (f ∷ fs) h =
        either (some_over limit law formats (sentence_calls f.sentences)) (some_over limit law formats (each (λ (g : Function). sentence_calls g.sentences) fs))
        (rw (over_append settings room limit law formats (sentence_calls f.sentences) (each (λ (g : Function). sentence_calls g.sentences) fs)) at h)
        (λ e. ends_before room (function_events law formats (at_position task p) f.sentences) (functions_events law formats task (suc p) fs) (function_ends p f e))
        (λ e. ends_after room (function_events law formats (at_position task p) f.sentences) (functions_events law formats task (suc p) fs) (functions_end (suc p) fs e))

    or-true : (b : Bool) → (b || true) ≡ true
    or-true true = refl
    or-true false = refl

    task_ends : arguments_over limit law formats ≡ true → Ends room (task_events law formats task)
    unfolding task_events arguments_over
    task_ends h = rw (or-true (is_shown settings recognition_impossible)) (functions_end 0 law h)

    -- all lints, where an argument is too wide
    pub all_ends : arguments_over limit law formats ≡ true → (s : Sink) → (collect room s (all_events law formats settings room limit)).tally ≡ Over
    unfolding all_events
    all_ends h =
        let dead : List Event = task_events law formats (task_for settings room limit dead_sentence) in
        let recognition : List Event = task_events law formats task in
        let builtin : List Event = task_events law formats (task_for settings room limit builtin_domain) in
        let patterns : List Event = task_events law formats (task_for settings room limit open_expressions) in
        ends_after room dead (recognition ++ (builtin ++ (patterns ++ []))) (ends_before room recognition (builtin ++ (patterns ++ [])) (task_ends h))
