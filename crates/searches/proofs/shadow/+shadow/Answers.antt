use Rattle.std.proofs.Common.{arith, false, not, refl, sym, ap, ◌∙◌}
use Rattle.law.proofs.Forests.{inside_falls, after_falls}
use Rattle.matching.specs.Code.Part.{at_start, one_on}
use Rattle.matching.proofs.CutLaws.{begin_inside, from_length}
use Rattle.matching.proofs.FirstLaws as first-record
use Rattle.matching.proofs.KnownLaws as known
use Rattle.searches.specs.Code.Asked.{first_in}
use Rattle.searches.proofs.AskedLaws as calls
use Rattle.searches.proofs.ShadowSteps as answers
use Rattle.searches.proofs.SureLaws as sure
use Rattle.searches.proofs.FailedLaws as failed
use Rattle.searches.proofs.shadow.+shadow.Goals as goal
use Rattle.searches.proofs.shadow.+shadow.Goals.{shadow_lengths-then-is_some-via-then-is_some, shadow_lengths-then-is_some-via-else-is_some+then-left-lt24}

pub shadow_anew-shadow_lengths-requires : goal.shadow_anew-shadow_lengths-requires
shadow_anew-shadow_lengths-requires t c =
    let asked = c.requires.asked in (
      omega (arith, c.decreases),
      (
        rw c.fixed-all.ensures (asked.0, asked.1, sure.settled_fixed _ _ _ _ (omega arith), failed.shadow_none c.args.records.now.text.now c.args.records.now.terms.now _),
        c.requires.free,
      ),
    )

pub shadow_first-bind-more-requires : goal.shadow_first-bind-more-requires
shadow_first-bind-more-requires t c =
    let asked = c.requires.asked.0 in
    let binds = first-record.binds_within c.requires.stopped.leaves false _ c.in-Binds.is in (
      omega (arith, asked.pattern_stands.inside, asked.small, c.requires.stopped.some),
      omega (arith, asked.row_stands.inside, asked.small),
      omega (arith, asked.row_stands.inside, asked.small, binds.0),
      calls.place_ready asked c.requires.stopped.some binds.1,
    )

pub shadow_first-shadow_run-requires : goal.shadow_first-shadow_run-requires
shadow_first-shadow_run-requires t c =
    let asked = c.requires.asked in
    let stopped = c.requires.stopped in
    let ends = c.end_of-end in
    let binds = first-record.binds_within stopped.leaves false _ c.in-Binds.is in (
      omega (arith, after_falls c.args.pattern.now ends.result _ stopped.some ends.ensures.0 refl, c.decreases),
      (
        calls.asked_more asked.0 stopped.some binds.1 binds.0 c.bind-more.ensures ends.result c.in-Binds.n ends.ensures.0 binds.0,
        sure.settled_later _ (sure.settled_more asked.1 c.bind-more.ensures) (sure.begin_second stopped.some ends.ensures.0),
        sure.remembers_fixed (sure.fixed_bound c.bind-more.ensures _ (sure.settled_low asked.1)) asked.2,
      ),
    )

pub shadow_first-returns-in-Binds : goal.shadow_first-returns-in-Binds
shadow_first-returns-in-Binds t c =
    let asked = c.requires.asked in
    let stopped = c.requires.stopped in
    let binds = first-record.binds_within stopped.leaves false _ c.in-Binds.is in
    let values = calls.values_more asked.0 stopped.some binds.1 binds.0 c.bind-more.ensures in
    let fixed = sure.fixed_bound c.bind-more.ensures _ (sure.settled_low asked.1) in (
      c.shadow_run.ensures.0 ∙ sym (ap first_in (first-record.step_binds stopped.leaves false _ _ _ c.in-Binds.is c.end_of-end.ensures.0 values)),
      sure.remembers_back fixed c.shadow_run.ensures.1,
      sure.match_after fixed c.shadow_run.ensures.2,
    )

pub shadow_inside-shadow_run-requires : goal.shadow_inside-shadow_run-requires
shadow_inside-shadow_run-requires t c =
    let start = c.requires in
    let ends = c.end_of-m in (
      omega (arith, inside_falls c.args.pattern.now ends.result _ start.1 ends.ensures.0 refl, c.decreases),
      (
        calls.asked_alone (calls.asked_inside start.0 start.1 start.2 ends.result c.end_of-n.result ends.ensures.0 c.end_of-n.ensures.0),
        sure.settled_inside _ start.3 ends.result ends.ensures.0 (calls.contents_within start.0 start.1 start.2),
        start.4,
      ),
    )

pub shadow_inside-shadow_run-requires-2 : goal.shadow_inside-shadow_run-requires-2
shadow_inside-shadow_run-requires-2 t c =
    let start = c.requires in
    let ends = c.end_of-m in
    let inner = c.shadow_run in
    let kept = c.in_ok-more.ensures.2.kept in (
      omega (arith, after_falls c.args.pattern.now ends.result _ start.1 ends.ensures.0 refl, c.decreases),
      (
        calls.asked_after start.0 start.1 start.2 c.in_ok-more.more kept.0
            (answers.inside_first start.0 ends.ensures.0 c.end_of-n.ensures.0 inner.result inner.ensures.0 c.in_ok-more.was)
            ends.result c.end_of-n.result ends.ensures.0 c.end_of-n.ensures.2,
        rw c.fixed-kept.ensures (sure.settled_fixed _ _ _ _ kept.1.few),
        rw c.fixed-kept.ensures (sure.remembers_fixed kept.1 inner.ensures.1),
      ),
    )

pub shadow_inside-returns : goal.shadow_inside-returns
shadow_inside-returns t c =
    let start = c.requires in
    let inner = c.shadow_run in
    let fixed = c.in_ok-more.ensures.2.kept.1 in
    let last = rw c.fixed-kept.ensures at c.shadow_run-2.ensures in (
      answers.inside_some start.0 c.end_of-m.ensures.0 c.end_of-n.ensures.0 inner.result inner.ensures.0 c.in_ok-more.was _ last.0,
      sure.remembers_back fixed last.1,
      sure.match_after fixed last.2,
    )

pub shadow_lengths-loop-rest-init : goal.shadow_lengths-loop-rest-init
shadow_lengths-loop-rest-init t c = let asked = c.requires.asked in (at_start, answers.lengths_start asked.0 asked.1 c.requires.free, asked.3)

pub shadow_lengths-slice_bounds-left-count : goal.shadow_lengths-slice_bounds-left-count
shadow_lengths-slice_bounds-left-count t c = begin_inside c.loop-rest.invariant.0

pub shadow_lengths-slice_bounds-left-start : goal.shadow_lengths-slice_bounds-left-start
shadow_lengths-slice_bounds-left-start t c = begin_inside c.loop-rest.invariant.0

pub shadow_lengths-bind-more-requires : goal.shadow_lengths-bind-more-requires
shadow_lengths-bind-more-requires t c =
    let asked = c.requires.asked.0 in (
      omega (arith, asked.pattern_stands.inside, asked.small, c.requires.asked.1),
      omega (arith, asked.row_stands.inside, asked.small),
      omega (arith, asked.row_stands.inside, asked.small, begin_inside c.loop-rest.invariant.0),
      calls.place_ready asked c.requires.asked.1 c.requires.free,
    )

pub shadow_lengths-overflow_add-start : goal.shadow_lengths-overflow_add-start
shadow_lengths-overflow_add-start t c = let asked = c.requires.asked.0 in omega (arith, asked.row_stands.inside, asked.small, begin_inside c.loop-rest.invariant.0)

pub shadow_lengths-shadow_run-found-requires : goal.shadow_lengths-shadow_run-found-requires
shadow_lengths-shadow_run-found-requires t c =
    let asked = c.requires.asked in
    let ends = c.end_of-end in
    let inside = begin_inside c.loop-rest.invariant.0 in (
      omega (arith, after_falls c.args.pattern.now ends.result _ asked.1 ends.ensures.0 refl, c.decreases),
      (
        calls.asked_more asked.0 asked.1 c.requires.free inside c.bind-more.ensures ends.result c.loop-rest.n ends.ensures.0 inside,
        sure.settled_later _ (sure.settled_more asked.2 c.bind-more.ensures) (sure.begin_second asked.1 ends.ensures.0),
        sure.remembers_fixed (sure.fixed_bound c.bind-more.ensures _ (sure.settled_low asked.2)) c.loop-rest.invariant.2,
      ),
    )

pub shadow_lengths-loop-rest-preserved : goal.shadow_lengths-loop-rest-preserved
shadow_lengths-loop-rest-preserved t c =
    let asked = c.requires.asked in
    let run = c.shadow_run-found in
    let none = sym c.is_some.ensures ∙ c.if-is_some.false in (
      rw c.end_of-n.ensures.0 (one_on c.if-left-lt24.false c.loop-rest.invariant.0),
      rw c.end_of-n.ensures.0 (answers.length_next asked.0 asked.1 c.requires.free c.end_of-end.ensures.0 c.loop-rest.invariant.0 c.bind-more.ensures
          run.result run.ensures.0 c.loop-rest.invariant.1 none c.if-left-lt24.false),
      sure.remembers_back (sure.fixed_bound c.bind-more.ensures _ (sure.settled_low asked.2)) run.ensures.1,
    )

pub shadow_lengths-returns : goal.shadow_lengths-returns
shadow_lengths-returns t c =
    let asked = c.requires.asked in
    let run = c.shadow_run-found in
    let fixed = sure.fixed_bound c.bind-more.ensures _ (sure.settled_low asked.2) in (
      elim c.then-is_some.branch [
        | shadow_lengths-then-is_some-via-then-is_some w ↦
            answers.length_found asked.0 asked.1 c.requires.free c.end_of-end.ensures.0 c.loop-rest.invariant.0 c.bind-more.ensures
            run.result run.ensures.0 c.loop-rest.invariant.1 (sym c.is_some.ensures ∙ w.if-is_some.true)
        | shadow_lengths-then-is_some-via-else-is_some+then-left-lt24 w ↦
            answers.length_none asked.0 asked.1 c.requires.free c.end_of-end.ensures.0 c.loop-rest.invariant.0 c.bind-more.ensures
            run.result run.ensures.0 c.loop-rest.invariant.1 (sym c.is_some.ensures ∙ w.if-is_some.false) w.if-left-lt24.true
      ],
      sure.remembers_back fixed run.ensures.1,
      sure.match_after fixed run.ensures.2,
    )

pub shadow_run-shadow_first-requires : goal.shadow_run-shadow_first-requires
shadow_run-shadow_first-requires t c =
    let start = c.requires in
    let (passed, stopped) = known.known_stop c.known_front.ensures _ _ _ c.in-Stops.is in (
      omega (arith, c.decreases, begin_inside passed.begins, from_length c.in-Stops.m c.args.pattern.now),
      ((calls.asked_later start.0 _ _ passed.begins passed.within, sure.settled_later _ start.1 passed.begins, start.2), stopped),
    )

pub shadow_run-returns-in-End : goal.shadow_run-returns-in-End
shadow_run-returns-in-End t c =
    let start = c.requires in
    let (passed, short) = known.known_end c.known_front.ensures _ _ c.in-End.is in (
      answers.run_match _ _ _ _ _ short c.if-row-n-lt24.true ∙ sym (ap first_in (passed.search false)),
      start.2,
      record { kept = (start.0.kept, sure.fixed_same _ _ (sure.settled_low start.1)) },
    )

pub shadow_run-returns-in-End-2 : goal.shadow_run-returns-in-End-2
shadow_run-returns-in-End-2 t c =
    let (passed, short) = known.known_end c.known_front.ensures _ _ c.in-End.is in
    (answers.run_left _ _ c.args.b _ _ short c.if-row-n-lt24.false ∙ sym (ap first_in (passed.search false)), c.requires.2, record { kept = tt })

pub shadow_tries-returns-then-not-closed : goal.shadow_tries-returns-then-not-closed
shadow_tries-returns-then-not-closed t c =
    let start = c.requires.asked in (
      c.shadow_anew.ensures.0,
      start.3,
      sure.match_fewer _ (sure.settled_low start.2) c.shadow_anew.ensures.1,
    )

pub shadow_tries-returns-then-has : goal.shadow_tries-returns-then-has
shadow_tries-returns-then-has t c =
    let start = c.requires.asked in
    let free = c.closed.ensures c.if-not-closed.false _ refl (λ i low. refl) start.0.kept _ start.2.same in (
      sym (ap first_in (failed.lengths_known start.0 _ free c.requires.tries_all start.1 start.3 (rw c.new-rests.ensures at (c.has.ensures c.if-has.true)))),
      start.3,
      record { kept = tt },
    )

pub shadow_tries-returns-then-is_none : goal.shadow_tries-returns-then-is_none
shadow_tries-returns-then-is_none t c =
    let start = c.requires.asked in
    let free = c.closed.ensures c.if-not-closed.false _ refl (λ i low. refl) start.0.kept _ start.2.same in
    let lengths = c.shadow_lengths-found in (
      lengths.ensures.0,
      failed.lengths_noted start.0 _ free c.requires.tries_all (failed.none_matched _ _ lengths.result _ lengths.ensures.0 (c.is_none.ensures ∙ ap not c.if-is_none.true)) lengths.ensures.1
          (rw c.new-rests.ensures at c.note.ensures),
      lengths.ensures.2,
    )
