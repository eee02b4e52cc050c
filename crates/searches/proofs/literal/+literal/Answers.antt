use Rattle.std.proofs.Common.{arith, true, refl, ◌∙◌}
use borrow.Author.Tests.{le-ltb}
use Rattle.matching.specs.Code.Part.{at_start, one_on}
use Rattle.matching.proofs.CutLaws.{begin_inside}
use Rattle.matching.proofs.FirstLaws as first-record
use Rattle.matching.proofs.KnownLaws as known
use Rattle.searches.proofs.AskedLaws as calls
use Rattle.searches.proofs.LevelLaws as level
use Rattle.searches.proofs.ShadowSteps as answers
use Rattle.searches.proofs.SureLaws as sure
use Rattle.searches.proofs.FailedLaws.{remembers_same}
use Rattle.searches.proofs.AroundLaws as around
use Rattle.searches.proofs.AloneLaws as alone
use Rattle.searches.proofs.literal.+literal.Goals as goal

pub literal_anew-literal_lengths-requires : goal.literal_anew-literal_lengths-requires
literal_anew-literal_lengths-requires t c =
    let asked = c.requires.literal_asked in
    (omega (arith, c.decreases), (rw c.fixed-all.ensures (asked.0, asked.1, around.remembering_none _ _ _ _ (omega arith)), c.requires.free))

pub literal_apart-literal_run-requires : goal.literal_apart-literal_run-requires
literal_apart-literal_run-requires t c =
    let start = c.requires.literal_asked in
    let apart = c.requires.count_value in (
      omega (arith, c.decreases, start.0.asked.pattern_stands.inside, start.1),
      (
        alone.contents_alone start.0 apart.0 start.1 start.2 _ _ c.end_of-m.ensures.0 c.end_of-n.ensures.0,
        alone.remembering_inside start.0 apart.0 start.1 start.2 _ c.end_of-n.result c.end_of-m.ensures.0 start.3,
      ),
    )

pub literal_apart-returns-then-not-literal_run : goal.literal_apart-returns-then-not-literal_run
literal_apart-returns-then-not-literal_run t c =
    let start = c.requires.literal_asked in
    let apart = c.requires.count_value in (
      alone.bracket_none _ _ _ apart.0 _ _ _ _ _ c.end_of-m.ensures.0 c.end_of-n.ensures.0 _ _ _ _ c.literal_run.ensures.0 c.if-not-literal_run.true,
      alone.remembered_inside start.0 apart.0 start.1 start.2 _ _ c.literal_run.ensures.1,
    )

pub literal_apart-literal_run-requires-2 : goal.literal_apart-literal_run-requires-2
literal_apart-literal_run-requires-2 t c =
    let start = c.requires.literal_asked in
    let ends = c.end_of-m.ensures in
    let begins = sure.begin_second start.1 ends.0 in (
      omega (arith, c.decreases, start.0.asked.pattern_stands.inside, ends.1, ends.2),
      (
        level.literal_later start.0 _ _ begins c.end_of-n.ensures.2,
        around.remembering_later start.0 _ _ ends.2 c.end_of-n.ensures.2 begins
            (around.remembering_then start.3 (alone.remembered_inside start.0 c.requires.count_value.0 start.1 start.2 _ _ c.literal_run.ensures.1)),
      ),
    )

pub literal_apart-returns : goal.literal_apart-returns
literal_apart-returns t c =
    let start = c.requires.literal_asked in
    let apart = c.requires.count_value in (
      alone.bracket_some _ _ _ apart.0 _ _ _ _ _ c.end_of-m.ensures.0 c.end_of-n.ensures.0 apart.1 _ _ _ _ _ _
          c.literal_run.ensures.0 c.if-not-literal_run.false c.literal_run-2.ensures.0,
      around.remembered_then (alone.remembered_inside start.0 apart.0 start.1 start.2 _ _ c.literal_run.ensures.1)
          (around.remembered_later start.0 _ _ c.end_of-m.ensures.2 c.end_of-n.ensures.2 c.literal_run-2.ensures.1),
    )

pub literal_end-returns-then-has : goal.literal_end-returns-then-has
literal_end-returns-then-has t c =
    let asked = c.requires.terms_len_bound in
    let settled = c.requires.settled in
    let (known, closed) = c.holds_here.ensures c.if-not-holds_here.false in (
      around.out_known _ _ _ _ _ (around.closed_levels c.args.at (closed asked.2 _) settled.0) (settled.1 known) _ _
          (rw c.new-rests.ensures at (c.has.ensures c.if-has.true)),
      around.remembered_unchanged settled.1 refl,
    )

pub literal_end-returns-then-not-found : goal.literal_end-returns-then-not-found
literal_end-returns-then-not-found t c =
    let asked = c.requires.terms_len_bound in
    let settled = c.requires.settled in
    let out = c.literal_out-found.ensures in
    let (known, closed) = c.holds_here.ensures c.if-not-holds_here.false in (
      out.0,
      around.remembered_here known
          (around.out_noted _ _ _ _ _ (around.closed_levels c.args.at (closed asked.2 _) settled.0) out.0 c.if-not-found.true
          (remembers_same (settled.1 known) out.1) _ _ (rw c.new-rests.ensures at c.note.ensures)),
    )

pub literal_first-bind-more-requires : goal.literal_first-bind-more-requires
literal_first-bind-more-requires t c =
    let asked = c.requires.literal_asked.0.asked in
    let stopped = c.requires.stopped in
    let binds = first-record.binds_within stopped.leaves true _ c.in-Binds.is in (
      omega (arith, asked.pattern_stands.inside, asked.small, stopped.some),
      omega (arith, asked.row_stands.inside, asked.small),
      omega (arith, asked.row_stands.inside, asked.small, binds.0),
      calls.place_ready asked stopped.some binds.1,
    )

pub literal_first-literal_run-requires : goal.literal_first-literal_run-requires
literal_first-literal_run-requires t c =
    let start = c.requires.literal_asked in
    let stopped = c.requires.stopped in
    let ends = c.end_of-end in
    let binds = first-record.binds_within stopped.leaves true _ c.in-Binds.is in (
      omega (arith, c.decreases, ends.ensures.1, ends.ensures.2, start.0.asked.pattern_stands.inside),
      (
        level.literal_more start.0 stopped.some binds.1 binds.0 c.bind-more.ensures ends.result c.in-Binds.n ends.ensures.0 binds.0,
        around.remembering_later start.0 _ _ ends.ensures.2 binds.0 (sure.begin_second stopped.some ends.ensures.0)
            (around.remembering_bound start.1 c.bind-more.ensures),
      ),
    )

pub literal_first-returns-in-Binds : goal.literal_first-returns-in-Binds
literal_first-returns-in-Binds t c =
    let start = c.requires.literal_asked in
    let stopped = c.requires.stopped in
    let ends = c.end_of-end in
    let binds = first-record.binds_within stopped.leaves true _ c.in-Binds.is in
    let values = calls.values_more start.0.asked stopped.some binds.1 binds.0 c.bind-more.ensures in (
      level.run_rest start.0 c.literal_run.result ends.result c.in-Binds.n c.bind-more.result ends.ensures.2 binds.0
          (first-record.step_binds stopped.leaves true _ _ _ c.in-Binds.is ends.ensures.0 values) c.literal_run.ensures.0,
      around.remembered_bound start.1 c.bind-more.ensures (around.remembered_later start.0 _ _ ends.ensures.2 binds.0 c.literal_run.ensures.1),
    )

pub literal_inside-push-around-requires : goal.literal_inside-push-around-requires
literal_inside-push-around-requires t c =
    let start = c.requires in
    let asked = start.0.asked in (
      omega (arith, asked.pattern_stands.inside, asked.small),
      omega (arith, asked.row_stands.inside, asked.small),
      level.level_ready start.0 start.1 start.2 _ _ c.end_of-m.ensures.0 c.end_of-n.ensures.0,
    )

pub literal_inside-literal_run-requires : goal.literal_inside-literal_run-requires
literal_inside-literal_run-requires t c =
    let start = c.requires in
    let more = c.push-around.ensures in
    let unsure = c.none-sure.ensures in (
      omega (arith, c.decreases, more.0, start.0.asked.pattern_stands.inside, start.1),
      (
        level.literal_inside start.0 start.1 start.2 _ _ c.end_of-m.ensures.0 c.end_of-n.ensures.0 c.push-around.result more.0 more.1,
        around.remembering_nothing _ _ _ _ unsure.0 unsure.1 unsure.2,
      ),
    )

pub literal_inside-returns : goal.literal_inside-returns
literal_inside-returns t c =
    let start = c.requires in
    let more = c.push-around.ensures in (
      level.inside_answer start.0 start.1 start.2 _ _ c.end_of-m.ensures.0 c.end_of-n.ensures.0 c.push-around.result more.0 more.1 c.literal_run.result
          c.literal_run.ensures.0,
      c.literal_run.ensures.1.elsewhere c.none-sure.ensures.2,
    )

pub literal_lengths-loop-rest-init : goal.literal_lengths-loop-rest-init
literal_lengths-loop-rest-init t c = let start = c.requires.literal_asked in (at_start, level.lengths_start start.0 start.1 c.requires.free, around.remembered_same start.2 refl)

pub literal_lengths-slice_bounds-left-count : goal.literal_lengths-slice_bounds-left-count
literal_lengths-slice_bounds-left-count t c = begin_inside c.loop-rest.invariant.0

pub literal_lengths-slice_bounds-left-start : goal.literal_lengths-slice_bounds-left-start
literal_lengths-slice_bounds-left-start t c = begin_inside c.loop-rest.invariant.0

pub literal_lengths-bind-more-requires : goal.literal_lengths-bind-more-requires
literal_lengths-bind-more-requires t c =
    let start = c.requires.literal_asked in
    let asked = start.0.asked in (
      omega (arith, asked.pattern_stands.inside, asked.small, start.1),
      omega (arith, asked.row_stands.inside, asked.small),
      omega (arith, asked.row_stands.inside, asked.small, begin_inside c.loop-rest.invariant.0),
      calls.place_ready asked start.1 c.requires.free,
    )

pub literal_lengths-overflow_add-j : goal.literal_lengths-overflow_add-j
literal_lengths-overflow_add-j t c =
    let asked = c.requires.literal_asked.0.asked in omega (arith, asked.row_stands.inside, asked.small, begin_inside c.loop-rest.invariant.0)

pub literal_lengths-literal_run-requires : goal.literal_lengths-literal_run-requires
literal_lengths-literal_run-requires t c =
    let start = c.requires.literal_asked in
    let ends = c.end_of-end in
    let inside = begin_inside c.loop-rest.invariant.0 in (
      omega (arith, c.decreases, ends.ensures.1, ends.ensures.2, start.0.asked.pattern_stands.inside),
      (
        level.literal_more start.0 start.1 c.requires.free inside c.bind-more.ensures ends.result c.loop-rest.n ends.ensures.0 inside,
        around.remembering_later start.0 _ _ ends.ensures.2 inside (sure.begin_second start.1 ends.ensures.0)
            (around.remembering_bound (around.remembering_then start.2 c.loop-rest.invariant.2) c.bind-more.ensures),
      ),
    )

pub literal_lengths-loop-rest-preserved : goal.literal_lengths-loop-rest-preserved
literal_lengths-loop-rest-preserved t c =
    let start = c.requires.literal_asked in (
      rw c.end_of-n.ensures.0 (one_on c.if-left-lt24.false c.loop-rest.invariant.0),
      rw c.end_of-n.ensures.0 (level.length_next start.0 start.1 c.requires.free c.end_of-end.ensures.0 c.loop-rest.invariant.0 c.bind-more.ensures
          c.literal_run.result c.literal_run.ensures.0 c.loop-rest.invariant.1 c.if-literal_run.false c.if-left-lt24.false),
      around.remembered_then c.loop-rest.invariant.2 (around.remembered_bound (around.remembering_then start.2 c.loop-rest.invariant.2) c.bind-more.ensures
          (around.remembered_later start.0 _ _ c.end_of-end.ensures.2 (begin_inside c.loop-rest.invariant.0) c.literal_run.ensures.1)),
    )

pub literal_lengths-returns-then-literal_run : goal.literal_lengths-returns-then-literal_run
literal_lengths-returns-then-literal_run t c =
    let start = c.requires.literal_asked in (
      level.length_found start.0 start.1 c.requires.free c.end_of-end.ensures.0 c.loop-rest.invariant.0 c.bind-more.ensures
          c.literal_run.result c.literal_run.ensures.0 c.loop-rest.invariant.1 c.if-literal_run.true,
      around.remembered_then c.loop-rest.invariant.2 (around.remembered_bound (around.remembering_then start.2 c.loop-rest.invariant.2) c.bind-more.ensures
          (around.remembered_later start.0 _ _ c.end_of-end.ensures.2 (begin_inside c.loop-rest.invariant.0) c.literal_run.ensures.1)),
    )

pub literal_lengths-returns-then-left-lt24 : goal.literal_lengths-returns-then-left-lt24
literal_lengths-returns-then-left-lt24 t c =
    let start = c.requires.literal_asked in (
      level.length_none start.0 start.1 c.requires.free c.end_of-end.ensures.0 c.loop-rest.invariant.0 c.bind-more.ensures
          c.literal_run.result c.literal_run.ensures.0 c.loop-rest.invariant.1 c.if-literal_run.false c.if-left-lt24.true,
      around.remembered_then c.loop-rest.invariant.2 (around.remembered_bound (around.remembering_then start.2 c.loop-rest.invariant.2) c.bind-more.ensures
          (around.remembered_later start.0 _ _ c.end_of-end.ensures.2 (begin_inside c.loop-rest.invariant.0) c.literal_run.ensures.1)),
    )

pub literal_out-returns-then-outer-eq0 : goal.literal_out-returns-then-outer-eq0
literal_out-returns-then-outer-eq0 t c = (level.out_none _ _ _ _ _ _ c.if-outer-eq0.true, refl)

pub literal_out-literal_run-requires : goal.literal_out-literal_run-requires
literal_out-literal_run-requires t c =
    let start = c.requires.terms_len_bound in
    let unsure = c.none-sure.ensures in (
      omega (arith, c.decreases, c.if-outer-eq0.false),
      (
        level.literal_out start.0 start.1 start.2 c.requires.capacity (omega (arith, c.if-outer-eq0.false)) c.from.ensures c.from-2.ensures,
        around.remembering_nothing _ _ _ _ unsure.0 unsure.1 unsure.2,
      ),
    )

pub literal_out-returns : goal.literal_out-returns
literal_out-returns t c =
    let start = c.requires.terms_len_bound in (
      level.out_answer start.0 start.1 start.2 c.requires.capacity (omega (arith, c.if-outer-eq0.false)) c.from.ensures c.from-2.ensures c.literal_run.result c.literal_run.ensures.0,
      c.literal_run.ensures.1.elsewhere c.none-sure.ensures.2,
    )

pub literal_run-literal_end-requires : goal.literal_run-literal_end-requires
literal_run-literal_end-requires t c =
    let start = c.requires in
    let asked = start.0.asked in (
      omega (arith, c.decreases),
      (
        (asked.small, start.0.around, asked.kept, asked.pattern_stands.inside),
        (level.out_capacity start.0, (around.settled_around start.1, start.1.here)),
      ),
    )

pub literal_run-literal_first-requires : goal.literal_run-literal_first-requires
literal_run-literal_first-requires t c =
    let start = c.requires in
    let (passed, stopped) = known.known_stop c.known_front.ensures _ _ _ c.in-Stops.is in (
      omega (arith, c.decreases, begin_inside passed.begins, start.0.asked.pattern_stands.inside),
      (
        (
          level.literal_later start.0 _ _ passed.begins passed.within,
          around.remembering_later start.0 _ _ (begin_inside passed.begins) passed.within passed.begins start.1,
        ),
        stopped,
      ),
    )

pub literal_run-returns-in-Fails : goal.literal_run-returns-in-Fails
literal_run-returns-in-Fails t c =
    (level.run_none c.requires.0 (known.known_fails c.known_front.ensures c.in-Fails.is true), around.remembered_same c.requires.1 refl)

pub literal_run-returns-then-row-n-lt24 : goal.literal_run-returns-then-row-n-lt24
literal_run-returns-then-row-n-lt24 t c =
    let (passed, short) = known.known_end c.known_front.ensures _ _ c.in-End.is in (
      level.run_one c.requires.0 c.literal_end.result (passed.search true ∙ answers.end_both _ _ _ true _ short c.if-row-n-lt24.true) c.literal_end.ensures.0,
      c.literal_end.ensures.1,
    )

pub literal_run-returns-else-row-n-lt24 : goal.literal_run-returns-else-row-n-lt24
literal_run-returns-else-row-n-lt24 t c =
    let (passed, short) = known.known_end c.known_front.ensures _ _ c.in-End.is in
    (le-ltb _ 24 c.if-row-n-lt24.false ∙ level.run_none c.requires.0 (passed.search true ∙ answers.end_one _ _ _ true _ short c.if-row-n-lt24.false), around.remembered_same c.requires.1 refl)

pub literal_tries-returns-then-has : goal.literal_tries-returns-then-has
literal_tries-returns-then-has t c =
    let start = c.requires.literal_asked in
    let (known, closed) = c.holds_here.ensures c.if-not-holds_here.false in
    let settled = around.closed_fixed (closed start.0.asked.kept _) start.2.settled in (
      around.lengths_known start.0.asked _ _ settled c.requires.tries_all start.1 (start.2.here known) (rw c.new-rests.ensures at (c.has.ensures c.if-has.true)),
      around.remembered_same start.2 refl,
    )

pub literal_tries-returns-then-not-found : goal.literal_tries-returns-then-not-found
literal_tries-returns-then-not-found t c =
    let start = c.requires.literal_asked in
    let (known, closed) = c.holds_here.ensures c.if-not-holds_here.false in
    let settled = around.closed_fixed (closed start.0.asked.kept _) start.2.settled in
    let lengths = c.literal_lengths-found in (
      lengths.ensures.0,
      around.remembered_here known
          (around.lengths_noted start.0.asked _ _ settled c.requires.tries_all lengths.ensures.0 c.if-not-found.true (lengths.ensures.1.here refl)
          (rw c.new-rests.ensures at c.note.ensures)),
    )
