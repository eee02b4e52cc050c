-- By a law of proofs/FrontLaws.antt or proofs/OpenLaws.antt for each return and each turn of a loop.
use Rattle.std.proofs.Common.{arith, sym, ◌∙◌}
use Rattle.sentences.proofs.FrontLaws as laws
use Rattle.sentences.proofs.OpenLaws as ends
use Rattle.sentences.proofs.loose.+fits_front_last_leftmost_loose_loose_open.Goals as goal
use Rattle.sentences.proofs.loose.+fits_front_last_leftmost_loose_loose_open.Goals.{
  front-then-right-lt24-via-then-right-lt24,
  front-then-right-lt24-via-else-right-lt24+then-not-fits,
  front-then-loop-left-test+else-word_at-ne5,
  front-else-loop-left-test,
}

pub fits-returns-in-0 : goal.fits-returns-in-0
fits-returns-in-0 t c =
    let a = c.args in
    laws.fits_symbol a.text.now a.pattern.now a.row.now c.word_at.ensures (omega (arith, c.in-0.is)) (c.characters_same.ensures a.text.now)

pub fits-returns-in-1 : goal.fits-returns-in-1
fits-returns-in-1 t c =
    let a = c.args in
    laws.fits_symbol a.text.now a.pattern.now a.row.now c.word_at.ensures (omega (arith, c.in-1)) c.atoms_same.ensures

pub fits-returns-then-is_bracket : goal.fits-returns-then-is_bracket
fits-returns-then-is_bracket t c =
    let a = c.args in
    laws.fits_inside a.text.now a.pattern.now a.row.now c.word_at.ensures c.in-6.is c.is_bracket.ensures c.if-is_bracket.true c.end_of.ensures.0
    c.end_of-then-is_bracket.ensures.0 c.loose.ensures

pub fits-returns-else-is_bracket : goal.fits-returns-else-is_bracket
fits-returns-else-is_bracket t c =
    let a = c.args in
    laws.fits_none a.text.now a.pattern.now a.row.now c.word_at.ensures c.in-6.is c.is_bracket.ensures c.if-is_bracket.false

pub fits-returns-in_default : goal.fits-returns-in_default
fits-returns-in_default t c =
    let a = c.args in
    laws.fits_variable a.text.now a.pattern.now a.row.now c.word_at.ensures (omega (arith, c.in_default)) (λ six. omega (arith, c.in_default)) c.term_at.ensures
    c.term_at-in_default.ensures c.may_stand.ensures

pub front-returns-then-right-lt24 : goal.front-returns-then-right-lt24
front-returns-then-right-lt24 t c =
    let so_far = c.loop-left.invariant in (
      tt,
      elim c.then-right-lt24.branch [
        | front-then-right-lt24-via-then-right-lt24 w ↦
            laws.front_short so_far c.loop-left-test.true c.word_at.ensures c.if-word_at-ne5.true w.if-right-lt24.true
        | front-then-right-lt24-via-else-right-lt24+then-not-fits w ↦
            laws.front_differs so_far c.loop-left-test.true c.word_at.ensures c.if-word_at-ne5.true w.if-right-lt24.false w.fits.ensures w.if-not-fits.true
      ],
    )

pub front-loop-left-preserved : goal.front-loop-left-preserved
front-loop-left-preserved t c =
    laws.front_next c.loop-left.invariant c.loop-left-test.true c.word_at.ensures c.if-word_at-ne5.true c.if-right-lt24.false c.fits.ensures c.if-not-fits.false
    c.after-left.ensures.0 c.after-right.ensures.0

pub front-returns : goal.front-returns
front-returns t c =
    let so_far = c.loop-left.invariant in (
      so_far.within,
      elim c.loop-left-test.branch [
        | front-then-loop-left-test+else-word_at-ne5 w ↦ laws.front_open_term so_far w.loop-left-test.true w.word_at.ensures w.if-word_at-ne5.false
        | front-else-loop-left-test w ↦ laws.front_end so_far w.loop-left-test.false
      ],
    )

pub leftmost-returns-then-is_some : goal.leftmost-returns-then-is_some
leftmost-returns-then-is_some t c =
    let ahead = c.front-ahead in
    (ahead.ensures.0, laws.sought_answer c.loop-right.invariant ahead.result ahead.ensures.1 c.is_some.ensures c.then-is_some.either)

pub leftmost-loop-right-preserved : goal.leftmost-loop-right-preserved
leftmost-loop-right-preserved t c =
    let ahead = c.front-ahead in
    laws.sought_next c.loop-right.invariant ahead.result ahead.ensures.1 c.is_some.ensures c.if-is_some.false c.if-right-lt24.false c.after-right.ensures.0

pub last-returns-then-pattern-lt24 : goal.last-returns-then-pattern-lt24
last-returns-then-pattern-lt24 t c = let a = c.args in ends.last_empty a.text.now a.pattern.now a.row.now c.if-pattern-lt24.true

pub last-returns-then-terms-room : goal.last-returns-then-terms-room
last-returns-then-terms-room t c =
    let a = c.args in
    ends.last_there a.text.now a.pattern.now a.row.now c.requires (c.terms_in-terms.ensures.0 a.text.now) (c.terms_in-room.ensures.0 a.text.now)
    c.if-terms-room.true c.skip.ensures c.loose.ensures

pub last-returns-else-terms-room : goal.last-returns-else-terms-room
last-returns-else-terms-room t c =
    let a = c.args in
    ends.last_few a.text.now a.pattern.now a.row.now c.requires (c.terms_in-terms.ensures.0 a.text.now) (c.terms_in-room.ensures.0 a.text.now) c.if-terms-room.false

pub loose_open-loop-left-init : goal.loose_open-loop-left-init
loose_open-loop-left-init t c = let a = c.args in ends.opened a.text.now a.pattern.now a.row.now c.requires

pub loose_open-returns-then-not-has_open : goal.loose_open-returns-then-not-has_open
loose_open-returns-then-not-has_open t c = ends.opened_last c.loop-left.invariant c.loop-left-test.true c.after-segment.ensures.0 c.last.ensures

pub loose_open-returns-in_default : goal.loose_open-returns-in_default
loose_open-returns-in_default t c =
    ends.opened_fails c.loop-left.invariant c.loop-left-test.true c.after-segment.ensures.0 (sym (c.has_open.ensures c.args.text.now) ∙ c.if-not-has_open.false)
    (rw c.in_default.is at c.leftmost.ensures).1

pub loose_open-loop-left-preserved : goal.loose_open-loop-left-preserved
loose_open-loop-left-preserved t c =
    ends.opened_next c.loop-left.invariant c.loop-left-test.true c.after-segment.ensures.0 (sym (c.has_open.ensures c.args.text.now) ∙ c.if-not-has_open.false)
    c.in-Some.ensures.0 c.in-Some.ensures.1

pub loose_open-returns : goal.loose_open-returns
loose_open-returns t c = ends.opened_end c.loop-left.invariant c.loop-left-test.false

pub loose-loose_open-requires : goal.loose-loose_open-requires
loose-loose_open-requires t c =
    let a = c.args in (omega (arith, c.in-Some.ensures.0, c.decreases), ends.loose_start a.text.now a.pattern.now a.row.now _ _ c.in-Some.ensures.1)

pub loose-returns-in-None : goal.loose-returns-in-None
loose-returns-in-None t c = let a = c.args in ends.loose_fails a.text.now a.pattern.now a.row.now c.in-None.ensures.1

pub loose-returns-in-Some : goal.loose-returns-in-Some
loose-returns-in-Some t c = let a = c.args in ends.loose_goes a.text.now a.pattern.now a.row.now _ _ c.in-Some.ensures.1 c.loose_open.ensures
