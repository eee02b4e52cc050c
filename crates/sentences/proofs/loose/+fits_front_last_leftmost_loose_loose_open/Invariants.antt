-- The measure is the length of the pattern, eight times, and then the order in which the functions hand the same pattern on; the contents of a bracket are
-- shorter.
use Rattle.std.proofs.Common.{◌+◌, ◌*◌, length}
use Rattle.sentences.proofs.FrontLaws.{Fronted, Sought}
use Rattle.sentences.proofs.OpenLaws.{Opened}
use Rattle.sentences.proofs.loose.+fits_front_last_leftmost_loose_loose_open.Given as goal

abbrev pub decreases-fits : goal.decreases-fits
decreases-fits l = 8 * length l.pattern.now

abbrev pub decreases-front : goal.decreases-front
decreases-front l = 8 * length l.pattern.now + 1

abbrev pub decreases-leftmost : goal.decreases-leftmost
decreases-leftmost l = 8 * length l.pattern.now + 2

abbrev pub decreases-loose_open : goal.decreases-loose_open
decreases-loose_open l = 8 * length l.pattern.now + 3

abbrev pub decreases-loose : goal.decreases-loose
decreases-loose l = 8 * length l.pattern.now + 4

abbrev pub decreases-last : goal.decreases-last
decreases-last l = 8 * length l.pattern.now + 5

abbrev pub invariant-front-loop-left : goal.invariant-front-loop-left
invariant-front-loop-left l = Fronted l.fn.text l.fn.pattern l.fn.row l.left l.right

abbrev pub decreases-front-loop-left : goal.decreases-front-loop-left
decreases-front-loop-left l = length l.left

abbrev pub invariant-leftmost-loop-right : goal.invariant-leftmost-loop-right
invariant-leftmost-loop-right l = Sought l.fn.text l.fn.pattern l.fn.row l.right

abbrev pub decreases-leftmost-loop-right : goal.decreases-leftmost-loop-right
decreases-leftmost-loop-right l = length l.right

abbrev pub invariant-loose_open-loop-left : goal.invariant-loose_open-loop-left
invariant-loose_open-loop-left l = Opened l.fn.text l.fn.pattern l.fn.row l.left l.right

abbrev pub decreases-loose_open-loop-left : goal.decreases-loose_open-loop-left
decreases-loose_open-loop-left l = length l.left
