-- The five functions of refusal 8. Each call inside a term has one more around it, so that the measure is how many more may be around, and then the order in
-- which the functions call each other. The loops' invariants say that what is left decides.
use Rattle.std.proofs.Common.{◌≡◌, ◌+◌, ◌*◌, ◌-◌, length}
use Rattle.file.specs.Sections.{file_of}
use Rattle.law.specs.Places.{conditions_of, first_condition}
use Rattle.law.proofs.DepthSteps as steps
use Rattle.law.proofs.depth.ReadableLaw.+depth.Given as goal

abbrev pub decreases-conditions_depth : goal.decreases-conditions_depth
decreases-conditions_depth l = 5 * (33 - l.depth) + 2

abbrev pub decreases-run_depth : goal.decreases-run_depth
decreases-run_depth l = 5 * (33 - l.depth) + 1

abbrev pub decreases-sentence_depth : goal.decreases-sentence_depth
decreases-sentence_depth l = 5 * (33 - l.depth) + 3

abbrev pub decreases-sentences_depth : goal.decreases-sentences_depth
decreases-sentences_depth l = 5 * (33 - l.depth) + 4

abbrev pub decreases-term_depth : goal.decreases-term_depth
decreases-term_depth l = 5 * (33 - l.depth)

abbrev pub invariant-conditions_depth-loop-i : goal.invariant-conditions_depth-loop-i
invariant-conditions_depth-loop-i l =
    let file = file_of l.self.law.now.bytes.now in
    (l.first ≡ first_condition file l.s)
    × (l.count ≡ conditions_of file l.s)
    × (steps.conditions_within file l.s (conditions_of file l.s) (first_condition file l.s) l.depth ≡ steps.conditions_within file l.s (l.count - l.i) (l.first + l.i) l.depth)

abbrev pub invariant-run_depth-loop-k : goal.invariant-run_depth-loop-k
invariant-run_depth-loop-k l = steps.LeftWithin (file_of l.self.law.now.bytes.now) l.at l.depth l.part l.k

abbrev pub decreases-run_depth-loop-k : goal.decreases-run_depth-loop-k
decreases-run_depth-loop-k l = length l.part - 24 * l.k

abbrev pub invariant-sentences_depth-loop-i : goal.invariant-sentences_depth-loop-i
invariant-sentences_depth-loop-i l =
    let file = file_of l.self.law.now.bytes.now in
    steps.sentences_within file l.count l.first l.depth ≡ steps.sentences_within file (l.count - l.i) (l.first + l.i) l.depth
