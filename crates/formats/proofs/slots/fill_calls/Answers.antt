use Rattle.std.proofs.Common.{arith, ◌∙◌}
use lib.ListN.{length-set}
use Rattle.file.specs.Sections.{file_of}
use Rattle.law.proofs.IndexLaws.{terms_limit}
use Rattle.formats.proofs.SlotLaws.{kind_read, slots_pass, slots_next}
use Rattle.formats.proofs.slots.fill_calls.Goals as goal
use Rattle.formats.proofs.slots.fill_calls.Goals.{then-term_word-eq-CALL, else-term_word-eq-CALL}

pub callee_place-requires : goal.callee_place-requires
callee_place-requires c =
    let slots = c.loop-t.invariant.1 in
    (slots.functions, slots.count, omega (arith, c.args.allowed.now.law.indexed.words.terms), kind_read (file_of c.args.allowed.now.law.bytes.now) _ _ c.term_word.ensures ∙ c.if-term_word-eq-CALL.true)

pub bounds-slots-t : goal.bounds-slots-t
bounds-slots-t c = omega (arith, terms_limit _ _ c.args.allowed.now.law.indexed, c.args.allowed.now.law.indexed.words.terms)

pub loop-t-preserved : goal.loop-t-preserved
loop-t-preserved c =
    let slots = c.loop-t.invariant.1 in
    elim c.if-term_word-eq-CALL.branch [
      | then-term_word-eq-CALL w ↦
          rw w.slots-is (
            length-set c.loop-t.slots.calls _ _ ∙ c.loop-t.invariant.0,
            slots_next _ _ _ _ slots (omega (arith, terms_limit _ _ c.args.allowed.now.law.indexed, c.args.allowed.now.law.indexed.words.terms, c.loop-t.invariant.0)) (kind_read (file_of c.args.allowed.now.law.bytes.now) _ _ c.term_word.ensures ∙ w.if-term_word-eq-CALL.true) w.callee_place.ensures,
          )
      | else-term_word-eq-CALL w ↦ rw w.slots-is (c.loop-t.invariant.0, slots_pass _ _ _ _ slots c.term_word.ensures w.if-term_word-eq-CALL.false)
    ]
