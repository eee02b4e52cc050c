-- All that `shadow` asks for holds in an accepted law, and a pattern that is parted from another shadows nothing.
use Rattle.std.proofs.Common.{arith}
use Rattle.sentences.proofs.EntryLaws.{shadow_parted}
use Rattle.sentences.proofs.SentenceLaws.{pattern_low, few_terms, pattern_stands, pattern_few}
use Rattle.sentences.proofs.sentence_shadows.Goals as goal

pub overflow_mul-pattern_at : goal.overflow_mul-pattern_at
overflow_mul-pattern_at c =
    let a = c.args.accepted.now in omega (arith, pattern_low _ _ a.law.indexed a.accepted _ _ c.requires.0 c.pattern_at.ensures)

pub overflow_mul-pattern_at-2 : goal.overflow_mul-pattern_at-2
overflow_mul-pattern_at-2 c =
    let a = c.args.accepted.now in omega (arith, pattern_low _ _ a.law.indexed a.accepted _ _ c.requires.1 c.pattern_at-2.ensures)

pub invariant_of-shadow : goal.invariant_of-shadow
invariant_of-shadow c =
    let a = c.args.accepted.now in
    let all = c.all_records.ensures in
    record {
      few = few_terms _ _ a.law.indexed a.accepted _ _ all.0 all.1;
      pattern_stands = pattern_stands _ _ a.law.indexed a.accepted _ _ all.0 all.1 _ _ c.requires.0 c.pattern-pattern.ensures _ c.pattern_at.ensures;
      row_stands = pattern_stands _ _ a.law.indexed a.accepted _ _ all.0 all.1 _ _ c.requires.1 c.pattern-row.ensures _ c.pattern_at-2.ensures;
    }

pub shadow-requires : goal.shadow-requires
shadow-requires c =
    let a = c.args.accepted.now in
    let all = c.all_records.ensures in
    pattern_few _ _ a.law.indexed a.accepted _ _ all.0 all.1 _ _ c.requires.0 c.pattern-pattern.ensures

pub returns-then-parted : goal.returns-then-parted
returns-then-parted c = shadow_parted _ _ _ c.text.ensures c.pattern-pattern.ensures c.pattern-row.ensures (c.parted.ensures c.if-parted.true)
