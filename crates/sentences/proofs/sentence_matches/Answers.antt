-- All that `literal` asks for holds in an accepted law, and a pattern that is parted from an argument does not match it.
use Rattle.std.proofs.Common.{arith}
use Rattle.sentences.proofs.EntryLaws.{literal_parted}
use Rattle.law.proofs.IndexLaws.{terms_limit}
use Rattle.sentences.proofs.SentenceLaws.{pattern_low, few_terms, pattern_stands, argument_stands, pattern_few, pattern_nested}
use Rattle.sentences.proofs.sentence_matches.Goals as goal

pub overflow_mul-pattern_at : goal.overflow_mul-pattern_at
overflow_mul-pattern_at c =
    let a = c.args.accepted.now in omega (arith, pattern_low _ _ a.law.indexed a.accepted _ _ c.requires.0 c.pattern_at.ensures)

pub overflow_add-term : goal.overflow_add-term
overflow_add-term c = omega (arith, terms_limit _ _ c.args.accepted.now.law.indexed, c.requires.1)

pub overflow_mul-term : goal.overflow_mul-term
overflow_mul-term c = omega (arith, terms_limit _ _ c.args.accepted.now.law.indexed, c.requires.1)

pub invariant_of-literal : goal.invariant_of-literal
invariant_of-literal c =
    let a = c.args.accepted.now in
    let all = c.all_records.ensures in
    record {
      few = few_terms _ _ a.law.indexed a.accepted _ _ all.0 all.1;
      pattern_stands = pattern_stands _ _ a.law.indexed a.accepted _ _ all.0 all.1 _ _ c.requires.0 c.pattern-pattern.ensures _ c.pattern_at.ensures;
      row_stands = argument_stands _ _ a.law.indexed a.accepted _ _ all.0 all.1 _ _ c.requires.1 c.argument_of-row.ensures;
    }

pub literal-requires : goal.literal-requires
literal-requires c =
    let a = c.args.accepted.now in
    let all = c.all_records.ensures in
    let p = c.requires in (
      pattern_few _ _ a.law.indexed a.accepted _ _ all.0 all.1 _ _ p.0 c.pattern-pattern.ensures,
      pattern_nested _ _ a.law.indexed a.accepted _ _ all.0 all.1 _ _ p.0 c.pattern-pattern.ensures,
      rw c.argument_of-row.ensures p.2,
    )

pub returns-then-parted : goal.returns-then-parted
returns-then-parted c =
    literal_parted _ _ _ c.text.ensures c.pattern-pattern.ensures c.argument_of-row.ensures (c.parted.ensures c.if-parted.true) c.requires.2
