use Rattle.std.proofs.Common.{◌≤◌, true, false, arith, ap, sym, ◌∙◌}
use Rattle.std.specs.Int.{from_bool}
use lib.ListN.{length-set}
use Rattle.law.proofs.IndexLaws.{functions_limit}
use Rattle.formats.proofs.SlotLaws.{count_next, count_names, filled_next, and_true, at_most_one}
use Rattle.formats.proofs.slots.fill_last.Goals as goal

pub bounds-last-f : goal.bounds-last-f
bounds-last-f c = omega (arith, functions_limit _ _ c.args.allowed.now.law.indexed, c.args.allowed.now.law.indexed.words.functions)

pub overflow_add-found : goal.overflow_add-found
overflow_add-found c =
    let one : c.from-found.result ≤ 1 = rw c.from-found.ensures (at_most_one _) in
    omega (arith, functions_limit _ _ c.args.allowed.now.law.indexed, c.args.allowed.now.law.indexed.words.functions)

pub loop-f-preserved : goal.loop-f-preserved
loop-f-preserved c =
    let words = c.args.allowed.now.law.indexed.words in (
      count_next _ (λ m. true) _ _ _ c.loop-f.invariant.0 (omega (arith, words.functions)) (c.from-found.ensures ∙ ap from_bool (c.is_last-counts.ensures ∙ sym (and_true _))),
      length-set c.loop-f.last _ _ ∙ c.loop-f.invariant.1,
      filled_next false c.loop-f.last c.loop-f.f _ _ c.loop-f.invariant.2 (omega (arith, functions_limit _ _ c.args.allowed.now.law.indexed, words.functions)) c.is_last-counts.ensures,
    )

pub returns-clause-names : goal.returns-clause-names
returns-clause-names c = count_names _ _ _ c.loop-f.invariant.0 (omega (arith, c.args.allowed.now.law.indexed.words.functions))
