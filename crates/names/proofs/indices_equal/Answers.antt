-- `all` of the pairs is the equality of the folded bytes.
use Rattle.std.proofs.Common.{◌∙◌, ◌||◌, rules, tests, ne_eqb, eqb}
use Rattle.std.proofs.lemmas.Iterator.{YieldsList-from_slice, YieldsList-from_zip}
use Rattle.std.proofs.lemmas.Iterator.Search.{all_from_yields_List}
use Rattle.names.specs.Name.{upper_byte}
use Rattle.names.proofs.Laws.{all_same, same_or_folded, same_longer}
use Rattle.names.proofs.indices_equal.Goals as goal

pub returns-then-a-b : goal.returns-then-a-b
returns-then-a-b c =
    all_from_yields_List (λ p. eqb p.0 p.1 || eqb (upper_byte p.0) (upper_byte p.1)) c.all.new.self _ c.all.result c.all.ensures.ran
    (YieldsList-from_zip (YieldsList-from_slice c.args.a.now cc) (YieldsList-from_slice c.args.b.now cc)) (λ x b q k. search (rules, tests))
    ∙ all_same upper_byte _ (same_or_folded upper_byte) _ _ c.if-a-b.true

pub returns-else-a-b : goal.returns-else-a-b
returns-else-a-b c = ne_eqb _ _ c.if-a-b.false ∙ same_longer upper_byte c.args.a.now c.args.b.now c.if-a-b.false
