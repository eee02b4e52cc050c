use Rattle.std.proofs.Common.{arith, rules, ◌≡◌, ◌∙◌, ◌+◌, ◌-◌, suc, ◌<◌, ◌≤◌, ℕ}
use native.Mathlib.Numerals.{add-one}
use Rattle.std.proofs.lemmas.Iterator.{serves_from_Range}
use Rattle.file.specs.Sections.{file_of}
use Rattle.file.proofs.Below.{all_in}
use Rattle.law.specs.Places.{pattern_at}
use Rattle.law.specs.Runs.{block_later}
use Rattle.law.proofs.BlockLaws.{sentence_all}
use Rattle.law.proofs.IndexLaws as laws
use Rattle.law.proofs.PlaceLaws.{pattern_grows, terms_inside}
use Rattle.law.proofs.places.Law.sentence_blocks.Goals as goal

pub overflow_add-s : goal.overflow_add-s
overflow_add-s c = omega (arith, laws.sentences_limit _ _ c.args.self.now.indexed, c.requires)

pub all-requires-clause-callable : goal.all-requires-clause-callable
all-requires-clause-callable c =
    let file = file_of c.args.self.now.bytes.now in
    let end : c.pattern_at-end.result ≡ pattern_at file (suc c.args.s) = rw (add-one c.args.s) at c.pattern_at-end.ensures in
    let inside : (t : ℕ) → t < c.pattern_at-end.result → t < file.terms.count =
    λ t l. omega (arith, terms_inside file c.args.self.now.indexed.used c.args.s c.requires, end) in
    serves_from_Range (λ t q r. search rules) (λ t low high. search (rules, inside))

pub returns : goal.returns
returns c =
    let file = file_of c.args.self.now.bytes.now in
    let s = c.args.s in
    let first = c.pattern_at-first.result in
    let grows : first ≤ c.pattern_at-end.result = omega (arith, pattern_grows file s (s + 1) (omega arith), c.pattern_at-first.ensures, c.pattern_at-end.ensures) in
    all_in (block_later file s) c.all.result first (c.pattern_at-end.result - first) c.pattern_at-end.result (omega arith) c.all.ensures.ran (λ x b q k. search rules)
    ∙ sentence_all file s first c.pattern_at-end.result c.pattern_at-first.ensures c.pattern_at-end.ensures
