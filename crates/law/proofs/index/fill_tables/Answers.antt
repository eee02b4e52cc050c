-- The five fills, one after the other: `tables_made` says what they leave behind and what their sums tell.
use Rattle.std.proofs.Common.{rules, ◌+◌, ◌*◌}
use Rattle.file.specs.Word.{word_at}
use Rattle.file.proofs.Parts.{cut_out}
use Rattle.law.proofs.Tables.{tables_made}
use Rattle.law.proofs.index.fill_tables.Goals as goal

pub returns : goal.returns
returns c =
    let law = c.args.law.now in
    let sections = c.args.sections in
    let functions = c.fill_sums-function_sentences.ensures.sums (λ f. word_at (cut_out c.functions_at-functions_at.result (20 * sections.functions) law) (20 * f + 8)) (λ f n l p. search rules) in
    let functions = rw c.functions_at-functions_at.ensures at functions in
    let asked = c.fill_sums-sentence_conditions.ensures.sums (λ s. word_at (cut_out c.sentences_at-sentences_at.result (20 * sections.sentences) law) (20 * s + 4)) (λ s n l p. search rules) in
    let asked = rw c.sentences_at-sentences_at.ensures at asked in
    let conditions = c.fill_sums-condition_terms.ensures.sums
    (λ i. word_at (cut_out c.conditions_at-conditions_at.result (16 * sections.conditions) law) (16 * i) + word_at (cut_out c.conditions_at-conditions_at.result (16 * sections.conditions) law) (16 * i + 4)) (λ i n l p. search rules) in
    let conditions = rw c.conditions_at-conditions_at.ensures at conditions in
    let sentences = c.fill_sums-sentence_terms.ensures.sums
    (λ s. word_at (cut_out c.sentences_at-sentences_at.result (20 * sections.sentences) law) (20 * s) + word_at (cut_out c.sentences_at-sentences_at.result (20 * sections.sentences) law) (20 * s + 8)) (λ s n l p. search rules) in
    let sentences = rw c.sentences_at-sentences_at.ensures at sentences in
    let blocks = rw c.terms_at-terms_at.ensures at c.fill_blocks-block_sentences.ensures in
    let made =
    tables_made law sections c.requires.0 _ _ _ _ _ _ _ _ _ _ _ _ c.requires.1
    functions.0 functions.1 asked.0 asked.1 conditions.0 conditions.1 sentences.0 sentences.1 blocks.0 blocks.3
    c.used_exactly.ensures in
    (made.0, blocks.2, made.1)
