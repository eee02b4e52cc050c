-- What is known of each section that the code found (`reached`), and one law for each return (proofs/CodeLaws.antt).
use native.Mathlib.Omega.{arith}
use Rattle.file.proofs.CodeLaws.{reached, handed_on, file_over, text_refused, functions_refused, sentences_refused, conditions_refused, terms_refused, left_over, all_given}
use Rattle.file.proofs.sections_of.Goals as goal

pub returns-then-law-gt16384 : goal.returns-then-law-gt16384
returns-then-law-gt16384 c = file_over _ c.if-law-gt16384.true

pub returns-in_err-text : goal.returns-in_err-text
returns-in_err-text c = handed_on _ _ _ c.from_residual.ensures.1 (text_refused _ c.if-law-gt16384.false _ c.in_err-text.ensures)

pub section_at-requires-2 : goal.section_at-requires-2
section_at-requires-2 c = ((reached _ 4096 1 0 _ c.in_ok-text.ensures).inside, omega arith, omega arith)

pub returns-in_err-functions : goal.returns-in_err-functions
returns-in_err-functions c =
    handed_on _ _ _ c.from_residual-in_err-functions.ensures.1
    (functions_refused _ c.if-law-gt16384.false _ _ c.in_ok-text.ensures c.in_err-functions.ensures)

pub section_at-requires-3 : goal.section_at-requires-3
section_at-requires-3 c = ((reached _ 64 20 c.in_ok-text.text.end _ c.in_ok-functions.ensures).inside, omega arith, omega arith)

pub returns-in_err-sentences : goal.returns-in_err-sentences
returns-in_err-sentences c =
    handed_on _ _ _ c.from_residual-in_err-sentences.ensures.1
    (sentences_refused _ c.if-law-gt16384.false _ _ c.in_ok-text.ensures _ c.in_ok-functions.ensures c.in_err-sentences.ensures)

pub section_at-requires-4 : goal.section_at-requires-4
section_at-requires-4 c = ((reached _ 128 20 c.in_ok-functions.functions.end _ c.in_ok-sentences.ensures).inside, omega arith, omega arith)

pub returns-in_err-conditions : goal.returns-in_err-conditions
returns-in_err-conditions c =
    handed_on _ _ _ c.from_residual-in_err-conditions.ensures.1
    (conditions_refused _ c.if-law-gt16384.false _ _ c.in_ok-text.ensures _ c.in_ok-functions.ensures _ c.in_ok-sentences.ensures c.in_err-conditions.ensures)

pub section_at-requires-5 : goal.section_at-requires-5
section_at-requires-5 c = ((reached _ 128 16 c.in_ok-sentences.sentences.end _ c.in_ok-conditions.ensures).inside, omega arith, omega arith)

pub returns-in_err-terms : goal.returns-in_err-terms
returns-in_err-terms c =
    handed_on _ _ _ c.from_residual-in_err-terms.ensures.1
    (terms_refused _ c.if-law-gt16384.false _ _ c.in_ok-text.ensures _ c.in_ok-functions.ensures _ c.in_ok-sentences.ensures _ c.in_ok-conditions.ensures
    c.in_err-terms.ensures)

pub returns-then-terms-law : goal.returns-then-terms-law
returns-then-terms-law c =
    left_over _ c.if-law-gt16384.false _ _ _ _ _ c.in_ok-text.ensures c.in_ok-functions.ensures c.in_ok-sentences.ensures c.in_ok-conditions.ensures
    c.in_ok-terms.ensures c.if-terms-law.true

pub returns : goal.returns
returns c =
    all_given _ c.if-law-gt16384.false _ _ _ _ _ c.in_ok-text.ensures c.in_ok-functions.ensures c.in_ok-sentences.ensures c.in_ok-conditions.ensures
    c.in_ok-terms.ensures c.if-terms-law.false
