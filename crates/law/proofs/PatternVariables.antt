-- The variables of a run of the tree are those of its records, in order.
use Prim.Native.Nat.{ℕ, zero, suc, ◌+◌, ◌*◌, ◌-◌, ◌≤◌, ◌<◌}
use mathlib.Core.List.{List, [], ◌++◌, append_assoc}
use mathlib.Core.Bool.{true}
use mathlib.Core.Path.{◌≡◌}
use native.Mathlib.Omega.{arith}
use native.Mathlib.Nat.{zero-add, add-zero}
use lib.ListN.{length}
use Rattle.file.specs.Word.{word_at}
use Rattle.file.specs.Sections.{File}
use Rattle.file.specs.Fields.{fields_allowed}
use Rattle.file.specs.Head.{term_at}
use Rattle.file.specs.declared.Term.{Term}
use Rattle.file.specs.declared.Term.TheVariants.{Symbol, SVariable, TVariable, EVariable, Bracket, Call, Block}
use Rattle.law.specs.Tree.{Mark, Run, Sentences}
use Rattle.law.specs.Places.{pattern_at, pattern_size, pattern_part, terms_at}
use Rattle.law.specs.Runs.{run_fits}
use Rattle.law.specs.Reading.{mark_at, term_run, run_of}
use Rattle.law.specs.Variables.{Variable, variable_of, variables_from, distinct, pattern_variables, patterns_allowed}
use Rattle.law.specs.Code.Terms.{run_variables}
use Rattle.law.proofs.PlaceLaws.{pattern_inside}
use Rattle.law.proofs.RunLaws.{run_none, run_first, by_records}
use Rattle.law.proofs.Terms.{InsideAllowed, inside_allowed}
use Rattle.law.proofs.Allowed.{all_used, pattern_fits, variables_few}
use Rattle.law.specs.Code.Index.{Readable}

-- the variables of records, and of the records after them
pub variables_split : (text records : List ℕ) (m n t : ℕ)
    → variables_from text records (m + n) t ≡ variables_from text records m t ++ variables_from text records n (t + m)
unfolding variables_from
variables_split text records zero n t = rw (zero-add, add-zero)
variables_split text records (suc m) n t =
    let more : suc m + n ≡ suc (m + n) = omega arith in
    let place : t + suc m ≡ suc t + m = omega arith in
    rw (more, place, variables_split text records m n (suc t), append_assoc)

-- the variables of the first record, of the n records inside it, and of those after them
variables_apart : (text records : List ℕ) (at n m : ℕ)
    → variables_from text records (suc (n + m)) at
    ≡ variable_of text (term_at records (24 * at)) ++ variables_from text records n (at + 1) ++ variables_from text records m (at + 1 + n)
unfolding variables_from
variables_apart text records at n m =
    let place : suc at ≡ at + 1 = omega arith in
    rw (variables_split text records n m (suc at), place, append_assoc)

variables_first : (text records : List ℕ) (at count n : ℕ) → 1 + n ≤ count
    → variables_from text records count at
    ≡ variable_of text (term_at records (24 * at)) ++ variables_from text records n (at + 1) ++ variables_from text records (count - (1 + n)) (at + 1 + n)
variables_first text records at count n fit =
    let size : suc (n + (count - (1 + n))) ≡ count = omega arith in
    rw size at (variables_apart text records at n (count - (1 + n)))

-- the variables of a term, of the run inside it, which is empty in a symbol or a variable, and of the run after it
term_variables : (text : List ℕ) (own : ℕ → ℕ → Sentences) (at : ℕ) (mark : Mark) (x : Term) (n : ℕ) (inside after : Run) (within : List Variable)
    → InsideAllowed x n → (n ≡ 0 → within ≡ []) → run_variables inside ≡ within
    → run_variables (term_run text own at mark x inside after) ≡ variable_of text x ++ within ++ run_variables after
unfolding run_variables
term_variables text own at mark (Symbol x) n inside after within allowed none same = rw (none allowed)
term_variables text own at mark (SVariable a b) n inside after within allowed none same = rw (none allowed)
term_variables text own at mark (TVariable a b) n inside after within allowed none same = rw (none allowed)
term_variables text own at mark (EVariable a b) n inside after within allowed none same = rw (none allowed)
term_variables text own at mark Bracket n inside after within allowed none same = rw same
term_variables text own at mark (Call a b) n inside after within allowed none same = rw same
term_variables text own at mark (Block m) n inside after within allowed none same = rw same

module _ (file : File) (whole : length file.terms.records ≡ 24 * file.terms.count) (fields : fields_allowed file ≡ true)
    (own : ℕ → ℕ → Sentences) where
  -- the records of a run have its variables
  abbrev Have : ℕ → ℕ → Type 0
  Have at count = run_variables (run_of file own at (terms_at file at count)) ≡ variables_from file.text.records file.terms.records count at

  have_none : (at : ℕ) → Have at 0
  unfolding run_variables variables_from
  have_none at = rw (run_none file whole own at)

  have_first : (at count n : ℕ) → at + count ≤ file.terms.count → word_at file.terms.records (24 * at + 12) ≡ n → 1 + n ≤ count
      → Have (at + 1) n → Have (at + 1 + n) (count - (1 + n)) → Have at count
  unfolding variables_from
  have_first at count n inside word fit inner outer =
      rw (
        run_first file whole own at count n inside word fit,
        variables_first file.text.records file.terms.records at count n fit,
        ← outer,
      )
      (term_variables file.text.records own at (mark_at at file.terms.records (24 * at + 16)) (term_at file.terms.records (24 * at)) n
      (run_of file own (at + 1) (terms_at file (at + 1) n))
      (run_of file own (at + 1 + n) (terms_at file (at + 1 + n) (count - (1 + n))))
      (variables_from file.text.records file.terms.records n (at + 1))
      (rw word at (inside_allowed file fields at (omega arith)))
      (λ none. rw none)
      inner)

  -- a run that fits
  pub run_variables_lem : (at count : ℕ) → at + count ≤ file.terms.count → run_fits (terms_at file at count) ≡ true
      → run_variables (run_of file own at (terms_at file at count)) ≡ variables_from file.text.records file.terms.records count at
  run_variables_lem = by_records file whole Have have_none have_first

module _ (file : File) (readable : Readable file) (own : ℕ → ℕ → Sentences) (s : ℕ) (inside : s < file.sentences.count) where
  -- the variables of a sentence's pattern are those that refusal 9 counts
  pub pattern_variables_lem : run_variables (run_of file own (pattern_at file s) (pattern_part file s)) ≡ pattern_variables file s
  unfolding pattern_part
  pattern_variables_lem =
      run_variables_lem file readable.whole readable.fields own (pattern_at file s) (pattern_size file s)
      (pattern_inside file (all_used file readable.runs) s inside)
      (pattern_fits file readable.runs s inside)

  pub pattern_distinct : patterns_allowed file ≡ true → distinct (run_variables (run_of file own (pattern_at file s) (pattern_part file s))) ≤ 32
  pattern_distinct patterns = rw pattern_variables_lem (variables_few file patterns s inside)
