-- The patterns of an accepted file's sentences: refusal 9 leaves them at most 32 different variables, refusal 8 at most 33 brackets in brackets.
use Prim.Native.Nat.{ℕ, suc, ◌+◌, ◌≤◌, ◌<◌}
use mathlib.Core.Bool.{true}
use mathlib.Core.List.{List, ◌∷◌, ◌++◌}
use mathlib.Core.Logic.{◌⊎◌, inl, inr}
use mathlib.Core.Path.{◌≡◌}
use native.Mathlib.Omega.{arith}
use Rattle.names.specs.Name.{folded_index}
use Rattle.file.specs.Sections.{File}
use Rattle.law.specs.Tree.{Run, empty, symbol, variable, bracket, call, block}
use Rattle.law.specs.Places.{pattern_at, pattern_part}
use Rattle.law.specs.Reading.{run_of, tree_of, own}
use Rattle.law.specs.Depth.{deepest, depth_of}
use Rattle.law.specs.Variables.{Variable, occurs, distinct, patterns_allowed}
use Rattle.law.specs.Code.Terms.{run_variables}
use Rattle.law.specs.Code.Index.{Readable}
use Rattle.law.proofs.PatternVariables as records
use Rattle.law.proofs.DepthLaws.{symbol_depth, variable_depth, bracket_depth, call_depth, block_depth}
use Rattle.law.proofs.Owners.{parts_depth}
use Rattle.matching.specs.Pattern.{pattern_of}
use Rattle.matching.specs.Code.Part.{row_of}
use Rattle.searches.specs.Code.Capacity.{variables_in}
use Rattle.searches.specs.Code.Asked.{nesting}
use Rattle.matching.proofs.PartLaws.{row_run}
use Rattle.matching.proofs.VariableLaws.{occurs_first, occurs_later, occurs_cases, occurs_left, occurs_right, occurs_either, distinct_fewer}

-- ---- variables

-- a variable of one of two lists, each of which has its variables in another list
occurs_both : (v : Variable) (l m k n : List Variable) → (occurs v l ≡ true → occurs v k ≡ true) → (occurs v m ≡ true → occurs v n ≡ true)
    → occurs v (l ++ m) ≡ true → occurs v (k ++ n) ≡ true
occurs_both v l m k n f g h = go (occurs_either v l m h)
  where
    go : (occurs v l ≡ true) ⊎ (occurs v m ≡ true) → occurs v (k ++ n) ≡ true
    go (inl e) = occurs_left v k n (f e)
    go (inr e) = occurs_right v k n (g e)

-- a run has the variables of its pattern; those inside calls and blocks are not in the pattern
pattern_occurs : (r : Run) (v : Variable) → occurs v (variables_in (pattern_of r)) ≡ true → occurs v (run_variables r) ≡ true
unfolding pattern_of variables_in run_variables
pattern_occurs empty v h = h
pattern_occurs (symbol a after) v h = pattern_occurs after v h
pattern_occurs (variable k i after) v h = go (occurs_cases v w (variables_in (pattern_of after)) h) (pattern_occurs after v)
  where
    w : Variable
    w = record { kind = k; index = folded_index i.spelled }

    go : (v ≡ w) ⊎ (occurs v (variables_in (pattern_of after)) ≡ true) → (occurs v (variables_in (pattern_of after)) ≡ true → occurs v (run_variables after) ≡ true)
        → occurs v (w ∷ run_variables after) ≡ true
    go (inl e) below = rw e (occurs_first w (run_variables after))
    go (inr q) below = occurs_later v w (run_variables after) (below q)
pattern_occurs (bracket inside after) v h =
    occurs_both v (variables_in (pattern_of inside)) (variables_in (pattern_of after)) (run_variables inside) (run_variables after)
    (pattern_occurs inside v) (pattern_occurs after v) h
pattern_occurs (call m f inside after) v h = occurs_right v (run_variables inside) (run_variables after) (pattern_occurs after v h)
pattern_occurs (block m inside ss after) v h = occurs_right v (run_variables inside) (run_variables after) (pattern_occurs after v h)

-- ---- brackets in brackets

-- the brackets around a term are among those that refusal 8 counts; brackets around nothing are themselves a term
run_nesting : (r : Run) (d bound : ℕ) → deepest r d ≤ bound → d ≤ suc bound → nesting (pattern_of r) + d ≤ suc bound
unfolding pattern_of nesting
run_nesting empty d bound h e = omega arith
run_nesting (symbol a after) d bound h e = run_nesting after d bound (symbol_depth d bound a after h).1 e
run_nesting (variable k i after) d bound h e = run_nesting after d bound (variable_depth d bound k i after h).1 e
run_nesting (bracket inside after) d bound h e =
    let (few, within, later) = bracket_depth d bound inside after h in
    omega (arith, run_nesting inside (suc d) bound within (omega arith), run_nesting after d bound later e)
run_nesting (call m f inside after) d bound h e = run_nesting after d bound (call_depth d bound m f inside after h).2 e
run_nesting (block m inside ss after) d bound h e = run_nesting after d bound (block_depth d bound m inside ss after h).3 e

-- ---- the patterns of sentences

module _ (file : File) (readable : Readable file) (s : ℕ) (inside : s < file.sentences.count) where
  -- the run of a sentence's pattern
  abbrev pattern_run : Run
  pattern_run = run_of file (own file) (pattern_at file s) (pattern_part file s)

  -- there are places for all its variables
  pub pattern_distinct : patterns_allowed file ≡ true → distinct (variables_in (row_of file.text.records (pattern_part file s))) ≤ 32
  pattern_distinct patterns =
      rw (← row_run file.text.records (own file) (pattern_at file s) (pattern_part file s))
      (omega (
        arith,
        distinct_fewer (variables_in (pattern_of pattern_run)) (run_variables pattern_run) (pattern_occurs pattern_run),
        records.pattern_distinct file readable (own file) s inside patterns,
      ))

  -- and for all its levels of brackets
  pub pattern_nesting : depth_of (tree_of file) ≤ 32 → nesting (row_of file.text.records (pattern_part file s)) ≤ 33
  pattern_nesting depth =
      rw (← row_run file.text.records (own file) (pattern_at file s) (pattern_part file s))
      (omega (arith, run_nesting pattern_run 0 32 (parts_depth file readable depth s inside).pattern (omega arith)))
