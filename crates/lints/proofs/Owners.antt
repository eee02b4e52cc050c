-- The function in whose sentence the subject of a finding stands: its position among the law's functions, and its name.
use Prim.Native.Nat.{ℕ, zero, suc, ◌+◌, ◌<◌}
use mathlib.Core.List.{List, [], map, Memᴰ}
use mathlib.Core.Path.{◌≡◌, refl}
use native.Mathlib.Omega.{arith}
use Rattle.file.specs.Sections.{File}
use Rattle.law.specs.Tree.{Function}
use Rattle.law.specs.Reading.{function_name, tree_of}
use Rattle.law.proofs.Functions.{function_at, functions_at, tree_functions_lem, functions_end, function_reads}
use Rattle.matching.proofs.SearchLaws.{in_map}
use Rattle.formats.specs.Infer.{Formats}
use Rattle.lints.specs.Finding.{Remark, Finding, finding_in, findings_from}
use Rattle.lints.specs.Findings.{findings_of}
use Rattle.lints.specs.Dead.{dead_remarks, dead_findings}
use Rattle.lints.specs.Recognition.{recognition_remarks, recognition_findings}
use Rattle.lints.specs.Builtin.{builtin_remarks, builtin_findings}
use Rattle.lints.specs.Open.{open_remarks, open_findings}
use Rattle.lints.proofs.CallsIn.{either}
use Rattle.lints.proofs.Listed.{by_lint}

module _ (file : File) (x : Finding) where
  abbrev pub Owned : Type 0
  Owned = (x.position < file.functions.count) × (x.owner ≡ function_name file x.position)

  module _ (remarks : Function → List Remark) where
    owned_from : (left f : ℕ) → f + left ≡ file.functions.count → Memᴰ x (findings_from remarks f (functions_at file f)) → Owned
    unfolding findings_from
    owned_from zero f e m = let none : Memᴰ x [] = rw (functions_end file f (omega arith)) at m in elim none [ ]
    owned_from (suc left) f e m =
        either (map (finding_in f (function_name file f)) (remarks (function_at file f))) (findings_from remarks (suc f) (functions_at file (suc f)))
        (rw (function_reads file f (omega arith)) at m)
        (λ i. let (r, j, same) = in_map (finding_in f (function_name file f)) (remarks (function_at file f)) i in rw same (omega arith, refl))
        (λ i. owned_from left (suc f) (omega arith) i)

    owned_by : Memᴰ x (findings_from remarks 0 (tree_of file)) → Owned
    owned_by m = owned_from file.functions.count 0 (omega arith) (rw (tree_functions_lem file) at m)

  pub owned : (formats : Formats) → Memᴰ x (findings_of (tree_of file) formats) → Owned
  unfolding dead_findings recognition_findings builtin_findings open_findings
  owned formats m =
      by_lint (tree_of file) formats x m
      (λ i. owned_by dead_remarks i)
      (λ i. owned_by (recognition_remarks (tree_of file) formats) i)
      (λ i. owned_by (builtin_remarks (tree_of file)) i)
      (λ i. owned_by open_remarks i)
