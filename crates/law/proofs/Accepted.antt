-- A file is a law exactly when none of the refusals 1 to 9 holds, and the law is then the tree of its sections.
use Prim.Native.Nat.{ℕ}
use mathlib.Core.List.{List}
use mathlib.Core.Bool.{Bool, true, false}
use mathlib.Core.Path.{◌≡◌, refl}
use native.Mathlib.Omega.{arith}
use borrow.Author.Tests.{ltb-false, le-ltb, not-false}
use Rattle.file.specs.Answer.{Answer, refused, given, refuse_if, ◌>>=◌, ◌>>◌}
use Rattle.file.specs.Sections.{sections_of, file_of}
use Rattle.file.proofs.SectionLaws.{sections_file}
use Rattle.file.specs.Fields.{fields_allowed}
use Rattle.law.specs.Tree.{Law}
use Rattle.law.specs.Runs.{runs_allowed, blocks_allowed}
use Rattle.law.specs.Reading.{tree_of}
use Rattle.law.specs.Depth.{depth_of}
use Rattle.law.specs.Variables.{patterns_allowed}
use Rattle.law.specs.Law.{law_of}
use Rattle.law.specs.Code.Accepted.{Accepted}

-- a step that refuses is passed only if its test fails
pub passed : {A : Type 0} (n : ℕ) (test : Bool) (after : Answer A) (a : A) → refuse_if n test >> after ≡ given a
    → (test ≡ false) × (after ≡ given a)
passed n true after a h = let z : true ≡ false = cc in (z, cc)
passed n false after a h = (refl, h)

-- a step that gives a value is passed only if it gives one
pub taken : {A B : Type 0} (answer : Answer A) (after : A → Answer B) (b : B) → answer >>= after ≡ given b
    → (a : A) × (answer ≡ given a) × (after a ≡ given b)
taken (refused n) after b h = let z : ◌≡◌ {A = ℕ} 0 1 = cc in absurd (omega arith)
taken (given a) after b h = (a, refl, h)

-- no refusal holds: the answer is the tree
pub accepted_law : (bytes : List ℕ) → Accepted bytes → law_of bytes ≡ given (tree_of (file_of bytes))
unfolding law_of
accepted_law bytes a = rw (a.sections, a.fields, a.runs, a.blocks, le-ltb _ _ a.depth, a.patterns)

-- the answer is a law: no refusal holds, and the law is the tree of the sections
pub law_accepted : (bytes : List ℕ) (law : Law) → law_of bytes ≡ given law → Accepted bytes × (law ≡ tree_of (file_of bytes))
unfolding law_of
law_accepted bytes law h =
    let (file, sections, h₅) = taken (sections_of bytes) _ law h in
    let same : file ≡ file_of bytes = sections_file bytes file sections in
    let (fields, h₆) = passed 5 _ _ law h₅ in
    let (runs, h₇) = passed 6 _ _ law h₆ in
    let (blocks, h₈) = passed 7 _ _ law h₇ in
    let (depth, h₉) = passed 8 _ _ law h₈ in
    let (patterns, tree) = passed 9 _ _ law h₉ in (
      record {
        sections = rw same at sections;
        fields = rw same at (not-false (fields_allowed file) fields);
        runs = rw same at (not-false (runs_allowed file) runs);
        blocks = rw same at (not-false (blocks_allowed file) blocks);
        depth = rw same at (ltb-false 32 (depth_of (tree_of file)) depth);
        patterns = rw same at (not-false (patterns_allowed file) patterns);
      },
      let read : law ≡ tree_of file = cc in rw same at read,
    )
