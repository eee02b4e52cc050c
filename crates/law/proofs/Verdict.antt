-- What the check of a file answers (`check_of`, specs/Law.antt), a refusal at a time.
use Prim.Native.Nat.{ℕ}
use mathlib.Core.List.{List}
use mathlib.Core.Bool.{true, false}
use mathlib.Core.Path.{◌≡◌}
use lib.Dec.{leb}
use borrow.Author.Tests.{le-ltb, lt-ltb, leb-true, leb-false}
use Rattle.file.specs.Answer.{refused, given}
use Rattle.file.specs.Below.{every}
use Rattle.file.specs.Sections.{sections_of, file_of}
use Rattle.file.specs.Fields.{fields_allowed}
use Rattle.law.specs.Runs.{used_up, sentence_fits, runs_allowed, blocks_allowed}
use Rattle.law.specs.Reading.{tree_of}
use Rattle.law.specs.Depth.{depth_of}
use Rattle.law.specs.Variables.{patterns_allowed}
use Rattle.law.specs.Law.{law_of, check_of}

-- a file that the sections refuse
pub sections_refused : (bytes : List ℕ) (n : ℕ) → sections_of bytes ≡ refused n → check_of bytes ≡ refused n
unfolding law_of
sections_refused bytes n h = rw h

module _ (bytes : List ℕ) (sections : sections_of bytes ≡ given (file_of bytes)) where
  pub fields_refused : fields_allowed (file_of bytes) ≡ false → check_of bytes ≡ refused 5
  unfolding law_of
  fields_refused f = rw (sections, f)

  module _ (fields : fields_allowed (file_of bytes) ≡ true) where
    -- row 6 in two steps, as the code takes it
    pub used_refused : used_up (file_of bytes) ≡ false → check_of bytes ≡ refused 6
    unfolding law_of runs_allowed
    used_refused u = rw (sections, fields, u)

    pub runs_all : used_up (file_of bytes) ≡ true → every (file_of bytes).sentences.count (sentence_fits (file_of bytes)) ≡ true
        → runs_allowed (file_of bytes) ≡ true
    unfolding runs_allowed
    runs_all u r = rw (u, r)

    pub runs_refused : used_up (file_of bytes) ≡ true → every (file_of bytes).sentences.count (sentence_fits (file_of bytes)) ≡ false
        → check_of bytes ≡ refused 6
    unfolding law_of runs_allowed
    runs_refused u r = rw (sections, fields, u, r)

    module _ (runs : runs_allowed (file_of bytes) ≡ true) where
      pub blocks_refused : blocks_allowed (file_of bytes) ≡ false → check_of bytes ≡ refused 7
      unfolding law_of
      blocks_refused b = rw (sections, fields, runs, b)

      module _ (blocks : blocks_allowed (file_of bytes) ≡ true) where
        pub depth_refused : leb (depth_of (tree_of (file_of bytes))) 32 ≡ false → check_of bytes ≡ refused 8
        unfolding law_of
        depth_refused d = rw (sections, fields, runs, blocks, lt-ltb 32 (depth_of (tree_of (file_of bytes))) (leb-false _ 32 d))

        module _ (depth : leb (depth_of (tree_of (file_of bytes))) 32 ≡ true) where
          pub patterns_refused : patterns_allowed (file_of bytes) ≡ false → check_of bytes ≡ refused 9
          unfolding law_of
          patterns_refused p = rw (sections, fields, runs, blocks, le-ltb 32 (depth_of (tree_of (file_of bytes))) (leb-true _ 32 depth), p)

          pub accepted : patterns_allowed (file_of bytes) ≡ true → check_of bytes ≡ given tt
          unfolding law_of
          accepted p = rw (sections, fields, runs, blocks, le-ltb 32 (depth_of (tree_of (file_of bytes))) (leb-true _ 32 depth), p)
