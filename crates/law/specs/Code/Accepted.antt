-- What the check of a law leaves to the functions after it.
use Rattle.std.specs.Prelude.{ℕ, ◌≤◌, List, true, ◌≡◌, replicate, Result, Ok, Err}
use Rattle.file.specs.Answer.{given}
use Rattle.file.specs.Sections.{sections_of, file_of}
use Rattle.file.specs.Fields.{fields_allowed}
use Rattle.law.specs.Runs.{runs_allowed, blocks_allowed}
use Rattle.law.specs.Reading.{tree_of}
use Rattle.law.specs.Depth.{depth_of}
use Rattle.law.specs.Variables.{patterns_allowed}
use Rattle.law.specs.Code.Index.{Indexed}
use Rattle.file.specs.declared.Refusal.{Refusal}

-- none of the refusals 1 to 9 holds of these bytes
pub record Accepted (bytes : List ℕ) : Type 0 where
  pub sections : sections_of bytes ≡ given (file_of bytes)
  pub fields : fields_allowed (file_of bytes) ≡ true
  pub runs : runs_allowed (file_of bytes) ≡ true
  pub blocks : blocks_allowed (file_of bytes) ≡ true
  pub depth : depth_of (tree_of (file_of bytes)) ≤ 32
  pub patterns : patterns_allowed (file_of bytes) ≡ true

-- the index that the check leaves: of an accepted file its index, and of a refused one zeros
abbrev pub IndexAfter : Result (Unit {0}) Refusal → List ℕ → List ℕ → Type 0
IndexAfter (Ok _) bytes index = Indexed bytes index
IndexAfter (Err why) bytes index = index ≡ replicate 972 0
