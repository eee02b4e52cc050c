-- What the code of the lints asks and finds by the numbers of records, from 0.
use Rattle.std.specs.Prelude.{ℕ, zero, suc, ◌+◌, ◌*◌, List, [], ◌++◌, length, Option as Answer, Some, None}
use Rattle.std.proofs.Math.Option.{Option, none, some}
use Rattle.file.specs.Word.{word_at}
use Rattle.file.specs.Sections.{File, file_of}
use Rattle.law.specs.Tree.{Conditions}
use Rattle.law.specs.Places.{pattern_at, pattern_part, conditions_of, first_condition}
use Rattle.law.specs.Reading.{name_at, mark_at, run_of, own, conditions_from}
use Rattle.law.specs.Code.Accepted.{Accepted}
use Rattle.formats.specs.Infer.{Formats}
use Rattle.formats.specs.declared.slots.Slots.{Slots}
use Rattle.formats.specs.Code.Slots.{file_names}
use Rattle.formats.specs.Code.Turns.{RoundAsked, Holding, arguments_in, results_in}
use Rattle.sentences.specs.Entry.{argument_in}
use Rattle.lints.specs.Calls.{Call}
use Rattle.lints.specs.Dead.{Earlier, unconditional}

-- an accepted law, its index, the places of its names, and a store with the formats of its names
pub record Prepared (bytes index : List ℕ) (slots : Slots) (store : List ℕ) (limit : ℕ) : Type 0 where
  pub accepted : Accepted bytes
  pub asked : RoundAsked bytes index slots limit (length (file_names (file_of bytes)))
  pub holding : Holding limit (file_names (file_of bytes)) store

module _ (file : File) where
  -- the formats that a store has for the law's names
  abbrev pub formats_in : ℕ → List ℕ → Formats
  formats_in limit store = record { arguments = arguments_in limit (file_names file) store; results = results_in limit (file_names file) store }

  -- the call at the term record t
  abbrev pub call_at : ℕ → Call
  call_at t = record {
    mark = mark_at t file.terms.records (24 * t + 16);
    name = name_at file.text.records (word_at file.terms.records (24 * t + 4)) (word_at file.terms.records (24 * t + 8));
    argument = argument_in file t;
  }

  -- the conditions of the sentence s
  abbrev pub conditions_at : ℕ → Conditions
  conditions_at s = conditions_from file (own file) s (conditions_of file s) (first_condition file s)

  -- those without conditions among n sentences from `first` on, numbered from 1
  unfoldable pub earlier_at : ℕ → ℕ → List Earlier
  earlier_at first zero = []
  earlier_at first (suc n) =
      earlier_at first n ++ unconditional (conditions_at (first + n)) (suc n) (run_of file (own file) (pattern_at file (first + n)) (pattern_part file (first + n)))

-- the number of a sentence that was found
abbrev pub earliest_from : Answer ℕ → Option ℕ
earliest_from None = none
earliest_from (Some n) = some n
