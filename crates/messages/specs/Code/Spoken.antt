-- What the code that puts a finding's text asks: a finding of the law, by its eight words, and what it says of its subject.
use Rattle.std.specs.Prelude.{ℕ, ◌+◌, ◌*◌, ◌<◌, Bool, false, cond, ◌≡◌, length, eqb, leb}
use mathlib.Core.List.{List, Memᴰ}
use Rattle.file.specs.Word.{word_at}
use Rattle.file.specs.Sections.{File}
use Rattle.law.specs.Places.{first_sentence}
use Rattle.law.specs.Reading.{tree_of}
use Rattle.law.specs.Code.Index.{PartAt}
use Rattle.shapes.specs.Format.{of}
use Rattle.shapes.specs.Words.{Encodable}
use Rattle.formats.specs.Code.Slots.{file_names, call_folded, position}
use Rattle.sentences.specs.Entry.{argument_part}
use Rattle.lints.specs.Finding.{Claim, by_formats, by_literals, Finding, finding_words}
use Rattle.lints.specs.Findings.{findings_of}
use Rattle.lints.specs.Recognition.{accepted, passed, arguments_over}
use Rattle.lints.specs.Code.Records.{formats_in, call_at}

-- the words of one of the findings, in a law with no argument over the limit on shapes
pub record Spoken (file : File) (limit : ℕ) (store words : List ℕ) : Type 0 where
  pub finding : Finding
  pub severity : ℕ
  pub listed : Memᴰ finding (findings_of (tree_of file) (formats_in file limit store))
  pub same : words ≡ finding_words severity finding
  pub within : arguments_over limit (tree_of file) (formats_in file limit store) ≡ false

-- the term record t is a call
pub record CallHere (file : File) (t : ℕ) : Type 0 where
  pub inside : t < file.terms.count
  pub kind : word_at file.terms.records (24 * t) ≡ 7
  pub argument : PartAt file (t + 1) (argument_part file t)

-- it is a call of a function of the law, and the store has words for its argument's format
pub record ComparedHere (file : File) (limit : ℕ) (store : List ℕ) (t : ℕ) : Type 0 where
  pub call : CallHere file t
  pub placed : position (file_names file) (call_folded file t) < length (file_names file)
  pub fits : Encodable limit (of (passed (formats_in file limit store) (call_at file t)))

module _ (file : File) where
  -- does the sentence s stand in a block? The records of functions' sentences come first
  abbrev pub in_block : ℕ → Bool
  in_block s = leb (first_sentence file file.functions.count) s

  -- what lint 2 says of the call at the term record t: by formats, or by literals
  abbrev pub apart_claim : ℕ → List ℕ → ℕ → Claim
  apart_claim limit store t =
      by_formats (call_at file t).name (accepted (formats_in file limit store) (call_at file t)) (of (passed (formats_in file limit store) (call_at file t)))

  abbrev pub recognition_claim : ℕ → List ℕ → ℕ → ℕ → Claim
  recognition_claim limit store t a = cond (eqb a 1) (apart_claim limit store t) (by_literals (call_at file t).name)
