-- What the call that reads a text answers, and every byte of the lent buffer after it. Document 02, R-1: "It refuses with 4 a text over 4,096 bytes, with 16 one
-- outside the grammar, then with 1, 4, 5, 8 or 9 in document 01's order, then with 17 an output buffer too short."
-- docs/SPECIFICATION.md, 19.8, 19.9.
use Rattle.std.specs.Prelude.{ℕ, List, Result, Ok, Err, length, ltb}
use Rattle.std.proofs.Math.Option.{Option, none, some}
use Rattle.file.specs.Answer.{Answer, refused, given, refuse_if, ◌>>=◌, ◌>>◌}
use Rattle.file.specs.Sections.{number_of}
use Rattle.law.specs.Law.{law_of}
use Rattle.buffers.specs.Fitted.{fitted}
use Rattle.grammar.specs.Grammar.{Text}
use Rattle.grammar.specs.Read.{phrase_of}
use Rattle.encoding.specs.Encode.{encode}
use Rattle.reader.specs.declared.Unread.{Unread}
use Rattle.reader.specs.declared.Unread.TheVariants.{TextOver, Outside, Law, Short}

-- a file that is a law
abbrev pub law_file : List ℕ → Answer (List ℕ)
law_file file = law_of file >>= (λ _. given file)

-- the law file of a phrase; 16 where there is none
abbrev pub phrase_file : List ℕ → Option Text → Answer (List ℕ)
phrase_file bytes none = refused 16
phrase_file bytes (some x) = law_file (encode bytes x)

-- the law file of a text
unfoldable pub text_file : List ℕ → Answer (List ℕ)
text_file bytes = refuse_if 4 (ltb 4096 (length bytes)) >> phrase_file bytes (phrase_of bytes)

-- the number of bytes written, and the lent buffer
pub record ReadOutcome : Type 0 where
  pub answer : Answer ℕ
  pub law : List ℕ

-- the file at the start of a buffer; 17 where it is too short, and as it was with every refusal
unfoldable pub read_by : List ℕ → Answer (List ℕ) → ReadOutcome
read_by law (refused n) = record { answer = refused n; law = law }
read_by law (given file) = record { answer = (fitted 17 law file).0; law = (fitted 17 law file).1 }

unfoldable pub read_outcome : (text law : List ℕ) → ReadOutcome
read_outcome text law = read_by law (text_file text)

-- ---- the code's answer

abbrev pub unread_number : Unread → ℕ
unread_number TextOver = 4
unread_number Outside = 16
unread_number (Law why) = number_of why
unread_number Short = 17

abbrev pub read_answer : Result ℕ Unread → Answer ℕ
read_answer (Err why) = refused (unread_number why)
read_answer (Ok n) = given n

abbrev pub read_after : Result ℕ Unread → List ℕ → ReadOutcome
read_after r law = record { answer = read_answer r; law = law }
