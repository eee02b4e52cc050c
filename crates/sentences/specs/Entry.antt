-- What a law file answers when it is asked about its sentences and calls, by the numbers of their records, from 0.
use Rattle.std.specs.Prelude.{ℕ, ◌+◌, ◌*◌, Bool, cond, ◌&&◌, List, eqb, ltb, Result, Ok, Err}
use Rattle.std.proofs.Math.Option.{Option, none, some}
use Rattle.file.specs.Answer.{Answer, refused, given, map_answer}
use Rattle.file.specs.Word.{word_at}
use Rattle.file.specs.Sections.{File, file_of, number_of}
use Rattle.law.specs.Tree.{Run}
use Rattle.law.specs.Places.{pattern_at, pattern_part, terms_at}
use Rattle.law.specs.Reading.{run_of, own}
use Rattle.law.specs.Law.{law_of}
use Rattle.matching.specs.Pattern.{Pattern, pattern_of}
use Rattle.matching.specs.Shadow.{shadows}
use Rattle.matching.specs.Literal.{is_literal, literal_terms, literal_matches}
use Rattle.sentences.specs.declared.errors.ShadowError.{ShadowError}
use Rattle.sentences.specs.declared.errors.ShadowError.TheVariants as shadow_errors
use Rattle.sentences.specs.declared.errors.MatchError.{MatchError}
use Rattle.sentences.specs.declared.errors.MatchError.TheVariants as match_errors

module _ (file : File) where
  -- the pattern of the sentence s
  unfoldable pub pattern_in : ℕ → Pattern
  pattern_in s = pattern_of (run_of file (own file) (pattern_at file s) (pattern_part file s))

  -- the argument of the call at the term record t: the records inside it
  unfoldable pub argument_part : ℕ → List ℕ
  argument_part t = terms_at file (t + 1) (word_at file.terms.records (24 * t + 12))

  unfoldable pub argument_in : ℕ → Run
  argument_in t = run_of file (own file) (t + 1) (argument_part t)

  -- is the term record t a call (kind 7) whose argument is literal?
  unfoldable pub literal_call : ℕ → Bool
  literal_call t = ltb t file.terms.count && eqb (word_at file.terms.records (24 * t)) 7 && is_literal (argument_in t)

  -- does a sentence shadow another? Nothing, where one of them is no sentence
  unfoldable pub shadow_in : ℕ → ℕ → Option Bool
  shadow_in earlier later =
      cond (ltb earlier file.sentences.count && ltb later file.sentences.count)
      (some (shadows (pattern_in earlier) (pattern_in later)))
      none

-- what is answered about a sentence and a call
pub data Recognition : Type 0 where
  no_sentence_lem : Recognition
  not_literal : Recognition
  answered : Bool → Recognition

-- does the pattern of the sentence s match the argument of the call at the term record t, by literals?
unfoldable pub recognise_in : File → ℕ → ℕ → Recognition
recognise_in file s t =
    cond (ltb s file.sentences.count)
    (cond (literal_call file t) (answered (literal_matches (pattern_in file s) (literal_terms (argument_in file t)))) not_literal)
    no_sentence_lem

-- of any bytes: refusals 1 to 9 come first
unfoldable pub shadow_outcome : List ℕ → ℕ → ℕ → Answer (Option Bool)
shadow_outcome bytes earlier later = map_answer (λ law. shadow_in (file_of bytes) earlier later) (law_of bytes)

unfoldable pub recognise_outcome : List ℕ → ℕ → ℕ → Answer Recognition
recognise_outcome bytes s t = map_answer (λ law. recognise_in (file_of bytes) s t) (law_of bytes)

-- what the answers say, with document 01's number of each refusal
abbrev pub shadow_answer : Result Bool ShadowError → Answer (Option Bool)
shadow_answer (Err (shadow_errors.Refused why)) = refused (number_of why)
shadow_answer (Err shadow_errors.NoSentence) = given none
shadow_answer (Ok b) = given (some b)

abbrev pub recognise_answer : Result Bool MatchError → Answer Recognition
recognise_answer (Err (match_errors.Refused why)) = refused (number_of why)
recognise_answer (Err match_errors.NoSentence) = given no_sentence_lem
recognise_answer (Err match_errors.NotLiteral) = given not_literal
recognise_answer (Ok b) = given (answered b)
