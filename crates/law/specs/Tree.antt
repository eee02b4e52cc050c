-- A law as a tree, as the Rust's `Program` is: runs of terms are contents and then the rest. Declarations and visibility are left out.
-- Names, identifiers, indices and numbers are kept as spelled, with where they stand.
-- docs/SPECIFICATION.md, 1.13.
use Rattle.std.specs.Prelude.{ℕ, zero, suc, List}

-- a part of the text: where it starts, and its bytes
pub record Name : Type 0 where
  pub start : ℕ
  pub spelled : List ℕ

pub data Symbol : Type 0 where
  character : ℕ → Symbol
  identifier : Name → Symbol
  number : Name → Symbol

-- s., t. and e. variables
pub data Kind : Type 0 where
  symbol_kind term_kind expression_kind : Kind

-- a record's number in its section, and its span
pub record Mark : Type 0 where
  pub at : ℕ
  pub span_start : ℕ
  pub span_end : ℕ

mutual
  pub data Run : Type 0 where
    empty : Run
    symbol : Symbol → Run → Run
    variable : Kind → Name → Run → Run
    -- contents, rest
    bracket : Run → Run → Run
    -- name, argument, rest
    call : Mark → Name → Run → Run → Run
    -- argument, sentences, rest
    block : Mark → Run → Sentences → Run → Run

  pub data Sentences : Type 0 where
    no_sentence : Sentences
    -- pattern, conditions, result, the sentences after it
    sentence : Mark → Run → Conditions → Run → Sentences → Sentences

  pub data Conditions : Type 0 where
    no_condition : Conditions
    -- result, pattern, the conditions after it
    condition : Run → Run → Conditions → Conditions

pub record Function : Type 0 where
  pub name : Name
  pub sentences : Sentences

-- the functions in file order
abbrev pub Law : Type 0
Law = List Function

-- the first n sentences, and those after the first n
unfoldable pub keep : ℕ → Sentences → Sentences
keep zero ss = no_sentence
keep (suc n) no_sentence = no_sentence
keep (suc n) (sentence m p cs r ss) = sentence m p cs r (keep n ss)

unfoldable pub skip : ℕ → Sentences → Sentences
skip zero ss = ss
skip (suc n) no_sentence = no_sentence
skip (suc n) (sentence m p cs r ss) = skip n ss
