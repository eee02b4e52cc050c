-- What a caller relies on, in other words: the table of docs/SPECIFICATION.md, 12.3, row by row, and by no definition of the crates `listing` and
-- `bilzarko`. A contract there that promises less, or asks for something, leaves this crate's contracts without a proof. These rows all calls of a
-- listing share.
-- docs/SPECIFICATION.md, 12.3, 12.5.
use Rattle.std.specs.Prelude.{ℕ, ◌≤◌, ◌<◌, true, false, List, ◌++◌, ◌≡◌, length, drop, replicate}
use Rattle.file.specs.Answer.{refused, given}
use Rattle.law.specs.Tree.{Law}
use Rattle.law.specs.Law.{law_of}
use Rattle.formats.specs.Store.{store_words}
use Rattle.lints.specs.Levels.{Settings, settings_allowed}
use Rattle.lints.specs.Findings.{Listing, listing}

-- what a caller sees after a call: the number that was returned, and every lent word. `words` are those of findings, or the bytes of a text or a page
pub record After : Type 0 where
  pub number : ℕ
  pub store : List ℕ
  pub words : List ℕ
  pub answer : List ℕ

abbrev pub returned : ℕ → List ℕ → List ℕ → List ℕ → After
returned number store words answer = record { number = number; store = store; words = words; answer = answer }

-- ---- the store: its first 8,320 words are 0, or hold the formats of a law; words past these keep their values

abbrev pub cleared : List ℕ → List ℕ
cleared store = replicate 8320 0 ++ drop 8320 store

abbrev pub filled : Listing → List ℕ → List ℕ
filled l store = store_words 64 l.inferred ++ drop 8320 store

-- ---- the rows before a listing

-- none of 14, 1 to 9 and 15 holds
pub record Taken (settings : Settings) (bytes store : List ℕ) (law : Law) : Type 0 where
  pub allowed : settings_allowed settings ≡ true
  pub read : law_of bytes ≡ given law
  pub room : 8320 ≤ length store

-- nor does 10: there is a listing
pub record Listed (settings : Settings) (bytes store : List ℕ) (law : Law) (l : Listing) : Type 0 where
  pub taken : Taken settings bytes store law
  pub is : listing 64 settings law ≡ given l

-- `store`, `words` and `answer` are what the lent words held before the call; `listing` refuses with 10 alone
pub record Refuses (settings : Settings) (bytes store words answer : List ℕ) (after : After) : Type 0 where
  pub settings_refused : settings_allowed settings ≡ false → after ≡ returned 14 store words answer
  pub law_refused : (n : ℕ) → settings_allowed settings ≡ true → law_of bytes ≡ refused n → after ≡ returned n store words answer
  pub store_refused : (law : Law) → settings_allowed settings ≡ true → law_of bytes ≡ given law → length store < 8320 → after ≡ returned 15 store words answer
  pub shapes_refused : (law : Law) (n : ℕ) → Taken settings bytes store law → listing 64 settings law ≡ refused n → after ≡ returned 10 (cleared store) words answer
