-- What an editor relies on when a law is typed: the reading call's answer, and every lent byte after it, by the grammar alone and by no reader.
-- Document 02, R-1: "It refuses with 4 a text over 4,096 bytes, with 16 one outside the grammar, then with 1, 4, 5, 8 or 9 in document 01's order, then with 17 an
-- output buffer too short."
-- docs/SPECIFICATION.md, 19.8 to 19.10.
use Rattle.std.specs.Prelude.{ℕ, ◌≤◌, ◌<◌, List, [], ◌∷◌, ◌++◌, ◌≡◌, length, take, drop, get_or}
use Rattle.file.specs.Answer.{refused, given}
use Rattle.law.specs.Tree.{Law}
use Rattle.law.specs.Law.{law_of}
use Rattle.grammar.specs.Grammar.{Text, Written}
use Rattle.encoding.specs.Encode.{encode}
use Rattle.encoding.specs.TextTree.{tree_of_text}
use Rattle.encoding.specs.LawOfText.{law_of_text}
use Rattle.loader.specs.Rows.{After, returned}

-- a text of the grammar, within its length, and its phrase
pub record Phrased (bytes : List ℕ) (text : Text) : Type 0 where
  pub few : length bytes ≤ 4096
  pub written : Written bytes text

-- `law` and `answer` are what the lent bytes and the answer's word held before the call; no store is lent
pub record Typed (bytes law answer : List ℕ) (after : After) : Type 0 where
  pub text_refused : 4096 < length bytes → after ≡ returned 4 [] law answer
  pub outside : length bytes ≤ 4096 → ((text : Text) → Written bytes text → ⊥) → after ≡ returned 16 [] law answer
  pub law_refused : (text : Text) → Phrased bytes text → (n : ℕ) → law_of_text bytes text ≡ refused n → after ≡ returned n [] law answer
  pub room_refused : (text : Text) → Phrased bytes text → (read : Law) → law_of_text bytes text ≡ given read → length law < length (encode bytes text)
      → after ≡ returned 17 [] law answer
  pub writes : (text : Text) → Phrased bytes text → (read : Law) → law_of_text bytes text ≡ given read → length (encode bytes text) ≤ length law
      → after ≡ returned 0 [] (encode bytes text ++ drop (length (encode bytes text)) law) (length (encode bytes text) ∷ [])
  -- what is written is a law, and its tree is the text's
  pub is_law : (text : Text) → Phrased bytes text → after.number ≡ 0 → law_of (take (get_or after.answer 0 0) after.words) ≡ given (tree_of_text text)
