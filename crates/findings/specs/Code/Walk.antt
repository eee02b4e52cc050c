-- The way through a law: what is met in a run, in sentences and in conditions. Document 01 leaves the order to the Rust: a call comes before its
-- argument, a block's argument before its sentences, and these before what is inside them.
use Rattle.std.specs.Prelude.{Bool, List, [], ◌++◌}
use Rattle.law.specs.Tree.{Run, empty, symbol, variable, bracket, call, block, Sentences, no_sentence, sentence, Conditions, no_condition, condition}
use Rattle.matching.specs.Match.{when}
use Rattle.lints.specs.Calls.{Call}
use Rattle.findings.specs.Code.Events.{Event}

-- what is met at a call, at a block's own sentences, and whether patterns are gone through
module _ (on_call : Call → List Event) (on_block : Sentences → List Event) (patterns : Bool) where
  unfoldable mutual
    pub walked : Run → List Event
    walked empty = []
    walked (symbol a after) = walked after
    walked (variable k i after) = walked after
    walked (bracket inside after) = walked inside ++ walked after
    walked (call m f inside after) = on_call (record { mark = m; name = f; argument = inside }) ++ walked inside ++ walked after
    walked (block m inside ss after) = walked inside ++ on_block ss ++ walked_sentences ss ++ walked after

    pub walked_sentences : Sentences → List Event
    walked_sentences no_sentence = []
    walked_sentences (sentence m p cs r ss) = when patterns (walked p) ++ walked_conditions cs ++ walked r ++ walked_sentences ss

    pub walked_conditions : Conditions → List Event
    walked_conditions no_condition = []
    walked_conditions (condition r p cs) = walked r ++ when patterns (walked p) ++ walked_conditions cs

  -- the first term of a run, with all that is inside it
  unfoldable pub walked_term : Run → List Event
  walked_term empty = []
  walked_term (symbol a after) = []
  walked_term (variable k i after) = []
  walked_term (bracket inside after) = walked inside
  walked_term (call m f inside after) = on_call (record { mark = m; name = f; argument = inside }) ++ walked inside
  walked_term (block m inside ss after) = walked inside ++ on_block ss ++ walked_sentences ss
