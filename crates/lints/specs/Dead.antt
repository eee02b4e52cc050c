-- Lint 1, `dead_sentences`: sentences that an earlier one shadows. Document 01, "The listing": "The search for the earliest shadowing sentence ends as
-- soon as one is found; a shadowing sentence has no conditions."
-- docs/SPECIFICATION.md, 8.2, 8.3.
use Rattle.std.specs.Prelude.{ℕ, suc, Bool, true, false, cond, List, [], ◌∷◌, ◌++◌}
use Rattle.std.proofs.Math.Option.{Option, none, some}
use Rattle.law.specs.Tree.{Mark, Run, empty, symbol, variable, bracket, call, block, Sentences, no_sentence, sentence, Conditions, no_condition, condition, Function, Law}
use Rattle.law.specs.Variables.{Variable}
use Rattle.matching.specs.Pattern.{Pattern, pattern_of}
use Rattle.matching.specs.Match.{each}
use Rattle.matching.specs.Shadow.{shadows_with}
use Rattle.lints.specs.Finding.{dead, Remark, Finding, findings_from}

-- ---- sentences one after the other

-- a sentence without conditions: its number from 1 in its function or block, and its pattern
pub record Earlier : Type 0 where
  pub number : ℕ
  pub pattern : Pattern

-- what a sentence adds to those that may shadow later ones
abbrev pub unconditional : Conditions → ℕ → Run → List Earlier
unconditional no_condition n p = record { number = n; pattern = pattern_of p } ∷ []
unconditional (condition q w cs) n p = []

-- the number of the earliest that shadows a pattern, where the variables of `valued` already have a value
unfoldable pub earliest : List Variable → List Earlier → Pattern → Option ℕ
earliest valued [] later = none
earliest valued (e ∷ es) later = cond (shadows_with valued e.pattern later) (some e.number) (earliest valued es later)

-- a sentence, its number, and the earliest one that shadows it
abbrev pub dead_by : Bool → Mark → ℕ → Option ℕ → List Remark
dead_by in_block m n none = []
dead_by in_block m n (some earlier) = record { subject = m; claim = dead in_block n earlier } ∷ []

-- the dead ones among sentences that are numbered from n on and stand after `earlier`
unfoldable pub dead_after : Bool → List Variable → List Earlier → ℕ → Sentences → List Remark
dead_after in_block valued earlier n no_sentence = []
dead_after in_block valued earlier n (sentence m p cs r ss) =
    dead_by in_block m n (earliest valued earlier (pattern_of p)) ++ dead_after in_block valued (earlier ++ unconditional cs n p) (suc n) ss

-- ---- blocks

-- the sentences of every block: term by term in pattern, conditions (result, then pattern) and result; at a block its argument, its own sentences, then
-- inside them
unfoldable mutual
  pub blocks : Run → List Sentences
  blocks empty = []
  blocks (symbol a after) = blocks after
  blocks (variable k i after) = blocks after
  blocks (bracket inside after) = blocks inside ++ blocks after
  blocks (call m f inside after) = blocks inside ++ blocks after
  blocks (block m inside ss after) = blocks inside ++ ss ∷ sentence_blocks ss ++ blocks after

  pub sentence_blocks : Sentences → List Sentences
  sentence_blocks no_sentence = []
  sentence_blocks (sentence m p cs r ss) = blocks p ++ condition_blocks cs ++ blocks r ++ sentence_blocks ss

  pub condition_blocks : Conditions → List Sentences
  condition_blocks no_condition = []
  condition_blocks (condition r p cs) = blocks r ++ blocks p ++ condition_blocks cs

-- "a block's earlier sentence treats an outer variable as free": no variable already has a value
abbrev pub valued_in_block : List Variable
valued_in_block = []

-- ---- the lint

-- a function's own sentences, then those of the blocks in it
abbrev pub own_dead : Sentences → List Remark
own_dead ss = dead_after false [] [] 1 ss

abbrev pub block_dead : Sentences → List Remark
block_dead ss = dead_after true valued_in_block [] 1 ss

unfoldable pub dead_remarks : Function → List Remark
dead_remarks f = own_dead f.sentences ++ each block_dead (sentence_blocks f.sentences)

unfoldable pub dead_findings : Law → List Finding
dead_findings law = findings_from dead_remarks 0 law
