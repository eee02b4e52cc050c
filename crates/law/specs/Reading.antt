-- The tree that a file means, once refusals 1 to 7 have let it pass. A block's sentences are later records (row 7), so that the
-- sentences are read from the last to the first, and a block picks its own out of those already read.
-- docs/SPECIFICATION.md, 1.13.
use Rattle.std.specs.Prelude.{ℕ, zero, suc, ◌+◌, ◌*◌, ◌-◌, List, [], ◌∷◌, take, drop}
use Rattle.file.specs.Word.{word_at}
use Rattle.file.specs.Sections.{File}
use Rattle.file.specs.Forest.{Forest, end, node}
use Rattle.file.specs.Head.{term_at}
use Rattle.file.specs.declared.Symbol as heads
use Rattle.file.specs.declared.Term as terms
use Rattle.law.specs.Tree.{Name, Symbol, character, identifier, number, symbol_kind, term_kind, expression_kind, Mark, Run, empty, symbol, variable, bracket, call, block, Sentences, no_sentence, sentence, Conditions, no_condition, condition, Law, keep, skip}
use Rattle.law.specs.Places.{sentences_of, first_sentence, block_first, first_condition, conditions_of, condition_result_at, condition_result_size, pattern_at, result_at, pattern_part, result_part, condition_result_part, condition_pattern_part}
use Rattle.law.specs.Runs.{term_forest}

-- the part of the text where a name is spelled
abbrev pub name_at : List ℕ → ℕ → ℕ → Name
name_at text start len = record { start = start; spelled = take len (drop start text) }

abbrev pub symbol_of : List ℕ → heads.Symbol → Symbol
symbol_of text (heads.TheVariants.Character c) = character c
symbol_of text (heads.TheVariants.Identifier a b) = identifier (name_at text a b)
symbol_of text (heads.TheVariants.Number a b) = number (name_at text a b)

-- the mark of a record whose span stands at a byte position
abbrev pub mark_at : ℕ → List ℕ → ℕ → Mark
mark_at at s span = record { at = at; span_start = word_at s span; span_end = word_at s (span + 4) }

-- a term, with the run inside it and the run after it; `own` gives a block its sentences, by the block's record and their number
abbrev pub term_run : List ℕ → (ℕ → ℕ → Sentences) → ℕ → Mark → terms.Term → Run → Run → Run
term_run text own at mark (terms.TheVariants.Symbol x) inside after = symbol (symbol_of text x) after
term_run text own at mark (terms.TheVariants.SVariable a b) inside after = variable symbol_kind (name_at text a b) after
term_run text own at mark (terms.TheVariants.TVariable a b) inside after = variable term_kind (name_at text a b) after
term_run text own at mark (terms.TheVariants.EVariable a b) inside after = variable expression_kind (name_at text a b) after
term_run text own at mark terms.TheVariants.Bracket inside after = bracket inside after
term_run text own at mark (terms.TheVariants.Call a b) inside after = call mark (name_at text a b) inside after
term_run text own at mark (terms.TheVariants.Block n) inside after = block mark inside (own at n) after

-- the run of a forest of term records, the first of them number `at`
unfoldable pub forest_run : List ℕ → (ℕ → ℕ → Sentences) → ℕ → Forest → Run
forest_run text own at end = empty
forest_run text own at (node s inside after) =
    term_run text own at (mark_at at s 16) (term_at s 0) (forest_run text own (at + 1) inside) (forest_run text own (at + 1 + word_at s 12) after)

module _ (file : File) where
  -- the run of a part of the term records, the first of them number `at`
  abbrev pub run_of : (ℕ → ℕ → Sentences) → ℕ → List ℕ → Run
  run_of own at s = forest_run file.text.records own at (term_forest s)

  -- so many conditions of a sentence s, from condition c on
  unfoldable pub conditions_from : (ℕ → ℕ → Sentences) → ℕ → ℕ → ℕ → Conditions
  conditions_from own s zero c = no_condition
  conditions_from own s (suc left) c =
      condition (run_of own (condition_result_at file s c) (condition_result_part file s c)) (run_of own (condition_result_at file s c + condition_result_size file c) (condition_pattern_part file s c))
      (conditions_from own s left (suc c))

  -- the sentences of the blocks in a sentence s, out of those after it
  abbrev pub own_in : ℕ → Sentences → ℕ → ℕ → Sentences
  own_in s later t n = keep n (skip (block_first file t - suc s) later)

  -- the sentence s, before the sentences after it
  abbrev pub sentence_at : (ℕ → ℕ → Sentences) → ℕ → Sentences → Sentences
  sentence_at own s later =
      sentence (mark_at s file.sentences.records (20 * s + 12))
      (run_of own (pattern_at file s) (pattern_part file s))
      (conditions_from own s (conditions_of file s) (first_condition file s))
      (run_of own (result_at file s) (result_part file s))
      later

  -- so many sentences from s on, to the last
  unfoldable pub sentences_from : ℕ → ℕ → Sentences
  sentences_from zero s = no_sentence
  sentences_from (suc left) s =
      let later : Sentences = sentences_from left (suc s) in
      sentence_at (own_in s later) s later

  -- a function's name
  abbrev pub function_name : ℕ → Name
  function_name f = name_at file.text.records (word_at file.functions.records (20 * f)) (word_at file.functions.records (20 * f + 4))

  -- so many functions from f on, out of all sentences
  unfoldable pub functions_from : Sentences → ℕ → ℕ → Law
  functions_from all zero f = []
  functions_from all (suc left) f =
      record {
        name = function_name f;
        sentences = keep (sentences_of file f) (skip (first_sentence file f) all);
      } ∷ functions_from all left (suc f)

  unfoldable pub tree_of : Law
  tree_of = functions_from (sentences_from file.sentences.count 0) file.functions.count 0

  -- the sentences from s on, to the last
  unfoldable pub sentences_at : ℕ → Sentences
  sentences_at s = sentences_from (file.sentences.count - s) s

  -- the n sentences of the block at the term record t
  unfoldable pub own : ℕ → ℕ → Sentences
  own t n = keep n (sentences_at (block_first file t))
