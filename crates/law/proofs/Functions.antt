-- The functions of a law and the sentences of each, in file order.
use Prim.Native.Nat.{ℕ, zero, suc, ◌+◌, ◌-◌, ◌≤◌, ◌<◌}
use mathlib.Core.List.{[], ◌∷◌}
use mathlib.Core.Path.{◌≡◌, refl}
use native.Mathlib.Omega.{arith}
use native.Mathlib.Nat.{sub-zero, zero-add, add-zero, suc-sub-suc, zero-sub}
use lib.ListN.{length, get_or}
use Rattle.file.specs.Sections.{File}
use Rattle.law.specs.Tree.{Sentences, no_sentence, sentence, Function, Law, keep, skip}
use Rattle.law.specs.Places.{sentences_of, first_sentence}
use Rattle.law.specs.Reading.{sentence_at, sentences_from, functions_from, tree_of, sentences_at, own, function_name}
use Rattle.law.specs.Code.Index.{Readable}
use Rattle.law.proofs.Reading.{skip_from, sentence_reads}

-- no sentences, and the sentences after some of the first n
pub keep_none : (n : ℕ) → keep n no_sentence ≡ no_sentence
unfolding keep
keep_none zero = refl
keep_none (suc n) = refl

pub skip_none : (n : ℕ) → skip n no_sentence ≡ no_sentence
unfolding skip
skip_none zero = refl
skip_none (suc n) = refl

pub skip_keep : (d n : ℕ) (ss : Sentences) → skip d (keep n ss) ≡ keep (n - d) (skip d ss)
unfolding skip keep
skip_keep zero n ss = rw sub-zero
skip_keep (suc d) zero ss = rw zero-sub
skip_keep (suc d) (suc n) no_sentence = rw keep_none
skip_keep (suc d) (suc n) (sentence m p cs r ss) = rw suc-sub-suc (skip_keep d n ss)

module _ (file : File) where
  -- the sentences after some of those from s on
  pub skip_at : (d s : ℕ) → skip d (sentences_at file s) ≡ sentences_at file (s + d)
  unfolding sentences_at
  skip_at d s =
      let left : file.sentences.count - s - d ≡ file.sentences.count - (s + d) = omega arith in
      rw (skip_from file d (file.sentences.count - s) s, left)

  -- all sentences
  pub sentences_all : sentences_from file file.sentences.count 0 ≡ sentences_at file 0
  unfolding sentences_at
  sentences_all = rw sub-zero

  -- the function f
  abbrev pub function_at : ℕ → Function
  function_at f =
      record {
        name = function_name file f;
        sentences = keep (sentences_of file f) (sentences_at file (first_sentence file f));
      }

  -- the functions from f on, to the last
  unfoldable pub functions_at : ℕ → Law
  functions_at f = functions_from file (sentences_from file file.sentences.count 0) (file.functions.count - f) f

  pub tree_functions_lem : tree_of file ≡ functions_at 0
  unfolding tree_of functions_at
  tree_functions_lem = rw sub-zero

  pub functions_end : (f : ℕ) → file.functions.count ≤ f → functions_at f ≡ []
  unfolding functions_at functions_from
  functions_end f h =
      let none : file.functions.count - f ≡ 0 = omega arith in
      rw none

  pub function_reads : (f : ℕ) → f < file.functions.count → functions_at f ≡ function_at f ∷ functions_at (suc f)
  unfolding functions_at functions_from
  function_reads f h =
      let left : file.functions.count - f ≡ suc (file.functions.count - suc f) = omega arith in
      let skipped : skip (first_sentence file f) (sentences_from file file.sentences.count 0) ≡ sentences_at file (first_sentence file f) =
      rw (sentences_all, skip_at (first_sentence file f) 0, zero-add) in
      rw (left, skipped)

  -- the functions of the tree by number
  pub functions_length : (left f : ℕ) → f + left ≡ file.functions.count → length (functions_at f) ≡ left
  functions_length zero f h = rw (functions_end f (omega arith))
  functions_length (suc left) f h = rw (function_reads f (omega arith), functions_length left (suc f) (omega arith))

  pub tree_length : length (tree_of file) ≡ file.functions.count
  tree_length = rw tree_functions_lem (functions_length file.functions.count 0 (omega arith))

  functions_at_lem : (none : Function) (i f : ℕ) → f + i < file.functions.count → get_or (functions_at f) i none ≡ function_at (f + i)
  functions_at_lem none zero f h = rw (function_reads f (omega arith), add-zero)
  functions_at_lem none (suc i) f h =
      let place : f + suc i ≡ suc f + i = omega arith in
      rw (function_reads f (omega arith), place) (functions_at_lem none i (suc f) (omega arith))

  pub tree_function : (none : Function) (f : ℕ) → f < file.functions.count → get_or (tree_of file) f none ≡ function_at f
  tree_function none f h = rw (tree_functions_lem, functions_at_lem none f 0 (omega arith), zero-add)

  -- the first of some sentences from s on
  pub kept_reads : Readable file → (n s : ℕ) → s < file.sentences.count
      → keep (suc n) (sentences_at file s) ≡ sentence_at file (own file) s (keep n (sentences_at file (suc s)))
  unfolding keep
  kept_reads readable n s inside = rw (sentence_reads file readable s inside)
