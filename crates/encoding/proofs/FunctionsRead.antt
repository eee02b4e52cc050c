-- The tree of a file that holds some functions is the functions' tree.
use Prim.Native.Nat.{ℕ, zero, suc, ◌+◌, ◌*◌, ◌≤◌, ◌<◌}
use mathlib.Core.List.{List, [], ◌∷◌, ◌++◌, append-nil, map, flat_map}
use mathlib.Core.Path.{◌≡◌, refl, sym, ap, ◌∙◌}
use native.Mathlib.Omega.{arith}
use native.Mathlib.Nat.{add-zero, zero-add}
use lib.ListN.{length, take, drop, get_or, length-append, length-map, drop_of_length-le}
use lib.Seq.{drop-cons, take-suc, split_at}
use Rattle.names.specs.Name.{name_allowed}
use Rattle.file.specs.Word.{word_at}
use Rattle.file.specs.Sections.{File}
use Rattle.law.specs.Tree as tree
use Rattle.law.specs.Places as places
use Rattle.law.specs.Reading.{function_name, functions_from, sentences_from, tree_of}
use Rattle.grammar.specs.Grammar.{Sentence, last, Function}
use Rattle.encoding.specs.Encode.{record_bytes, records_bytes, function_record, sentences_in, sentence_terms}
use Rattle.encoding.specs.TextTree.{name_of, tree_sentences, tree_functions}
use Rattle.encoding.proofs.Lists.{All, all_at_lem, all_map, map_at, total_take, flatMap-append, flatMap-length}
use Rattle.encoding.proofs.RecordLaws.{word_0, word_4, word_8, Sized, word_of}
use Rattle.encoding.proofs.TermsRead.{Word}
use Rattle.encoding.proofs.SentencePlaces.{no_sentence, Holds}
use Rattle.encoding.proofs.SentencesRead.{WithinSentence, sentences_run}

-- ---- some of the sentences

-- the number of some sentences' term records
abbrev size : List Sentence → ℕ
size xs = length (flat_map sentence_terms xs)

size_append : (xs ys : List Sentence) → size (xs ++ ys) ≡ size xs + size ys
size_append xs ys = rw (flatMap-append sentence_terms xs ys) (length-append (flat_map sentence_terms xs) (flat_map sentence_terms ys))

skip_tree : (ys zs : List Sentence) (s n : ℕ) → tree.skip (length ys) (tree_sentences s n (ys ++ zs)) ≡ tree_sentences (s + length ys) (n + size ys) zs
unfolding tree.skip tree_sentences flat_map
skip_tree [] zs s n = rw (add-zero s, add-zero n)
skip_tree (y ∷ ys) zs s n =
    let p : s + 1 + length ys ≡ s + suc (length ys) = omega arith in
    let q : n + length (sentence_terms y) + size ys ≡ n + size (y ∷ ys) = omega (arith, length-append (sentence_terms y) (flat_map sentence_terms ys)) in
    skip_tree ys zs (s + 1) (n + length (sentence_terms y)) ∙ rw (p, q)

keep_tree : (ys zs : List Sentence) (s n : ℕ) → tree.keep (length ys) (tree_sentences s n (ys ++ zs)) ≡ tree_sentences s n ys
unfolding tree.keep tree_sentences
keep_tree [] zs s n = refl
keep_tree (y ∷ ys) zs s n = rw (keep_tree ys zs (s + 1) (n + length (sentence_terms y)))

-- ---- functions

-- a function whose name stands in a text, with a number of sentences that fits a word
pub record Named (text : List ℕ) (f : Function) : Type 0 where
  pub name : Word name_allowed text f.name.start f.name.spelled
  pub count : length (sentences_in f) ≤ 128

-- one for places past the last
abbrev pub no_function : Function
no_function = record { name = record { start = 0; spelled = [] }; left_at = 0; sentences = last no_sentence; right_at = 0 }

pub function_records_sized : (fs : List Function) → All (Sized 20) (map function_record fs)
unfolding flat_map
function_records_sized fs = all_map (Sized 20) function_record fs (λ f. refl)

pub record HoldsFunctions (file : File) (fs : List Function) : Type 0 where
  pub functions : file.functions.records ≡ records_bytes (map function_record fs)
  pub function_count : file.functions.count ≡ length fs
  pub sentence_count : file.sentences.count ≡ length (flat_map sentences_in fs)
  pub sentences : Holds file (flat_map sentences_in fs)
  pub short : length file.text.records ≤ 4096
  pub named : All (Named file.text.records) fs
  pub inside : All (WithinSentence file.text.records) (flat_map sentences_in fs)

module _ (file : File) (fs : List Function) (h : HoldsFunctions file fs) where
  abbrev function : ℕ → Function
  function f = get_or fs f no_function

  named : (f : ℕ) → f < length fs → Named file.text.records (function f)
  named f l = all_at_lem (Named file.text.records) fs f no_function h.named l

  -- a word of a function's record
  function_word : (f k : ℕ) → f < length fs
      → word_at file.functions.records (20 * f + k) ≡ word_at (record_bytes (function_record (function f)) ++ records_bytes (drop (suc f) (map function_record fs))) k
  function_word f k l =
      rw (
        h.functions,
        word_of 20 (map function_record fs) f k (function_records_sized fs) (omega (arith, length-map fs function_record)),
        map_at function_record fs f no_function [] l,
      )

  pub name_start : (f : ℕ) → f < length fs → word_at file.functions.records (20 * f) ≡ (function f).name.start
  name_start f l =
      let e : 20 * f ≡ 20 * f + 0 = omega arith in
      rw e (function_word f 0 l ∙ word_0 _ _ _ (omega (arith, (named f l).name.0.inside, h.short)))

  pub name_long : (f : ℕ) → f < length fs → word_at file.functions.records (20 * f + 4) ≡ length (function f).name.spelled
  name_long f l = function_word f 4 l ∙ word_4 _ _ _ _ (omega (arith, (named f l).name.0.inside, h.short))

  name_read : (f : ℕ) → f < length fs → function_name file f ≡ name_of (function f).name.start (function f).name.spelled
  name_read f l = rw (name_start f l, name_long f l, (named f l).name.0.same)

  sentences_of_lem : (f : ℕ) → f < length fs → places.sentences_of file f ≡ length (sentences_in (function f))
  sentences_of_lem f l = function_word f 8 l ∙ word_8 _ _ _ _ _ (omega (arith, (named f l).count))

  -- the sentences of the functions before one
  pub first_sentence_lem : (f : ℕ) → f ≤ length fs → places.first_sentence file f ≡ length (flat_map sentences_in (take f fs))
  unfolding places.first_sentence
  first_sentence_lem f l =
      total_take no_function (λ g. length (sentences_in g)) (places.sentences_of file) fs f l sentences_of_lem ∙ sym (flatMap-length sentences_in (take f fs))

  sentences_split : (f : ℕ) → f < length fs → flat_map sentences_in fs ≡ flat_map sentences_in (take f fs) ++ (sentences_in (function f) ++ flat_map sentences_in (drop (suc f) fs))
  unfolding flat_map
  sentences_split f l = ap (flat_map sentences_in) (split_at fs f no_function l) ∙ flatMap-append sentences_in (take f fs) (function f ∷ drop (suc f) fs)

  sentences_next : (f : ℕ) → f < length fs → flat_map sentences_in (take (suc f) fs) ≡ flat_map sentences_in (take f fs) ++ sentences_in (function f)
  unfolding flat_map
  sentences_next f l = rw (take-suc fs f no_function l, flatMap-append sentences_in (take f fs) (function f ∷ []), append-nil (sentences_in (function f)))

  -- the functions from f on
  functions_run : (left f : ℕ) → left + f ≡ length fs
      → functions_from file (tree_sentences 0 0 (flat_map sentences_in fs)) left f
      ≡ tree_functions (length (flat_map sentences_in (take f fs))) (size (flat_map sentences_in (take f fs))) (drop f fs)
  unfolding functions_from tree_functions
  functions_run zero f e = rw (drop_of_length-le fs {i = f} (omega arith))
  functions_run (suc left) f e =
      let l : f < length fs = omega arith in
      let p = flat_map sentences_in (take f fs) in
      let q = flat_map sentences_in (drop (suc f) fs) in
      let own : tree.keep (places.sentences_of file f) (tree.skip (places.first_sentence file f) (tree_sentences 0 0 (flat_map sentences_in fs)))
      ≡ tree_sentences (length p) (size p) (sentences_in (function f)) =
      rw (
        sentences_of_lem f l,
        first_sentence_lem f (omega arith),
        sentences_split f l,
        skip_tree p (sentences_in (function f) ++ q) 0 0,
        zero-add (length p),
        zero-add (size p),
      ) (keep_tree (sentences_in (function f)) q (length p) (size p)) in
      rw (
        drop-cons fs f no_function l,
        name_read f l,
        own,
        functions_run left (suc f) (omega arith),
        sentences_next f l,
        length-append p (sentences_in (function f)),
        size_append p (sentences_in (function f)),
      )

  -- the tree of the file
  pub tree_read : tree_of file ≡ tree_functions 0 0 fs
  unfolding tree_of flat_map
  tree_read =
      let xs = flat_map sentences_in fs in
      ap (λ c. functions_from file (sentences_from file c 0) file.functions.count 0) h.sentence_count
      ∙ ap (λ c. functions_from file (sentences_from file (length xs) 0) c 0) h.function_count
      ∙ ap (λ a. functions_from file a (length fs) 0) (sentences_run file xs h.sentences h.short h.inside (length xs) 0 (add-zero (length xs)))
      ∙ functions_run (length fs) 0 (add-zero (length fs))
