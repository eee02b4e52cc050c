-- Record numbers in the tree of an accepted file: a call's record gives its name and its argument; functions' sentences have the records before those
-- of blocks' sentences, and follow one another; and the numbers of the law are spelled by digits, as refusal 5 says.
use Prim.Native.Nat.{ℕ, zero, suc, ◌+◌, ◌*◌, ◌-◌, ◌≤◌, ◌<◌}
use mathlib.Core.Bool.{true}
use mathlib.Core.List.{List}
use mathlib.Core.Path.{◌≡◌, refl}
use native.Mathlib.Omega.{arith}
use native.Mathlib.Decide.{dec_lt}
use lib.ListN.{length, take, drop}
use lib.Dec.{leb}
use Rattle.names.specs.Name.{number_allowed}
use Rattle.file.specs.Answer.{given}
use Rattle.file.specs.Word.{word_at}
use Rattle.file.specs.Sections.{File, file_of}
use Rattle.file.specs.Fields.{spelled, unused, term_allowed}
use Rattle.file.specs.Head.{term_from, term_at}
use Rattle.file.specs.declared.Term.{Term}
use Rattle.file.specs.declared.Term.TheVariants.{Symbol as Symbolic, SVariable, TVariable, EVariable, Bracket, Call, Block}
use Rattle.file.proofs.Below.{both_first, both_second}
use Rattle.numbers.proofs.DigitLaws.{allowed_digits}
use Rattle.matching.specs.Literal.{InDigits}
use Rattle.law.specs.Tree.{Name, Mark, Run, Sentences, Conditions, Law, keep}
use Rattle.law.specs.Places.{sentences_of, pattern_size, conditions_of, result_size, condition_result_size, condition_pattern_size}
use Rattle.law.specs.Places.{block_size, first_sentence, block_first, first_condition, pattern_at, condition_result_at, result_at}
use Rattle.law.specs.Places.{terms_at, pattern_part, result_part, condition_result_part, condition_pattern_part}
use Rattle.law.specs.Runs.{run_fits}
use Rattle.law.specs.Reading.{name_at, symbol_of, mark_at, term_run, run_of, conditions_from, sentence_at, tree_of, sentences_at, own}
use Rattle.law.specs.Code.Terms.{sentences_in}
use Rattle.law.specs.Law.{law_of}
use Rattle.law.specs.Code.Index.{Readable, PartAt}
use Rattle.law.proofs.Accepted.{law_accepted}
use Rattle.law.proofs.Terms.{term_allowed_lem, block_size_lem}
use Rattle.law.proofs.PlaceLaws.{sentence_start_lem, sentence_next, sentence_grows, block_start, block_grows, condition_next}
use Rattle.law.proofs.PlaceLaws.{pattern_next, pattern_within, result_within, asked_after, asked_within, terms_inside}
use Rattle.law.proofs.RunLaws.{run_none, run_first, fits_first_lem, by_records}
use Rattle.law.proofs.Allowed.{accepted_readable, all_used, pattern_fits, result_fits, condition_result_fits, condition_pattern_fits, block_after}
use Rattle.law.proofs.Reading.{sentences_end, sentence_reads}
use Rattle.law.proofs.Functions.{skip_at, functions_at, tree_functions_lem, functions_end, function_reads}
use Rattle.formats.proofs.RoundLaws.{EachFunction}
use Rattle.lints.proofs.Everywhere.{EachRecord, each_record_map, Numbered, NumberedLaw, Labelled, numbered_from}
use Rattle.lints.proofs.Everywhere.{numbered_keep, EveryRun, EverySentence, EveryCondition, every_keep, every_skip}

-- ---- a term record's symbol and name

-- the number that a symbol record is, if it is one, is spelled by digits
abbrev TermInDigits : List ℕ → Term → Type 0
TermInDigits text (Symbolic x) = InDigits (symbol_of text x)
TermInDigits text (SVariable a b) = Unit {0}
TermInDigits text (TVariable a b) = Unit {0}
TermInDigits text (EVariable a b) = Unit {0}
TermInDigits text Bracket = Unit {0}
TermInDigits text (Call a b) = Unit {0}
TermInDigits text (Block n) = Unit {0}

words_number : (text : List ℕ) (a b n kind : ℕ) → term_allowed text kind a b n ≡ true → TermInDigits text (term_from kind a b)
unfolding term_allowed term_from spelled
words_number text a b n zero h = tt
words_number text a b n (suc zero) h = tt
words_number text a b n (suc (suc zero)) h =
    allowed_digits (take b (drop a text))
    (both_second (leb (a + b) (length text)) (number_allowed (take b (drop a text))) (both_first (spelled number_allowed text a b) (unused n) h))
words_number text a b n (suc (suc (suc zero))) h = tt
words_number text a b n (suc (suc (suc (suc zero)))) h = tt
words_number text a b n (suc (suc (suc (suc (suc zero))))) h = tt
words_number text a b n (suc (suc (suc (suc (suc (suc zero)))))) h = tt
words_number text a b n (suc (suc (suc (suc (suc (suc (suc zero))))))) h = tt
words_number text a b n (suc (suc (suc (suc (suc (suc (suc (suc kind)))))))) h = tt

-- the name that a call record spells
abbrev called_name : List ℕ → Term → Name
called_name text (Symbolic x) = name_at text 0 0
called_name text (SVariable a b) = name_at text 0 0
called_name text (TVariable a b) = name_at text 0 0
called_name text (EVariable a b) = name_at text 0 0
called_name text Bracket = name_at text 0 0
called_name text (Call a b) = name_at text a b
called_name text (Block n) = name_at text 0 0

module _ (file : File) where
  -- the name and the argument of the call at a term record
  abbrev pub name_at_record : ℕ → Name
  name_at_record t = called_name file.text.records (term_at file.terms.records (24 * t))

  abbrev pub argument_at_record : ℕ → Run
  argument_at_record t = run_of file (own file) (t + 1) (terms_at file (t + 1) (word_at file.terms.records (24 * t + 12)))

  abbrev pub IsCall : ℕ → Name → Run → Type 0
  IsCall t f q = (f ≡ name_at_record t) × (q ≡ argument_at_record t)

  -- what holds of every call by its record: of a term record that is a call, whose argument is a run that fits
  abbrev pub OfCalls : (ℕ → Name → Run → Type 0) → Type 0
  OfCalls OfCall = (t a b : ℕ) → t < file.terms.count → term_at file.terms.records (24 * t) ≡ Call a b
      → PartAt file (t + 1) (terms_at file (t + 1) (word_at file.terms.records (24 * t + 12)))
      → OfCall t (name_at file.text.records a b) (argument_at_record t)

  -- the first record after those of functions' sentences
  abbrev pub bound : ℕ
  bound = first_sentence file file.functions.count

  abbrev pub InBlock : ℕ → Type 0
  InBlock i = bound ≤ i

module _ (file : File) (OfCall : ℕ → Name → Run → Type 0) where
  -- what holds everywhere in the law: numbers are spelled by digits, calls are as their records say, blocks' sentences come after functions'
  abbrev pub EveryRunAt : Run → Type 0
  EveryRunAt = EveryRun InDigits OfCall (InBlock file)

  abbrev pub EverySentenceAt : Sentences → Type 0
  EverySentenceAt = EverySentence InDigits OfCall (InBlock file)

  abbrev pub EveryConditionAt : Conditions → Type 0
  EveryConditionAt = EveryCondition InDigits OfCall (InBlock file)

-- ---- the records of sentences

module _ (file : File) (readable : Readable file) where
  -- from a sentence on, records follow one another
  numbered_by : (left s : ℕ) → s + left ≡ file.sentences.count → Numbered s (sentences_at file s)
  numbered_by zero s e = rw (sentences_end file s (omega arith)) tt
  numbered_by (suc left) s e = rw (sentence_reads file readable s (omega arith)) (refl, numbered_by left (suc s) (omega arith))

  numbered_at : (s : ℕ) → Numbered s (sentences_at file s)
  numbered_at s = go (dec_lt s file.sentences.count)
    where
      go : Dec (s < file.sentences.count) → Numbered s (sentences_at file s)
      go (yes l) = numbered_by (file.sentences.count - s) s (omega arith)
      go (no l) = rw (sentences_end file s (omega arith)) tt

  -- so the first n of them, which end before record s + n
  kept_numbered : (n s : ℕ) → Numbered s (keep n (sentences_at file s)) × EachRecord (λ i. i < s + n) (keep n (sentences_at file s))
  kept_numbered n s = numbered_keep n s (sentences_at file s) (numbered_at s)

  -- the records of a block's sentences come after those of functions' sentences
  block_records : (t n : ℕ) → EachRecord (InBlock file) (own file t n)
  unfolding own
  block_records t n =
      numbered_from (bound file) (block_first file t) (keep n (sentences_at file (block_first file t)))
      (omega (arith, block_start file, block_grows file 0 t (omega arith)))
      (kept_numbered n (block_first file t)).0

  -- the records of functions' sentences come before those of blocks' sentences, and follow one another
  pub functions_below : (left f : ℕ) → f + left ≡ file.functions.count
      → EachFunction (λ d. EachRecord (λ i. i < bound file) d.sentences) (functions_at file f)
  functions_below zero f e = rw (functions_end file f (omega arith)) tt
  functions_below (suc left) f e =
      rw (function_reads file f (omega arith)) (
        each_record_map (λ i. i < first_sentence file f + sentences_of file f) (λ i. i < bound file)
            (λ i l. omega (arith, sentence_next file f, sentence_grows file (suc f) file.functions.count (omega arith)))
            (keep (sentences_of file f) (sentences_at file (first_sentence file f)))
            (kept_numbered (sentences_of file f) (first_sentence file f)).1,
        functions_below left (suc f) (omega arith),
      )

  functions_numbered : (left f : ℕ) → f + left ≡ file.functions.count → NumberedLaw (first_sentence file f) (functions_at file f)
  functions_numbered zero f e = rw (functions_end file f (omega arith)) tt
  functions_numbered (suc left) f e =
      let (follow, below) = kept_numbered (sentences_of file f) (first_sentence file f) in
      rw (function_reads file f (omega arith)) (
        follow,
        (first_sentence file f + sentences_of file f, omega arith, below, rw (sentence_next file f) at (functions_numbered left (suc f) (omega arith))),
      )

-- ---- everywhere

module _ (file : File) (readable : Readable file) (OfCall : ℕ → Name → Run → Type 0) (of_calls : OfCalls file OfCall) where
  -- ---- one run

  -- the sentences of the block at a term record
  abbrev BlockAt : ℕ → Type 0
  BlockAt t = EachRecord (InBlock file) (own file t (block_size file t)) × EverySentenceAt file OfCall (own file t (block_size file t))

  -- a term record with the run inside it and the run after it
  term_every : (at : ℕ) (mark : Mark) (x : Term) (inside after : Run) → mark.at ≡ at → TermInDigits file.text.records x
      → ((a b : ℕ) → x ≡ Call a b → OfCall at (name_at file.text.records a b) inside)
      → EachRecord (InBlock file) (own file at (sentences_in x)) × EverySentenceAt file OfCall (own file at (sentences_in x))
      → EveryRunAt file OfCall inside → EveryRunAt file OfCall after
      → EveryRunAt file OfCall (term_run file.text.records (own file) at mark x inside after)
  term_every at mark (Symbolic x) inside after e number here sentences i a = (number, a)
  term_every at mark (SVariable x y) inside after e number here sentences i a = a
  term_every at mark (TVariable x y) inside after e number here sentences i a = a
  term_every at mark (EVariable x y) inside after e number here sentences i a = a
  term_every at mark Bracket inside after e number here sentences i a = (i, a)
  term_every at mark (Call x y) inside after e number here sentences i a = (rw e (here x y refl), i, a)
  term_every at mark (Block n) inside after e number here sentences i a = (i, sentences, a)

  abbrev RunEvery : ℕ → ℕ → Type 0
  RunEvery at count = run_fits (terms_at file at count) ≡ true → ((t : ℕ) → at ≤ t → t < at + count → BlockAt t)
      → EveryRunAt file OfCall (run_of file (own file) at (terms_at file at count))

  run_every_first : (at count n : ℕ) → at + count ≤ file.terms.count → word_at file.terms.records (24 * at + 12) ≡ n → 1 + n ≤ count
      → RunEvery (at + 1) n → RunEvery (at + 1 + n) (count - (1 + n)) → RunEvery at count
  unfolding term_at
  run_every_first at count n inside word fit inner outer fits blocks =
      let (_, inner-fits, outer-fits) = fits_first_lem file readable.whole at count n inside (omega arith) fits word in
      let argument : PartAt file (at + 1) (terms_at file (at + 1) (word_at file.terms.records (24 * at + 12))) =
      rw word (record { count = n; inside = omega arith; same = refl; fit = inner-fits }) in
      rw (run_first file readable.whole (own file) at count n inside word fit)
      (term_every at (mark_at at file.terms.records (24 * at + 16)) (term_at file.terms.records (24 * at))
      (run_of file (own file) (at + 1) (terms_at file (at + 1) n))
      (run_of file (own file) (at + 1 + n) (terms_at file (at + 1 + n) (count - (1 + n))))
      refl
      (words_number file.text.records _ _ _ _ (term_allowed_lem file readable.fields at (omega arith)))
      (λ a b e. rw word at (of_calls at a b (omega arith) e argument))
      (rw (block_size_lem file readable.fields at (omega arith)) at (blocks at (omega arith) (omega arith)))
      (inner inner-fits (λ t l m. blocks t (omega arith) (omega arith)))
      (outer outer-fits (λ t l m. blocks t (omega arith) (omega arith))))

  -- of a run that fits, if of the sentences of its blocks
  run_every : (at count : ℕ) → at + count ≤ file.terms.count → run_fits (terms_at file at count) ≡ true → RunEvery at count
  run_every = by_records file readable.whole RunEvery (λ at fits blocks. rw (run_none file readable.whole (own file) at) tt) run_every_first

  -- ---- one sentence

  module _ (s : ℕ) (within : s < file.sentences.count) (blocks : (t : ℕ) → pattern_at file s ≤ t → t < pattern_at file (suc s) → BlockAt t) where
    part_every : (at count : ℕ) → pattern_at file s ≤ at → at + count ≤ pattern_at file (suc s) → run_fits (terms_at file at count) ≡ true
        → EveryRunAt file OfCall (run_of file (own file) at (terms_at file at count))
    part_every at count low high fit =
        run_every at count (omega (arith, terms_inside file (all_used file readable.runs) s within)) fit fit
        (λ t l m. blocks t (omega arith) (omega arith))

    conditions_every : (left c : ℕ) → first_condition file s ≤ c → c + left ≤ first_condition file (suc s)
        → EveryConditionAt file OfCall (conditions_from file (own file) s left c)
    unfolding conditions_from condition_result_part condition_pattern_part
    conditions_every zero c low high = tt
    conditions_every (suc left) c low high = (
      part_every (condition_result_at file s c) (condition_result_size file c) (asked_after file s c low) (omega (arith, asked_within file s c (omega arith)))
          (condition_result_fits file readable.runs s within c low (omega arith)),
      part_every (condition_result_at file s c + condition_result_size file c) (condition_pattern_size file c) (omega (arith, asked_after file s c low)) (asked_within file s c (omega arith))
          (condition_pattern_fits file readable.runs s within c low (omega arith)),
      conditions_every left (suc c) (omega arith) (omega arith),
    )

    sentence_every : (later : Sentences) → EverySentenceAt file OfCall later → EverySentenceAt file OfCall (sentence_at file (own file) s later)
    unfolding pattern_part result_part
    sentence_every later h = (
      part_every (pattern_at file s) (pattern_size file s) (omega arith) (pattern_within file s) (pattern_fits file readable.runs s within),
      conditions_every (conditions_of file s) (first_condition file s) (omega arith) (omega (arith, condition_next file s)),
      part_every (result_at file s) (result_size file s) (result_within file s) (omega (arith, pattern_next file s))
          (result_fits file readable.runs s within),
      h,
    )

  -- ---- all sentences

  -- a block that stands in a sentence has later sentences
  block_every : (s : ℕ) → s < file.sentences.count → EverySentenceAt file OfCall (sentences_at file (suc s))
      → (t : ℕ) → pattern_at file s ≤ t → t < pattern_at file (suc s) → BlockAt t
  unfolding own keep
  block_every s within later t low high = (block_records file readable t (block_size file t), go (dec_lt 0 (block_size file t)))
    where
      go : Dec (0 < block_size file t) → EverySentenceAt file OfCall (keep (block_size file t) (sentences_at file (block_first file t)))
      go (yes some) =
          let after : s < block_first file t = block_after file readable.blocks s within t low high some in
          let place : suc s + (block_first file t - suc s) ≡ block_first file t = omega arith in
          every_keep InDigits OfCall (InBlock file) (block_size file t) (sentences_at file (block_first file t))
          (rw (skip_at file (block_first file t - suc s) (suc s), place) at
          (every_skip InDigits OfCall (InBlock file) (block_first file t - suc s) (sentences_at file (suc s)) later))
      go (no none) =
          let zero_size : block_size file t ≡ 0 = omega arith in
          rw zero_size tt

  sentences_by : (left s : ℕ) → s + left ≡ file.sentences.count → EverySentenceAt file OfCall (sentences_at file s)
  sentences_by zero s e = rw (sentences_end file s (omega arith)) tt
  sentences_by (suc left) s e =
      let later : EverySentenceAt file OfCall (sentences_at file (suc s)) = sentences_by left (suc s) (omega arith) in
      rw (sentence_reads file readable s (omega arith))
      (sentence_every s (omega arith) (block_every s (omega arith) later) (sentences_at file (suc s)) later)

  sentences_every : (s : ℕ) → EverySentenceAt file OfCall (sentences_at file s)
  sentences_every s = go (dec_lt s file.sentences.count)
    where
      go : Dec (s < file.sentences.count) → EverySentenceAt file OfCall (sentences_at file s)
      go (yes l) = sentences_by (file.sentences.count - s) s (omega arith)
      go (no l) = rw (sentences_end file s (omega arith)) tt

  -- ---- all functions

  pub functions_every : (left f : ℕ) → f + left ≡ file.functions.count
      → EachFunction (λ d. EverySentenceAt file OfCall d.sentences) (functions_at file f)
  functions_every zero f e = rw (functions_end file f (omega arith)) tt
  functions_every (suc left) f e =
      rw (function_reads file f (omega arith)) (
        every_keep InDigits OfCall (InBlock file) (sentences_of file f) (sentences_at file (first_sentence file f))
            (sentences_every (first_sentence file f)),
        functions_every left (suc f) (omega arith),
      )

-- ---- the tree

tree_labelled : (file : File) → Readable file → Labelled (tree_of file)
tree_labelled file readable =
    rw (tree_functions_lem file)
    (record {
      name = name_at_record file;
      argument = argument_at_record file;
      bound = bound file;
      everywhere = functions_every file readable (IsCall file) (λ t a b inside e part. (rw e, refl)) file.functions.count 0 (omega arith);
      below = functions_below file readable file.functions.count 0 (omega arith);
      numbered = rw (sentence_start_lem file) at (functions_numbered file readable file.functions.count 0 (omega arith));
    })

-- so it is in an accepted law
pub law_labelled : (bytes : List ℕ) (law : Law) → law_of bytes ≡ given law → Labelled law
law_labelled bytes law h =
    let (accepted, same) = law_accepted bytes law h in
    rw same (tree_labelled (file_of bytes) (accepted_readable bytes accepted))
