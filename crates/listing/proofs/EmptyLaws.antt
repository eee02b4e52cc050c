-- Document 01, "Small laws": "No functions: no findings, 1 round, settled."
use Prim.Native.Nat.{ℕ, ◌≤◌, ◌<◌}
use mathlib.Core.Bool.{Bool, true, false, not, ◌&&◌}
use mathlib.Core.List.{List, [], ◌++◌}
use mathlib.Core.Path.{◌≡◌, refl, sym, ap, ◌∙◌}
use native.Mathlib.Omega.{arith}
use native.Mathlib.Decide.{dec_lt}
use native.Mathlib.Nat.{sub-zero}
use borrow.Author.Tests.{eqb-true, le-ltb, lt-ltb, not-true, not-false}
use lib.ListN.{length, drop, replicate}
use Rattle.std.specs.Prelude.{Result, Ok, Err, MatchResult}
use Rattle.file.specs.Answer.{Answer, refused, given, map_answer}
use Rattle.file.specs.Below.{every, total}
use Rattle.file.specs.Sections.{File, sections_of, file_of, number_of, answer_of}
use Rattle.file.specs.Fields.{fields_allowed}
use Rattle.file.specs.Code.Counts.{counts_of}
use Rattle.file.specs.declared.Sections.{Sections}
use Rattle.file.specs.declared.Refusal.{Refusal}
use Rattle.file.proofs.SectionLaws.{Told, sections_file, cut_whole, cut_refused}
use Rattle.law.specs.Places.{first_sentence, block_first, first_condition, pattern_at}
use Rattle.law.specs.Runs.{used_up, runs_allowed, blocks_allowed}
use Rattle.law.specs.Reading.{functions_from, tree_of}
use Rattle.law.specs.Depth.{depth_of}
use Rattle.law.specs.Variables.{patterns_allowed}
use Rattle.law.specs.Law.{law_of}
use Rattle.law.proofs.Accepted.{law_accepted}
use Rattle.law.proofs.Allowed.{all_used, block_after}
use Rattle.law.proofs.Functions.{tree_length}
use Rattle.law.proofs.Owners.{block_of, sentence_of_lem}
use Rattle.law.proofs.Tables.{used_sums}
use Rattle.formats.specs.Infer.{names_of, all_at, round, rounds_from, arguments, infer_within, infer}
use Rattle.formats.specs.Store.{store_size, entry_words, store_of}
use Rattle.lints.specs.Finding.{findings_from}
use Rattle.lints.specs.Dead.{dead_findings}
use Rattle.lints.specs.Recognition.{recognition_findings, some_over, arguments_over}
use Rattle.lints.specs.Builtin.{builtin_findings}
use Rattle.lints.specs.Open.{open_findings}
use Rattle.lints.specs.Levels.{Settings, settings_allowed, shown}
use Rattle.lints.specs.Findings.{Listing, findings_of, listing, formats_of}
use Rattle.listing.specs.Outcome.{front, store_after}
use Rattle.listing.specs.Code.Gather.{no_records, empty_file}

false_says : {P : Type 0} → false ≡ true → P
false_says e = let z : ◌≡◌ {A = ℕ} 0 1 = cc in absurd (omega arith)

-- a file without records is a law without functions
no_records_lem : (bytes : List ℕ) → sections_of bytes ≡ given (file_of bytes) → (file_of bytes).functions.count ≡ 0 → (file_of bytes).sentences.count ≡ 0
    → (file_of bytes).conditions.count ≡ 0 → (file_of bytes).terms.count ≡ 0 → law_of bytes ≡ given []
unfolding
    law_of fields_allowed runs_allowed used_up blocks_allowed patterns_allowed depth_of tree_of functions_from first_sentence block_first first_condition pattern_at every total
no_records_lem bytes cut f s c t = rw (cut, f, s, c, t)

both_held : (a b : Bool) → a && b ≡ true → (a ≡ true) × (b ≡ true)
both_held true b h = (refl, h)
both_held false b h = false_says h

-- as the code sees it
pub empty_law : (bytes : List ℕ) → empty_file (sections_of bytes) ≡ true → law_of bytes ≡ given []
empty_law bytes = go (sections_of bytes) refl
  where
    go : (a : Answer File) → sections_of bytes ≡ a → empty_file a ≡ true → law_of bytes ≡ given []
    go (refused n) cut h = false_says h
    go (given file) cut h =
        let same : file ≡ file_of bytes = sections_file bytes file cut in
        let (three, t) = both_held _ _ (rw same at h) in
        let (two, c) = both_held _ _ three in
        let (f, s) = both_held _ _ two in
        no_records_lem bytes (rw same at cut) (eqb-true _ 0 f) (eqb-true _ 0 s) (eqb-true _ 0 c) (eqb-true _ 0 t)

-- and a law without functions has none: its first sentence would stand in a block, which stands in a sentence before it
module _ (file : File) (runs : runs_allowed file ≡ true) (blocks : blocks_allowed file ≡ true) (none : file.functions.count ≡ 0) where
  no_sentences : file.sentences.count ≡ 0
  unfolding first_sentence total
  no_sentences = go (dec_lt 0 file.sentences.count)
    where
      go : Dec (0 < file.sentences.count) → file.sentences.count ≡ 0
      go (no h) = omega (arith, h)
      go (yes h) =
          let first : first_sentence file file.functions.count ≤ 0 = rw none (omega arith) in
          let (t, inside, low, high) = block_of file (all_used file runs) 0 first h in
          let (s, less, from, up_to) = sentence_of_lem file (all_used file runs) t inside in
          absurd (omega (arith, low, block_after file blocks s less t from up_to (omega (arith, low, high))))

  without_records : no_records (counts_of file) ≡ true
  unfolding first_condition total
  without_records =
      let used = used_sums file (all_used file runs) in
      let conditions : file.conditions.count ≡ 0 = sym (rw no_sentences at used.conditions) in
      let terms : file.terms.count ≡ 0 = sym (rw (no_sentences, conditions) at used.terms) in
      rw (none, no_sentences, conditions, terms) refl

pub law_empty : (bytes : List ℕ) → law_of bytes ≡ given [] → empty_file (sections_of bytes) ≡ true
law_empty bytes h =
    let (ok, tree) = law_accepted bytes [] h in
    let none : (file_of bytes).functions.count ≡ 0 = sym (tree_length (file_of bytes)) ∙ ap length (sym tree) in
    rw ok.sections (without_records (file_of bytes) ok.runs ok.blocks none)

-- where the counts are those of a file
pub counts_empty : (bytes : List ℕ) (s : Sections) (r : Bool) → Told bytes s → r ≡ no_records s → r ≡ empty_file (sections_of bytes)
counts_empty bytes s r told e = rw (told.file, told.counts) e

pub refused_empty : (bytes : List ℕ) (n : ℕ) → sections_of bytes ≡ refused n → false ≡ empty_file (sections_of bytes)
refused_empty bytes n cut = rw cut refl

-- by what the cut answers
pub by_sections : (bytes : List ℕ) (r : Result Sections Refusal) (b : Bool) → answer_of r ≡ map_answer counts_of (sections_of bytes)
    → MatchResult r (λ s. b ≡ no_records s) (λ _. b ≡ false) → b ≡ empty_file (sections_of bytes)
by_sections bytes (Ok s) b h m = counts_empty bytes s b (cut_whole bytes (Ok s) s h refl) m
by_sections bytes (Err why) b h m = m ∙ refused_empty bytes (number_of why) (cut_refused bytes (Err why) why h refl)

-- what is listed of a law without functions
abbrev pub nothing : Listing
nothing = record { inferred = record { formats = record { arguments = []; results = [] }; rounds = 1; settled = true }; findings = [] }

pub none_listed : (limit : ℕ) (settings : Settings) → listing limit settings [] ≡ given nothing
unfolding
    listing formats_of infer infer_within arguments names_of all_at rounds_from round arguments_over some_over shown findings_of dead_findings recognition_findings builtin_findings
    open_findings findings_from
none_listed limit settings = refl

-- the store is then all zeros
pub none_stored : (limit : ℕ) (store : List ℕ) → store_after limit store (given nothing) ≡ replicate (store_size limit) 0 ++ drop (store_size limit) store
unfolding store_of entry_words
none_stored limit store = rw (sub-zero (store_size limit))

-- the refusals that are left are 14 and 15
module _ (limit : ℕ) (settings : Settings) (bytes store : List ℕ) (empty : law_of bytes ≡ given []) {allowed : Bool} (is : allowed ≡ settings_allowed settings) where
  pub front_settings : not allowed ≡ true → front limit settings bytes store ≡ refused 14
  unfolding front
  front_settings h = rw (← is, not-true allowed h)

  module _ (h : not allowed ≡ false) where
    pub front_short : length store < store_size limit → front limit settings bytes store ≡ refused 15
    unfolding front
    front_short short = rw (← is, not-false allowed h, empty, lt-ltb (length store) (store_size limit) short)

    pub front_none : store_size limit ≤ length store → front limit settings bytes store ≡ given []
    unfolding front
    front_none enough = rw (← is, not-false allowed h, empty, le-ltb (length store) (store_size limit) enough)
