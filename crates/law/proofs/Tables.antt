-- Laws of the index's tables (specs/Code/Index.antt): how they are filled, that they do not overlap, and when they are the index of a file.
use Prim.Native.Nat.{ℕ, ◌+◌, ◌*◌, ◌-◌, ◌≤◌, ◌<◌}
use mathlib.Core.List.{List, ◌++◌}
use mathlib.Core.Bool.{Bool, true, false, ◌&&◌}
use mathlib.Core.Path.{◌≡◌, refl, sym, ap, ◌∙◌}
use native.Mathlib.Omega.{arith}
use native.Mathlib.Decide.{dec_lt}
use native.Mathlib.Nat.{add-zero, mod-eq_of_lt}
use lib.ListN.{length, get_or, set, drop, take-append-drop}
use lib.Seq.{get_or-set_same, get_or-set_other, get_or-append-add, get_or-drop}
use lib.Dec.{eqb}
use borrow.Author.Tests.{eqb-true, ne_eqb}
use Rattle.file.specs.Word.{word_at}
use Rattle.file.specs.Below.{total}
use Rattle.file.specs.Answer.{given}
use Rattle.file.specs.declared.Sections.{Sections}
use Rattle.file.specs.Sections.{File, sections_of, file_of}
use Rattle.file.specs.Code.Counts.{counts_of, Limits}
use Rattle.file.proofs.Below.{both_first, both_second, total_next, total_mono}
use Rattle.file.proofs.SectionLaws.{part_slice, sections_limits}
use Rattle.file.proofs.Parts.{cut_out, functions_part, sentences_part, conditions_part, terms_part}
use Rattle.law.specs.Places.{
  sentences_of,
  pattern_size,
  conditions_of,
  result_size,
  condition_result_size,
  condition_pattern_size,
  block_size,
  first_sentence,
  block_first,
  first_condition,
  sentence_records,
  condition_records,
  pattern_at,
}
use Rattle.law.specs.Runs.{used_up}
use Rattle.law.specs.Code.Index.{functions_start, sentences_start, conditions_start, terms_start, IndexOf, Indexed}
use Rattle.law.specs.Code.Filling.{Table, word_sum, pair_sum, block_word, block_sum, as_word, TablesOf, header, Placed}

-- one more number is added to a sum
pub sum_next : (f : ℕ → ℕ) (i sum w : ℕ) → sum ≡ total i f → w ≡ f i → sum + w ≡ total (i + 1) f
sum_next f i sum w p q = rw (p, q, total_next i f)

-- nothing is written
pub table_none : (xs : List ℕ) (from : ℕ) (f : ℕ → ℕ) → Table xs xs from 0 f
table_none xs from f = record { inside = λ i h. absurd (omega arith); below = λ j h. refl; above = λ j h. refl }

-- one more word is written
pub table_next : (xs ys : List ℕ) (from n : ℕ) (f : ℕ → ℕ) (v : ℕ) → Table xs ys from n f → from + n < length ys → v ≡ f n
    → Table xs (set ys (from + n) v) from (n + 1) f
table_next xs ys from n f v t h e = record {
  inside = λ i l. go i l (dec_lt i n);
  below = λ j l. get_or-set_other ys (from + n) j v 0 (λ q. omega arith) ∙ t.below j l;
  above = λ j l. get_or-set_other ys (from + n) j v 0 (λ q. omega arith) ∙ t.above j (omega arith);
}
  where
    go : (i : ℕ) → i < n + 1 → Dec (i < n) → get_or (set ys (from + n) v) (from + i) 0 ≡ f i
    go i l (yes m) = get_or-set_other ys (from + n) (from + i) v 0 (λ q. omega arith) ∙ t.inside i m
    go i l (no m) =
        let q : i ≡ n = omega arith in
        rw q (get_or-set_same ys (from + n) v 0 h ∙ e)

-- the place where a table starts was written before the table
pub table_over : (xs ys : List ℕ) (from n : ℕ) (f : ℕ → ℕ) (v : ℕ) → Table (set xs from v) ys from (n + 1) f → Table xs ys from (n + 1) f
table_over xs ys from n f v t = record {
  inside = t.inside;
  below = λ j l. t.below j l ∙ get_or-set_other xs from j v 0 (λ q. omega arith);
  above = λ j l. t.above j l ∙ get_or-set_other xs from j v 0 (λ q. omega arith);
}

-- the first word of a table, already written
pub table_first : (xs : List ℕ) (from : ℕ) (f : ℕ → ℕ) (v : ℕ) → from < length xs → v ≡ f 0 → Table (set xs from v) (set xs from v) from 1 f
table_first xs from f v h e = record {
  inside = λ i l. (let q : i ≡ 0 = omega arith in rw (q, add-zero from) (get_or-set_same xs from v 0 h ∙ e));
  below = λ j l. refl;
  above = λ j l. refl;
}

-- the sentences of a block, and of a term that is none
pub block_word_lem : (terms : List ℕ) (t k w : ℕ) → k ≡ word_at terms (24 * t) → w ≡ word_at terms (24 * t + 4) → k ≡ 8 → w ≡ block_word terms t
block_word_lem terms t k w p q e = rw (← p, e) q

pub block_none : (terms : List ℕ) (t k : ℕ) → k ≡ word_at terms (24 * t) → (k ≡ 8 → ⊥) → 0 ≡ block_word terms t
block_none terms t k p d = rw (← p, ne_eqb k 8 d)

-- the records of sections 2 to 5
functions_cut : (bytes : List ℕ) → cut_out (functions_start (file_of bytes)) (20 * (file_of bytes).functions.count) bytes ≡ (file_of bytes).functions.records
unfolding file_of
functions_cut bytes = part_slice (functions_start (file_of bytes)) (20 * (file_of bytes).functions.count) bytes

sentences_cut : (bytes : List ℕ) → cut_out (sentences_start (file_of bytes)) (20 * (file_of bytes).sentences.count) bytes ≡ (file_of bytes).sentences.records
unfolding file_of
sentences_cut bytes = part_slice (sentences_start (file_of bytes)) (20 * (file_of bytes).sentences.count) bytes

conditions_cut : (bytes : List ℕ)
    → cut_out (conditions_start (file_of bytes)) (16 * (file_of bytes).conditions.count) bytes ≡ (file_of bytes).conditions.records
unfolding file_of
conditions_cut bytes = part_slice (conditions_start (file_of bytes)) (16 * (file_of bytes).conditions.count) bytes

terms_cut : (bytes : List ℕ) → cut_out (terms_start (file_of bytes)) (24 * (file_of bytes).terms.count) bytes ≡ (file_of bytes).terms.records
unfolding file_of
terms_cut bytes = part_slice (terms_start (file_of bytes)) (24 * (file_of bytes).terms.count) bytes

-- five tables, one after the other; none is written over by a later one
tables_of_parts : (file : File) (x₀ x₁ x₂ x₃ x₄ x₅ : List ℕ) → Limits (counts_of file)
    → Table x₀ x₁ 8 (file.functions.count + 1) (λ n. as_word (word_sum file.functions.records 20 8 n))
    → Table x₁ x₂ 73 (file.sentences.count + 1) (λ n. as_word (word_sum file.sentences.records 20 4 n))
    → Table x₂ x₃ 202 (file.conditions.count + 1) (λ n. as_word (pair_sum file.conditions.records 16 4 n))
    → Table x₃ x₄ 331 (file.sentences.count + 1) (λ n. as_word (pair_sum file.sentences.records 20 8 n))
    → Table x₄ x₅ 460 file.terms.count
    (λ n. as_word (word_sum file.functions.records 20 8 file.functions.count + block_sum file.terms.records n))
    → TablesOf file x₅
unfolding first_sentence first_condition block_first
tables_of_parts file x₀ x₁ x₂ x₃ x₄ x₅ limits t₁ t₂ t₃ t₄ t₅ =
    let k₃ : (j : ℕ) → j < 331 → get_or x₅ j 0 ≡ get_or x₃ j 0 = λ j l. t₅.below j (omega arith) ∙ t₄.below j l in
    let k₂ : (j : ℕ) → j < 202 → get_or x₅ j 0 ≡ get_or x₂ j 0 = λ j l. k₃ j (omega arith) ∙ t₃.below j l in
    let k₁ : (j : ℕ) → j < 73 → get_or x₅ j 0 ≡ get_or x₁ j 0 = λ j l. k₂ j (omega arith) ∙ t₂.below j l in
    record {
      first_sentences = λ f l. k₁ (8 + f) (omega arith) ∙ t₁.inside f (omega arith);
      first_conditions = λ s l. k₂ (73 + s) (omega arith) ∙ t₂.inside s (omega arith);
      condition_terms = λ c l. k₃ (202 + c) (omega arith) ∙ t₃.inside c (omega arith);
      sentence_terms = λ s l. t₅.below (331 + s) (omega arith) ∙ t₄.inside s (omega arith);
      blocks = t₅.inside;
    }

-- after a test that two numbers are the same, either may stand for the other
same_after : (x : Bool) (m n : ℕ) (p : ℕ → Bool) → x && eqb m n && p n ≡ x && eqb m n && p m
same_after false m n p = refl
same_after true m n p = go (eqb m n) refl
  where
    go : (b : Bool) → eqb m n ≡ b → eqb m n && p n ≡ eqb m n && p m
    go true q = rw (eqb-true m n q)
    go false q = rw q

-- the three tests of the sums that the tables end with say whether the sections are used up
used_by_sums : (file : File) (function_sentences sentence_conditions condition_terms sentence_terms block_sentences : ℕ)
    → function_sentences ≡ word_sum file.functions.records 20 8 file.functions.count
    → sentence_conditions ≡ word_sum file.sentences.records 20 4 file.sentences.count
    → condition_terms ≡ pair_sum file.conditions.records 16 4 file.conditions.count
    → sentence_terms ≡ pair_sum file.sentences.records 20 8 file.sentences.count
    → block_sentences ≡ block_sum file.terms.records file.terms.count
    → eqb (function_sentences + block_sentences) file.sentences.count
    && eqb sentence_conditions file.conditions.count
    && eqb (sentence_terms + condition_terms) file.terms.count
    ≡ used_up file
unfolding used_up first_sentence first_condition block_first pattern_at
used_by_sums file function_sentences sentence_conditions condition_terms sentence_terms block_sentences p q r s t =
    rw (p, q, r, s, t)
    (same_after
    (eqb (first_sentence file file.functions.count + total file.terms.count (block_size file)) file.sentences.count)
    (first_condition file file.sentences.count)
    file.conditions.count
    (λ n. eqb (sentence_records file file.sentences.count + condition_records file n) file.terms.count))

-- what the five fills leave behind, for a file with these counts
pub tables_made : (bytes : List ℕ) (s : Sections) → counts_of (file_of bytes) ≡ s
    → (used : Bool) (function_sentences sentence_conditions condition_terms sentence_terms block_sentences : ℕ) (x₀ x₁ x₂ x₃ x₄ x₅ : List ℕ)
    → Limits s
    → function_sentences ≡ word_sum (functions_part bytes s) 20 8 s.functions
    → Table x₀ x₁ 8 (s.functions + 1) (λ n. as_word (word_sum (functions_part bytes s) 20 8 n))
    → sentence_conditions ≡ word_sum (sentences_part bytes s) 20 4 s.sentences
    → Table x₁ x₂ 73 (s.sentences + 1) (λ n. as_word (word_sum (sentences_part bytes s) 20 4 n))
    → condition_terms ≡ pair_sum (conditions_part bytes s) 16 4 s.conditions
    → Table x₂ x₃ 202 (s.conditions + 1) (λ n. as_word (pair_sum (conditions_part bytes s) 16 4 n))
    → sentence_terms ≡ pair_sum (sentences_part bytes s) 20 8 s.sentences
    → Table x₃ x₄ 331 (s.sentences + 1) (λ n. as_word (pair_sum (sentences_part bytes s) 20 8 n))
    → block_sentences ≡ block_sum (terms_part bytes s) s.terms
    → Table x₄ x₅ 460 s.terms (λ n. as_word (function_sentences + block_sum (terms_part bytes s) n))
    → used
    ≡ eqb (function_sentences + block_sentences) s.sentences
    && eqb sentence_conditions s.conditions
    && eqb (sentence_terms + condition_terms) s.terms
    → (used ≡ used_up (file_of bytes)) × TablesOf (file_of bytes) x₅
tables_made bytes s e =
    rw (← e) (λ used function_sentences sentence_conditions condition_terms sentence_terms block_sentences x₀ x₁ x₂ x₃ x₄ x₅ limits.
    λ p t₁ q t₂ r t₃ u t₄ v t₅ w.
    let p' : function_sentences ≡ word_sum (file_of bytes).functions.records 20 8 (file_of bytes).functions.count = rw (functions_cut bytes) at p in (
      w
          ∙ used_by_sums (file_of bytes) function_sentences sentence_conditions condition_terms sentence_terms block_sentences p'
          (rw (sentences_cut bytes) at q) (rw (conditions_cut bytes) at r) (rw (sentences_cut bytes) at u) (rw (terms_cut bytes) at v),
      tables_of_parts (file_of bytes) x₀ x₁ x₂ x₃ x₄ x₅ limits (rw (functions_cut bytes) at t₁) (rw (sentences_cut bytes) at t₂)
          (rw (conditions_cut bytes) at t₃) (rw (sentences_cut bytes) at t₄) (rw (terms_cut bytes, p') at t₅),
    ))

-- what a file has whose sections are used up
pub record Used (file : File) : Type 0 where
  pub sentences : block_first file file.terms.count ≡ file.sentences.count
  pub conditions : first_condition file file.sentences.count ≡ file.conditions.count
  pub terms : sentence_records file file.sentences.count + condition_records file file.conditions.count ≡ file.terms.count

-- the tests of `used_up`, taken apart
pub used_sums : (file : File) → used_up file ≡ true → Used file
unfolding used_up pattern_at
used_sums file h =
    let a = eqb (block_first file file.terms.count) file.sentences.count in
    let b = eqb (first_condition file file.sentences.count) file.conditions.count in
    let c = eqb (pattern_at file file.sentences.count) file.terms.count in
    let conditions : first_condition file file.sentences.count ≡ file.conditions.count = eqb-true _ _ (both_second a b (both_first (a && b) c h)) in
    let terms : pattern_at file file.sentences.count ≡ file.terms.count = eqb-true _ _ (both_second (a && b) c h) in
    record {
      sentences = eqb-true _ _ (both_first a b (both_first (a && b) c h));
      conditions = conditions;
      terms = rw conditions at terms;
    }

-- a small number is kept whole
word_small : (n : ℕ) → n ≤ 512 → as_word n ≡ n
word_small n h = mod-eq_of_lt (omega arith)

-- a word past the header
past_header : (s : Sections) (tables : List ℕ) (j : ℕ) → 8 ≤ j → get_or (header s ++ drop 8 tables) j 0 ≡ get_or tables j 0
past_header s tables j h =
    let e : j ≡ 8 + (j - 8) = omega arith in
    rw e (get_or-append-add (header s) (drop 8 tables) (j - 8) 0 ∙ get_or-drop 8 tables (j - 8) 0)

-- the index of a file whose sections are used up: a header before the tables, in which no sum is past a word
pub index_made : (file : File) (tables : List ℕ) → Limits (counts_of file) → used_up file ≡ true → TablesOf file tables
    → IndexOf file (header (counts_of file) ++ drop 8 tables)
unfolding first_sentence first_condition block_first
index_made file tables limits h t =
    let u = used_sums file h in
    let word : (j n : ℕ) → 8 ≤ j → get_or tables j 0 ≡ as_word n → n ≤ 512 → get_or (header (counts_of file) ++ drop 8 tables) j 0 ≡ n =
    λ j n l e k. past_header (counts_of file) tables j l ∙ e ∙ word_small n k in
    record {
      functions_at = refl;
      sentences_at = refl;
      conditions_at = refl;
      records_at = refl;
      functions = refl;
      sentences = refl;
      conditions = refl;
      terms = refl;
      first_sentences = λ f l.
          word (8 + f) _ (omega arith) (t.first_sentences f l) (omega (arith, u.sentences, total_mono f file.functions.count (sentences_of file) l));
      first_conditions = λ s l.
          word (73 + s) _ (omega arith) (t.first_conditions s l) (omega (arith, u.conditions, total_mono s file.sentences.count (conditions_of file) l));
      condition_terms = λ c l.
          let up = total_mono c file.conditions.count (λ i. condition_result_size file i + condition_pattern_size file i) l in
          word (202 + c) _ (omega arith) (t.condition_terms c l) (omega (arith, u.terms, up));
      sentence_terms = λ s l.
          let up = total_mono s file.sentences.count (λ i. pattern_size file i + result_size file i) l in
          word (331 + s) _ (omega arith) (t.sentence_terms s l) (omega (arith, u.terms, up));
      blocks = λ n l.
          word (460 + n) _ (omega arith) (t.blocks n l) (omega (arith, u.sentences, total_mono n file.terms.count (block_size file) (omega arith)));
    }

-- the file's index, where the sections are used up
pub placed_indexed : (bytes index : List ℕ) → sections_of bytes ≡ given (file_of bytes) → used_up (file_of bytes) ≡ true
    → Placed (file_of bytes) index → Indexed bytes index
placed_indexed bytes index h u p =
    let split : header (counts_of (file_of bytes)) ++ drop 8 index ≡ index =
    ap (λ front. front ++ drop 8 index) (sym p.begins) ∙ take-append-drop 8 index in
    record {
      sections = h;
      used = u;
      words = rw split at (index_made (file_of bytes) index (sections_limits bytes (file_of bytes) h) u p.tables);
    }
