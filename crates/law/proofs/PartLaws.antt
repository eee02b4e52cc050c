-- A part of the term records that is a run or the rest of one (`PartAt`, specs/Code/Index.antt): its first record, its contents and its rest.
use Prim.Native.Nat.{ℕ, zero, suc, ◌+◌, ◌*◌, ◌-◌, ◌≤◌, ◌<◌}
use mathlib.Core.List.{List}
use mathlib.Core.Bool.{true}
use mathlib.Core.Path.{◌≡◌, refl, sym, ap, ◌∙◌}
use native.Mathlib.Omega.{arith}
use lib.ListN.{length}
use Rattle.file.specs.Word.{word_at}
use Rattle.file.specs.Forest.{contents, rest}
use Rattle.file.specs.Head.{term_from, term_at}
use Rattle.file.specs.Sections.{File, file_of}
use Rattle.law.specs.Places.{
  block_first,
  terms_at,
  pattern_at,
  pattern_size,
  pattern_part,
  result_at,
  result_size,
  result_part,
  condition_result_at,
  condition_result_size,
  condition_result_part,
  condition_pattern_size,
  condition_pattern_part,
}
use Rattle.law.specs.Code.Terms.{Owns, sentences_in}
use Rattle.law.specs.Runs.{end_of, run_fits}
use Rattle.law.specs.Code.Index.{Indexed, Readable, PartAt}
use Rattle.law.proofs.Parts.{terms_length, terms_word, terms_end, terms_contents, terms_rest}
use Rattle.law.proofs.RunLaws.{fits_first_lem}
use Rattle.law.proofs.Terms.{InsideAllowed, inside_allowed, block_size_lem}
use Rattle.law.proofs.PlaceLaws.{block_inside, pattern_inside, result_inside, asked_inside}
use Rattle.law.proofs.IndexLaws.{terms_limit}
use Rattle.law.proofs.Allowed.{all_used, pattern_fits, result_fits, condition_result_fits, condition_pattern_fits}

-- nothing is inside a record of a kind below 6
leaf_none : (kind a b n : ℕ) → kind < 6 → InsideAllowed (term_from kind a b) n → n ≡ 0
unfolding term_from
leaf_none zero a b n h none = none
leaf_none (suc zero) a b n h none = none
leaf_none (suc (suc zero)) a b n h none = none
leaf_none (suc (suc (suc zero))) a b n h none = none
leaf_none (suc (suc (suc (suc zero)))) a b n h none = none
leaf_none (suc (suc (suc (suc (suc zero))))) a b n h none = none
leaf_none (suc (suc (suc (suc (suc (suc kind)))))) a b n h none = absurd (omega arith)

module _ (file : File) (readable : Readable file) (at : ℕ) (p : List ℕ) (part : PartAt file at p) where
  -- its length
  pub part_length : length p ≡ 24 * part.count
  part_length = rw part.same (terms_length file readable.whole at part.count part.inside)

  pub part_short : length p ≤ 24 * (file.terms.count - at)
  part_short = omega (arith, part_length, part.inside)

  module _ (some : 24 ≤ length p) where
    few : 0 < part.count
    few = omega (arith, part_length)

    -- it starts before the last record
    pub part_at : at < file.terms.count
    part_at = omega (arith, few, part.inside)

    word : (k : ℕ) → k + 4 ≤ 24 → word_at p k ≡ word_at file.terms.records (24 * at + k)
    word k h = rw part.same (terms_word file readable.whole at part.count part.inside k (omega (arith, few)))

    -- its first record is the file's
    pub part_term : term_at p 0 ≡ term_at file.terms.records (24 * at)
    unfolding term_at
    part_term =
        let start : 24 * at + 0 ≡ 24 * at = omega arith in
        rw (word 0 (omega arith), word 4 (omega arith), word 8 (omega arith), start)

    -- nothing is inside a symbol or a variable
    pub part_inside : InsideAllowed (term_at p 0) (word_at p 12)
    part_inside = rw (part_term, word 12 (omega arith)) (inside_allowed file readable.fields at part_at)

    pub part_leaf : word_at p 0 < 6 → word_at p 12 ≡ 0
    unfolding term_at
    part_leaf h = leaf_none (word_at p 0) (word_at p 4) (word_at p 8) (word_at p 12) h part_inside

    -- the sentences of a block are records of section 3
    pub part_sentences : block_first file at + sentences_in (term_at p 0) ≤ file.sentences.count
    part_sentences =
        rw (part_term, ← block_size_lem file readable.fields at part_at) (block_inside file (all_used file readable.runs) at part_at)

    fits : (1 + word_at p 12 ≤ part.count) × (run_fits (terms_at file (at + 1) (word_at p 12)) ≡ true)
        × (run_fits (terms_at file (at + 1 + word_at p 12) (part.count - (1 + word_at p 12))) ≡ true)
    fits =
        fits_first_lem file readable.whole at part.count (word_at p 12) part.inside few (rw part.same at part.fit) (sym (word 12 (omega arith)))

    first : word_at (terms_at file at part.count) 12 ≡ word_at p 12
    first = ap (λ s. word_at s 12) (sym part.same)

    -- the contents of its first record end inside it
    pub part_end_lem : end_of p ≡ 24 + 24 * word_at p 12
    part_end_lem = ap end_of part.same ∙ terms_end file readable.whole at part.count part.inside (word_at p 12) first fits.0

    pub part_within : 24 + 24 * word_at p 12 ≤ length p
    part_within = omega (arith, part_length, fits.0)

    contents_same : contents 24 end_of p ≡ terms_at file (at + 1) (word_at p 12)
    contents_same = ap (contents 24 end_of) part.same ∙ terms_contents file readable.whole at part.count part.inside (word_at p 12) first fits.0

    rest_same : rest 24 end_of p ≡ terms_at file (at + 1 + word_at p 12) (part.count - (1 + word_at p 12))
    rest_same = ap (rest 24 end_of) part.same ∙ terms_rest file readable.whole at part.count part.inside (word_at p 12) first fits.0

    -- its contents and its rest are such parts too
    pub contents_part : PartAt file (at + 1) (contents 24 end_of p)
    contents_part = record {
      count = word_at p 12;
      inside = omega (arith, fits.0, part.inside);
      same = contents_same;
      fit = ap run_fits contents_same ∙ fits.1;
    }

    pub rest_part : PartAt file (at + 1 + word_at p 12) (rest 24 end_of p)
    rest_part = record {
      count = part.count - (1 + word_at p 12);
      inside = omega (arith, fits.0, part.inside);
      same = rest_same;
      fit = ap run_fits rest_same ∙ fits.2;
    }

-- the runs of a sentence are such parts
module _ (file : File) (readable : Readable file) where
  pub pattern_part_lem : (s : ℕ) → s < file.sentences.count → PartAt file (pattern_at file s) (pattern_part file s)
  unfolding pattern_part
  pattern_part_lem s h = record {
    count = pattern_size file s;
    inside = pattern_inside file (all_used file readable.runs) s h;
    same = refl;
    fit = pattern_fits file readable.runs s h;
  }

  pub result_part_lem : (s : ℕ) → s < file.sentences.count → PartAt file (result_at file s) (result_part file s)
  unfolding result_part
  result_part_lem s h = record {
    count = result_size file s;
    inside = result_inside file (all_used file readable.runs) s h;
    same = refl;
    fit = result_fits file readable.runs s h;
  }

  pub condition_result_part_lem : (s c : ℕ) → Owns file s c → PartAt file (condition_result_at file s c) (condition_result_part file s c)
  unfolding condition_result_part
  condition_result_part_lem s c o = record {
    count = condition_result_size file c;
    inside = omega (arith, asked_inside file (all_used file readable.runs) s c o.sentence o.up_to);
    same = refl;
    fit = condition_result_fits file readable.runs s o.sentence c o.from o.up_to;
  }

  pub condition_pattern_part_lem : (s c : ℕ) → Owns file s c
      → PartAt file (condition_result_at file s c + condition_result_size file c) (condition_pattern_part file s c)
  unfolding condition_pattern_part
  condition_pattern_part_lem s c o = record {
    count = condition_pattern_size file c;
    inside = asked_inside file (all_used file readable.runs) s c o.sentence o.up_to;
    same = refl;
    fit = condition_pattern_fits file readable.runs s o.sentence c o.from o.up_to;
  }

-- a part is at most all term records
pub part_small : (bytes index : List ℕ) → Indexed bytes index → Readable (file_of bytes) → (at : ℕ) (p : List ℕ)
    → PartAt (file_of bytes) at p → length p ≤ 12288
part_small bytes index indexed readable at p part = omega (arith, part_short (file_of bytes) readable at p part, terms_limit bytes index indexed)
