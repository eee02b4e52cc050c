-- What row 5 leaves of a term record: only records of kind 8 are blocks, and symbols and variables have no records inside.
use Prim.Native.Nat.{ℕ, zero, suc, ◌+◌, ◌*◌, ◌<◌}
use mathlib.Core.List.{List}
use mathlib.Core.Bool.{Bool, true, cond, ◌&&◌}
use mathlib.Core.Path.{◌≡◌, refl}
use native.Mathlib.Omega.{arith}
use lib.Dec.{eqb}
use borrow.Author.Tests.{eqb-true}
use Rattle.names.specs.Name.{name_allowed, number_allowed}
use Rattle.file.specs.Word.{word_at}
use Rattle.file.specs.Sections.{File}
use Rattle.file.specs.Fields.{spelled, scalar_allowed, unused, term_allowed, term_fields_at, functions_allowed, terms_allowed, fields_allowed}
use Rattle.file.specs.Head.{term_from, term_at}
use Rattle.file.specs.declared.Term.{Term}
use Rattle.file.specs.declared.Term.TheVariants.{Symbol, SVariable, TVariable, EVariable, Bracket, Call, Block}
use Rattle.file.proofs.Below.{both_second, every_at}
use Rattle.law.specs.Places.{block_size}
use Rattle.law.specs.Code.Terms.{sentences_in}

-- n is what a term may have as the number of records inside it
abbrev pub InsideAllowed : Term → ℕ → Type 0
InsideAllowed (Symbol x) n = n ≡ 0
InsideAllowed (SVariable a b) n = n ≡ 0
InsideAllowed (TVariable a b) n = n ≡ 0
InsideAllowed (EVariable a b) n = n ≡ 0
InsideAllowed Bracket n = Unit {0}
InsideAllowed (Call a b) n = Unit {0}
InsideAllowed (Block m) n = Unit {0}

module _ (text : List ℕ) (a b n : ℕ) where
  -- the words of a record that row 5 allows
  words_sentences : (kind : ℕ) → term_allowed text kind a b n ≡ true → cond (eqb kind 8) a 0 ≡ sentences_in (term_from kind a b)
  unfolding term_allowed term_from
  words_sentences zero h = refl
  words_sentences (suc zero) h = refl
  words_sentences (suc (suc zero)) h = refl
  words_sentences (suc (suc (suc zero))) h = refl
  words_sentences (suc (suc (suc (suc zero)))) h = refl
  words_sentences (suc (suc (suc (suc (suc zero))))) h = refl
  words_sentences (suc (suc (suc (suc (suc (suc zero)))))) h = refl
  words_sentences (suc (suc (suc (suc (suc (suc (suc zero))))))) h = refl
  words_sentences (suc (suc (suc (suc (suc (suc (suc (suc zero)))))))) h = refl
  words_sentences (suc (suc (suc (suc (suc (suc (suc (suc (suc kind))))))))) h = let z : ◌≡◌ {A = ℕ} 0 1 = cc in absurd (omega arith)

  -- n is unused
  none_inside_lem : (others : Bool) → others && unused n ≡ true → n ≡ 0
  none_inside_lem others h = eqb-true n 0 (both_second others (unused n) h)

  words_inside : (kind : ℕ) → term_allowed text kind a b n ≡ true → InsideAllowed (term_from kind a b) n
  unfolding term_allowed term_from
  words_inside zero h = none_inside_lem (scalar_allowed a && unused b) h
  words_inside (suc zero) h = none_inside_lem (spelled name_allowed text a b) h
  words_inside (suc (suc zero)) h = none_inside_lem (spelled number_allowed text a b) h
  words_inside (suc (suc (suc zero))) h = none_inside_lem (spelled name_allowed text a b) h
  words_inside (suc (suc (suc (suc zero)))) h = none_inside_lem (spelled name_allowed text a b) h
  words_inside (suc (suc (suc (suc (suc zero))))) h = none_inside_lem (spelled name_allowed text a b) h
  words_inside (suc (suc (suc (suc (suc (suc zero)))))) h = tt
  words_inside (suc (suc (suc (suc (suc (suc (suc zero))))))) h = tt
  words_inside (suc (suc (suc (suc (suc (suc (suc (suc kind)))))))) h = tt

module _ (file : File) (fields : fields_allowed file ≡ true) (t : ℕ) (inside : t < file.terms.count) where
  -- the record t of section 5
  pub term_allowed_lem : term_fields_at file.text.records file.terms.records (24 * t) ≡ true
  unfolding fields_allowed
  term_allowed_lem =
      every_at file.terms.count (λ t. term_fields_at file.text.records file.terms.records (24 * t)) t
      (both_second
      (functions_allowed file.text.records file.functions.records file.functions.count)
      (terms_allowed file.text.records file.terms.records file.terms.count)
      fields)
      inside

  -- a block's number of sentences is its word a, and no other record has sentences
  pub block_size_lem : block_size file t ≡ sentences_in (term_at file.terms.records (24 * t))
  unfolding term_at
  block_size_lem = words_sentences file.text.records _ _ _ _ term_allowed_lem

  -- nothing is inside a symbol or a variable
  pub inside_allowed : InsideAllowed (term_at file.terms.records (24 * t)) (word_at file.terms.records (24 * t + 12))
  unfolding term_at
  inside_allowed = words_inside file.text.records _ _ _ _ term_allowed_lem
