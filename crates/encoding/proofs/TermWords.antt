-- The first four words of each term record of a text can be read again.
use Prim.Native.Nat.{ℕ, suc, ◌+◌, ◌*◌, ◌≤◌, ◌<◌}
use mathlib.Core.List.{List, [], ◌∷◌, ◌++◌, flat_map}
use mathlib.Core.Bool.{true}
use mathlib.Core.Path.{◌≡◌, ◌∙◌}
use native.Mathlib.Omega.{arith}
use lib.ListN.{length, drop, get_or, length-append}
use Rattle.names.specs.Name.{every_byte}
use Rattle.file.specs.Word.{word_at}
use Rattle.file.specs.Fields.{scalar_allowed}
use Rattle.file.proofs.Below.{both_first, both_second}
use Rattle.law.specs.Tree.{symbol_kind, term_kind, expression_kind}
use Rattle.tokens.specs.Token.{utf8, Atom, identifier, number, variable, quoted}
use Rattle.tokens.proofs.Utf8.{scalar_bound}
use Rattle.grammar.specs.Grammar.{Terms, nothing, atomic, bracket, call, Conditions, no_condition, condition, Sentence}
use Rattle.encoding.specs.Encode.{Record, record_bytes, records_bytes, character_records, atom_records, term_records, condition_terms, sentence_terms}
use Rattle.encoding.proofs.Lists.{All, all_append, all_at_lem}
use Rattle.encoding.proofs.RecordLaws.{word_0, word_4, word_8, word_12, word_of}
use Rattle.encoding.proofs.TermRecords.{TermRecord, terms_sized, six}
use Rattle.encoding.proofs.TermsRead.{AtomWithin, Within}
use Rattle.encoding.proofs.SentencePlaces.{SmallConditions, Small}
use Rattle.encoding.proofs.SentencesRead.{WithinConditions, WithinSentence}

pub record Readable (r : Record) : Type 0 where
  pub kind : (s : List ℕ) → word_at (record_bytes r ++ s) 0 ≡ get_or r 0 0
  pub start : (s : List ℕ) → word_at (record_bytes r ++ s) 4 ≡ get_or r 1 0
  pub long : (s : List ℕ) → word_at (record_bytes r ++ s) 8 ≡ get_or r 2 0
  pub inside : (s : List ℕ) → word_at (record_bytes r ++ s) 12 ≡ get_or r 3 0

six_readable : (kind a b n x y : ℕ) → kind < 4294967296 → a < 4294967296 → b < 4294967296 → n < 4294967296 → Readable (six kind a b n x y)
six_readable kind a b n x y ks is bs ns =
    record {
      kind = λ s. word_0 kind s _ ks;
      start = λ s. word_4 a s _ _ is;
      long = λ s. word_8 b s _ _ _ bs;
      inside = λ s. word_12 n s _ _ _ _ ns;
    }

characters_readable : (at : ℕ) (cs : List ℕ) → every_byte scalar_allowed cs ≡ true → All Readable (character_records at cs)
unfolding character_records every_byte
characters_readable at [] h = tt
characters_readable at (c ∷ cs) h =
    let bound : c ≤ 0x10FFFF = scalar_bound c (both_first (scalar_allowed c) (every_byte scalar_allowed cs) h) in (
      six_readable 0 c 0 0 at (at + length (utf8 c)) (omega arith) (omega arith) (omega arith) (omega arith),
      characters_readable (at + length (utf8 c)) cs (both_second (scalar_allowed c) (every_byte scalar_allowed cs) h),
    )

module _ (text : List ℕ) (short : length text ≤ 4096) where
  atom_readable : (at : ℕ) (a : Atom) → AtomWithin text at a → All Readable (atom_records at a)
  atom_readable at (identifier w) h = (six_readable 1 _ _ 0 _ _ (omega arith) (omega (arith, h.0.inside)) (omega (arith, h.0.inside)) (omega arith), tt)
  atom_readable at (number w) h = (six_readable 2 _ _ 0 _ _ (omega arith) (omega (arith, h.0.inside)) (omega (arith, h.0.inside)) (omega arith), tt)
  atom_readable at (variable symbol_kind i) h = (six_readable 3 _ _ 0 _ _ (omega arith) (omega (arith, h.0.inside)) (omega (arith, h.0.inside)) (omega arith), tt)
  atom_readable at (variable term_kind i) h = (six_readable 4 _ _ 0 _ _ (omega arith) (omega (arith, h.0.inside)) (omega (arith, h.0.inside)) (omega arith), tt)
  atom_readable at (variable expression_kind i) h = (six_readable 5 _ _ 0 _ _ (omega arith) (omega (arith, h.0.inside)) (omega (arith, h.0.inside)) (omega arith), tt)
  atom_readable at (quoted cs) h = characters_readable (at + 1) cs h

  terms_readable : (t : Terms) → length (term_records t) ≤ 512 → Within text t → All Readable (term_records t)
  unfolding term_records
  terms_readable nothing l h = tt
  terms_readable (atomic at a rest) l h =
      all_append Readable (atom_records at a) (term_records rest) (atom_readable at a h.0)
      (terms_readable rest (omega (arith, length-append (atom_records at a) (term_records rest))) h.1)
  terms_readable (bracket p inside r rest) l h =
      let lengths = length-append (term_records inside) (term_records rest) in (
        six_readable 6 0 0 _ _ _ (omega arith) (omega arith) (omega arith) (omega (arith, lengths)),
        all_append Readable (term_records inside) (term_records rest) (terms_readable inside (omega (arith, lengths)) h.0) (terms_readable rest (omega (arith, lengths)) h.1),
      )
  terms_readable (call p f inside r rest) l h =
      let lengths = length-append (term_records inside) (term_records rest) in (
        six_readable 7 _ _ _ _ _ (omega arith) (omega (arith, h.0.0.inside)) (omega (arith, h.0.0.inside)) (omega (arith, lengths)),
        all_append Readable (term_records inside) (term_records rest) (terms_readable inside (omega (arith, lengths)) h.3) (terms_readable rest (omega (arith, lengths)) h.4),
      )

  conditions_readable : (cs : Conditions) → SmallConditions cs → WithinConditions text cs → All Readable (condition_terms cs)
  unfolding condition_terms
  conditions_readable no_condition l h = tt
  conditions_readable (condition c x d y rest) l h =
      all_append Readable (term_records x ++ term_records y) (condition_terms rest)
      (all_append Readable (term_records x) (term_records y) (terms_readable x l.0 h.0) (terms_readable y l.1 h.1)) (conditions_readable rest l.2 h.2)

  -- the term records of sentences
  pub sentences_readable : (xs : List Sentence) → All Small xs → All (WithinSentence text) xs → All Readable (flat_map sentence_terms xs)
  unfolding flat_map
  sentences_readable [] l h = tt
  sentences_readable (x ∷ xs) l h =
      all_append Readable (sentence_terms x) (flat_map sentence_terms xs)
      (all_append Readable (term_records x.pattern ++ condition_terms x.conditions) (term_records x.result)
      (all_append Readable (term_records x.pattern) (condition_terms x.conditions) (terms_readable x.pattern l.0.pattern h.0.pattern)
      (conditions_readable x.conditions l.0.conditions h.0.conditions))
      (terms_readable x.result l.0.result h.0.result))
      (sentences_readable xs l.1 h.1)

-- ---- among others

module _ (rs : List Record) (whole : All TermRecord rs) (h : All Readable rs) (t : ℕ) (l : t < length rs) where
  abbrev r : Record
  r = get_or rs t []

  abbrev after : List ℕ
  after = records_bytes (drop (suc t) rs)

  readable : Readable r
  readable = all_at_lem Readable rs t [] h l

  pub kind_word : word_at (records_bytes rs) (24 * t) ≡ get_or r 0 0
  kind_word = let e : 24 * t ≡ 24 * t + 0 = omega arith in rw e (word_of 24 rs t 0 (terms_sized rs whole) l ∙ readable.kind after)

  pub start_word : word_at (records_bytes rs) (24 * t + 4) ≡ get_or r 1 0
  start_word = word_of 24 rs t 4 (terms_sized rs whole) l ∙ readable.start after

  pub long_word : word_at (records_bytes rs) (24 * t + 8) ≡ get_or r 2 0
  long_word = word_of 24 rs t 8 (terms_sized rs whole) l ∙ readable.long after

  pub inside_word : word_at (records_bytes rs) (24 * t + 12) ≡ get_or r 3 0
  inside_word = word_of 24 rs t 12 (terms_sized rs whole) l ∙ readable.inside after
