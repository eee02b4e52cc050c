-- Refusal 9 comes where a sentence's pattern has over 32 distinct variables, and only there.
use Prim.Native.Nat.{ℕ, zero, suc, ◌+◌, ◌≤◌, ◌<◌}
use mathlib.Core.List.{List, [], ◌∷◌, ◌++◌, flat_map}
use mathlib.Core.Path.{◌≡◌, refl, ap, ◌∙◌}
use native.Mathlib.Omega.{arith}
use lib.ListN.{length, take, drop, get_or, length-append}
use lib.Seq.{drop-cons, take-append_seam, drop-append_seam}
use lib.Dec.{leb}
use Rattle.file.specs.Below.{every}
use Rattle.file.specs.Sections.{File}
use Rattle.file.specs.Head.{term_at, term_from}
use Rattle.law.specs.Tree.{symbol_kind, term_kind, expression_kind}
use Rattle.law.specs.Variables.{Variable, variable_of, variables_from, distinct, pattern_variables, patterns_allowed}
use Rattle.tokens.specs.Token.{utf8, Atom, identifier, number, variable, quoted}
use Rattle.grammar.specs.Grammar.{Terms, nothing, atomic, bracket, call, Sentence}
use Rattle.encoding.specs.Encode.{Record, records_bytes, character_records, atom_records, term_records, condition_terms, sentence_terms}
use Rattle.encoding.specs.LawOfText.{all_of, atom_variables, variables_in, few_variables}
use Rattle.encoding.proofs.Lists.{All, all_at_lem, flatMap-append, every_list}
use Rattle.encoding.proofs.TermRecords.{sentences_records}
use Rattle.encoding.proofs.TermsRead.{AtomWithin, Within}
use Rattle.encoding.proofs.SentencePlaces.{no_sentence, Holds, pattern_size_lem}
use Rattle.encoding.proofs.TermParts.{before, terms_split, pattern_place}
use Rattle.encoding.proofs.SentencesRead.{WithinSentence}
use Rattle.encoding.proofs.TermWords.{Readable, sentences_readable, kind_word, start_word, long_word}

module _ (text : List ℕ) where
  -- the variable that a record is, if it is one
  abbrev variable_in : Record → List Variable
  variable_in r = variable_of text (term_from (get_or r 0 0) (get_or r 1 0) (get_or r 2 0))

  -- ---- of terms

  characters_variables : (at : ℕ) (cs : List ℕ) → flat_map variable_in (character_records at cs) ≡ []
  unfolding character_records flat_map term_from
  characters_variables at [] = refl
  characters_variables at (c ∷ cs) = characters_variables (at + length (utf8 c)) cs

  atom_variables_lem : (at : ℕ) (a : Atom) → AtomWithin text at a → flat_map variable_in (atom_records at a) ≡ atom_variables a
  unfolding flat_map term_from
  atom_variables_lem at (identifier w) h = refl
  atom_variables_lem at (number w) h = refl
  atom_variables_lem at (variable symbol_kind i) h = rw h.0.same
  atom_variables_lem at (variable term_kind i) h = rw h.0.same
  atom_variables_lem at (variable expression_kind i) h = rw h.0.same
  atom_variables_lem at (quoted cs) h = characters_variables (at + 1) cs

  terms_variables : (t : Terms) → Within text t → flat_map variable_in (term_records t) ≡ variables_in t
  unfolding term_records variables_in flat_map term_from
  terms_variables nothing h = refl
  terms_variables (atomic at a rest) h =
      flatMap-append variable_in (atom_records at a) (term_records rest) ∙ rw (atom_variables_lem at a h.0, terms_variables rest h.1)
  terms_variables (bracket l inside r rest) h =
      flatMap-append variable_in (term_records inside) (term_records rest) ∙ rw (terms_variables inside h.0, terms_variables rest h.1)
  terms_variables (call l f inside r rest) h =
      flatMap-append variable_in (term_records inside) (term_records rest) ∙ rw (terms_variables inside h.3, terms_variables rest h.4)

  -- ---- of records in a file

  variables_list : (xs : List Sentence) → All Readable (flat_map sentence_terms xs) → (n t : ℕ) → n + t ≤ length (flat_map sentence_terms xs)
      → variables_from text (records_bytes (flat_map sentence_terms xs)) n t ≡ flat_map variable_in (take n (drop t (flat_map sentence_terms xs)))
  unfolding variables_from flat_map term_at
  variables_list xs h zero t l = refl
  variables_list xs h (suc n) t l =
      let rs = flat_map sentence_terms xs in
      let whole = sentences_records xs in
      let k : t < length rs = omega arith in
      rw (
        drop-cons rs t [] k,
        kind_word rs whole h t k,
        start_word rs whole h t k,
        long_word rs whole h t k,
        variables_list xs h n (suc t) (omega arith),
      )

module _ (file : File) (xs : List Sentence) (h : Holds file xs) (short : length file.text.records ≤ 4096) (inside : All (WithinSentence file.text.records) xs) where
  pattern_variables_lem : (s : ℕ) → s < length xs → pattern_variables file s ≡ variables_in (get_or xs s no_sentence).pattern
  pattern_variables_lem s l =
      let x = get_or xs s no_sentence in
      let front = before file xs h s l in
      let pattern = term_records x.pattern in
      let rest = condition_terms x.conditions ++ (term_records x.result ++ flat_map sentence_terms (drop (suc s) xs)) in
      let split : flat_map sentence_terms xs ≡ front ++ (pattern ++ rest) = terms_split file xs h s l in
      let part : take (length pattern) (drop (length front) (flat_map sentence_terms xs)) ≡ pattern =
      ap (λ z. take (length pattern) (drop (length front) z)) split ∙ rw (drop-append_seam front (pattern ++ rest), take-append_seam pattern rest) in
      let bound : length pattern + length front ≤ length (flat_map sentence_terms xs) =
      omega (arith, ap length split, length-append front (pattern ++ rest), length-append pattern rest) in
      rw (
        pattern_size_lem file xs h s l,
        pattern_place file xs h s l,
        h.terms,
        variables_list file.text.records xs (sentences_readable file.text.records short xs h.small inside) (length pattern) (length front) bound,
        part,
      ) (terms_variables file.text.records x.pattern (all_at_lem (WithinSentence file.text.records) xs s no_sentence inside l).pattern)

  -- the patterns of all sentences
  pub patterns_few : file.sentences.count ≡ length xs → patterns_allowed file ≡ all_of few_variables xs
  unfolding patterns_allowed
  patterns_few e =
      ap (λ c. every c (λ s. leb (distinct (pattern_variables file s)) 32)) e
      ∙ every_list no_sentence few_variables (λ s. leb (distinct (pattern_variables file s)) 32) xs (λ s l. rw (pattern_variables_lem s l))
