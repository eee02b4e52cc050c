-- Refusal 5 comes where a name, identifier, index or number is over 64 bytes, and only there.
use Prim.Native.Nat.{ℕ, ◌+◌, ◌*◌}
use mathlib.Core.List.{List, [], ◌∷◌, ◌++◌, flat_map}
use mathlib.Core.Bool.{Bool, true, ◌&&◌, and-true}
use mathlib.Core.Path.{◌≡◌, refl, ap, ◌∙◌}
use lib.ListN.{length, get_or}
use borrow.Author.Tests.{le-leb}
use Rattle.names.specs.Name.{every_byte, name_allowed, number_allowed}
use Rattle.file.specs.Sections.{File}
use Rattle.file.specs.Fields.{spelled, scalar_allowed, term_allowed, term_fields_at, function_fields_at, functions_allowed, terms_allowed, fields_allowed}
use Rattle.file.proofs.Below.{both_first, both_second}
use Rattle.law.specs.Tree.{symbol_kind, term_kind, expression_kind}
use Rattle.tokens.specs.Token.{utf8, Atom, identifier, number, variable, quoted}
use Rattle.grammar.specs.Grammar.{Terms, nothing, atomic, bracket, call, Conditions, no_condition, condition, Sentence, Function}
use Rattle.encoding.specs.Encode.{Record, records_bytes, character_records, atom_records, term_records, condition_terms, sentence_terms, sentences_in}
use Rattle.encoding.specs.LawOfText.{all_of, short, short_atom, short_terms, short_conditions, short_sentence, short_name}
use Rattle.encoding.proofs.Lists.{All, all_at_lem, every_list, all_of_append}
use Rattle.encoding.proofs.TermRecords.{sentences_records}
use Rattle.encoding.proofs.TermsRead.{Word, AtomWithin, Within}
use Rattle.encoding.proofs.SentencesRead.{WithinConditions, WithinSentence}
use Rattle.encoding.proofs.FunctionsRead.{Named, no_function, HoldsFunctions, name_start, name_long}
use Rattle.encoding.proofs.TermWords.{Readable, sentences_readable, kind_word, start_word, long_word, inside_word}

module _ (text : List ℕ) where
  abbrev fields : Record → Bool
  fields r = term_allowed text (get_or r 0 0) (get_or r 1 0) (get_or r 2 0) (get_or r 3 0)

  word_spelled : (allowed : List ℕ → Bool) (at : ℕ) (w : List ℕ) → Word allowed text at w → spelled allowed text at (length w) ≡ short w
  unfolding spelled
  word_spelled allowed at w h = rw (le-leb (at + length w) (length text) h.0.inside, h.0.same, h.1)

  leaf_fields : (allowed : List ℕ → Bool) (at : ℕ) (w : List ℕ) → Word allowed text at w → spelled allowed text at (length w) && true && true ≡ short w
  leaf_fields allowed at w h = and-true (spelled allowed text at (length w) && true) ∙ and-true (spelled allowed text at (length w)) ∙ word_spelled allowed at w h

  characters_fields : (at : ℕ) (cs : List ℕ) → every_byte scalar_allowed cs ≡ true → all_of fields (character_records at cs) ≡ true
  unfolding character_records every_byte term_allowed
  characters_fields at [] h = refl
  characters_fields at (c ∷ cs) h =
      rw (
        both_first (scalar_allowed c) (every_byte scalar_allowed cs) h,
        characters_fields (at + length (utf8 c)) cs (both_second (scalar_allowed c) (every_byte scalar_allowed cs) h),
      )

  atom_fields : (at : ℕ) (a : Atom) → AtomWithin text at a → all_of fields (atom_records at a) ≡ short_atom a
  unfolding term_allowed
  atom_fields at (identifier w) h = leaf_fields name_allowed at w h
  atom_fields at (number w) h = leaf_fields number_allowed at w h
  atom_fields at (variable symbol_kind i) h = leaf_fields name_allowed (at + 2) i h
  atom_fields at (variable term_kind i) h = leaf_fields name_allowed (at + 2) i h
  atom_fields at (variable expression_kind i) h = leaf_fields name_allowed (at + 2) i h
  atom_fields at (quoted cs) h = characters_fields (at + 1) cs h

  terms_fields : (t : Terms) → Within text t → all_of fields (term_records t) ≡ short_terms t
  unfolding term_records short_terms term_allowed
  terms_fields nothing h = refl
  terms_fields (atomic at a rest) h =
      all_of_append fields (atom_records at a) (term_records rest) ∙ rw (atom_fields at a h.0, terms_fields rest h.1)
  terms_fields (bracket l inside r rest) h =
      all_of_append fields (term_records inside) (term_records rest) ∙ rw (terms_fields inside h.0, terms_fields rest h.1)
  terms_fields (call l f inside r rest) h =
      rw (
        word_spelled name_allowed f.start f.spelled h.0,
        all_of_append fields (term_records inside) (term_records rest),
        terms_fields inside h.3,
        terms_fields rest h.4,
      )

  conditions_fields : (cs : Conditions) → WithinConditions text cs → all_of fields (condition_terms cs) ≡ short_conditions cs
  unfolding condition_terms short_conditions
  conditions_fields no_condition h = refl
  conditions_fields (condition c x d y rest) h =
      rw (
        all_of_append fields (term_records x ++ term_records y) (condition_terms rest),
        all_of_append fields (term_records x) (term_records y),
        terms_fields x h.0,
        terms_fields y h.1,
        conditions_fields rest h.2,
      )

  sentence_fields : (x : Sentence) → WithinSentence text x → all_of fields (sentence_terms x) ≡ short_sentence x
  sentence_fields x h =
      rw (
        all_of_append fields (term_records x.pattern ++ condition_terms x.conditions) (term_records x.result),
        all_of_append fields (term_records x.pattern) (condition_terms x.conditions),
        terms_fields x.pattern h.pattern,
        conditions_fields x.conditions h.conditions,
        terms_fields x.result h.result,
      )

  sentences_fields : (xs : List Sentence) → All (WithinSentence text) xs → all_of fields (flat_map sentence_terms xs) ≡ all_of short_sentence xs
  unfolding flat_map
  sentences_fields [] h = refl
  sentences_fields (x ∷ xs) h =
      all_of_append fields (sentence_terms x) (flat_map sentence_terms xs) ∙ rw (sentence_fields x h.0, sentences_fields xs h.1)

  -- the term records of sentences
  terms_spelled : (xs : List Sentence) → All Readable (flat_map sentence_terms xs) → All (WithinSentence text) xs
      → terms_allowed text (records_bytes (flat_map sentence_terms xs)) (length (flat_map sentence_terms xs)) ≡ all_of short_sentence xs
  terms_spelled xs h w =
      let rs = flat_map sentence_terms xs in
      let whole = sentences_records xs in
      every_list [] fields (λ t. term_fields_at text (records_bytes rs) (24 * t)) rs
      (λ t l. rw (kind_word rs whole h t l, start_word rs whole h t l, long_word rs whole h t l, inside_word rs whole h t l))
      ∙ sentences_fields xs w

-- the function records
functions_spelled : (file : File) (fs : List Function) → HoldsFunctions file fs
    → functions_allowed file.text.records file.functions.records file.functions.count ≡ all_of short_name fs
functions_spelled file fs h =
    ap (functions_allowed file.text.records file.functions.records) h.function_count
    ∙ every_list no_function short_name (λ f. function_fields_at file.text.records file.functions.records (20 * f)) fs
    (λ f l. rw (name_start file fs h f l, name_long file fs h f l)
    (word_spelled file.text.records name_allowed _ _ (all_at_lem (Named file.text.records) fs f no_function h.named l).name))

-- all fields of a file
pub fields_spelled : (file : File) (fs : List Function) → HoldsFunctions file fs → file.terms.count ≡ length (flat_map sentence_terms (flat_map sentences_in fs))
    → fields_allowed file ≡ all_of short_name fs && all_of short_sentence (flat_map sentences_in fs)
unfolding fields_allowed
fields_spelled file fs h e =
    let xs = flat_map sentences_in fs in
    let terms : terms_allowed file.text.records file.terms.records file.terms.count ≡ all_of short_sentence xs =
    ap (terms_allowed file.text.records file.terms.records) e
    ∙ ap (λ z. terms_allowed file.text.records z (length (flat_map sentence_terms xs))) h.sentences.terms
    ∙ terms_spelled file.text.records xs (sentences_readable file.text.records h.short xs h.sentences.small h.inside) h.inside in
    rw (functions_spelled file fs h, terms)
