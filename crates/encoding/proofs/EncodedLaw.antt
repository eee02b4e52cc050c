-- What `law_of` says of the law file of a text: 1, 4, 5, 8 or 9, in this order, or the text's own tree.
use Prim.Native.Nat.{ℕ, ◌*◌, ◌≤◌}
use mathlib.Core.List.{List, [], ◌∷◌, Mem, mem-cast, mem-cons_self, mem-cons_of_mem}
use mathlib.Core.Bool.{true≢false, Bool, true, false, not, ◌||◌}
use mathlib.Core.Path.{◌≡◌, refl, sym, ◌∙◌}
use native.Mathlib.Omega.{arith}
use lib.ListN.{length}
use lib.Dec.{ltb}
use borrow.Author.Tests.{ltb-false}
use Rattle.file.specs.Answer.{Answer, refused, given, refuse_if, ◌>>◌}
use Rattle.file.specs.Sections.{sections_of}
use Rattle.file.proofs.Answers.{never_both, pass_given}
use Rattle.law.specs.Tree.{Law}
use Rattle.law.specs.Law.{law_of}
use Rattle.law.specs.Depth.{depth_of}
use Rattle.grammar.specs.Grammar.{Text, Written}
use Rattle.encoding.specs.Encode.{records_bytes, functions_of, sentences_of, function_section, sentence_section, condition_section, term_section, encode}
use Rattle.encoding.specs.TextTree.{tree_of_text}
use Rattle.encoding.specs.LawOfText.{all_of, count_over, spellings_short, few_variables, law_of_text}
use Rattle.encoding.proofs.RecordLaws.{records_length}
use Rattle.encoding.proofs.SectionsCut.{sections_cut}
use Rattle.encoding.proofs.TermRecords.{sentences_records, terms_length}
use Rattle.encoding.proofs.SentencePlaces.{sentence_records_sized, condition_records_sized}
use Rattle.encoding.proofs.FunctionsRead.{function_records_sized}
use Rattle.encoding.proofs.FileRead.{file_of_text, Limits, text_fields, text_runs, text_blocks, text_tree, text_patterns}

neither : (a b : Bool) → a || b ≡ false → (a ≡ false) × (b ≡ false)
neither true b e = absurd (true≢false e)
neither false b e = (refl, e)

-- a refusal is this one, or comes later
one_of_lem : {A : Type 0} (m : ℕ) (ms : List ℕ) (n : ℕ) (t : Bool) (after : Answer A) → refuse_if m t >> after ≡ refused n → (after ≡ refused n → Mem n ms) → Mem n (m ∷ ms)
one_of_lem m ms n true after e later = let same : n ≡ m = cc in mem-cast same mem-cons_self
one_of_lem m ms n false after e later = mem-cons_of_mem m (later e)

module _ (b : List ℕ) (x : Text) (w : Written b x) (short : length b ≤ 4096) where
  abbrev f : ℕ
  f = length (function_section x)

  abbrev s : ℕ
  s = length (sentence_section x)

  abbrev c : ℕ
  c = length (condition_section x)

  abbrev k : ℕ
  k = length (term_section x)

  functions_long : length (records_bytes (function_section x)) ≡ 20 * f
  functions_long = records_length 20 (function_section x) (function_records_sized (functions_of x))

  sentences_long : length (records_bytes (sentence_section x)) ≡ 20 * s
  sentences_long = records_length 20 (sentence_section x) (sentence_records_sized (sentences_of x))

  conditions_long : length (records_bytes (condition_section x)) ≡ 16 * c
  conditions_long = records_length 16 (condition_section x) (condition_records_sized (sentences_of x))

  terms_long : length (records_bytes (term_section x)) ≡ 24 * k
  terms_long = terms_length (term_section x) (sentences_records (sentences_of x))

  -- the rows of the table from 5 on
  abbrev rows : Answer Law
  rows = do
    refuse_if 5 (not (spellings_short x))
    refuse_if 8 (ltb 32 (depth_of (tree_of_text x)))
    refuse_if 9 (not (all_of few_variables (sentences_of x)))
    given (tree_of_text x)

  -- neither 6 nor 7 comes, and the tree is the text's
  law_read : Limits x → sections_of (encode b x) ≡ given (file_of_text b x) → law_of (encode b x) ≡ rows
  unfolding law_of
  law_read l cut =
      rw (cut, text_fields b x w short l, text_runs b x w short l, text_blocks b x w short l, text_tree b x w short l, text_patterns b x w short l)

  encoded_sections : sections_of (encode b x) ≡ refuse_if 1 (ltb 16384 (length (encode b x))) >> (refuse_if 4 (count_over x) >> given (file_of_text b x))
  unfolding encode
  encoded_sections =
      sections_cut (length b) f s c k b (records_bytes (function_section x)) (records_bytes (sentence_section x)) (records_bytes (condition_section x)) (records_bytes (term_section x))
      (omega arith) functions_long sentences_long conditions_long terms_long short

  limits : count_over x ≡ false → Limits x
  limits e =
      let (e₄, e₅) = neither (ltb 64 f || ltb 128 s || ltb 128 c) (ltb 512 k) e in
      let (e₃, h₄) = neither (ltb 64 f || ltb 128 s) (ltb 128 c) e₄ in
      let (e₂, h₃) = neither (ltb 64 f) (ltb 128 s) e₃ in
      record { functions = ltb-false 64 f e₂; sentences = ltb-false 128 s h₃; conditions = ltb-false 128 c h₄; terms = ltb-false 512 k e₅ }

  refused_law : (n : ℕ) → sections_of (encode b x) ≡ refused n → law_of (encode b x) ≡ refused n
  unfolding law_of
  refused_law n e = rw e

  -- `law_of` of the file that a text becomes
  pub encoded_law : law_of (encode b x) ≡ law_of_text b x
  unfolding law_of_text
  encoded_law = go (ltb 16384 (length (encode b x))) (count_over x) refl encoded_sections
    where
      go : (p q : Bool) → count_over x ≡ q → sections_of (encode b x) ≡ refuse_if 1 p >> (refuse_if 4 q >> given (file_of_text b x))
          → law_of (encode b x) ≡ refuse_if 1 p >> (refuse_if 4 q >> rows)
      go true q h e = refused_law 1 e
      go false true h e = refused_law 4 e
      go false false h e = law_read (limits h) e

  -- of document 01's refusals 1 to 9 only these come
  pub only_these_refusals : (n : ℕ) → law_of (encode b x) ≡ refused n → Mem n (1 ∷ 4 ∷ 5 ∷ 8 ∷ 9 ∷ [])
  unfolding law_of_text
  only_these_refusals n e =
      one_of_lem 1 (4 ∷ 5 ∷ 8 ∷ 9 ∷ []) n (ltb 16384 (length (encode b x))) (refuse_if 4 (count_over x) >> rows) (sym encoded_law ∙ e)
      (λ e₁. one_of_lem 4 (5 ∷ 8 ∷ 9 ∷ []) n (count_over x) rows e₁
      (λ e₄. one_of_lem 5 (8 ∷ 9 ∷ []) n (not (spellings_short x)) _ e₄
      (λ e₅. one_of_lem 8 (9 ∷ []) n (ltb 32 (depth_of (tree_of_text x))) _ e₅
      (λ e₈. one_of_lem 9 [] n (not (all_of few_variables (sentences_of x))) (given (tree_of_text x)) e₈
      (λ e₉. absurd (never_both (tree_of_text x) n (sym e₉)))))))

  -- what is accepted is the text's tree
  pub encoded_tree : (law : Law) → law_of (encode b x) ≡ given law → law ≡ tree_of_text x
  unfolding law_of_text
  encoded_tree law e =
      pass_given 1 (ltb 16384 (length (encode b x))) (refuse_if 4 (count_over x) >> rows) law (sym encoded_law ∙ e)
      (λ _ e₁. pass_given 4 (count_over x) rows law e₁
      (λ _ e₄. pass_given 5 (not (spellings_short x)) _ law e₄
      (λ _ e₅. pass_given 8 (ltb 32 (depth_of (tree_of_text x))) _ law e₅
      (λ _ e₈. pass_given 9 (not (all_of few_variables (sentences_of x))) (given (tree_of_text x)) law e₈ (λ _ e₉. given_same law (tree_of_text x) e₉)))))
    where
      given_same : (l m : Law) → given m ≡ given l → l ≡ m
      given_same l m h = cc
