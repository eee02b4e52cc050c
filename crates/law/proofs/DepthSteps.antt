-- Whether a run, sentences and conditions stay within a depth, a record, a sentence and a condition at a time.
use Prim.Native.Nat.{ℕ, zero, suc, ◌+◌, ◌*◌, ◌-◌, ◌≤◌, ◌<◌, max}
use mathlib.Core.List.{List}
use mathlib.Core.Bool.{Bool, true, false, ◌&&◌}
use mathlib.Core.Path.{◌≡◌, refl, sym, ap, ◌∙◌}
use native.Mathlib.Omega.{arith}
use native.Mathlib.Nat.{add-zero}
use native.Mathlib.Numerals.{add-one}
use native.Mathlib.Decide.{dec_le}
use lib.ListN.{length, take, drop, length-take}
use lib.Dec.{leb}
use borrow.Author.Tests.{le-leb, lt-leb}
use Rattle.file.specs.Word.{word_at}
use Rattle.file.specs.Forest.{contents, rest}
use Rattle.file.specs.Head.{term_from, term_at}
use Rattle.file.specs.Sections.{File}
use Rattle.file.specs.declared.Term.{Term}
use Rattle.file.specs.declared.Term.TheVariants.{Symbol, SVariable, TVariable, EVariable, Bracket, Call, Block}
use Rattle.law.specs.Tree.{Mark, Run, empty, Sentences, no_sentence, keep}
use Rattle.law.specs.Code.Terms.{first_term, sentences_in}
use Rattle.law.specs.Places.{
  block_first,
  sentences_of,
  first_sentence,
  conditions_of,
  first_condition,
  pattern_at,
  result_at,
  pattern_part,
  result_part,
  condition_result_at,
  condition_result_size,
  condition_result_part,
  condition_pattern_part,
}
use Rattle.law.specs.Runs.{end_of}
use Rattle.law.specs.Reading.{mark_at, term_run, run_of, own, sentences_at, conditions_from, tree_of}
use Rattle.law.specs.Depth.{deepest, deepest_sentences, deepest_conditions, depth_of}
use Rattle.law.specs.Code.Index.{Readable, PartAt}
use Rattle.law.proofs.RunLaws.{run_empty, run_node}
use Rattle.law.proofs.Terms.{InsideAllowed}
use Rattle.law.proofs.Functions.{functions_at, tree_functions_lem, function_reads, functions_end, kept_reads}
use Rattle.law.proofs.Parts.{from, from_all, from_length, from_from, part_word}
use Rattle.law.proofs.PartLaws.{part_length, part_inside, part_end_lem, part_within, rest_part, part_leaf}

-- two numbers are within a bound exactly when the larger is
pub max_within : (a b bound : ℕ) → leb (max a b) bound ≡ (leb a bound && leb b bound)
max_within a b bound = go (dec_le a bound) (dec_le b bound)
  where
    go : Dec (a ≤ bound) → Dec (b ≤ bound) → leb (max a b) bound ≡ (leb a bound && leb b bound)
    go (yes p) (yes q) = rw (le-leb a bound p, le-leb b bound q, le-leb (max a b) bound (omega arith))
    go (yes p) (no q) = rw (le-leb a bound p, lt-leb b bound (omega arith), lt-leb (max a b) bound (omega arith))
    go (no p) (yes q) = rw (lt-leb a bound (omega arith), lt-leb (max a b) bound (omega arith))
    go (no p) (no q) = rw (lt-leb a bound (omega arith), lt-leb (max a b) bound (omega arith))

and_assoc : (a b c : Bool) → (a && (b && c)) ≡ (a && b && c)
and_assoc true b c = refl
and_assoc false b c = refl

-- three numbers
three_within : (a b c bound : ℕ) → leb (max a (max b c)) bound ≡ (leb a bound && leb b bound && leb c bound)
three_within a b c bound = rw (max_within a (max b c) bound, max_within b c bound) (and_assoc (leb a bound) (leb b bound) (leb c bound))

-- the last of four
last_within : (a b c e bound : ℕ) → leb (max a (max b (max c e))) bound ≡ (leb (max a (max b (max c 0))) bound && leb e bound)
last_within a b c e bound =
    rw (
      max_within a (max b (max c e)) bound,
      max_within b (max c e) bound,
      max_within c e bound,
      max_within a (max b (max c 0)) bound,
      max_within b (max c 0) bound,
      max_within c 0 bound,
      le-leb 0 bound (omega arith),
    )
    (go (leb a bound) (leb b bound) (leb c bound) (leb e bound))
  where
    go : (w x y z : Bool) → (w && (x && (y && z))) ≡ ((w && (x && (y && true))) && z)
    go true true true z = refl
    go true true false z = refl
    go true false y z = refl
    go false x y z = refl

max_assoc : (a b c : ℕ) → max a (max b c) ≡ max (max a b) c
max_assoc a b c = omega arith

-- the last of four apart
last_apart : (a b c e : ℕ) → max a (max b (max c e)) ≡ max (max a (max b (max c 0))) e
last_apart a b c e =
    let same : max c 0 ≡ c = omega arith in
    rw (same, max_assoc b c e) (max_assoc a (max b c) e)

-- what a term's parts say together, where the term itself is within the bound: those inside it, and a block's sentences
abbrev two : Run → Sentences → ℕ → ℕ → Bool
two inside ss d bound = leb (deepest inside (suc d)) bound && leb (deepest_sentences ss (suc d)) bound

term_leaf : (d bound : ℕ) → d ≤ bound → leb (max d 0) bound ≡ two empty no_sentence d bound
unfolding deepest
term_leaf d bound h = rw (max_within d 0 bound, le-leb d bound h, le-leb 0 bound (omega arith))

term_holds : (inside : Run) (d bound : ℕ) → d ≤ bound → leb (max d (max (deepest inside (suc d)) 0)) bound ≡ two inside no_sentence d bound
unfolding deepest
term_holds inside d bound h = rw (max_within d _ bound, max_within (deepest inside (suc d)) 0 bound, le-leb d bound h)

term_block : (inside : Run) (ss : Sentences) (d bound : ℕ) → d ≤ bound
    → leb (max d (max (deepest inside (suc d)) (max (deepest_sentences ss (suc d)) 0))) bound ≡ two inside ss d bound
term_block inside ss d bound h =
    let same : max (deepest_sentences ss (suc d)) 0 ≡ deepest_sentences ss (suc d) = omega arith in
    rw (same, max_within d _ bound, max_within (deepest inside (suc d)) (deepest_sentences ss (suc d)) bound, le-leb d bound h)

-- a run's first term, of any kind: nothing is inside a symbol or a variable, and only a block has sentences
term_within : (text : List ℕ) (give : ℕ → ℕ → Sentences) (at : ℕ) (mark : Mark) (x : Term) (n : ℕ) (inside after : Run) (d bound : ℕ)
    → d ≤ bound
    → InsideAllowed x n → (n ≡ 0 → inside ≡ empty) → give at 0 ≡ no_sentence
    → leb (deepest (first_term (term_run text give at mark x inside after)) d) bound ≡ two inside (give at (sentences_in x)) d bound
unfolding deepest first_term
term_within text give at mark (Symbol x) n inside after d bound h a e o = rw (e a, o) (term_leaf d bound h)
term_within text give at mark (SVariable x y) n inside after d bound h a e o = rw (e a, o) (term_leaf d bound h)
term_within text give at mark (TVariable x y) n inside after d bound h a e o = rw (e a, o) (term_leaf d bound h)
term_within text give at mark (EVariable x y) n inside after d bound h a e o = rw (e a, o) (term_leaf d bound h)
term_within text give at mark Bracket n inside after d bound h a e o = rw o (term_holds inside d bound h)
term_within text give at mark (Call x y) n inside after d bound h a e o = rw o (term_holds inside d bound h)
term_within text give at mark (Block m) n inside after d bound h a e o = term_block inside (give at m) d bound h

-- a run is as deep as its first term and the terms after it
term_and_rest : (text : List ℕ) (give : ℕ → ℕ → Sentences) (at : ℕ) (mark : Mark) (x : Term) (inside after : Run) (d : ℕ)
    → deepest (term_run text give at mark x inside after) d
    ≡ max (deepest (first_term (term_run text give at mark x inside after)) d) (deepest after d)
unfolding deepest first_term
term_and_rest text give at mark (Symbol x) inside after d = omega arith
term_and_rest text give at mark (SVariable x y) inside after d = omega arith
term_and_rest text give at mark (TVariable x y) inside after d = omega arith
term_and_rest text give at mark (EVariable x y) inside after d = omega arith
term_and_rest text give at mark Bracket inside after d = omega arith
term_and_rest text give at mark (Call x y) inside after d = omega arith
term_and_rest text give at mark (Block m) inside after d = last_apart d (deepest inside (suc d)) (deepest_sentences (give at m) (suc d)) (deepest after d)

-- a term is as deep as the run that it stands in
term_deep : (text : List ℕ) (give : ℕ → ℕ → Sentences) (at : ℕ) (mark : Mark) (x : Term) (inside after : Run) (d : ℕ)
    → d ≤ deepest (term_run text give at mark x inside after) d
unfolding deepest
term_deep text give at mark (Symbol x) inside after d = omega arith
term_deep text give at mark (SVariable x y) inside after d = omega arith
term_deep text give at mark (TVariable x y) inside after d = omega arith
term_deep text give at mark (EVariable x y) inside after d = omega arith
term_deep text give at mark Bracket inside after d = omega arith
term_deep text give at mark (Call x y) inside after d = omega arith
term_deep text give at mark (Block m) inside after d = omega arith

-- a record of a kind below 6 is a symbol or a variable, which is no deeper than the run
leaf_deep : (text : List ℕ) (give : ℕ → ℕ → Sentences) (at : ℕ) (mark : Mark) (kind a b : ℕ) (inside after : Run) (d : ℕ) → kind < 6
    → deepest (first_term (term_run text give at mark (term_from kind a b) inside after)) d ≡ d
unfolding deepest first_term term_from
leaf_deep text give at mark zero a b inside after d h = omega arith
leaf_deep text give at mark (suc zero) a b inside after d h = omega arith
leaf_deep text give at mark (suc (suc zero)) a b inside after d h = omega arith
leaf_deep text give at mark (suc (suc (suc zero))) a b inside after d h = omega arith
leaf_deep text give at mark (suc (suc (suc (suc zero)))) a b inside after d h = omega arith
leaf_deep text give at mark (suc (suc (suc (suc (suc zero))))) a b inside after d h = omega arith
leaf_deep text give at mark (suc (suc (suc (suc (suc (suc kind)))))) a b inside after d h = absurd (omega arith)

module _ (file : File) where
  -- a part of the term records, of which d brackets, calls and blocks are around
  abbrev pub run_within : ℕ → List ℕ → ℕ → Bool
  run_within at p d = leb (deepest (run_of file (own file) at p) d) 32

  -- its first term
  abbrev pub first_within : ℕ → List ℕ → ℕ → Bool
  first_within at p d = leb (deepest (first_term (run_of file (own file) at p)) d) 32

  -- n sentences from s on
  abbrev pub sentences_within : ℕ → ℕ → ℕ → Bool
  sentences_within n s d = leb (deepest_sentences (keep n (sentences_at file s)) d) 32

  -- n conditions of a sentence s, from the condition c on
  abbrev pub conditions_within : ℕ → ℕ → ℕ → ℕ → Bool
  conditions_within s n c d = leb (deepest_conditions (conditions_from file (own file) s n c) d) 32

  -- no records
  pub run_none : (at d : ℕ) (p : List ℕ) → length p < 24 → run_within at p d ≡ true
  unfolding deepest
  run_none at d p h = rw (run_empty file (own file) at p h)

  -- some records that are too deep themselves
  pub run_over : (at d : ℕ) (p : List ℕ) → 24 ≤ length p → 32 < d → run_within at p d ≡ false
  run_over at d p h o =
      let inside : Run = run_of file (own file) (at + 1) (contents 24 end_of p) in
      let after : Run = run_of file (own file) (at + 1 + word_at p 12) (rest 24 end_of p) in
      let low = term_deep file.text.records (own file) at (mark_at at p 16) (term_at p 0) inside after d in
      let all : Run = term_run file.text.records (own file) at (mark_at at p 16) (term_at p 0) inside after in
      rw (run_node file (own file) at p h) (lt-leb (deepest all d) 32 (omega arith))

  pub sentences_none : (s d : ℕ) → sentences_within 0 s d ≡ true
  unfolding deepest keep
  sentences_none s d = refl

  -- the first term of some records, and the terms after it
  run_step : (at d : ℕ) (p : List ℕ) → 24 ≤ length p
      → run_within at p d ≡ (first_within at p d && run_within (at + 1 + word_at p 12) (rest 24 end_of p) d)
  run_step at d p h =
      let inside : Run = run_of file (own file) (at + 1) (contents 24 end_of p) in
      let after : Run = run_of file (own file) (at + 1 + word_at p 12) (rest 24 end_of p) in
      rw (run_node file (own file) at p h) (
      rw (term_and_rest file.text.records (own file) at (mark_at at p 16) (term_at p 0) inside after d)
      (max_within _ (deepest after d) 32))

  -- a first term that is a symbol or a variable
  leaf_within : (at d : ℕ) (p : List ℕ) → 24 ≤ length p → d ≤ 32 → word_at p 0 < 6 → first_within at p d ≡ true
  unfolding term_at
  leaf_within at d p h l kind =
      rw (
        run_node file (own file) at p h,
        leaf_deep file.text.records (own file) at (mark_at at p 16) (word_at p 0) (word_at p 4) (word_at p 8) _ _ d kind,
      ) (le-leb d 32 l)

  own_none : (t : ℕ) → own file t 0 ≡ no_sentence
  unfolding own keep
  own_none t = refl

  contents_none : (at : ℕ) (p : List ℕ) → word_at p 12 ≡ 0 → run_of file (own file) at (contents 24 end_of p) ≡ empty
  unfolding end_of
  contents_none at p z = run_empty file (own file) at (contents 24 end_of p) (omega (arith, length-take (end_of p - 24) (drop 24 p), z))

  -- whether a part is within the bound is decided by what is left of it after its first k records, which is a part too
  pub record LeftWithin (at d : ℕ) (p : List ℕ) (k : ℕ) : Type 0 where
    pub part : PartAt file (at + k) (from (24 * k) p)
    pub within : 24 * k ≤ length p
    pub left : run_within at p d ≡ run_within (at + k) (from (24 * k) p) d

  -- nothing is decided yet
  pub left_whole : (at d : ℕ) (p : List ℕ) → PartAt file at p → LeftWithin at d p 0
  left_whole at d p part = record {
    part = rw (from_all p, add-zero at) part;
    within = omega arith;
    left = rw (from_all p, add-zero at);
  }

  module _ (readable : Readable file) where
    -- the first term of a part: what is inside it, and its sentences; e is where its contents end
    first_step : (at d e : ℕ) (p : List ℕ) → PartAt file at p → 24 ≤ length p → e ≡ end_of p → d ≤ 32
        → first_within at p d
        ≡ (run_within (at + 1) (take (e - 24) (drop 24 p)) (d + 1) && sentences_within (sentences_in (term_at p 0)) (block_first file at) (d + 1))
    unfolding own
    first_step at d e p part some end h =
        rw (end, add-one d, run_node file (own file) at p some)
        (term_within file.text.records (own file) at _ (term_at p 0) (word_at p 12) _ _ d 32 h
        (part_inside file readable at p part some)
        (contents_none (at + 1) p)
        (own_none at))

    -- the returns of `term_depth`: inner is what was said of what is inside the term
    module _ {at d e : ℕ} {p : List ℕ} (part : PartAt file at p) (some : 24 ≤ length p) (h : d ≤ 32) (end : e ≡ end_of p)
        {inner : Bool} (told : inner ≡ run_within (at + 1) (take (e - 24) (drop 24 p)) (d + 1)) where
      -- something inside it is too deep
      pub term_over : inner ≡ false → false ≡ first_within at p d
      term_over q = sym (first_step at d e p part some end h ∙ rw (← told, q))

      module _ {count : ℕ} (inside : inner ≡ true) (counted : count ≡ sentences_in (term_at p 0)) where
        decides : first_within at p d ≡ sentences_within count (block_first file at) (d + 1)
        decides = first_step at d e p part some end h ∙ rw (← told, inside, counted)

        -- it has no sentences
        pub term_alone : count ≡ 0 → true ≡ first_within at p d
        term_alone z = sym (decides ∙ rw z (sentences_none (block_first file at) (d + 1)))

        -- else its sentences decide
        pub term_sentences : {first : ℕ} {r : Bool} → first ≡ block_first file at → r ≡ sentences_within count first (d + 1)
            → r ≡ first_within at p d
        term_sentences f q = q ∙ sym (decides ∙ rw f)

    module _ {at d k : ℕ} {p : List ℕ} (so_far : LeftWithin at d p k) where
      -- no record is left
      pub left_none : length p ≤ 24 * k → true ≡ run_within at p d
      left_none h = sym (so_far.left ∙ run_none (at + k) d (from (24 * k) p) (omega (arith, from_length (24 * k) p)))

      module _ (more : 24 * k < length p) where
        -- a whole record is left
        pub left_some : 24 ≤ length (from (24 * k) p)
        left_some = omega (arith, from_length (24 * k) p, part_length file readable (at + k) (from (24 * k) p) so_far.part)

        pub left_room : 24 * k + 24 ≤ length p
        left_room = omega (arith, from_length (24 * k) p, so_far.within, left_some)

        -- its contents end inside the part
        pub left_end : {n : ℕ} → n ≡ word_at (from (24 * k) p) 12 → 24 * (k + (1 + n)) ≤ length p
        left_end told = omega (arith, told, from_length (24 * k) p, part_within file readable (at + k) (from (24 * k) p) so_far.part left_some)

        -- the first term that is left is too deep
        pub left_over : first_within (at + k) (from (24 * k) p) d ≡ false → false ≡ run_within at p d
        left_over h = sym (so_far.left ∙ run_step (at + k) d (from (24 * k) p) left_some ∙ rw h)

        -- it is not
        pub left_after_lem : {n : ℕ} → n ≡ word_at (from (24 * k) p) 12 → first_within (at + k) (from (24 * k) p) d ≡ true
            → LeftWithin at d p (k + (1 + n))
        left_after_lem {n} told h =
            let q : List ℕ = from (24 * k) p in
            let end : end_of q ≡ 24 + 24 * n = part_end_lem file readable (at + k) q so_far.part left_some ∙ ap (λ w. 24 + 24 * w) (sym told) in
            let bytes : 24 * k + (24 + 24 * n) ≡ 24 * (k + (1 + n)) = omega arith in
            let same : rest 24 end_of q ≡ from (24 * (k + (1 + n))) p =
            ap (λ e. from e q) end ∙ from_from (24 + 24 * n) (24 * k) p ∙ ap (λ m. from m p) bytes in
            let place : at + k + 1 + word_at q 12 ≡ at + (k + (1 + n)) = omega (arith, told) in
            record {
              part = rw (place, same) at (rest_part file readable (at + k) q so_far.part left_some);
              within = left_end told;
              left = so_far.left ∙ run_step (at + k) d q left_some ∙ rw (h, place, same);
            }

        -- it is a symbol or a variable
        pub left_leaf : {kind : ℕ} → d ≤ 32 → kind ≡ word_at p (24 * k) → kind < 6 → LeftWithin at d p (k + 1)
        left_leaf l told small =
            let word : word_at (from (24 * k) p) 0 ≡ word_at p (24 * k) =
            part_word (24 * k) (length p - 24 * k) 0 p (omega (arith, left_room)) ∙ ap (word_at p) (add-zero (24 * k)) in
            let h : word_at (from (24 * k) p) 0 < 6 = omega (arith, word, told) in
            let none : word_at (from (24 * k) p) 12 ≡ 0 = part_leaf file readable (at + k) (from (24 * k) p) so_far.part left_some h in
            left_after_lem {n = 0} (sym none) (leaf_within (at + k) d (from (24 * k) p) left_some l h)

    -- one sentence, and the sentences after it
    pub sentences_step : (n s d : ℕ) → s < file.sentences.count → sentences_within (suc n) s d ≡ (sentences_within 1 s d && sentences_within n (suc s) d)
    unfolding deepest keep
    sentences_step n s d h =
        let pattern : ℕ = deepest (run_of file (own file) (pattern_at file s) (pattern_part file s)) d in
        let conditions : ℕ = deepest_conditions (conditions_from file (own file) s (conditions_of file s) (first_condition file s)) d in
        let result : ℕ = deepest (run_of file (own file) (result_at file s) (result_part file s)) d in
        rw (kept_reads file readable n s h, kept_reads file readable 0 s h) (last_within pattern conditions result _ 32)

    -- its pattern, its conditions and its result
    pub sentence_step : (s d : ℕ) → s < file.sentences.count
        → sentences_within 1 s d
        ≡ (run_within (pattern_at file s) (pattern_part file s) d
        && conditions_within s (conditions_of file s) (first_condition file s) d
        && run_within (result_at file s) (result_part file s) d)
    unfolding deepest keep
    sentence_step s d h = rw (kept_reads file readable 0 s h) (
        let pattern : ℕ = deepest (run_of file (own file) (pattern_at file s) (pattern_part file s)) d in
        let conditions : ℕ = deepest_conditions (conditions_from file (own file) s (conditions_of file s) (first_condition file s)) d in
        let result : ℕ = deepest (run_of file (own file) (result_at file s) (result_part file s)) d in
        let same : max pattern (max conditions (max result 0)) ≡ max pattern (max conditions result) = omega arith in
        rw (same, three_within pattern conditions result 32))

  -- one condition, and the conditions after it
  pub conditions_step : (s n c d : ℕ)
      → conditions_within s (suc n) c d
      ≡ (run_within (condition_result_at file s c) (condition_result_part file s c) d
      && run_within (condition_result_at file s c + condition_result_size file c) (condition_pattern_part file s c) d
      && conditions_within s n (suc c) d)
  unfolding deepest conditions_from
  conditions_step s n c d =
      let result : Run = run_of file (own file) (condition_result_at file s c) (condition_result_part file s c) in
      let pattern : Run = run_of file (own file) (condition_result_at file s c + condition_result_size file c) (condition_pattern_part file s c) in
      three_within (deepest result d) (deepest pattern d) _ 32

  pub conditions_none : (s c d : ℕ) → conditions_within s 0 c d ≡ true
  unfolding deepest conditions_from
  conditions_none s c d = refl

  -- the conditions that a loop has left, after i of them
  pub conditions_next : (s count first i d : ℕ) → i < count
      → conditions_within s (count - i) (first + i) d
      ≡ (run_within (condition_result_at file s (first + i)) (condition_result_part file s (first + i)) d
      && run_within (condition_result_at file s (first + i) + condition_result_size file (first + i)) (condition_pattern_part file s (first + i)) d
      && conditions_within s (count - (i + 1)) (first + (i + 1)) d)
  conditions_next s count first i d h =
      let left : count - i ≡ suc (count - (i + 1)) = omega arith in
      let next : first + (i + 1) ≡ suc (first + i) = omega arith in
      rw (left, next) (conditions_step s (count - (i + 1)) (first + i) d)

  -- the sentences that a loop has left
  pub sentences_next : Readable file → (count first i d : ℕ) → i < count → first + count ≤ file.sentences.count
      → sentences_within (count - i) (first + i) d ≡ (sentences_within 1 (first + i) d && sentences_within (count - (i + 1)) (first + (i + 1)) d)
  sentences_next readable count first i d h l =
      let left : count - i ≡ suc (count - (i + 1)) = omega arith in
      let next : first + (i + 1) ≡ suc (first + i) = omega arith in
      rw (left, next) (sentences_step readable (count - (i + 1)) (first + i) d (omega arith))

  -- the same work, written with numbers that are the same
  pub conditions_same : (s m n b c d : ℕ) → m ≡ n → b ≡ c → conditions_within s m b d ≡ conditions_within s n c d
  conditions_same s m n b c d p q = rw (p, q)

  pub sentences_same : (m n b c d : ℕ) → m ≡ n → b ≡ c → sentences_within m b d ≡ sentences_within n c d
  sentences_same m n b c d p q = rw (p, q)

  -- the functions that a loop has left, after f of them
  abbrev pub functions_within : ℕ → Bool
  functions_within f = leb (depth_of (functions_at file f)) 32

  pub functions_start_lem : leb (depth_of (tree_of file)) 32 ≡ functions_within 0
  functions_start_lem = rw (tree_functions_lem file)

  pub functions_next : (f : ℕ) → f < file.functions.count
      → functions_within f ≡ (sentences_within (sentences_of file f) (first_sentence file f) 0 && functions_within (f + 1))
  unfolding depth_of
  functions_next f h =
      rw (add-one f, function_reads file f h)
      (max_within (deepest_sentences (keep (sentences_of file f) (sentences_at file (first_sentence file f))) 0) (depth_of (functions_at file (suc f))) 32)

  pub functions_none : (f : ℕ) → file.functions.count ≤ f → functions_within f ≡ true
  unfolding depth_of
  functions_none f h = rw (functions_end file f h)
