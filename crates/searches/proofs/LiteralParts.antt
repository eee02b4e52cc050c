-- Literal parts of the term records (matching/specs/Code/Part.antt), record by record, and literal matching of them.
use Prim.Native.Nat.{ℕ, zero, suc, ◌+◌, ◌-◌, ◌≤◌, ◌<◌}
use mathlib.Core.Bool.{Bool, true, false, ◌&&◌}
use mathlib.Core.List.{List, [], ◌∷◌}
use mathlib.Core.Path.{◌≡◌, refl, sym, ap, ◌∙◌}
use native.Mathlib.Omega.{arith}
use lib.ListN.{length, take, drop}
use Rattle.file.specs.Word.{word_at}
use Rattle.file.specs.Forest.{Forest, end, node, contents, rest}
use Rattle.file.specs.Head.{term_from, term_at}
use Rattle.file.specs.declared.Term.{Term}
use Rattle.file.specs.declared.Term.TheVariants.{Symbol as Symbolic, SVariable, TVariable, EVariable, Bracket, Call, Block}
use Rattle.law.specs.Tree.{Mark, Run, Sentences, no_sentence}
use Rattle.law.specs.Expression.{Terms, symbol, brackets}
use Rattle.law.specs.Runs.{end_of, term_forest}
use Rattle.law.specs.Code.Whole.{term_parts}
use Rattle.law.specs.Reading.{mark_at, term_run, forest_run}
use Rattle.law.proofs.RunLaws.{terms_none, terms_node}
use Rattle.law.proofs.WholeTerms.{parts_none, parts_node, each_part}
use Rattle.law.specs.Symbol.{Symbol}
use Rattle.matching.specs.Pattern.{Pattern}
use Rattle.matching.specs.Match.{none_bound}
use Rattle.matching.specs.Literal.{is_literal, literal_terms, literal_matches}
use Rattle.matching.specs.Code.Part.{row_of, literal_part, symbols_of, symbol_at}
use Rattle.matching.specs.Code.Step.{found}
use Rattle.searches.specs.Code.Asked.{some_holds, resume}
use Rattle.matching.proofs.TermLaws.{NoLonger, no_longer}
use Rattle.searches.proofs.LiteralSearch.{literal_search}

-- a term before the runs inside and after it: a symbol is literal, brackets are if their contents are
abbrev literal_term : Term → Bool → Bool → Bool
literal_term (Symbolic x) inside after = after
literal_term (SVariable a b) inside after = false
literal_term (TVariable a b) inside after = false
literal_term (EVariable a b) inside after = false
literal_term Bracket inside after = inside && after
literal_term (Call a b) inside after = false
literal_term (Block n) inside after = false

term_literal : (text : List ℕ) (own : ℕ → ℕ → Sentences) (at : ℕ) (mark : Mark) (x : Term) (inside after : Run)
    → is_literal (term_run text own at mark x inside after) ≡ literal_term x (is_literal inside) (is_literal after)
unfolding is_literal
term_literal text own at mark (Symbolic x) inside after = refl
term_literal text own at mark (SVariable a b) inside after = refl
term_literal text own at mark (TVariable a b) inside after = refl
term_literal text own at mark (EVariable a b) inside after = refl
term_literal text own at mark Bracket inside after = refl
term_literal text own at mark (Call a b) inside after = refl
term_literal text own at mark (Block n) inside after = refl

-- what is told of a run term by term, alike with two texts: record numbers, and what blocks own, do not matter
module _ {X : Type 0} (told : Run → X) (of-term : Term → X → X → X) (text words : List ℕ)
    (one : (own : ℕ → ℕ → Sentences) (at : ℕ) (mark : Mark) (x : Term) (inside after : Run)
    → told (term_run text own at mark x inside after) ≡ of-term x (told inside) (told after))
    (two : (own : ℕ → ℕ → Sentences) (at : ℕ) (mark : Mark) (x : Term) (inside after : Run)
    → told (term_run words own at mark x inside after) ≡ of-term x (told inside) (told after)) where
  forest_told : (own mine : ℕ → ℕ → Sentences) (at here : ℕ) (f : Forest) → told (forest_run text own at f) ≡ told (forest_run words mine here f)
  unfolding forest_run
  forest_told own mine at here end = refl
  forest_told own mine at here (node s inside after) =
      rw (
        one own at (mark_at at s 16) (term_at s 0) (forest_run text own (at + 1) inside) (forest_run text own (at + 1 + word_at s 12) after),
        two mine here (mark_at here s 16) (term_at s 0) (forest_run words mine (here + 1) inside) (forest_run words mine (here + 1 + word_at s 12) after),
        forest_told own mine (at + 1) (here + 1) inside,
        forest_told own mine (at + 1 + word_at s 12) (here + 1 + word_at s 12) after,
      )

-- a part is literal exactly when its run is
pub part_literal : (text : List ℕ) (own : ℕ → ℕ → Sentences) (at : ℕ) (part : List ℕ) → is_literal (forest_run text own at (term_forest part)) ≡ literal_part part
unfolding literal_part
part_literal text own at part =
    forest_told is_literal literal_term text [] (term_literal text) (term_literal []) own (λ t n. no_sentence) at 0 (term_forest part)

-- a term before the symbols inside and after it
abbrev symbol_terms : List ℕ → Term → Terms Symbol → Terms Symbol → Terms Symbol
symbol_terms text (Symbolic x) inside after = symbol (symbol_at text x) after
symbol_terms text (SVariable a b) inside after = after
symbol_terms text (TVariable a b) inside after = after
symbol_terms text (EVariable a b) inside after = after
symbol_terms text Bracket inside after = brackets inside after
symbol_terms text (Call a b) inside after = after
symbol_terms text (Block n) inside after = after

term_symbols : (text : List ℕ) (own : ℕ → ℕ → Sentences) (at : ℕ) (mark : Mark) (x : Term) (inside after : Run)
    → literal_terms (term_run text own at mark x inside after) ≡ symbol_terms text x (literal_terms inside) (literal_terms after)
unfolding literal_terms
term_symbols text own at mark (Symbolic x) inside after = refl
term_symbols text own at mark (SVariable a b) inside after = refl
term_symbols text own at mark (TVariable a b) inside after = refl
term_symbols text own at mark (EVariable a b) inside after = refl
term_symbols text own at mark Bracket inside after = refl
term_symbols text own at mark (Call a b) inside after = refl
term_symbols text own at mark (Block n) inside after = refl

-- a part's row of symbols is that of its run
pub part_symbols : (text : List ℕ) (own : ℕ → ℕ → Sentences) (at : ℕ) (part : List ℕ)
    → literal_terms (forest_run text own at (term_forest part)) ≡ symbols_of text part
unfolding symbols_of
part_symbols text own at part =
    forest_told literal_terms (symbol_terms text) text text (term_symbols text) (term_symbols text) own (λ t n. no_sentence) at 0 (term_forest part)

-- ---- the first record

-- too few bytes for a record are literal
pub literal_none : (part : List ℕ) → length part < 24 → literal_part part ≡ true
unfolding literal_part forest_run is_literal
literal_none part h = rw (terms_none part h)

-- the first record decides, with its contents and the rest
literal_node : (part : List ℕ) → 24 ≤ length part
    → literal_part part ≡ literal_term (term_at part 0) (literal_part (contents 24 end_of part)) (literal_part (rest 24 end_of part))
unfolding forest_run
literal_node part h =
    let own : ℕ → ℕ → Sentences = λ t n. no_sentence in
    rw (
      ← part_literal [] own 0 part,
      terms_node part h,
      term_literal [] own 0 (mark_at 0 part 16) (term_at part 0) (forest_run [] own (0 + 1) (term_forest (contents 24 end_of part)))
          (forest_run [] own (0 + 1 + word_at part 12) (term_forest (rest 24 end_of part))),
      part_literal [] own (0 + 1) (contents 24 end_of part),
      part_literal [] own (0 + 1 + word_at part 12) (rest 24 end_of part),
    )

-- a term by its kind
symbol_literal : (kind a b : ℕ) (inside after : Bool) → kind ≤ 2 → literal_term (term_from kind a b) inside after ≡ after
unfolding term_from
symbol_literal zero a b inside after h = refl
symbol_literal (suc zero) a b inside after h = refl
symbol_literal (suc (suc zero)) a b inside after h = refl
symbol_literal (suc (suc (suc k))) a b inside after h = absurd (omega arith)

other_literal : (kind a b : ℕ) (inside after : Bool) → 2 < kind → (kind ≡ 6 → ⊥) → literal_term (term_from kind a b) inside after ≡ false
unfolding term_from
other_literal zero a b inside after h n = absurd (omega arith)
other_literal (suc zero) a b inside after h n = absurd (omega arith)
other_literal (suc (suc zero)) a b inside after h n = absurd (omega arith)
other_literal (suc (suc (suc zero))) a b inside after h n = refl
other_literal (suc (suc (suc (suc zero)))) a b inside after h n = refl
other_literal (suc (suc (suc (suc (suc zero))))) a b inside after h n = refl
other_literal (suc (suc (suc (suc (suc (suc zero)))))) a b inside after h n = absurd (n refl)
other_literal (suc (suc (suc (suc (suc (suc (suc zero))))))) a b inside after h n = refl
other_literal (suc (suc (suc (suc (suc (suc (suc (suc k)))))))) a b inside after h n = refl

-- ---- what `is_literal` goes over: each term, with what the part has behind it

unfoldable pub parts_literal : List (List ℕ) → Bool
parts_literal [] = true
parts_literal (s ∷ ss) = literal_term (term_at s 0) (literal_part (contents 24 end_of s)) (parts_literal ss)

-- the part is literal exactly when they are
pub literal_parts : (part : List ℕ) → literal_part part ≡ parts_literal (term_parts part)
unfolding parts_literal
literal_parts =
    each_part (λ part. literal_part part ≡ parts_literal (term_parts part))
    (λ part short. rw (literal_none part short, parts_none part short))
    (λ part long after. rw (literal_node part long, parts_node part long) (ap (literal_term (term_at part 0) (literal_part (contents 24 end_of part))) after))

-- some terms are gone through, and these are left
pub record LeftOf (part left : List ℕ) : Type 0 where
  pub same : literal_part part ≡ parts_literal (term_parts left)
  pub short : NoLonger (length part) (term_parts left)

pub left_all : (part : List ℕ) → LeftOf part part
left_all part = record { same = literal_parts part; short = no_longer (length part) part (omega arith) }

-- nothing is left
pub literal_all : {part left : List ℕ} → LeftOf part left → term_parts left ≡ [] → true ≡ literal_part part
unfolding parts_literal
literal_all so_far none = sym (so_far.same ∙ ap parts_literal none)

-- a term, with what is behind it; e is where its contents end
module _ {part left : List ℕ} (so_far : LeftOf part left) (term after : List ℕ) (here : term_parts left ≡ term ∷ term_parts after) where
  pub term_short : length term ≤ length part
  term_short = (rw here at so_far.short).0

  module _ {kind e : ℕ} (told : kind ≡ word_at term 0) (ends : e ≡ end_of term) where
    by_kind : literal_part part
        ≡ literal_term (term_from kind (word_at term 4) (word_at term 8)) (literal_part (take (e - 24) (drop 24 term))) (parts_literal (term_parts after))
    unfolding parts_literal term_at
    by_kind = rw (told, ends) (so_far.same ∙ ap parts_literal here)

    go_on : literal_part part ≡ parts_literal (term_parts after) → LeftOf part after
    go_on same = record { same = same; short = (rw here at so_far.short).1 }

    -- a symbol
    pub after_symbol : kind ≤ 2 → LeftOf part after
    after_symbol h = go_on (by_kind ∙ symbol_literal kind (word_at term 4) (word_at term 8) _ _ h)

    -- a variable, a call or a block
    pub literal_no : 2 < kind → (kind ≡ 6 → ⊥) → false ≡ literal_part part
    literal_no h n = sym (by_kind ∙ other_literal kind (word_at term 4) (word_at term 8) _ _ h n)

    module _ (bracket : kind ≡ 6) {t : Bool} (inside : t ≡ literal_part (take (e - 24) (drop 24 term))) where
      by_inside : literal_part part ≡ (t && parts_literal (term_parts after))
      unfolding term_from
      by_inside = rw inside (by_kind ∙ rw bracket)

      -- a bracket whose contents are not literal
      pub inside_no : t ≡ false → false ≡ literal_part part
      inside_no h = sym (by_inside ∙ rw h)

      -- one whose contents are
      pub after_bracket : t ≡ true → LeftOf part after
      after_bracket h = go_on (by_inside ∙ rw h)

-- ---- matching

-- the search finds a match exactly if the pattern matches the literal part
pub literal_found : (text part : List ℕ) (p : Pattern) → literal_part part ≡ true
    → some_holds (resume []) (found true p (row_of text part) none_bound) ≡ literal_matches p (symbols_of text part)
unfolding row_of symbols_of
literal_found text part p h =
    let own : ℕ → ℕ → Sentences = λ t n. no_sentence in
    literal_search (forest_run text own 0 (term_forest part)) (part_literal text own 0 part ∙ h) p
