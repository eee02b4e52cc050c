-- A function's sentence that an earlier one without conditions shadows is never chosen: where the earlier one does not match, neither does it.
use Prim.Native.Nat.{ℕ, suc, ◌≤◌, ◌<◌}
use mathlib.Core.Bool.{Bool, true, false, cond}
use mathlib.Core.List.{List, [], ◌∷◌, ◌++◌, Memᴰ}
use mathlib.Core.Logic.{◌⊎◌, inl, inr}
use mathlib.Core.Option.{Option, some, none, none-ne-some}
use mathlib.Core.Path.{◌≡◌, refl, sym, ap, ◌∙◌}
use native.Mathlib.Omega.{arith}
use Rattle.law.specs.Tree.{Mark, Run, Sentences, no_sentence, sentence, Conditions, no_condition, condition, Function, Law}
use Rattle.law.specs.Expression.{Expression}
use Rattle.matching.specs.Pattern.{Pattern, pattern_of}
use Rattle.matching.specs.Match.{none_bound, some_in, run_matches}
use Rattle.matching.specs.Shadow.{shadows_with}
use Rattle.matching.proofs.SameLaws.{false_not_true}
use Rattle.matching.proofs.ShadowLaws.{shadow_sound}
use Rattle.formats.proofs.RoundLaws.{EachFunction}
use Rattle.lints.specs.Finding.{Remark}
use Rattle.lints.specs.Dead.{Earlier, unconditional, earliest, dead_by, dead_after, own_dead}
use Rattle.runs.proofs.Invariant.{Unconditional}
use Rattle.runs.proofs.ByFormats.{none_in}
use Rattle.lints.proofs.Listed.{subject_record}
use Rattle.lints.proofs.Everywhere.{EachRecord, each_record_map, Numbered, numbered_from, NumberedLaw}

-- ---- earlier patterns

-- none of these patterns matches
abbrev pub Unmatched : List Earlier → Expression → Type 0
Unmatched earlier v = (e : Earlier) → Memᴰ e earlier → run_matches e.pattern v none_bound ≡ []

-- then a pattern that one of them shadows does not match either
pub shadowed_unmatched : (earlier : List Earlier) (later : Pattern) (k : ℕ) → earliest [] earlier later ≡ some k
    → (v : Expression) → Unmatched earlier v → run_matches later v none_bound ≡ []
unfolding earliest
shadowed_unmatched [] later k e v h = absurd (none-ne-some k e)
shadowed_unmatched (g ∷ gs) later k e v h =
    go (shadows_with [] g.pattern later) refl e (λ q. shadowed_unmatched gs later k q v (λ f m. h f (mathlib.Core.List.Memᴰ.tail m)))
  where
    go : (b : Bool) → shadows_with [] g.pattern later ≡ b → cond b (some g.number) (earliest [] gs later) ≡ some k
        → (earliest [] gs later ≡ some k → run_matches later v none_bound ≡ []) → run_matches later v none_bound ≡ []
    go true s e below =
        none_in (run_matches later v none_bound) (λ m.
        let none : some_in (run_matches g.pattern v none_bound) ≡ false = ap some_in (h g (mathlib.Core.List.Memᴰ.head refl)) in
        false_not_true (sym none ∙ shadow_sound g.pattern later s v m)
        )
    go false s e below = below e

-- a sentence joins them if it has no conditions, and then it does not match
pub unmatched_after : (earlier : List Earlier) (cs : Conditions) (n : ℕ) (p : Run) (v : Expression) → Unmatched earlier v
    → (Unconditional cs → run_matches (pattern_of p) v none_bound ≡ []) → Unmatched (earlier ++ unconditional cs n p) v
unmatched_after earlier cs n p v h k e m = go cs k (mathlib.Core.List.Memᴰ.append_cases earlier m)
  where
    go : (cs : Conditions) → (Unconditional cs → run_matches (pattern_of p) v none_bound ≡ [])
        → Memᴰ e earlier ⊎ Memᴰ e (unconditional cs n p) → run_matches e.pattern v none_bound ≡ []
    go cs k (inl i) = h e i
    go no_condition k (inr (mathlib.Core.List.Memᴰ.head q)) = rw q (k tt)
    go no_condition k (inr (mathlib.Core.List.Memᴰ.tail i)) = elim i [ ]
    go (condition _ _ _) k (inr i) = elim i [ ]

-- ---- sentences by record

-- wherever the sentence i stands among these, one of the earlier ones shadows it
abbrev pub ShadowedAt : ℕ → List Earlier → ℕ → Sentences → Type 0
ShadowedAt i earlier n no_sentence = Unit {0}
ShadowedAt i earlier n (sentence m p cs r ss) =
    (m.at ≡ i → (k : ℕ) × (earliest [] earlier (pattern_of p) ≡ some k)) × ShadowedAt i (earlier ++ unconditional cs n p) (suc n) ss

-- in every function
abbrev pub ShadowedIn : ℕ → Law → Type 0
ShadowedIn i law = EachFunction (λ d. ShadowedAt i [] 1 d.sentences) law

-- so it is where it does not stand at all
shadowed_none : (i : ℕ) (earlier : List Earlier) (n : ℕ) (ss : Sentences) → EachRecord (λ j. j ≡ i → ⊥) ss → ShadowedAt i earlier n ss
shadowed_none i earlier n no_sentence h = tt
shadowed_none i earlier n (sentence m p cs r ss) h = ((λ e. absurd (h.0 e)), shadowed_none i (earlier ++ unconditional cs n p) (suc n) ss h.1)

-- ---- the lint's remarks

-- what is said of a sentence by the earliest that shadows it
said_of : (m : Mark) (n : ℕ) (o : Option ℕ) (x : Remark) → Memᴰ x (dead_by false m n o) → (x.subject ≡ m) × ((k : ℕ) × (o ≡ some k))
said_of m n none x i = elim i [ ]
said_of m n (some k) x (mathlib.Core.List.Memᴰ.head e) = (ap (λ y. y.subject) e, (k, refl))
said_of m n (some k) x (mathlib.Core.List.Memᴰ.tail i) = elim i [ ]

-- the subject of a remark is shadowed wherever its record stands among these sentences
dead_shadowed : (earlier : List Earlier) (n b : ℕ) (ss : Sentences) → Numbered b ss → (x : Remark) → Memᴰ x (dead_after false [] earlier n ss)
    → (b ≤ x.subject.at) × ShadowedAt x.subject.at earlier n ss
unfolding dead_after
dead_shadowed earlier n b no_sentence h x i = elim i [ ]
dead_shadowed earlier n b (sentence m p cs r ss) h x i =
    go (mathlib.Core.List.Memᴰ.append_cases (dead_by false m n (earliest [] earlier (pattern_of p))) i)
    (dead_shadowed (earlier ++ unconditional cs n p) (suc n) (suc b) ss h.1 x)
  where
    go : Memᴰ x (dead_by false m n (earliest [] earlier (pattern_of p))) ⊎ Memᴰ x (dead_after false [] (earlier ++ unconditional cs n p) (suc n) ss)
        → (Memᴰ x (dead_after false [] (earlier ++ unconditional cs n p) (suc n) ss)
        → (suc b ≤ x.subject.at) × ShadowedAt x.subject.at (earlier ++ unconditional cs n p) (suc n) ss)
        → (b ≤ x.subject.at) × ShadowedAt x.subject.at earlier n (sentence m p cs r ss)
    go (inl j) below =
        let (subject, k) = said_of m n (earliest [] earlier (pattern_of p)) x j in
        let at : x.subject.at ≡ b = ap (λ y. y.at) subject ∙ h.0 in (
          omega (arith, at),
          (
            (λ e. k),
            shadowed_none x.subject.at (earlier ++ unconditional cs n p) (suc n) ss
                (each_record_map (λ j. suc b ≤ j) (λ j. j ≡ x.subject.at → ⊥) (λ j l e. omega (arith, at)) ss
                (numbered_from (suc b) (suc b) ss (omega arith) h.1)),
          ),
        )
    go (inr j) below =
        let (after, rest) = below j in
        (omega arith, ((λ e. absurd (omega (arith, h.0))), rest))

-- a record before all of these functions' is nowhere in them
shadowed_before : (i n : ℕ) (law : Law) → i < n → NumberedLaw n law → ShadowedIn i law
shadowed_before i n [] l h = tt
shadowed_before i n (d ∷ ds) l h =
    let (next, later, below, rest) = h.1 in (
      shadowed_none i [] 1 d.sentences
          (each_record_map (λ j. n ≤ j) (λ j. j ≡ i → ⊥) (λ j m e. omega arith) d.sentences (numbered_from n n d.sentences (omega arith) h.0)),
      shadowed_before i next ds (omega arith) rest,
    )

-- what lint 1 says of a function's own sentence holds wherever its record stands in the law
pub own_dead_shadowed : (n : ℕ) (law : Law) → NumberedLaw n law → (d : Function) → Memᴰ d law
    → (x : Remark) → Memᴰ x (own_dead d.sentences) → (n ≤ x.subject.at) × ShadowedIn x.subject.at law
own_dead_shadowed n [] h d m x i = elim m [ ]
own_dead_shadowed n (f ∷ fs) h d (mathlib.Core.List.Memᴰ.head e) x i =
    let (next, later, below, rest) = h.1 in
    let j : Memᴰ x (own_dead f.sentences) = rw e at i in
    let (from, here) = dead_shadowed [] 1 n f.sentences h.0 x j in
    (from, (here, shadowed_before x.subject.at next fs (subject_record (λ i. i < next) false [] 1 f.sentences below x j) rest))
own_dead_shadowed n (f ∷ fs) h d (mathlib.Core.List.Memᴰ.tail m) x i =
    let (next, later, below, rest) = h.1 in
    let (from, there) = own_dead_shadowed next fs rest d m x i in (
      omega arith,
      (
        shadowed_none x.subject.at [] 1 f.sentences
            (each_record_map (λ j. j < next) (λ j. j ≡ x.subject.at → ⊥) (λ j l e. omega arith) f.sentences below),
        there,
      ),
    )
