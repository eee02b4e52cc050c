-- What the findings of a law say (crate `lints`), taken apart: from a finding back to the call or the sentence that it is about.
use Prim.Native.Nat.{ℕ, suc}
use mathlib.Core.Bool.{Bool, true, false, cond, not, ◌&&◌, ◌||◌}
use mathlib.Core.List.Memᴰ
use mathlib.Core.List.{List, [], ◌∷◌, ◌++◌, map, Memᴰ}
use mathlib.Core.Logic.{◌⊎◌, inl, inr}
use mathlib.Core.Option.{Option, none, some}
use mathlib.Core.Path.{◌≡◌, refl, sym, ap, ◌∙◌}
use native.Mathlib.Omega.{arith}
use lib.Dec.{leb}
use Rattle.law.specs.Tree.{Sentences, no_sentence, sentence, Function, Law}
use Rattle.law.specs.Definition.{definition}
use Rattle.law.specs.Expression.{Terms}
use Rattle.law.specs.Symbol as symbols
use Rattle.matching.specs.Pattern.{pattern_of}
use Rattle.matching.specs.Match.{when, each}
use Rattle.matching.specs.Literal.{is_literal, literal_terms, literal_matches}
use Rattle.matching.proofs.SameLaws.{false_not_true}
use Rattle.matching.proofs.SearchLaws.{in_when, in_each, in_map}
use Rattle.shapes.specs.Format.{of}
use Rattle.shapes.specs.Disjoint.{disjoint_formats}
use Rattle.formats.specs.Infer.{Formats}
use Rattle.lints.specs.Lint.{dead_sentence, lint_number}
use Rattle.lints.specs.Finding.{Failure, by_formats, by_literals, open_pattern, Remark, Finding, lint_of, finding_in, findings_from}
use Rattle.lints.specs.Calls.{Call, callee, sentence_calls}
use Rattle.lints.specs.Dead.{Earlier, sentence_blocks, dead_by, dead_after, earliest, unconditional, own_dead, block_dead, dead_remarks, dead_findings}
use Rattle.lints.specs.Recognition.{some_matches, compared, passed, accepted, remark, judged, recognition_remarks, recognition_findings}
use Rattle.lints.specs.Builtin.{failure, domain_in, builtins, looked_at, failed, builtin_on, builtin_remarks, builtin_findings}
use Rattle.lints.specs.Open.{e_occurrences, open_in, open_remarks, open_findings}
use Rattle.lints.specs.Levels.{Settings, is_shown, shown}
use Rattle.lints.specs.Findings.{findings_of}
use Rattle.lints.proofs.CallsIn.{either}
use Rattle.lints.proofs.Everywhere.{EachRecord}

-- ---- functions

-- a finding is a remark on one of the functions
pub record Remarked (remarks : Function → List Remark) (law : Law) (x : Finding) : Type 0 where
  pub function : Function
  pub in_law : Memᴰ function law
  pub said : Remark
  pub in_remarks : Memᴰ said (remarks function)
  pub subject : x.subject ≡ said.subject
  pub claim : x.claim ≡ said.claim

pub finding_remarked : (remarks : Function → List Remark) (position : ℕ) (law : Law) (x : Finding) → Memᴰ x (findings_from remarks position law)
    → Remarked remarks law x
unfolding findings_from
finding_remarked remarks position [] x m = elim m [ ]
finding_remarked remarks position (f ∷ fs) x m =
    go (Memᴰ.append_cases (map (finding_in position f.name) (remarks f)) m) (finding_remarked remarks (suc position) fs x)
  where
    go : Memᴰ x (map (finding_in position f.name) (remarks f)) ⊎ Memᴰ x (findings_from remarks (suc position) fs)
        → (Memᴰ x (findings_from remarks (suc position) fs) → Remarked remarks fs x) → Remarked remarks (f ∷ fs) x
    go (inl i) below =
        let (r, j, e) = in_map (finding_in position f.name) (remarks f) i in
        record {
          function = f;
          in_law = Memᴰ.head refl;
          said = r;
          in_remarks = j;
          subject = ap (λ y. y.subject) e;
          claim = ap (λ y. y.claim) e;
        }
    go (inr i) below =
        let b = below i in
        record {
          function = b.function;
          in_law = Memᴰ.tail b.in_law;
          said = b.said;
          in_remarks = b.in_remarks;
          subject = b.subject;
          claim = b.claim;
        }

-- ---- which lint says what

-- a finding that is shown is one of the findings
pub shown_in_lem : (settings : Settings) (fs : List Finding) (x : Finding) → Memᴰ x (shown settings fs) → Memᴰ x fs
unfolding shown
shown_in_lem settings fs x m =
    let (f, i, j) = in_each (λ (f : Finding). when (is_shown settings (lint_of f.claim)) (f ∷ [])) fs m in
    go f i (in_when (is_shown settings (lint_of f.claim)) (f ∷ []) j).1
  where
    go : (f : Finding) → Memᴰ f fs → Memᴰ x (f ∷ []) → Memᴰ x fs
    go f i (Memᴰ.head e) = rw e i
    go f i (Memᴰ.tail m) = elim m [ ]

-- the claims of each lint
dead_claims : (in_block : Bool) (earlier : List Earlier) (n : ℕ) (ss : Sentences) (r : Remark) → Memᴰ r (dead_after in_block [] earlier n ss)
    → lint_of r.claim ≡ dead_sentence
unfolding dead_after
dead_claims in_block earlier n no_sentence x i = elim i [ ]
dead_claims in_block earlier n (sentence m p cs r ss) x i =
    go (earliest [] earlier (pattern_of p)) (Memᴰ.append_cases (dead_by in_block m n (earliest [] earlier (pattern_of p))) i)
    (dead_claims in_block (earlier ++ unconditional cs n p) (suc n) ss x)
  where
    go : (o : Option ℕ) → Memᴰ x (dead_by in_block m n o) ⊎ Memᴰ x (dead_after in_block [] (earlier ++ unconditional cs n p) (suc n) ss)
        → (Memᴰ x (dead_after in_block [] (earlier ++ unconditional cs n p) (suc n) ss) → lint_of x.claim ≡ dead_sentence)
        → lint_of x.claim ≡ dead_sentence
    go none (inl m) below = elim m [ ]
    go (some k) (inl (Memᴰ.head e)) below = rw e
    go (some k) (inl (Memᴰ.tail m)) below = elim m [ ]
    go o (inr j) below = below j

-- what holds of every sentence's record holds of a remark's subject
pub subject_record : (P : ℕ → Type 0) (in_block : Bool) (earlier : List Earlier) (n : ℕ) (ss : Sentences) → EachRecord P ss
    → (x : Remark) → Memᴰ x (dead_after in_block [] earlier n ss) → P x.subject.at
unfolding dead_after
subject_record P in_block earlier n no_sentence h x i = elim i [ ]
subject_record P in_block earlier n (sentence m p cs r ss) h x i =
    go (earliest [] earlier (pattern_of p)) (Memᴰ.append_cases (dead_by in_block m n (earliest [] earlier (pattern_of p))) i)
    (subject_record P in_block (earlier ++ unconditional cs n p) (suc n) ss h.1 x)
  where
    go : (o : Option ℕ) → Memᴰ x (dead_by in_block m n o) ⊎ Memᴰ x (dead_after in_block [] (earlier ++ unconditional cs n p) (suc n) ss)
        → (Memᴰ x (dead_after in_block [] (earlier ++ unconditional cs n p) (suc n) ss) → P x.subject.at) → P x.subject.at
    go none (inl m) below = elim m [ ]
    go (some k) (inl (Memᴰ.head e)) below = rw e h.0
    go (some k) (inl (Memᴰ.tail m)) below = elim m [ ]
    go o (inr j) below = below j

-- lint 1's remarks on a function: its own sentences', and those of the blocks in it
pub dead_remark : (f : Function) (r : Remark) → Memᴰ r (dead_remarks f)
    → Memᴰ r (own_dead f.sentences) ⊎ ((ss : Sentences) × Memᴰ ss (sentence_blocks f.sentences) × Memᴰ r (block_dead ss))
unfolding dead_remarks
dead_remark f r m = go (Memᴰ.append_cases (own_dead f.sentences) m)
  where
    go : Memᴰ r (own_dead f.sentences) ⊎ Memᴰ r (each block_dead (sentence_blocks f.sentences))
        → Memᴰ r (own_dead f.sentences) ⊎ ((ss : Sentences) × Memᴰ ss (sentence_blocks f.sentences) × Memᴰ r (block_dead ss))
    go (inl i) = inl i
    go (inr i) = inr (in_each block_dead (sentence_blocks f.sentences) i)

-- lint 2's remarks: what is said of a call that is compared
pub data Judged (formats : Formats) (c : Call) (r : Remark) : Type 0 where
  apart : r.claim ≡ by_formats c.name (accepted formats c) (of (passed formats c))
      → disjoint_formats (of (passed formats c)) (accepted formats c) ≡ true → Judged formats c r
  literally : r.claim ≡ by_literals c.name → is_literal c.argument ≡ true → Judged formats c r

judged_cases : (formats : Formats) (c : Call) (r : Remark) → Memᴰ r (judged formats c) → (r.subject ≡ c.mark) × Judged formats c r
unfolding judged
judged_cases formats c r m = go (disjoint_formats (of (passed formats c)) (accepted formats c)) refl m
  where
    literal : Memᴰ r (remark c (by_literals c.name) ∷ []) → is_literal c.argument ≡ true → (r.subject ≡ c.mark) × Judged formats c r
    literal (Memᴰ.head e) h = (ap (λ y. y.subject) e, literally (ap (λ y. y.claim) e) h)
    literal (Memᴰ.tail m) h = elim m [ ]

    go : (b : Bool) → disjoint_formats (of (passed formats c)) (accepted formats c) ≡ b
        → Memᴰ r
        (cond b
        (remark c (by_formats c.name (accepted formats c) (of (passed formats c))) ∷ [])
        (when (is_literal c.argument) (remark c (by_literals c.name) ∷ [])))
        → (r.subject ≡ c.mark) × Judged formats c r
    go true h (Memᴰ.head e) = (ap (λ y. y.subject) e, apart (ap (λ y. y.claim) e) h)
    go true h (Memᴰ.tail m) = elim m [ ]
    go false h i =
        let (is_it, j) = in_when (is_literal c.argument) (remark c (by_literals c.name) ∷ []) i in
        literal j is_it

-- no sentence's pattern matches a literal row
abbrev pub NoLiteralMatch : Sentences → Terms symbols.Symbol → Type 0
NoLiteralMatch no_sentence x = Unit {0}
NoLiteralMatch (sentence m p cs r ss) x = (literal_matches (pattern_of p) x ≡ false) × NoLiteralMatch ss x

-- a call that is compared, of a literal argument: no sentence of the last definition matches it
no_literal_match : (ss : Sentences) (x : Terms symbols.Symbol) → some_matches ss x ≡ false → NoLiteralMatch ss x
unfolding some_matches
no_literal_match no_sentence x h = tt
no_literal_match (sentence m p cs r ss) x h =
    let (here, rest) = neither (literal_matches (pattern_of p) x) (some_matches ss x) h in
    (here, no_literal_match ss x rest)
  where
    neither : (a b : Bool) → (a || b) ≡ false → (a ≡ false) × (b ≡ false)
    neither true b h = absurd (false_not_true (sym h))
    neither false b h = (refl, h)

pub compared_literal : (law : Law) (c : Call) → compared law c ≡ true → is_literal c.argument ≡ true
    → (ss : Sentences) → definition law (callee c) ≡ some ss → NoLiteralMatch ss (literal_terms c.argument)
unfolding compared
compared_literal law c h is_it ss e =
    no_literal_match ss (literal_terms c.argument) (not_both (is_literal c.argument) (some_matches ss (literal_terms c.argument)) is_it (rw e at h))
  where
    not_both : (a b : Bool) → a ≡ true → not (a && b) ≡ true → b ≡ false
    not_both true true k h = absurd (false_not_true h)
    not_both true false k h = refl
    not_both false b k h = absurd (false_not_true k)

-- a finding of lint 2: the call that it is about
pub record Recognition (law : Law) (formats : Formats) (x : Finding) : Type 0 where
  pub function : Function
  pub in_law : Memᴰ function law
  pub call : Call
  pub in_calls : Memᴰ call (sentence_calls function.sentences)
  pub is_compared : compared law call ≡ true
  pub said : Remark
  pub is_judged : Judged formats call said
  pub subject : x.subject ≡ call.mark
  pub claim : x.claim ≡ said.claim

pub recognition_finding : (law : Law) (formats : Formats) (x : Finding) → Memᴰ x (recognition_findings law formats) → Recognition law formats x
unfolding recognition_findings recognition_remarks
recognition_finding law formats x m =
    let about = finding_remarked (recognition_remarks law formats) 0 law x m in
    let (c, i, j) =
    in_each (λ (c : Call). when (compared law c) (judged formats c)) (sentence_calls about.function.sentences) about.in_remarks in
    let (is_it, k) = in_when (compared law c) (judged formats c) j in
    let (subject, how) = judged_cases formats c about.said k in
    record {
      function = about.function;
      in_law = about.in_law;
      call = c;
      in_calls = i;
      is_compared = is_it;
      said = about.said;
      is_judged = how;
      subject = about.subject ∙ subject;
      claim = about.claim;
    }

-- ---- the number of a finding's lint tells the lint

judged_lint : (formats : Formats) (c : Call) (r : Remark) → Judged formats c r → lint_number (lint_of r.claim) ≡ 2
judged_lint formats c r (apart e h) = rw e
judged_lint formats c r (literally e h) = rw e

recognition_lint : (law : Law) (formats : Formats) (x : Finding) → Memᴰ x (recognition_findings law formats) → lint_number (lint_of x.claim) ≡ 2
recognition_lint law formats x m =
    let about = recognition_finding law formats x m in
    rw about.claim (judged_lint formats about.call about.said about.is_judged)

dead_lint : (law : Law) (x : Finding) → Memᴰ x (dead_findings law) → lint_number (lint_of x.claim) ≡ 1
unfolding dead_findings
dead_lint law x m =
    let about = finding_remarked dead_remarks 0 law x m in
    rw about.claim (go about.function about.said (dead_remark about.function about.said about.in_remarks))
  where
    go : (f : Function) (r : Remark)
        → Memᴰ r (own_dead f.sentences) ⊎ ((ss : Sentences) × Memᴰ ss (sentence_blocks f.sentences) × Memᴰ r (block_dead ss))
        → lint_number (lint_of r.claim) ≡ 1
    go f r (inl i) = ap lint_number (dead_claims false [] 1 f.sentences r i)
    go f r (inr (ss, j, i)) = ap lint_number (dead_claims true [] 1 ss r i)

builtin_lint : (law : Law) (x : Finding) → Memᴰ x (builtin_findings law) → lint_number (lint_of x.claim) ≡ 3
unfolding builtin_findings builtin_remarks builtin_on
builtin_lint law x m =
    let about = finding_remarked (builtin_remarks law) 0 law x m in
    let (c, i, j) = in_each (builtin_on law) (sentence_calls about.function.sentences) about.in_remarks in
    rw about.claim
    (go c (failure (domain_in builtins (callee c)) c.argument) about.said
    (in_when (looked_at (definition law (callee c))) (failed c (failure (domain_in builtins (callee c)) c.argument)) j).1)
  where
    go : (c : Call) (o : Option Failure) (r : Remark) → Memᴰ r (failed c o) → lint_number (lint_of r.claim) ≡ 3
    go c none r m = elim m [ ]
    go c (some why) r (Memᴰ.head e) = rw e
    go c (some why) r (Memᴰ.tail m) = elim m [ ]

open_claims : (ss : Sentences) (r : Remark) → Memᴰ r (open_in ss) → lint_number (lint_of r.claim) ≡ 4
unfolding open_in
open_claims no_sentence r i = elim i [ ]
open_claims (sentence m p cs q ss) r i =
    go (Memᴰ.append_cases (when (leb 2 (e_occurrences p)) (record { subject = m; claim = open_pattern (e_occurrences p) } ∷ [])) i) (open_claims ss r)
  where
    one : Memᴰ r (record { subject = m; claim = open_pattern (e_occurrences p) } ∷ []) → lint_number (lint_of r.claim) ≡ 4
    one (Memᴰ.head e) = rw e
    one (Memᴰ.tail m) = elim m [ ]

    go : Memᴰ r (when (leb 2 (e_occurrences p)) (record { subject = m; claim = open_pattern (e_occurrences p) } ∷ [])) ⊎ Memᴰ r (open_in ss)
        → (Memᴰ r (open_in ss) → lint_number (lint_of r.claim) ≡ 4) → lint_number (lint_of r.claim) ≡ 4
    go (inl j) below = one (in_when (leb 2 (e_occurrences p)) (record { subject = m; claim = open_pattern (e_occurrences p) } ∷ []) j).1
    go (inr j) below = below j

open_lint : (law : Law) (x : Finding) → Memᴰ x (open_findings law) → lint_number (lint_of x.claim) ≡ 4
unfolding open_findings open_remarks
open_lint law x m =
    let about = finding_remarked open_remarks 0 law x m in
    rw about.claim (open_claims about.function.sentences about.said about.in_remarks)

-- ---- findings by lint

-- a finding with this lint, by its number, and this subject
abbrev pub Found : List Finding → ℕ → ℕ → Type 0
Found fs lint subject = (x : Finding) × Memᴰ x fs × (lint_number (lint_of x.claim) ≡ lint) × (x.subject.at ≡ subject)

module _ (law : Law) (formats : Formats) (x : Finding) (m : Memᴰ x (findings_of law formats)) where
  pub by_lint : {R : Type 0} → (Memᴰ x (dead_findings law) → R) → (Memᴰ x (recognition_findings law formats) → R)
      → (Memᴰ x (builtin_findings law) → R) → (Memᴰ x (open_findings law) → R) → R
  unfolding findings_of
  by_lint f g h k =
      either (dead_findings law) (recognition_findings law formats ++ (builtin_findings law ++ (open_findings law ++ []))) m f
      (λ i. either (recognition_findings law formats) (builtin_findings law ++ (open_findings law ++ [])) i g
      (λ j. either (builtin_findings law) (open_findings law ++ []) j h (λ n. either (open_findings law) [] n k (λ o. absurd (Memᴰ.not-nil o)))))

  -- a finding with lint 1 is one of the dead, and one with lint 2 of recognition
  pub dead_found : lint_number (lint_of x.claim) ≡ 1 → Memᴰ x (dead_findings law)
  dead_found e =
      by_lint (λ i. i)
      (λ i. absurd (omega (arith, e, recognition_lint law formats x i)))
      (λ i. absurd (omega (arith, e, builtin_lint law x i)))
      (λ i. absurd (omega (arith, e, open_lint law x i)))

  pub recognition_found : lint_number (lint_of x.claim) ≡ 2 → Memᴰ x (recognition_findings law formats)
  recognition_found e =
      by_lint (λ i. absurd (omega (arith, e, dead_lint law x i)))
      (λ i. i)
      (λ i. absurd (omega (arith, e, builtin_lint law x i)))
      (λ i. absurd (omega (arith, e, open_lint law x i)))
