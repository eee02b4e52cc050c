-- A finding's eight words read back: what its text is, by its lint.
use Prim.Native.Nat.{ℕ, ◌<◌}
use mathlib.Core.List.{List, Memᴰ}
use mathlib.Core.Path.{◌≡◌, refl, sym, ap, ◌∙◌}
use native.Mathlib.Omega.{arith}
use lib.ListN.{length, get_or}
use mathlib.Core.Bool.{false}
use Rattle.names.specs.Name.{between}
use Rattle.file.specs.Sections.{File}
use Rattle.law.specs.Reading.{function_name, tree_of}
use Rattle.law.specs.Code.Index.{Readable}
use Rattle.lints.specs.Lint.{Lint, dead_sentence, recognition_impossible, builtin_domain, open_expressions, lint_number, last_lint}
use Rattle.lints.specs.Finding.{Failure, two_integers_wanted, division_by_zero, digits_wanted, Claim, dead, fails, open_pattern, Finding, lint_of, word_a, word_b, failure_number, finding_words}
use Rattle.lints.specs.Findings.{findings_of}
use Rattle.lints.specs.Message.{claim_text, message}
use Rattle.lints.specs.Code.Records.{formats_in, call_at}
use Rattle.messages.specs.Code.Spoken.{Spoken, CallHere, ComparedHere, in_block, recognition_claim}
use Rattle.messages.proofs.FoundLaws.{Said, of_dead, of_formats, of_literals, of_fails, of_open, Told, told}

-- no lint has another number
no_other : (l : Lint) → between 1 last_lint (lint_number l) ≡ false → ⊥
no_other dead_sentence e = cc
no_other recognition_impossible e = cc
no_other builtin_domain e = cc
no_other open_expressions e = cc

-- what the words are
record Words (lint a b position subject : ℕ) (x : Finding) : Type 0 where
  lint_is : lint ≡ lint_number (lint_of x.claim)
  a_is : a ≡ word_a x.claim
  b_is : b ≡ word_b x.claim
  position_is : position ≡ x.position
  subject_is : subject ≡ x.subject.at

-- a finding of the law, by its words
pub record Heard (file : File) (limit : ℕ) (store : List ℕ) (lint a b position subject : ℕ) (x : Finding) : Type 0 where
  tells : Told file limit store x
  are : Words lint a b position subject x

module _ {file : File} {limit : ℕ} {store words : List ℕ} (spoken : Spoken file limit store words) where
  -- there are eight words
  pub eight_words_lem : length words ≡ 8
  unfolding finding_words
  eight_words_lem = rw spoken.same

  module _ {lint a b position subject : ℕ} (readable : Readable file) (first : lint ≡ get_or words 0 0) (fifth : a ≡ get_or words 4 0)
      (sixth : b ≡ get_or words 5 0) (seventh : position ≡ get_or words 6 0) (eighth : subject ≡ get_or words 7 0) where
    -- any finding that has them
    pub heard : (x : Finding) (severity : ℕ) → Memᴰ x (findings_of (tree_of file) (formats_in file limit store))
        → words ≡ finding_words severity x → Heard file limit store lint a b position subject x
    unfolding finding_words
    heard x severity m e =
        record {
          tells = told file readable limit store x spoken.within m;
          are = record {
            lint_is = first ∙ rw e;
            a_is = fifth ∙ rw e;
            b_is = sixth ∙ rw e;
            position_is = seventh ∙ rw e;
            subject_is = eighth ∙ rw e;
          };
        }

    -- the one that is spoken of
    pub heard_one : Heard file limit store lint a b position subject spoken.finding
    heard_one = heard spoken.finding spoken.severity spoken.listed spoken.same

module _ {file : File} {limit : ℕ} {store : List ℕ} {lint a b position subject : ℕ} {x : Finding}
    (h : Heard file limit store lint a b position subject x) where
  pub position_inside : position < file.functions.count
  position_inside = rw h.are.position_is h.tells.position

  -- the lint's number, where the claim is known
  lint_of_lem : {claim : Claim} → x.claim ≡ claim → lint ≡ lint_number (lint_of claim)
  lint_of_lem e = h.are.lint_is ∙ ap (λ c. lint_number (lint_of c)) e

  -- lint 1
  pub dead_text : lint ≡ 1 → message x ≡ claim_text (function_name file position) (dead (in_block file subject) a b)
  unfolding message
  dead_text l = go h.tells.said h.are
    where
      go : Said file limit store x.claim x.subject.at → Words lint a b position subject x
          → message x ≡ claim_text (function_name file position) (dead (in_block file subject) a b)
      go (of_dead later earlier e) w =
          let first : a ≡ later = w.a_is ∙ ap word_a e in
          let second : b ≡ earlier = w.b_is ∙ ap word_b e in
          rw (w.position_is, w.subject_is, first, second, h.tells.owner, e)
      go (of_formats here e) w = absurd (omega (arith, l, lint_of_lem e))
      go (of_literals here e) w = absurd (omega (arith, l, lint_of_lem e))
      go (of_fails here why e) w = absurd (omega (arith, l, lint_of_lem e))
      go (of_open n e) w = absurd (omega (arith, l, lint_of_lem e))

  -- lint 2: the call, and what is said of it
  abbrev Recognised : Type 0
  Recognised = CallHere file subject × (a ≡ 1 → ComparedHere file limit store subject)
      × (message x ≡ claim_text x.owner (recognition_claim file limit store subject a))

  pub recognition_text : lint ≡ 2 → Recognised
  unfolding message
  recognition_text l = go h.tells.said h.are
    where
      go : Said file limit store x.claim x.subject.at → Words lint a b position subject x → Recognised
      go (of_dead later earlier e) w = absurd (omega (arith, l, lint_of_lem e))
      go (of_formats here e) w =
          let how : a ≡ 1 = w.a_is ∙ ap word_a e in
          rw w.subject_is (here.call, (λ _. here), rw (how, e))
      go (of_literals here e) w =
          let how : a ≡ 2 = w.a_is ∙ ap word_a e in
          rw w.subject_is (here, (λ q. absurd (omega arith)), rw (how, e))
      go (of_fails here why e) w = absurd (omega (arith, l, lint_of_lem e))
      go (of_open n e) w = absurd (omega (arith, l, lint_of_lem e))

  -- lint 3: the call, and why it fails
  abbrev Failing : Type 0
  Failing = CallHere file subject
      × ((why : Failure) × (failure_number why ≡ a) × (message x ≡ claim_text x.owner (fails (call_at file subject).name why)))

  pub builtin_text : lint ≡ 3 → Failing
  unfolding message
  builtin_text l = go h.tells.said h.are
    where
      go : Said file limit store x.claim x.subject.at → Words lint a b position subject x → Failing
      go (of_dead later earlier e) w = absurd (omega (arith, l, lint_of_lem e))
      go (of_formats here e) w = absurd (omega (arith, l, lint_of_lem e))
      go (of_literals here e) w = absurd (omega (arith, l, lint_of_lem e))
      go (of_fails here why e) w = rw w.subject_is (here, (why, sym (w.a_is ∙ ap word_a e), rw e))
      go (of_open n e) w = absurd (omega (arith, l, lint_of_lem e))

  -- lint 4
  pub open_text : lint ≡ 4 → message x ≡ claim_text (function_name file position) (open_pattern a)
  unfolding message
  open_text l = go h.tells.said h.are
    where
      go : Said file limit store x.claim x.subject.at → Words lint a b position subject x
          → message x ≡ claim_text (function_name file position) (open_pattern a)
      go (of_dead later earlier e) w = absurd (omega (arith, l, lint_of_lem e))
      go (of_formats here e) w = absurd (omega (arith, l, lint_of_lem e))
      go (of_literals here e) w = absurd (omega (arith, l, lint_of_lem e))
      go (of_fails here why e) w = absurd (omega (arith, l, lint_of_lem e))
      go (of_open n e) w =
          let count : a ≡ n = w.a_is ∙ ap word_a e in
          rw (w.position_is, count, h.tells.owner, e)

  -- there is no other
  pub lint_known : between 1 last_lint lint ≡ false → ⊥
  lint_known none = no_other (lint_of x.claim) (rw h.are.lint_is at none)
