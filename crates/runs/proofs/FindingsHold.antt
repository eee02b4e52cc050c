-- What the findings say holds over a whole run. The one premise is used where it is needed and nowhere else: a settled table by recognition by formats,
-- neither by recognition by literals nor by dead sentences. That no two functions have one folded name is needed by none: formats join all functions of
-- a name, a run calls the last of them, which literal matching takes too, and a sentence is told by its record.
use Prim.Native.Nat.{ℕ, ◌≤◌, ◌<◌}
use mathlib.Core.Bool.{true}
use mathlib.Core.List.{List, [], ◌∷◌, Memᴰ}
use mathlib.Core.Logic.{◌⊎◌, inl, inr}
use mathlib.Core.Option.{some}
use mathlib.Core.Path.{◌≡◌, sym, ap, ◌∙◌}
use native.Mathlib.Omega.{arith}
use Rattle.file.specs.Answer.{given}
use Rattle.law.specs.Tree.{Sentences, no_sentence, sentence, Law}
use Rattle.law.specs.Definition.{definition}
use Rattle.law.specs.Expression.{Expression}
use Rattle.matching.specs.Match.{some_in}
use Rattle.matching.specs.Literal.{is_literal}
use Rattle.matching.proofs.SameLaws.{false_not_true}
use Rattle.formats.specs.Infer.{Formats, Inferred, infer}
use Rattle.formats.proofs.RoundLaws.{EachFunction}
use Rattle.lints.specs.Lint.{lint_number}
use Rattle.lints.specs.Finding.{Finding, lint_of, word_a}
use Rattle.lints.specs.Calls.{callee}
use Rattle.lints.specs.Dead.{sentence_blocks, own_dead, block_dead, dead_remarks, dead_findings}
use Rattle.lints.specs.Findings.{findings_of}
use Rattle.runs.specs.Claim.{Recognises, NeverRecognised, NeverChosen, IsAmong, OfFunction}
use Rattle.runs.proofs.Invariant.{NoneMatches}
use Rattle.runs.proofs.ByFormats.{ComesTo, undefined_comes, result_comes, disjoint_none_matches}
use Rattle.runs.proofs.ByLiterals.{literal_comes, literal_none_matches}
use Rattle.lints.proofs.Everywhere.{each_function_in, EachRecord, Labelled, CallAt, AfterFunctions, RunIn, SentencesIn}
use Rattle.runs.proofs.Shadowed.{ShadowedIn, own_dead_shadowed}
use Rattle.lints.proofs.Defined.{definition_in}
use Rattle.runs.proofs.WholeRun.{Closed, anything_results, Unrecognised, ListedCall, listed_unrecognised, dead_unchosen}
use Rattle.lints.proofs.Listed.{Found, dead_found, recognition_found, Remarked, finding_remarked, dead_remark, Judged, apart}
use Rattle.lints.proofs.Listed.{literally, compared_literal, Recognition, recognition_finding, subject_record}
use Rattle.lints.proofs.CallsIn.{call_at, block_after_functions}

-- ---- dead sentences

among_record : (P : ℕ → Type 0) (ss : Sentences) → EachRecord P ss → (i : ℕ) → IsAmong i ss → P i
among_record P no_sentence h i j = elim j [ ]
among_record P (sentence m p cs r ss) h i (inl e) = rw e at h.0
among_record P (sentence m p cs r ss) h i (inr j) = among_record P ss h.1 i j

function_record_lem : (P : ℕ → Type 0) (law : Law) → EachFunction (λ d. EachRecord P d.sentences) law → (i : ℕ) → OfFunction law i → P i
function_record_lem P [] h i j = elim j [ ]
function_record_lem P (f ∷ fs) h i (inl j) = among_record P f.sentences h.0 i j
function_record_lem P (f ∷ fs) h i (inr j) = function_record_lem P fs h.1 i j

-- what calls can come to, where nothing is asked of it
abbrev Anything : List ℕ → Expression → Type 0
Anything f a = Unit {0}

anything_closed : (law : Law) → Closed law Anything
anything_closed law = record { results = λ f ss e. anything_results Anything ss; undefined = λ f e a. tt }

module _ (law : Law) (labels : Labelled law) where
  -- a listed sentence of a function is shadowed
  listed_dead : (x : Finding) → Memᴰ x (dead_findings law) → OfFunction law x.subject.at
      → (x.subject.at < labels.bound) × ShadowedIn x.subject.at law
  unfolding dead_findings
  listed_dead x m of_function =
      let about = finding_remarked dead_remarks 0 law x m in
      let below = function_record_lem (λ i. i < labels.bound) law labels.below x.subject.at of_function in
      (below, go about below (dead_remark about.function about.said about.in_remarks))
    where
      go : (about : Remarked dead_remarks law x) → x.subject.at < labels.bound
          → Memᴰ about.said (own_dead about.function.sentences)
          ⊎ ((ss : Sentences) × Memᴰ ss (sentence_blocks about.function.sentences) × Memᴰ about.said (block_dead ss))
          → ShadowedIn x.subject.at law
      go about below (inl i) =
          rw about.subject (own_dead_shadowed 0 law labels.numbered about.function about.in_law about.said i).1
      go about below (inr (ss, j, i)) =
          let records = block_after_functions law labels about.function about.in_law ss j in
          let above : labels.bound ≤ about.said.subject.at = subject_record (AfterFunctions law labels) true [] 1 ss records about.said i in
          absurd (omega (arith, below, above, ap (λ y. y.at) about.subject))

  -- so it is never chosen
  pub dead_holds : (formats : Formats) → NeverChosen law (λ i. OfFunction law i × Found (findings_of law formats) 1 i)
  dead_holds formats i r env k left reached (of_function, (x, m, lint, subject)) =
      dead_unchosen law labels Anything (anything_closed law) i r env k left reached
      (rw subject at (listed_dead x (dead_found law formats x m lint) (rw subject of_function)))

-- ---- recognition

-- where no sentence matches, none is recognised
none_recognised : (ss : Sentences) (v : Expression) → NoneMatches ss v → Recognises ss v → ⊥
none_recognised no_sentence v h k = elim k [ ]
none_recognised (sentence m p cs r ss) v h (inl e) = false_not_true (sym (ap some_in h.0) ∙ e)
none_recognised (sentence m p cs r ss) v h (inr k) = none_recognised ss v h.1 k

module _ (law : Law) (labels : Labelled law) (formats : Formats) (x : Finding) (about : Recognition law formats x) where
  -- the call that is listed, and what holds in its argument
  listed_call :
      CallAt law labels about.call.mark.at about.call.name about.call.argument × RunIn law labels about.call.argument
  listed_call = call_at law labels about.function about.in_law about.call about.in_calls

  -- where no sentence of its function matches what its argument can come to, it is never recognised
  listed_never : (Res : List ℕ → Expression → Type 0) (closed : Closed law Res)
      → Unrecognised law Res about.call.name about.call.argument → NeverRecognised law (λ m. x.subject.at ≡ m)
  listed_never Res closed h m f v k left reached subject ss d =
      let (name, argument) = listed_call.0 in
      let same : x.subject.at ≡ about.call.mark.at = ap (λ y. y.at) about.subject in
      let there : ListedCall law labels Res closed x.subject.at = rw (same, ← name, ← argument) h in
      none_recognised ss v (listed_unrecognised law labels Res closed m f v k left reached (rw subject at there) ss d)

-- a finding of lint 2 with this word a, 1 by formats and 2 by literals
abbrev pub FoundBy : List Finding → ℕ → ℕ → Type 0
FoundBy fs a subject = (x : Finding) × Memᴰ x fs × (lint_number (lint_of x.claim) ≡ 2) × (word_a x.claim ≡ a) × (x.subject.at ≡ subject)

-- by formats: in a settled table
module _ (limit : ℕ) (law : Law) (labels : Labelled law) (i : Inferred) (inferred : infer limit law ≡ given i)
    (settled : i.settled ≡ true) where
  abbrev formats : Formats
  formats = i.formats

  formats_closed : Closed law (ComesTo formats.results)
  formats_closed = record { results = result_comes limit law i inferred settled; undefined = undefined_comes limit law i inferred }

  pub formats_hold : NeverRecognised law (FoundBy (findings_of law formats) 1)
  formats_hold m f v k left reached (x, among, lint, a, subject) =
      let about : Recognition law formats x = recognition_finding law formats x (recognition_found law formats x among lint) in
      go about about.is_judged
    where
      go : (about : Recognition law formats x) → Judged formats about.call about.said
          → (ss : Sentences) → definition law f ≡ some ss → Recognises ss v → ⊥
      go about (apart claim disjoint) =
          listed_never law labels formats x about (ComesTo formats.results) formats_closed
          (disjoint_none_matches limit law i inferred (callee about.call) about.call.argument disjoint)
          m f v k left reached subject
      go about (literally claim literal) =
          let other : word_a x.claim ≡ 2 = rw (about.claim, claim) in
          absurd (omega (arith, a, other))

-- by literals
module _ (law : Law) (labels : Labelled law) (formats : Formats) where
  literal_unrecognised : (x : Finding) (about : Recognition law formats x) → is_literal about.call.argument ≡ true
      → Unrecognised law Anything about.call.name about.call.argument
  literal_unrecognised x about literal w fits ss found =
      let (d, in_law, name, same) = definition_in law (callee about.call) ss found in
      let spelled : SentencesIn law labels d.sentences =
      each_function_in (λ f. SentencesIn law labels f.sentences) law labels.everywhere d in_law in
      rw (literal_comes Anything fits literal)
      (literal_none_matches (CallAt law labels) (AfterFunctions law labels) about.call.argument
      (listed_call law labels formats x about).1 ss (rw same at spelled)
      (compared_literal law about.call about.is_compared literal ss found))

  pub literals_hold : NeverRecognised law (FoundBy (findings_of law formats) 2)
  literals_hold m f v k left reached (x, among, lint, a, subject) =
      let about : Recognition law formats x = recognition_finding law formats x (recognition_found law formats x among lint) in
      go about about.is_judged
    where
      go : (about : Recognition law formats x) → Judged formats about.call about.said
          → (ss : Sentences) → definition law f ≡ some ss → Recognises ss v → ⊥
      go about (apart claim disjoint) =
          let other : word_a x.claim ≡ 1 = rw (about.claim, claim) in
          absurd (omega (arith, a, other))
      go about (literally claim literal) =
          listed_never law labels formats x about Anything (anything_closed law) (literal_unrecognised x about literal)
          m f v k left reached subject

-- lint 2 is by formats or by literals
pub recognition_holds : (limit : ℕ) (law : Law) (labels : Labelled law) (i : Inferred) → infer limit law ≡ given i
    → i.settled ≡ true → NeverRecognised law (Found (findings_of law i.formats) 2)
recognition_holds limit law labels i inferred settled m f v k left reached (x, among, lint, subject) =
    let about : Recognition law i.formats x = recognition_finding law i.formats x (recognition_found law i.formats x among lint) in
    go about about.is_judged
  where
    go : (about : Recognition law i.formats x) → Judged i.formats about.call about.said
        → (ss : Sentences) → definition law f ≡ some ss → Recognises ss v → ⊥
    go about (apart claim disjoint) =
        formats_hold limit law labels i inferred settled m f v k left reached (x, among, lint, rw (about.claim, claim), subject)
    go about (literally claim literal) =
        literals_hold law labels i.formats m f v k left reached (x, among, lint, rw (about.claim, claim), subject)
