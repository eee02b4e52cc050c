-- No finding is false: the claim over a whole run (specs/Claim.antt) holds of the words of every listing.
use Prim.Native.Nat.{ℕ, zero, suc, ◌+◌, ◌*◌}
use mathlib.Core.Bool.{true, false}
use mathlib.Core.List.Memᴰ
use mathlib.Core.List.{List, [], ◌∷◌}
use mathlib.Core.Path.{◌≡◌, refl}
use native.Mathlib.Omega.{arith}
use Rattle.file.specs.Answer.{given}
use Rattle.law.specs.Tree.{Law}
use Rattle.law.specs.Law.{law_of}
use Rattle.law.proofs.Accepted.{passed, taken}
use Rattle.formats.specs.Infer.{infer}
use Rattle.lints.specs.Finding.{Finding, finding_words}
use Rattle.lints.specs.Recognition.{arguments_over}
use Rattle.lints.specs.Levels.{Settings, shown, listing_words}
use Rattle.lints.specs.Findings.{findings_of, formats_of, Listing, listing}
use Rattle.runs.specs.Claim.{NeverChosen, OfFunction, Lists, NoFalseFinding}
use Rattle.lints.proofs.Everywhere.{Labelled}
use Rattle.lints.proofs.Records.{law_labelled}
use Rattle.lints.proofs.Listed.{Found, shown_in_lem}
use Rattle.runs.proofs.FindingsHold.{dead_holds, recognition_holds}

-- ---- the words of a listing

-- a finding's words in a listing are those of one of the findings
pub listed_found : (settings : Settings) (fs : List Finding) (lint subject : ℕ) → Lists (listing_words settings fs) lint subject → Found fs lint subject
unfolding listing_words finding_words
listed_found settings [] lint subject (j, inside, first, last) = absurd (omega arith)
listed_found settings (x ∷ xs) lint subject (zero, inside, first, last) = (x, Memᴰ.head refl, first, last)
listed_found settings (x ∷ xs) lint subject (suc j, inside, first, last) =
    let next : 8 * suc j ≡ suc (suc (suc (suc (suc (suc (suc (suc (8 * j)))))))) = omega arith in
    let later : 8 * suc j + 7 ≡ suc (suc (suc (suc (suc (suc (suc (suc (8 * j + 7)))))))) = omega arith in
    let (y, m, l, s) = listed_found settings xs lint subject (j, omega (arith, inside), rw next at first, rw later at last) in
    (y, Memᴰ.tail m, l, s)

-- and those that are shown are among all
shown_found : (settings : Settings) (fs all : List Finding) → fs ≡ shown settings all → (lint subject : ℕ) → Found fs lint subject
    → Found all lint subject
shown_found settings fs all same lint subject (x, m, e, s) = (x, shown_in_lem settings all x (rw same at m), e, s)

-- ---- the claim

-- what a listing is made of
pub listing_parts : (limit : ℕ) (settings : Settings) (law : Law) (l : Listing) → listing limit settings law ≡ given l
    → (infer limit law ≡ given l.inferred) × (arguments_over limit law l.inferred.formats ≡ false)
    × (l.findings ≡ shown settings (findings_of law l.inferred.formats))
unfolding listing formats_of
listing_parts limit settings law l h =
    let (formed, formats, rest) = taken (formats_of limit law) _ l h in
    let (inferred, is-inferred, few) = taken (infer limit law) _ formed formats in
    let (narrow, same) = passed 10 (arguments_over limit law inferred.formats) _ formed few in
    let it : record { inferred = inferred; findings = shown settings (findings_of law inferred.formats) } ≡ l = cc in
    rw (← it) (is-inferred, narrow, refl)

module _ (bytes : List ℕ) (law : Law) (accepted : law_of bytes ≡ given law)
    (limit : ℕ) (settings : Settings) (l : Listing) (is-listed : listing limit settings law ≡ given l) where
  labels : Labelled law
  labels = law_labelled bytes law accepted

  found : (lint subject : ℕ) → Lists (listing_words settings l.findings) lint subject → Found (findings_of law l.inferred.formats) lint subject
  found lint subject w =
      shown_found settings l.findings (findings_of law l.inferred.formats) (listing_parts limit settings law l is-listed).2 lint subject
      (listed_found settings l.findings lint subject w)

  -- a function's sentence that is listed as dead is never chosen
  pub no_false_dead : NeverChosen law (λ i. OfFunction law i × Lists (listing_words settings l.findings) 1 i)
  no_false_dead i r env k left reached (of_function, w) =
      dead_holds law labels l.inferred.formats i r env k left reached (of_function, found 1 i w)

  -- there is no run in which a call listed under the recognition lint finds a sentence of its function whose left side matches, conditions aside, or
  -- in which a function's sentence listed as dead is chosen: for every accepted file, every limit on shapes and all settings for which findings are given
  pub no_false_finding : l.inferred.settled ≡ true → NoFalseFinding law (listing_words settings l.findings)
  no_false_finding settled = record {
    recognition = λ m f v k left reached w.
        recognition_holds limit law labels l.inferred (listing_parts limit settings law l is-listed).0 settled
        m f v k left reached (found 2 m w);
    dead = no_false_dead;
  }
