-- Demand 3 of what the findings call lists.
use Prim.Native.Nat.{ℕ, ◌+◌, ◌*◌}
use mathlib.Core.Bool.{Bool, true, false, not, cond}
use mathlib.Core.List.{List, [], ◌∷◌}
use mathlib.Core.Path.{◌≡◌, refl, sym, ap, ◌∙◌}
use native.Mathlib.Omega.{arith}
use lib.ListN.{length, take, drop}
use lib.Seq.{take_at}
use lib.Dec.{leb, ltb}
use Rattle.std.specs.Prelude.{Result}
use Rattle.file.specs.Answer.{Answer, refused, given, refuse_if, ◌>>=◌, ◌>>◌}
use Rattle.law.specs.Tree.{Law}
use Rattle.law.specs.Law.{law_of}
use Rattle.file.proofs.Answers.{never_both}
use Rattle.law.proofs.Accepted.{passed, taken}
use Rattle.formats.specs.Store.{store_size}
use Rattle.buffers.specs.Written.{written}
use Rattle.lints.specs.Finding.{Finding, finding_words}
use Rattle.lints.specs.Levels.{Settings, settings_allowed, listing_words}
use Rattle.lints.specs.Findings.{Listing, listing}
use Rattle.runs.specs.Claim.{NoFalseFinding}
use Rattle.runs.proofs.NoFalse as runs
use Rattle.listing.specs.declared.Turned.{Turned}
use Rattle.listing.specs.declared.Listed.{Listed}
use Rattle.listing.specs.Outcome.{Count, found_answer, front, listed_by, findings_front, findings_outcome}
use Rattle.listing.specs.Promise.{findings_after, FindingsPromise}

-- eight words a finding
pub words_length : (settings : Settings) (fs : List Finding) → length (listing_words settings fs) ≡ 8 * length fs
unfolding listing_words finding_words
words_length settings [] = refl
words_length settings (f ∷ fs) = omega (arith, words_length settings fs)

-- what was written at the start of a buffer
pub start_taken : (old new : List ℕ) (n : ℕ) → length new ≡ n → take n (written old 0 new) ≡ new
unfolding written
start_taken old new n e = take_at new (drop (0 + length new) old) n e

given_same : {A : Type 0} {a b : A} → given a ≡ given b → a ≡ b
given_same e = cc

module _ (limit : ℕ) (settings : Settings) (bytes store words filled after : List ℕ) (r : Result Listed Turned)
    (outcome : findings_after r filled after ≡ findings_outcome limit settings bytes store words) where
  abbrev Claims : Law → Count → Type 0
  Claims law count = count.settled ≡ true → NoFalseFinding law (take (8 * count.findings) after)

  -- the findings fit
  fit : (law : Law) (count : Count) (l : Listing) → law_of bytes ≡ given law → listing limit settings law ≡ given l → (b : Bool)
      → ◌≡◌ {A = Answer Count × List ℕ}
      (cond b (
        given (record { findings = length l.findings; rounds = l.inferred.rounds; settled = l.inferred.settled }),
        written words 0 (listing_words settings l.findings),
      ) (refused 11, words))
      (given count, after)
      → Claims law count
  fit law count l law-is listing-is true e is-settled =
      let same : record { findings = length l.findings; rounds = l.inferred.rounds; settled = l.inferred.settled } ≡ count =
      given_same (ap (λ p. p.0) e) in
      let number : length l.findings ≡ count.findings = ap (λ c. c.findings) same in
      let quiet : l.inferred.settled ≡ count.settled = ap (λ c. c.settled) same in
      let buffer : written words 0 (listing_words settings l.findings) ≡ after = ap (λ p. p.1) e in
      rw (← buffer, ← number, start_taken words (listing_words settings l.findings) (8 * length l.findings) (words_length settings l.findings))
      (runs.no_false_finding bytes law law-is limit settings l listing-is (quiet ∙ is-settled))
  fit law count l law-is listing-is false e is-settled = absurd (never_both count 11 (ap (λ p. p.0) e))

  -- the law is listed
  list : (law : Law) (count : Count) → law_of bytes ≡ given law → (a : Answer Listing) → listing limit settings law ≡ a
      → ◌≡◌ {A = Answer Count × List ℕ} (listed_by settings words a) (given count, after) → Claims law count
  list law count law-is (refused n) is e = absurd (never_both count n (ap (λ p. p.0) e))
  list law count law-is (given l) is e = fit law count l law-is is (leb (8 * length l.findings) (length words)) e

  -- no refusal of the front holds
  front_given : (law : Law) → front limit settings bytes store ≡ given law → law_of bytes ≡ given law
  unfolding front
  front_given law e =
      let last : Law → Answer Law = λ read. refuse_if 15 (ltb (length store) (store_size limit)) >> given read in
      let (allowed, next) = passed 14 (not (settings_allowed settings)) (law_of bytes >>= last) law e in
      let (read, is, rest) = taken (law_of bytes) last law next in
      let (long, same) = passed 15 (ltb (length store) (store_size limit)) (given read) law rest in
      is ∙ same

  go : (law : Law) (count : Count) → law_of bytes ≡ given law → found_answer r ≡ given count → (a : Answer Law) → front limit settings bytes store ≡ a
      → findings_after r filled after ≡ findings_front limit settings store words a → Claims law count
  go law count law-is answer (refused n) is e = absurd (never_both count n (sym (ap (λ o. o.answer) e) ∙ answer))
  go law count law-is answer (given read) is e =
      let same : read ≡ law = given_same (sym (front_given read is) ∙ law-is) in
      list law count law-is (listing limit settings law) refl
      (rw (← same) (pair (listed_by settings words (listing limit settings read)) (sym (ap (λ o. o.answer) e) ∙ answer) (sym (ap (λ o. o.findings) e))))
    where
      pair : (p : Answer Count × List ℕ) → p.0 ≡ given count → p.1 ≡ after → ◌≡◌ {A = Answer Count × List ℕ} p (given count, after)
      pair (x, y) a b = rw (a, b)

  pub promise : FindingsPromise limit settings bytes store words filled after r
  unfolding findings_outcome
  promise = record {
    outcome = outcome;
    no_false_finding = λ law count law-is answer. go law count law-is answer (front limit settings bytes store) refl outcome;
  }
