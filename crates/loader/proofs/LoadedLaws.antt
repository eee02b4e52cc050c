-- What a loader relies on, and the contract of `bilzarko_findings`: each follows from the other.
use Prim.Native.Nat.{ℕ, suc, ◌+◌, ◌*◌, ◌≤◌, ◌<◌}
use mathlib.Core.Bool.{Bool, true, false}
use mathlib.Core.List.{List}
use mathlib.Core.Path.{◌≡◌, refl, sym, ◌∙◌, ap}
use native.Mathlib.Omega.{arith}
use borrow.Author.Tests.{lt-leb, le-leb, leb-true, leb-false}
use lib.Dec.{leb}
use lib.ListN.{length, take, drop, get_or, length-append, length-take}
use lib.Seq.{get_or-take, length-take-le}
use Rattle.file.specs.Answer.{Answer, refused, given}
use Rattle.file.proofs.Answers.{never_both}
use Rattle.law.specs.Tree.{Law}
use Rattle.law.specs.Law.{law_of}
use Rattle.buffers.specs.Written.{written}
use Rattle.lints.specs.Levels.{Settings, listing_words}
use Rattle.lints.specs.Findings.{Listing, listing}
use Rattle.runs.specs.Claim as claim
use Rattle.runs.specs.Claim.{NoFalseFinding}
use Rattle.runs.specs.Machine.{State, called, chosen}
use Rattle.listing.specs.Outcome.{front, findings_front, findings_outcome}
use Rattle.listing.proofs.PromiseLaws.{words_length}
use Rattle.bilzarko.specs.Exported.{FindingsExit, findings_exit, FindingsExported}
use Rattle.loader.specs.Rows.{After, returned, cleared, filled, Listed, Refuses}
use Rattle.loader.specs.Loaded.{listed_in, counted, Claimed, Comes, Finds, Loaded}
use Rattle.loader.proofs.RowLaws.{Case, no_settings, no_law, no_store, no_formats, listed, case_of, front_taken, refuses, by_rows}

abbrev seen : FindingsExit → After
seen e = returned e.number e.store e.findings e.answer

abbrev exit_of : After → FindingsExit
exit_of a = record { number = a.number; store = a.store; findings = a.words; answer = a.answer }

-- ---- findings by their number, and findings in the words before an end

abbrev end_of : After → ℕ
end_of after = 8 * get_or after.answer 0 0

finds_lists : (after : After) → end_of after ≤ length after.words → (lint subject : ℕ) → Finds after lint subject
    → claim.Lists (take (end_of after) after.words) lint subject
finds_lists after room lint subject (j, below, lint_is, subject_is) = (
  j,
  omega (arith, below, length-take-le (end_of after) after.words room),
  get_or-take (end_of after) after.words (8 * j) 0 (omega (arith, below)) ∙ lint_is,
  get_or-take (end_of after) after.words (8 * j + 7) 0 (omega (arith, below)) ∙ subject_is,
)

lists_finds : (after : After) (lint subject : ℕ) → claim.Lists (take (end_of after) after.words) lint subject → Finds after lint subject
lists_finds after lint subject (j, inside, lint_is, subject_is) =
    let short = length-take (end_of after) after.words in (
      j,
      omega (arith, inside, short),
      sym (get_or-take (end_of after) after.words (8 * j) 0 (omega (arith, inside, short))) ∙ lint_is,
      sym (get_or-take (end_of after) after.words (8 * j + 7) 0 (omega (arith, inside, short))) ∙ subject_is,
    )

reached : (law : Law) (state : State) → Comes law state → claim.Reached law state
reached law state c = record {
  function = c.function;
  of_law = c.of_law;
  argument = c.argument;
  answers = c.answers;
  steps = c.steps;
  comes = c.to;
}

comes : (law : Law) (state : State) → claim.Reached law state → Comes law state
comes law state r = record {
  function = r.function;
  of_law = r.of_law;
  argument = r.argument;
  answers = r.answers;
  steps = r.steps;
  to = r.comes;
}

-- ---- the rows

module _ (settings : Settings) (bytes store words answer : List ℕ) where
  abbrev seen_by : Answer Law → After
  seen_by a = seen (findings_exit answer (findings_front 64 settings store words a))

  over : (law : Law) → listing 64 settings law ≡ refused 10 → seen_by (given law) ≡ returned 10 (cleared store) words answer
  over law e = rw e refl

  full : (law : Law) (l : Listing) → listing 64 settings law ≡ given l → length words < 8 * length l.findings
      → seen_by (given law) ≡ returned 11 (filled l store) words answer
  full law l e more = rw (e, lt-leb (8 * length l.findings) (length words) more) refl

  fits : (law : Law) (l : Listing) → listing 64 settings law ≡ given l → 8 * length l.findings ≤ length words
      → seen_by (given law) ≡ returned 0 (filled l store) (listed_in settings l words) (counted l)
  unfolding written
  fits law l e room =
      let same : 0 + length (listing_words settings l.findings) ≡ 8 * length l.findings = omega (arith, words_length settings l.findings) in
      rw (e, le-leb (8 * length l.findings) (length words) room, same) refl

  -- ---- from the exported contract

  module _ (exit : FindingsExit) (exported : FindingsExported 64 settings bytes store words answer exit) where
    sees : seen exit ≡ seen_by (front 64 settings bytes store)
    unfolding findings_outcome
    sees = ap seen exported.outcome

    sees_listed : (law : Law) (l : Listing) → Listed settings bytes store law l → seen exit ≡ seen_by (given law)
    sees_listed law l h = sees ∙ ap seen_by (front_taken settings bytes store law h.taken)

    listed_room : (law : Law) (l : Listing) → Listed settings bytes store law l → exit.number ≡ 0 → (b : Bool)
        → leb (8 * length l.findings) (length words) ≡ b → end_of (seen exit) ≤ length exit.findings
    listed_room law l h none true e =
        let is = sees_listed law l h ∙ fits law l h.is (leb-true (8 * length l.findings) (length words) e) in
        let count : get_or exit.answer 0 0 ≡ length l.findings = ap (λ (a : After). get_or a.answer 0 0) is in
        let long : length exit.findings ≡ length (listed_in settings l words) = ap (λ (a : After). length a.words) is in
        omega (
          arith,
          count,
          long,
          length-append (listing_words settings l.findings) (drop (8 * length l.findings) words),
          words_length settings l.findings,
        )
    listed_room law l h none false e =
        let is = sees_listed law l h ∙ full law l h.is (leb-false (8 * length l.findings) (length words) e) in
        let number : exit.number ≡ 11 = ap (λ (a : After). a.number) is in
        absurd (omega (arith, number, none))

    rows : Refuses settings bytes store words answer (seen exit)
    rows = refuses settings bytes store words answer (seen exit) seen_by (λ n. refl) over sees

    room : (law : Law) → law_of bytes ≡ given law → exit.number ≡ 0 → end_of (seen exit) ≤ length exit.findings
    room law law-is none = go (case_of settings bytes store)
      where
        other : (n : ℕ) (s : List ℕ) → seen exit ≡ returned (suc n) s words answer → end_of (seen exit) ≤ length exit.findings
        other n s is =
            let number : exit.number ≡ suc n = ap (λ (a : After). a.number) is in
            absurd (omega (arith, number, none))

        go : Case settings bytes store → end_of (seen exit) ≤ length exit.findings
        go (no_settings h) = other 13 store (rows.settings_refused h)
        go (no_law n h e) = absurd (never_both law n (sym e ∙ law-is))
        go (no_store read h e short) = other 14 store (rows.store_refused read h e short)
        go (no_formats read n t e) = other 9 (cleared store) (rows.shapes_refused read n t e)
        go (listed read l h) = listed_room read l h none (leb (8 * length l.findings) (length words)) refl

    -- demand 3, of the words before the last finding's end
    claims : (law : Law) → Claimed bytes (seen exit) law → NoFalseFinding law (take (end_of (seen exit)) exit.findings)
    claims law s = exported.no_false_finding law s.read s.listed s.settled

    pub loaded : Loaded settings bytes store words answer (seen exit)
    loaded = record {
      refuses = rows;
      findings_refused = λ law l h more. sees_listed law l h ∙ full law l h.is more;
      lists = λ law l h room. sees_listed law l h ∙ fits law l h.is room;
      never_recognised = λ law s subject finds name v k left c. (claims law s).recognition subject name v k left (reached law (called subject name v k left) c)
          (finds_lists (seen exit) (room law s.read s.listed) 2 subject finds);
      never_chosen = λ law s subject finds own r env k left c. (claims law s).dead subject r env k left (reached law (chosen subject r env k left) c)
          (own, finds_lists (seen exit) (room law s.read s.listed) 1 subject finds);
    }

  -- ---- the exported contract

  module _ (exit : FindingsExit) (loaded : Loaded settings bytes store words answer (seen exit)) where
    listed_seen : (law : Law) (l : Listing) → Listed settings bytes store law l → (b : Bool) → leb (8 * length l.findings) (length words) ≡ b → seen exit ≡ seen_by (given law)
    listed_seen law l h true e =
        let room = leb-true (8 * length l.findings) (length words) e in
        loaded.lists law l h room ∙ sym (fits law l h.is room)
    listed_seen law l h false e =
        let more = leb-false (8 * length l.findings) (length words) e in
        loaded.findings_refused law l h more ∙ sym (full law l h.is more)

    pub exported : FindingsExported 64 settings bytes store words answer exit
    unfolding findings_outcome
    exported = record {
      outcome = ap exit_of (by_rows settings bytes store words answer (seen exit) seen_by (λ n. refl) over loaded.refuses
          (λ law l h. listed_seen law l h (leb (8 * length l.findings) (length words)) refl));
      no_false_finding = λ law read number one.
          let s : Claimed bytes (seen exit) law = record { read = read; listed = number; settled = one } in
          record {
            recognition = λ m f v k left r lists. loaded.never_recognised law s m (lists_finds (seen exit) 2 m lists) f v k left (comes law (called m f v k left) r);
            dead = λ i r env k left c lists. loaded.never_chosen law s i (lists_finds (seen exit) 1 i lists.1) lists.0 r env k left (comes law (chosen i r env k left) c);
          };
    }
