-- The rounds, step by step: how far they have come, and what the store holds then.
use Prim.Native.Nat.{ℕ, ◌+◌, ◌-◌, ◌≤◌, ◌<◌}
use mathlib.Core.Bool.{Bool, true, false}
use mathlib.Core.List.{List}
use mathlib.Core.Path.{◌≡◌, refl, sym, ap, ◌∙◌}
use native.Mathlib.Omega.{arith}
use lib.ListN.{length}
use Rattle.file.specs.Answer.{Answer, refused, given}
use Rattle.file.specs.Sections.{file_of}
use Rattle.law.specs.Tree.{Law}
use Rattle.law.proofs.IndexLaws.{functions_limit}
use Rattle.formats.specs.Infer.{Entry, names_of, round, rounds_from}
use Rattle.formats.specs.Code.Entries.{StoreHolds}
use Rattle.formats.specs.Code.Turns.{RoundAsked, Holding, too_wide, round_stop, rounds_stop, RoundIs, RoundsIs}
use Rattle.std.specs.Prelude.{Result, Ok, Err}
use Rattle.formats.specs.declared.slots.Slots.{Slots}
use Rattle.formats.specs.declared.TooWide.{TooWide}
use Rattle.formats.specs.declared.Inferred as code
use Rattle.formats.proofs.EntryLaws.{rounds_next, rounds_quiet, rounds_over, rounds_end, rounds_stop_next, rounds_stop_over}
use Rattle.formats.proofs.SlotLaws.{names_few}
use Rattle.formats.proofs.TurnSteps.{made_not, made_is}

-- a law that was let pass has few names
pub names_at_most : {bytes index : List ℕ} {slots : Slots} {limit count : ℕ} → RoundAsked bytes index slots limit count → count ≤ 64
names_at_most {bytes} {index} h = omega (arith, h.names, names_few (file_of bytes), functions_limit bytes index h.indexed)

-- ---- what a round's answer tells

module _ (limit : ℕ) (names : List (List ℕ)) (stop found : List Entry) (tail after : List ℕ) (r : Result Bool TooWide) where
  -- a format changed
  answer_changed : (answer : Answer (List Entry × Bool)) → RoundIs limit names answer stop found tail after r → r ≡ Ok true
      → (next : List Entry) × (answer ≡ given (next, true)) × StoreHolds limit names found next tail after
  answer_changed (given next) (holds, e) is =
      let changed = made_is {b = true} (sym e ∙ is) in (next.0, ap (λ b. given (next.0, b)) changed, holds)
  answer_changed (refused n) (holds, e) is = let z : ◌≡◌ {A = ℕ} 0 1 = cc in absurd (omega arith)

  -- nothing changed
  answer_quiet : (answer : Answer (List Entry × Bool)) → RoundIs limit names answer stop found tail after r → r ≡ Ok false
      → (next : List Entry) × (answer ≡ given (next, false)) × StoreHolds limit names found next tail after
  answer_quiet (given next) (holds, e) is =
      let quiet = made_is {b = false} (sym e ∙ is) in (next.0, ap (λ b. given (next.0, b)) quiet, holds)
  answer_quiet (refused n) (holds, e) is = let z : ◌≡◌ {A = ℕ} 0 1 = cc in absurd (omega arith)

  -- a row passed the limit
  answer_over : (answer : Answer (List Entry × Bool)) → RoundIs limit names answer stop found tail after r → r ≡ Err too_wide
      → (n : ℕ) × (answer ≡ refused n) × StoreHolds limit names found stop tail after
  answer_over (given next) (holds, e) is = absurd (made_not next.1 (sym e ∙ is))
  answer_over (refused n) (holds, e) is = (n, refl, holds)

-- ---- the rounds

module _ (limit : ℕ) (law : Law) where
  -- a round from any results that a store holds comes to this store and this answer
  abbrev pub RoundOf : List ℕ → List ℕ → Result Bool TooWide → Type 0
  RoundOf store after r =
      (found results : List Entry) (tail : List ℕ) → StoreHolds limit (names_of law) found results tail store
      → RoundIs limit (names_of law) (round limit law results false) (round_stop limit law results) found tail after r

  -- the rounds from any results that a store holds come to this store and this answer
  abbrev pub RoundsOf : ℕ → List ℕ → List ℕ → Result code.Inferred TooWide → Type 0
  RoundsOf most store after i =
      (found results : List Entry) (tail : List ℕ) → StoreHolds limit (names_of law) found results tail store
      → RoundsIs limit (names_of law) (rounds_from limit most law results 0) (rounds_stop limit most law results) found tail after i

  -- after some rounds, which all changed a format: the results that the store holds, from which the rounds left come to the same
  pub record Reached (most : ℕ) (found results : List Entry) (tail store : List ℕ) (done : ℕ) : Type 0 where
    pub present : List Entry
    pub holds : StoreHolds limit (names_of law) found present tail store
    pub same : rounds_from limit most law results 0 ≡ rounds_from limit (most - done) law present done
    pub stops : rounds_stop limit most law results ≡ rounds_stop limit (most - done) law present

  -- this from any results that the store held before the first round
  pub record RoundsAt (most : ℕ) (before store : List ℕ) (done : ℕ) : Type 0 where
    pub long : length store ≡ length before
    pub reached : (found results : List Entry) (tail : List ℕ) → StoreHolds limit (names_of law) found results tail before
        → Reached most found results tail store done

-- the start: no round is done
pub rounds_start : (limit most : ℕ) (law : Law) (store : List ℕ) → RoundsAt limit law most store store 0
rounds_start limit most law store =
    let left : most - 0 ≡ most = omega arith in
    record { long = refl; reached = λ found results tail h. record { present = results; holds = h; same = rw left; stops = rw left } }

module _ {limit : ℕ} {law : Law} {most : ℕ} {before store : List ℕ} {done : ℕ} (at : RoundsAt limit law most before store done) where
  -- the store holds formats
  pub rounds_holding : Holding limit (names_of law) before → Holding limit (names_of law) store
  rounds_holding h =
      let now = at.reached h.arguments h.results h.tail h.holds in
      record { arguments = h.arguments; results = now.present; tail = h.tail; holds = now.holds }

  -- one more round, which changes a format
  pub rounds_more : (after : List ℕ) (r : Result Bool TooWide) → RoundOf limit law store after r → r ≡ Ok true → done < most → length after ≡ length store
      → RoundsAt limit law most before after (done + 1)
  rounds_more after r made changed inside kept =
      record {
        long = kept ∙ at.long;
        reached = λ found results tail h.
            let now = at.reached found results tail h in
            let (next, is, holds) =
            answer_changed limit (names_of law) (round_stop limit law now.present) found tail after r (round limit law now.present false) (made found now.present tail now.holds) changed in
            record {
              present = next;
              holds = holds;
              same = now.same ∙ rounds_next limit law (most - done) now.present next done (most - (done + 1)) (done + 1) (omega arith) (omega arith) is;
              stops = now.stops ∙ rounds_stop_next limit law (most - done) now.present next (most - (done + 1)) (omega arith) is;
            };
      }

  -- one more round, which changes nothing: it is the last
  pub rounds_settled : (after : List ℕ) (r : Result Bool TooWide) → RoundOf limit law store after r → r ≡ Ok false → done < most
      → RoundsOf limit law most before after (Ok (record { rounds = done + 1; settled = true }))
  rounds_settled after r made quiet inside found results tail h =
      let now = at.reached found results tail h in
      let (next, is, holds) =
      answer_quiet limit (names_of law) (round_stop limit law now.present) found tail after r (round limit law now.present false) (made found now.present tail now.holds) quiet in
      rw (now.same ∙ rounds_quiet limit law (most - done) now.present next done (done + 1) (omega arith) (omega arith) is) (holds, refl)

  -- one more round, in which a row passes the limit
  pub rounds_wide : (after : List ℕ) (r : Result Bool TooWide) → RoundOf limit law store after r → r ≡ Err too_wide → done < most → RoundsOf limit law most before after (Err too_wide)
  rounds_wide after r made over inside found results tail h =
      let now = at.reached found results tail h in
      let (n, is, holds) =
      answer_over limit (names_of law) (round_stop limit law now.present) found tail after r (round limit law now.present false) (made found now.present tail now.holds) over in
      rw (
        now.same ∙ rounds_over limit law (most - done) now.present done n (omega arith) is,
        now.stops ∙ rounds_stop_over limit law (most - done) now.present n (omega arith) is,
      )
      (holds, refl)

  -- no round is left
  pub rounds_out : most ≤ done → RoundsOf limit law most before store (Ok (record { rounds = done; settled = false }))
  rounds_out none_left found results tail h =
      let now = at.reached found results tail h in
      rw (now.same ∙ rounds_end limit law (most - done) now.present done (omega arith)) (now.holds, refl)
