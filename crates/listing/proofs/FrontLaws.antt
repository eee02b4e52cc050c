-- The front that all calls share, one law for each way through it.
use Prim.Native.Nat.{ℕ, ◌≤◌, ◌<◌}
use mathlib.Core.Bool.{Bool, true, false}
use mathlib.Core.List.{List}
use mathlib.Core.Path.{◌≡◌, refl, ap, ◌∙◌}
use native.Mathlib.Omega.{arith}
use borrow.Author.Tests.{lt-ltb, le-ltb}
use lib.ListN.{length}
use Rattle.std.specs.Prelude.{Result, Ok, Err}
use Rattle.std.specs.Prelude.{}
use Rattle.file.specs.Answer.{refused, given}
use Rattle.file.specs.Sections.{file_of, number_of}
use Rattle.file.specs.declared.Refusal.{Refusal}
use Rattle.file.proofs.Answers.{map_refused, map_given}
use Rattle.law.specs.Reading.{tree_of}
use Rattle.law.specs.Law.{law_of, check_answer, check_of}
use Rattle.law.specs.Code.Accepted.{IndexAfter, Accepted}
use Rattle.law.proofs.Accepted.{law_accepted}
use Rattle.lints.specs.Levels.{Settings, settings_allowed}
use Rattle.listing.specs.declared.Turned.{Turned}
use Rattle.listing.specs.declared.Turned.TheVariants as turned
use Rattle.formats.specs.Store.{store_size}
use Rattle.listing.specs.Outcome.{front}
use Rattle.listing.specs.Code.Gather.{FrontIs, IndexLeft}

module _ (limit : ℕ) (settings : Settings) (bytes : List ℕ) (words : ℕ) (before : List ℕ) where
  abbrev Says : Result (Unit {0}) Turned → List ℕ → Type 0
  Says answer index =
      ((store : List ℕ) → length store ≡ words → FrontIs limit settings bytes store answer index)
      × IndexLeft (settings_allowed settings) (law_of bytes) bytes before index

  -- 14
  pub turned_settings : {allowed : Bool} → allowed ≡ settings_allowed settings → allowed ≡ false → Says (Err turned.Settings) before
  unfolding front
  turned_settings e q = (λ store l. rw (← e, q) refl, rw (← e, q) refl)

  module _ {allowed : Bool} (e : allowed ≡ settings_allowed settings) (q : allowed ≡ true) {check : Result (Unit {0}) Refusal} (index : List ℕ)
      (verdict : check_answer check ≡ check_of bytes) (indexed : IndexAfter check bytes index) where
    refused_by : (why : Refusal) → check ≡ Err why → law_of bytes ≡ refused (number_of why)
    refused_by why r = map_refused (λ _. tt) (law_of bytes) (number_of why) (rw r at verdict)

    -- 1 to 9
    pub turned_file : (why : Refusal) → check ≡ Err why → Says (Err (turned.File why)) index
    unfolding front
    turned_file why r = (λ store l. rw (← e, q, refused_by why r) refl, rw (← e, q, refused_by why r) (rw r at indexed))

    accepted : check ≡ Ok tt → Accepted bytes × (law_of bytes ≡ given (tree_of (file_of bytes)))
    accepted r =
        map_given (λ _. tt) (law_of bytes) tt (rw r at verdict)
        (λ law is same. let (ok, tree) = law_accepted bytes law is in (ok, is ∙ ap given tree))

    filled : check ≡ Ok tt → IndexLeft (settings_allowed settings) (law_of bytes) bytes before index
    filled r = rw (← e, q, (accepted r).1) (rw r at indexed)

    -- 15
    pub turned_store : check ≡ Ok tt → words < store_size limit → Says (Err turned.Store) index
    unfolding front
    turned_store r short = (λ store l. rw (← e, q, (accepted r).1, l, lt-ltb words (store_size limit) short) refl, filled r)

    pub goes_on_lem : check ≡ Ok tt → limit ≤ 64 → store_size limit ≤ words → Says (Ok tt) index
    unfolding front
    goes_on_lem r small enough = (
      λ store l. (
        rw (← e, q, (accepted r).1, l, le-ltb words (store_size limit) enough) refl,
        record { indexed = rw r at indexed; accepted = (accepted r).0; small = small; room = omega (arith, l, enough) },
      ),
      filled r,
    )
