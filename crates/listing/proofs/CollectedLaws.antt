-- From what was inferred and gathered to what the calls hand over.
use Prim.Native.Nat.{ℕ, ◌+◌, ◌*◌, ◌≤◌}
use mathlib.Core.Bool.{false}
use mathlib.Core.List.{List, ◌++◌}
use mathlib.Core.Logic.{◌⊎◌, inl, inr}
use mathlib.Core.Path.{◌≡◌, refl, sym, ap, ◌∙◌}
use native.Mathlib.Omega.{arith}
use native.Mathlib.Decide.{dec_le}
use lib.ListN.{length, drop, replicate, length-append}
use Rattle.std.specs.Prelude.{Result, Ok, Err}
use Rattle.file.specs.Answer.{Answer, refused, given}
use Rattle.file.specs.Sections.{file_of}
use Rattle.law.specs.Tree.{Law}
use Rattle.law.specs.Reading.{tree_of}
use Rattle.law.specs.declared.places.AcceptedLaw.{AcceptedLaw}
use Rattle.law.proofs.Functions.{tree_length}
use Rattle.law.proofs.IndexLaws.{functions_limit}
use Rattle.formats.specs.Infer.{Inferred, infer}
use Rattle.formats.specs.Store.{store_size, store_words}
use Rattle.formats.specs.Code.Entries.{StoreHolds}
use Rattle.formats.specs.Code.Slots.{SlotsOf, file_names}
use Rattle.formats.specs.Code.Turns.{InferIs, too_wide}
use Rattle.formats.specs.declared.Inferred as code
use Rattle.formats.specs.declared.TooWide.{TooWide}
use Rattle.formats.specs.declared.slots.Slots.{Slots}
use Rattle.formats.specs.Code.Held.{Holds}
use Rattle.formats.proofs.CallLaws.{infer_ten}
use Rattle.formats.proofs.StateLaws.{read_past, store_length}
use Rattle.formats.proofs.SizeLaws.{infer_storable}
use Rattle.formats.proofs.SentenceLaws.{arguments_said, results_said, holds_said}
use Rattle.lints.specs.Finding.{Finding}
use Rattle.lints.specs.Recognition.{arguments_over}
use Rattle.lints.specs.Levels.{Settings, shown, listing_words}
use Rattle.lints.specs.Findings.{findings_of, formats_of, Listing, listing}
use Rattle.lints.specs.Code.Records.{formats_in}
use Rattle.findings.specs.Code.Events.{Tally, Over, Full, Upto, Sink, sink_of, collect}
use Rattle.findings.specs.Code.All.{all_events}
use Rattle.listing.specs.declared.Turned.{Turned}
use Rattle.listing.specs.declared.Turned.TheVariants as turned
use Rattle.listing.specs.declared.Listed.{Listed}
use Rattle.listing.specs.Outcome.{store_after}
use Rattle.listing.specs.Code.Gather.{Prepares, StoreFilled, Fitted, GatheredIs, buffer_after, GatherIs, shown_in, Collected}
use Rattle.runs.proofs.NoFalse.{listing_parts}
use Rattle.listing.proofs.PromiseLaws.{words_length, start_taken}
use Rattle.listing.proofs.GatherLaws.{Wide, Narrow, comes_to_lem}

module _ {limit : ℕ} {bytes index store : List ℕ} (p : Prepares limit bytes index store) {slots : Slots} (s : SlotsOf (file_of bytes) slots) where
  few : length (tree_of (file_of bytes)) ≤ 64
  few = omega (arith, tree_length (file_of bytes), functions_limit bytes index p.indexed)

  -- a store with what was inferred
  holds : (i : Inferred) (tail after : List ℕ) → infer limit (tree_of (file_of bytes)) ≡ given i → after ≡ store_words limit i ++ tail
      → StoreHolds limit (file_names (file_of bytes)) i.formats.arguments i.formats.results tail after
  holds i tail after inferred words = record { entries = infer_storable limit (tree_of (file_of bytes)) i few inferred; words = words }

  pub stored : (i : Inferred) (tail after : List ℕ) → infer limit (tree_of (file_of bytes)) ≡ given i → after ≡ store_words limit i ++ tail
      → Holds limit (file_names (file_of bytes)) after
  stored i tail after inferred words = holds_said (holds i tail after inferred words) (omega (arith, p.small))

  -- what the store says is what was inferred
  pub said : (i : Inferred) (tail after : List ℕ) → infer limit (tree_of (file_of bytes)) ≡ given i → after ≡ store_words limit i ++ tail
      → formats_in (file_of bytes) limit after ≡ i.formats
  said i tail after inferred words =
      rw (arguments_said (holds i tail after inferred words) (omega (arith, p.small)), results_said (holds i tail after inferred words) (omega (arith, p.small)))

-- an accepted law, and a store that is long enough
pub prepares : (a : AcceptedLaw) {limit : ℕ} {store : List ℕ} → limit ≤ 64 → store_size limit ≤ length store
    → Prepares limit a.law.bytes.now a.law.index.now store
prepares a small room = record { indexed = a.law.indexed; accepted = a.accepted; small = small; room = room }

-- ---- tallies differ

over_full : Over ≡ Full → ⊥
over_full e = cc

over_upto : (n : ℕ) → Over ≡ Upto n → ⊥
over_upto n e = cc

full_upto : (n : ℕ) → Full ≡ Upto n → ⊥
full_upto n e = cc

upto_same : (m n : ℕ) → Upto m ≡ Upto n → m ≡ n
upto_same m n e = cc

-- ---- findings of a law whose formats are in the store

module _ {limit : ℕ} {inferred : code.Inferred} (room : ℕ) (settings : Settings) {bytes index store : List ℕ} {slots : Slots} {tally : Tally} (out now : List ℕ)
    (p : Prepares limit bytes index store) (s : SlotsOf (file_of bytes) slots) (f : StoreFilled limit (file_of bytes) store inferred)
    (e : sink_of tally now
    ≡ collect room (sink_of (Upto 0) out) (all_events (tree_of (file_of bytes)) (formats_in (file_of bytes) limit store) settings room limit)) where
  abbrev law : Law
  law = tree_of (file_of bytes)

  abbrev fs : List Finding
  fs = shown settings (findings_of law f.made.formats)

  came : Wide limit settings law (sink_of tally now) ⊎ Narrow limit settings room law f.made out (sink_of tally now)
  came =
      comes_to_lem limit settings room law f.made out (sink_of tally now) f.inferred
      (rw (said p s f.made (drop (store_size limit) store) store f.inferred f.words) at e)

  -- the buffer, by what was inferred
  placed : now ≡ buffer_after limit settings room law out (infer limit law)
  placed =
      rw f.inferred
      (ap (λ (t : Sink). t.words) (rw (said p s f.made (drop (store_size limit) store) store f.inferred f.words) at e))

  -- the store is as it was
  kept : Narrow limit settings room law f.made out (sink_of tally now) → store ≡ store_after limit store (listing limit settings law)
  kept n = rw n.says f.words

  pub gather_wide : (after : List ℕ) → tally ≡ Over → after ≡ replicate (store_size limit) 0 ++ drop (store_size limit) store
      → GatherIs limit settings room bytes store after out now (Err turned.Shapes)
  gather_wide after is words = go came
    where
      go : Wide limit settings law (sink_of tally now) ⊎ Narrow limit settings room law f.made out (sink_of tally now)
          → GatherIs limit settings room bytes store after out now (Err turned.Shapes)
      go (inl w) = record { store = rw w.says words; gathered = rw w.says (refl, refl); buffer = placed }
      go (inr n) = absurd (fits (dec_le (8 * length fs) room))
        where
          fits : Dec (8 * length fs ≤ room) → ⊥
          fits (yes l) = over_upto (length fs) (sym is ∙ n.left.counted l)
          fits (no l) = over_full (sym is ∙ n.left.over (omega (arith, l)))

  pub gather_full : tally ≡ Full → GatherIs limit settings room bytes store store out now (Err turned.Findings)
  gather_full is = go came
    where
      go : Wide limit settings law (sink_of tally now) ⊎ Narrow limit settings room law f.made out (sink_of tally now)
          → GatherIs limit settings room bytes store store out now (Err turned.Findings)
      go (inl w) = absurd (over_full (sym w.tally ∙ is))
      go (inr n) = record {
        store = kept n;
        gathered = rw n.says (record {
          counted = λ l. absurd (full_upto (length fs) (sym is ∙ n.left.counted l));
          placed = λ l m. absurd (full_upto (length fs) (sym is ∙ n.left.counted l));
          over = λ l. refl;
        });
        buffer = placed;
      }

  pub gather_upto : (count : ℕ) → tally ≡ Upto count → GatherIs limit settings room bytes store store out now (Ok (record { count = count; rounds = inferred.rounds; settled = inferred.settled }))
  gather_upto count is = go came
    where
      go : Wide limit settings law (sink_of tally now) ⊎ Narrow limit settings room law f.made out (sink_of tally now)
          → GatherIs limit settings room bytes store store out now (Ok (record { count = count; rounds = inferred.rounds; settled = inferred.settled }))
      go (inl w) = absurd (over_upto count (sym w.tally ∙ is))
      go (inr n) = record {
        store = kept n;
        gathered = rw n.says (record {
          counted = λ l. rw (upto_same count (length fs) (sym is ∙ n.left.counted l), f.ran.0, f.ran.1);
          placed = n.left.placed;
          over = λ l. absurd (full_upto count (sym (n.left.over l) ∙ is));
        });
        buffer = placed;
      }

-- ---- formats first

listing_over : (limit : ℕ) (settings : Settings) (law : Law) (n : ℕ) → infer limit law ≡ refused n → listing limit settings law ≡ refused n
unfolding listing formats_of
listing_over limit settings law n e = rw e

made_wide : (i : code.Inferred) → ◌≡◌ {A = Result code.Inferred TooWide} (Ok i) (Err too_wide) → ⊥
made_wide i e = cc

module _ {limit : ℕ} (room : ℕ) (settings : Settings) {bytes index before : List ℕ} {slots : Slots} (after : List ℕ) (r : Result code.Inferred TooWide)
    (p : Prepares limit bytes index before) (s : SlotsOf (file_of bytes) slots)
    (h : InferIs limit (infer limit (tree_of (file_of bytes))) before after r) where
  abbrev tree : Law
  tree = tree_of (file_of bytes)

  -- a format has too many shapes
  pub infer_wide : (out : List ℕ) → r ≡ Err too_wide → GatherIs limit settings room bytes before after out out (Err turned.Shapes)
  infer_wide out is = go (infer limit tree) refl h
    where
      ten : (n : ℕ) → infer limit tree ≡ refused n → n ≡ 10
      ten n e = rw e at (infer_ten limit tree)

      go : (a : Answer Inferred) → infer limit tree ≡ a → InferIs limit a before after r → GatherIs limit settings room bytes before after out out (Err turned.Shapes)
      go (given i) e k = absurd (made_wide _ (sym k.1 ∙ is))
      go (refused n) e k = record {
        store = rw (listing_over limit settings tree n e, ten n e) k.0;
        gathered = rw (listing_over limit settings tree n e) (ten n e, refl);
        buffer = rw e refl;
      }

  module _ (inferred : code.Inferred) (is : r ≡ Ok inferred) where
    abbrev Formed : Type 0
    Formed = (i : Inferred) × (infer limit tree ≡ given i) × (after ≡ store_words limit i ++ drop (store_size limit) before)
        × (inferred ≡ record { rounds = i.rounds; settled = i.settled })

    formed : Formed
    formed = go (infer limit tree) refl h
      where
        same : {a b : code.Inferred} → ◌≡◌ {A = Result code.Inferred TooWide} (Ok a) (Ok b) → a ≡ b
        same e = cc

        go : (a : Answer Inferred) → infer limit tree ≡ a → InferIs limit a before after r → Formed
        go (given i) e k = (i, e, k.0, same (sym is ∙ k.1))
        go (refused n) e k = absurd (made_wide inferred (sym is ∙ k.1))

    held : StoreHolds limit (file_names (file_of bytes)) formed.0.formats.arguments formed.0.formats.results (drop (store_size limit) before) after
    held = holds p s formed.0 (drop (store_size limit) before) after formed.1 formed.2

    past : drop (store_size limit) after ≡ drop (store_size limit) before
    past =
        let none : store_size limit + 0 ≡ store_size limit = omega arith in
        rw none at (read_past held 0)

    -- the store holds them
    pub filled_store : StoreFilled limit (file_of bytes) after inferred
    filled_store = record {
      made = formed.0;
      inferred = formed.1;
      words = formed.2 ∙ ap (λ tail. store_words limit formed.0 ++ tail) (sym past);
      ran = (ap (λ (i : code.Inferred). i.rounds) formed.3, ap (λ (i : code.Inferred). i.settled) formed.3);
    }

    pub filled_prepares : Prepares limit bytes index after
    filled_prepares = record {
      indexed = p.indexed;
      accepted = p.accepted;
      small = p.small;
      room = rw formed.2 (omega (arith, length-append (store_words limit formed.0) (drop (store_size limit) before), store_length held.entries));
    }

    -- and then its findings are gathered
    pub gather_both : (end start now : List ℕ) (g : Result Listed Turned) → GatherIs limit settings room bytes after end start now g
        → GatherIs limit settings room bytes before end start now g
    gather_both end start now g k = record { store = k.store ∙ same_past (listing limit settings tree) k.gathered; gathered = k.gathered; buffer = k.buffer }
      where
        same_past : (a : Answer Listing) → GatheredIs settings room a start now g → store_after limit after a ≡ store_after limit before a
        same_past (refused n) q = rw (q.0, past)
        same_past (given l) q = rw past

-- what is listed, by an answer that lists
pub ok_same : {a b : Listed} → ◌≡◌ {A = Result Listed Turned} (Ok a) (Ok b) → a ≡ b
ok_same e = cc

-- ---- findings to be handed over

module _ {limit : ℕ} (settings : Settings) {bytes index before after : List ℕ} {slots : Slots} (p : Prepares limit bytes index before) (s : SlotsOf (file_of bytes) slots)
    (l : Listing) (is : listing limit settings (tree_of (file_of bytes)) ≡ given l) (words : after ≡ store_words limit l.inferred ++ drop (store_size limit) before) where
  says : formats_in (file_of bytes) limit after ≡ l.inferred.formats
  says = said p s l.inferred (drop (store_size limit) before) after (listing_parts limit settings (tree_of (file_of bytes)) l is).0 words

  -- the findings by the store are those of the listing
  pub shown_are : shown_in limit settings bytes after ≡ l.findings
  shown_are =
      ap (λ formats. shown settings (findings_of (tree_of (file_of bytes)) formats)) says
      ∙ sym (listing_parts limit settings (tree_of (file_of bytes)) l is).2

  pub within : arguments_over limit (tree_of (file_of bytes)) (formats_in (file_of bytes) limit after) ≡ false
  within =
      ap (arguments_over limit (tree_of (file_of bytes))) says
      ∙ (listing_parts limit settings (tree_of (file_of bytes)) l is).1

  -- the store holds formats
  pub held_after : Holds limit (file_names (file_of bytes)) after
  held_after = stored p s l.inferred (drop (store_size limit) before) after (listing_parts limit settings (tree_of (file_of bytes)) l is).0 words

  pub collected : (room : ℕ) (found : Listed) (own start : List ℕ) → length own ≡ length start
      → Fitted settings room l start own (Ok found) → 8 * length l.findings ≤ room
      → Collected limit settings bytes after own found.count
  collected room found own start kept f fits =
      let number : found.count ≡ length l.findings = ap (λ (same : Listed). same.count) (ok_same (f.counted fits)) in
      record {
        within = within;
        counted = number ∙ ap length (sym shown_are);
        placed = λ few.
            rw (shown_are, f.placed fits (omega (arith, number, few, kept)), number)
            (start_taken start (listing_words settings l.findings) (8 * length l.findings) (words_length settings l.findings));
      }
