-- The rows that all calls of a listing share, and `front`.
use Prim.Native.Nat.{ℕ, ◌<◌}
use mathlib.Core.Bool.{Bool, true, false}
use mathlib.Core.List.{List}
use mathlib.Core.Path.{◌≡◌, refl, sym, ◌∙◌, ap}
use borrow.Author.Tests.{lt-ltb, le-ltb, ltb-true, ltb-false}
use lib.Dec.{ltb}
use lib.ListN.{length}
use Rattle.file.specs.Answer.{Answer, refused, given, refuse_if, ◌>>=◌, ◌>>◌}
use Rattle.law.specs.Tree.{Law}
use Rattle.law.specs.Law.{law_of}
use Rattle.formats.specs.Infer.{Inferred, infer}
use Rattle.formats.proofs.CallLaws.{only_then, only_pass, infer_ten}
use Rattle.lints.specs.Recognition.{arguments_over}
use Rattle.lints.specs.Levels.{Settings, settings_allowed, shown}
use Rattle.lints.specs.Findings.{Listing, findings_of, formats_of, listing}
use Rattle.listing.specs.Outcome.{front}
use Rattle.loader.specs.Rows.{After, returned, cleared, Taken, Listed, Refuses}

-- 10 is the only refusal of a listing
listing_ten : (settings : Settings) (law : Law) (n : ℕ) → listing 64 settings law ≡ refused n → n ≡ 10
unfolding listing formats_of
listing_ten settings law n e =
    let last : Inferred → Answer Listing = λ i. given (record { inferred = i; findings = shown settings (findings_of law i.formats) }) in
    let next : Inferred → Answer Inferred = λ i. refuse_if 10 (arguments_over 64 law i.formats) >> given i in
    rw e at (only_then (infer 64 law >>= next) last (only_then (infer 64 law) next (infer_ten 64 law)
    (λ i. only_pass (arguments_over 64 law i.formats) (given i) tt)) (λ i. tt))

module _ (settings : Settings) (bytes store : List ℕ) where
  -- what holds of settings, law and store, as the rows have it: always one of these
  pub data Case : Type 0 where
    no_settings : settings_allowed settings ≡ false → Case
    no_law : (n : ℕ) → settings_allowed settings ≡ true → law_of bytes ≡ refused n → Case
    no_store : (law : Law) → settings_allowed settings ≡ true → law_of bytes ≡ given law → length store < 8320 → Case
    no_formats : (law : Law) (n : ℕ) → Taken settings bytes store law → listing 64 settings law ≡ refused n → Case
    listed : (law : Law) (l : Listing) → Listed settings bytes store law l → Case

  by_listing : (law : Law) → Taken settings bytes store law → (a : Answer Listing) → listing 64 settings law ≡ a → Case
  by_listing law t (refused n) e = no_formats law n t e
  by_listing law t (given l) e = listed law l (record { taken = t; is = e })

  by_store : (law : Law) → settings_allowed settings ≡ true → law_of bytes ≡ given law → (b : Bool) → ltb (length store) 8320 ≡ b → Case
  by_store law h e true short = no_store law h e (ltb-true (length store) 8320 short)
  by_store law h e false long =
      by_listing law (record { allowed = h; read = e; room = ltb-false (length store) 8320 long }) (listing 64 settings law) refl

  by_law : settings_allowed settings ≡ true → (a : Answer Law) → law_of bytes ≡ a → Case
  by_law h (refused n) e = no_law n h e
  by_law h (given law) e = by_store law h e (ltb (length store) 8320) refl

  by_settings : (b : Bool) → settings_allowed settings ≡ b → Case
  by_settings false h = no_settings h
  by_settings true h = by_law h (law_of bytes) refl

  pub case_of : Case
  case_of = by_settings (settings_allowed settings) refl

  -- what `front` answers in each
  pub front_settings : settings_allowed settings ≡ false → front 64 settings bytes store ≡ refused 14
  unfolding front
  front_settings h = rw h refl

  pub front_law : (n : ℕ) → settings_allowed settings ≡ true → law_of bytes ≡ refused n → front 64 settings bytes store ≡ refused n
  unfolding front
  front_law n h is = rw (h, is) refl

  pub front_store : (law : Law) → settings_allowed settings ≡ true → law_of bytes ≡ given law → length store < 8320 → front 64 settings bytes store ≡ refused 15
  unfolding front
  front_store law h is short = rw (h, is, lt-ltb (length store) 8320 short) refl

  pub front_taken : (law : Law) → Taken settings bytes store law → front 64 settings bytes store ≡ given law
  unfolding front
  front_taken law t = rw (t.allowed, t.read, le-ltb (length store) 8320 t.room) refl

-- `seen` is what a caller sees after a call, by what `front` answers
module _ (settings : Settings) (bytes store words answer : List ℕ) (after : After) (seen : Answer Law → After)
    (turned : (n : ℕ) → seen (refused n) ≡ returned n store words answer)
    (over : (law : Law) → listing 64 settings law ≡ refused 10 → seen (given law) ≡ returned 10 (cleared store) words answer) where
  pub refuses : after ≡ seen (front 64 settings bytes store) → Refuses settings bytes store words answer after
  refuses is = record {
    settings_refused = λ h. is ∙ ap seen (front_settings settings bytes store h) ∙ turned 14;
    law_refused = λ n h e. is ∙ ap seen (front_law settings bytes store n h e) ∙ turned n;
    store_refused = λ law h e short. is ∙ ap seen (front_store settings bytes store law h e short) ∙ turned 15;
    shapes_refused = λ law n t e. is ∙ ap seen (front_taken settings bytes store law t) ∙ over law (e ∙ ap refused (listing_ten settings law n e));
  }

  -- the rows leave one outcome
  pub by_rows : Refuses settings bytes store words answer after → ((law : Law) (l : Listing) → Listed settings bytes store law l → after ≡ seen (given law))
      → after ≡ seen (front 64 settings bytes store)
  by_rows rows rest = go (case_of settings bytes store)
    where
      go : Case settings bytes store → after ≡ seen (front 64 settings bytes store)
      go (no_settings h) = rows.settings_refused h ∙ sym (turned 14) ∙ ap seen (sym (front_settings settings bytes store h))
      go (no_law n h e) = rows.law_refused n h e ∙ sym (turned n) ∙ ap seen (sym (front_law settings bytes store n h e))
      go (no_store law h e short) = rows.store_refused law h e short ∙ sym (turned 15) ∙ ap seen (sym (front_store settings bytes store law h e short))
      go (no_formats law n t e) =
          rows.shapes_refused law n t e ∙ sym (over law (e ∙ ap refused (listing_ten settings law n e))) ∙ ap seen (sym (front_taken settings bytes store law t))
      go (listed law l h) = rest law l h ∙ ap seen (sym (front_taken settings bytes store law h.taken))
