-- The text of one of the findings that were gathered.
use Prim.Native.Nat.{ℕ, zero, suc, ◌+◌, ◌*◌, ◌-◌, ◌≤◌, ◌<◌}
use mathlib.Core.List.{List, [], ◌∷◌, ◌++◌, Memᴰ}
use mathlib.Core.Path.{◌≡◌, refl, sym, ap, ◌∙◌}
use native.Mathlib.Omega.{arith}
use lib.ListN.{length, take, drop, take-append-drop}
use Rattle.std.specs.Prelude.{Ok, Err}
use Rattle.file.specs.Answer.{refused, given}
use Rattle.file.specs.Sections.{file_of}
use Rattle.law.specs.Reading.{tree_of}
use Rattle.buffers.proofs.FittedLaws.{fits, too_long}
use Rattle.buffers.specs.Code.Put.{Put}
use Rattle.buffers.proofs.PutLaws.{put_room}
use Rattle.lints.specs.Finding.{Finding, lint_of, finding_words}
use Rattle.lints.specs.Levels.{Settings, severity_of, listing_words}
use Rattle.lints.specs.Findings.{findings_of}
use Rattle.lints.specs.Message.{message}
use Rattle.lints.specs.Code.Records.{formats_in}
use Rattle.lints.proofs.Listed.{shown_in_lem}
use Rattle.messages.specs.Code.Spoken.{Spoken}
use Rattle.listing.specs.declared.Turned.TheVariants as turned
use Rattle.listing.specs.Outcome.{fitted_bytes, text_at}
use Rattle.listing.specs.Code.Gather.{shown_in, Collected}
use Rattle.listing.specs.Code.Bytes.{told_pair}

-- an empty part
none : (part : List ℕ) → length part ≡ 0 → part ≡ []
none [] h = refl
none (x ∷ part) h = absurd (omega (arith, h))

-- no finding at a position past the last
pub none_at : (fs : List Finding) (p : ℕ) → length fs ≤ p → text_at p fs ≡ refused 12
unfolding text_at
none_at [] p h = refl
none_at (f ∷ fs) zero h = absurd (omega (arith, h))
none_at (f ∷ fs) (suc p) h = none_at fs p (omega (arith, h))

-- the text of a finding at a position, and its words among those of all
pub record FoundAt (settings : Settings) (fs : List Finding) (p : ℕ) (after : List ℕ) : Type 0 where
  pub finding : Finding
  pub at : text_at p fs ≡ given (message finding)
  pub among : Memᴰ finding fs
  pub words : take 8 (drop (8 * p) (listing_words settings fs ++ after)) ≡ finding_words (severity_of settings (lint_of finding.claim)) finding

found_at : (settings : Settings) (fs : List Finding) (p : ℕ) (after : List ℕ) → p < length fs → FoundAt settings fs p after
unfolding text_at listing_words finding_words
found_at settings [] p after h = absurd (omega (arith, h))
found_at settings (f ∷ fs) zero after h = record { finding = f; at = refl; among = Memᴰ.head refl; words = refl }
found_at settings (f ∷ fs) (suc p) after h =
    let rest = found_at settings fs p after (omega (arith, h)) in
    let next : 8 * suc p ≡ suc (suc (suc (suc (suc (suc (suc (suc (8 * p)))))))) = omega arith in
    record { finding = rest.finding; at = rest.at; among = Memᴰ.tail rest.among; words = rw next rest.words }

module _ (settings : Settings) {limit : ℕ} {bytes store own : List ℕ} {count : ℕ} (c : Collected limit settings bytes store own count) where
  abbrev fs : List Finding
  fs = shown_in limit settings bytes store

  -- 12
  pub tell_none : (position : ℕ) (text : List ℕ) → count ≤ position → told_pair (Err turned.NoFinding) text ≡ fitted_bytes 13 text (text_at position fs)
  tell_none position text h = rw (none_at fs position (omega (arith, h, c.counted)))

  module _ (few : 8 * count ≤ length own) (position : ℕ) (less : position < count) where
    here : FoundAt settings fs position (drop (8 * count) own)
    here = found_at settings fs position (drop (8 * count) own) (omega (arith, less, c.counted))

    whole : listing_words settings fs ++ drop (8 * count) own ≡ own
    whole = rw (← c.placed few) (take-append-drop (8 * count) own)

    abbrev part : List ℕ
    part = take (8 * position + 8 - 8 * position) (drop (8 * position) own)

    same : part ≡ finding_words (severity_of settings (lint_of here.finding.claim)) here.finding
    same =
        let eight : 8 * position + 8 - 8 * position ≡ 8 = omega arith in
        rw eight (ap (λ words. take 8 (drop (8 * position) words)) (sym whole) ∙ here.words)

    listed : Memᴰ here.finding (findings_of (tree_of (file_of bytes)) (formats_in (file_of bytes) limit store))
    listed = shown_in_lem settings (findings_of (tree_of (file_of bytes)) (formats_in (file_of bytes) limit store)) here.finding here.among

    pub spoken : Spoken (file_of bytes) limit store part
    spoken = record {
      finding = here.finding;
      severity = severity_of settings (lint_of here.finding.claim);
      listed = listed;
      same = same;
      within = c.within;
    }

    abbrev Puts : List ℕ → ℕ → List ℕ → Type 0
    Puts old next now =
        (f : Finding) (severity : ℕ) → Memᴰ f (findings_of (tree_of (file_of bytes)) (formats_in (file_of bytes) limit store)) → part ≡ finding_words severity f
        → Put old 0 (message f) next now

    put : {old now : List ℕ} {next : ℕ} → Puts old next now → Put old 0 (message here.finding) next now
    put h = h here.finding (severity_of settings (lint_of here.finding.claim)) listed same

    -- the text was put into an empty part first, which only found its length; 13
    pub tell_short : {old part : List ℕ} {next : ℕ} (text : List ℕ) → length part ≡ 0 → Puts old next part → length text < next
        → told_pair (Err turned.Text) (part ++ text) ≡ fitted_bytes 13 text (text_at position fs)
    tell_short {old} {part} {next} text empty h short =
        rw (none part empty, here.at, too_long 13 text (message here.finding) (omega (arith, short, (put {old = old} {now = part} {next = next} h).end)))

    pub tell_written : {old part : List ℕ} {next last : ℕ} (text end : List ℕ) → length part ≡ 0 → Puts old next part → next ≤ length text
        → Puts (part ++ text) last end → told_pair (Ok next) end ≡ fitted_bytes 13 text (text_at position fs)
    tell_written {old} {part} {next} {last} text end empty h room k =
        let number : next ≡ length (message here.finding) = omega (arith, (put {old = old} {now = part} {next = next} h).end) in
        let there : Puts text last end = rw (none part empty) at k in
        let again : last ≡ length (message here.finding) = omega (arith, (put {old = text} {now = end} {next = last} there).end) in
        rw (
          here.at,
          fits 13 text (message here.finding) (omega (arith, room, number)),
          put_room (put {old = text} {now = end} {next = last} there) (omega (arith, again, number, room)),
          number,
        )
