-- What collecting all lints comes to is what the listing says.
use Prim.Native.Nat.{ℕ, ◌*◌, ◌≤◌, ◌<◌}
use mathlib.Core.Bool.{Bool, true, false}
use mathlib.Core.List.{List, map}
use mathlib.Core.Logic.{◌⊎◌, inl, inr}
use mathlib.Core.Path.{◌≡◌, refl, ap, ◌∙◌}
use native.Mathlib.Omega.{arith}
use native.Mathlib.Nat.{zero-add}
use lib.ListN.{length}
use Rattle.file.specs.Answer.{refused, given}
use Rattle.law.specs.Tree.{Law}
use Rattle.formats.specs.Infer.{Inferred, infer}
use Rattle.buffers.specs.Written.{written}
use Rattle.lints.specs.Finding.{Finding, finding_words}
use Rattle.lints.specs.Recognition.{arguments_over}
use Rattle.lints.specs.Levels.{Settings, shown, listing_words}
use Rattle.lints.specs.Findings.{findings_of, formats_of, listing}
use Rattle.findings.specs.Code.Events.{Over, Full, Upto, Sink, sink_of, collect}
use Rattle.findings.specs.Code.All.{all_events}
use Rattle.findings.proofs.FitLaws.{collect_fits, collect_counts, collect_full}
use Rattle.findings.proofs.EventLaws.{words_under, event_of, all_found_lem}
use Rattle.findings.proofs.OverLaws.{all_ends}

-- a finding has eight words
eight : (settings : Settings) (f : Finding) → length (words_under settings f) ≡ 8
unfolding finding_words
eight settings f = refl

-- what is left in tally and buffer, where the findings are these
pub record Left (settings : Settings) (room : ℕ) (fs : List Finding) (before : List ℕ) (s : Sink) : Type 0 where
  pub counted : 8 * length fs ≤ room → s.tally ≡ Upto (length fs)
  pub placed : 8 * length fs ≤ room → 8 * length fs ≤ length before → s.words ≡ written before 0 (listing_words settings fs)
  pub over : room < 8 * length fs → s.tally ≡ Full

pub all_left : (settings : Settings) (room : ℕ) (fs : List Finding) (before : List ℕ) (s : Sink)
    → s ≡ collect room (sink_of (Upto 0) before) (map (event_of settings) fs) → Left settings room fs before s
unfolding listing_words
all_left settings room fs before s e = record {
  counted = λ fits. rw e (collect_counts (words_under settings) (eight settings) room 0 before fs (omega (arith, fits)) ∙ ap Upto (zero-add (length fs)));
  placed = λ fits holds. rw e (ap (λ (t : Sink). t.words) (collect_fits (words_under settings) (eight settings) room 0 before fs (omega (arith, fits)) (omega (arith, holds))));
  over = λ more. rw e (collect_full (words_under settings) (eight settings) room 0 before fs (omega arith) (omega (arith, more)));
}

-- the listing, by the formats that were inferred
listing_wide : (limit : ℕ) (settings : Settings) (law : Law) (i : Inferred) → infer limit law ≡ given i → arguments_over limit law i.formats ≡ true
    → listing limit settings law ≡ refused 10
unfolding listing formats_of
listing_wide limit settings law i e w = rw (e, w)

listing_fits : (limit : ℕ) (settings : Settings) (law : Law) (i : Inferred) → infer limit law ≡ given i → arguments_over limit law i.formats ≡ false
    → listing limit settings law ≡ given (record { inferred = i; findings = shown settings (findings_of law i.formats) })
unfolding listing formats_of
listing_fits limit settings law i e w = rw (e, w)

-- either an argument is too wide, or the findings are collected
pub record Wide (limit : ℕ) (settings : Settings) (law : Law) (s : Sink) : Type 0 where
  pub says : listing limit settings law ≡ refused 10
  pub tally : s.tally ≡ Over

pub record Narrow (limit : ℕ) (settings : Settings) (room : ℕ) (law : Law) (i : Inferred) (before : List ℕ) (s : Sink) : Type 0 where
  pub within : arguments_over limit law i.formats ≡ false
  pub says : listing limit settings law ≡ given (record { inferred = i; findings = shown settings (findings_of law i.formats) })
  pub left : Left settings room (shown settings (findings_of law i.formats)) before s

pub comes_to_lem : (limit : ℕ) (settings : Settings) (room : ℕ) (law : Law) (i : Inferred) (before : List ℕ) (s : Sink) → infer limit law ≡ given i
    → s ≡ collect room (sink_of (Upto 0) before) (all_events law i.formats settings room limit)
    → Wide limit settings law s ⊎ Narrow limit settings room law i before s
comes_to_lem limit settings room law i before s inferred e = go (arguments_over limit law i.formats) refl
  where
    go : (b : Bool) → arguments_over limit law i.formats ≡ b → Wide limit settings law s ⊎ Narrow limit settings room law i before s
    go true w = inl (record {
      says = listing_wide limit settings law i inferred w;
      tally = rw e (all_ends law i.formats settings room limit w (sink_of (Upto 0) before));
    })
    go false w = inr (record {
      within = w;
      says = listing_fits limit settings law i inferred w;
      left =
          all_left settings room (shown settings (findings_of law i.formats)) before s
          (e ∙ ap (λ es. collect room (sink_of (Upto 0) before) es)
          (all_found_lem settings room limit law i.formats w));
    })
