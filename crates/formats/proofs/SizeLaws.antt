-- No inferred format has more shapes than the limit (specs/Infer.antt), so that the store has words for each (specs/Store.antt).
use Prim.Native.Nat.{ℕ, ◌≤◌}
use mathlib.Core.List.{List}
use mathlib.Core.Path.{◌≡◌}
use native.Mathlib.Omega.{arith}
use lib.ListN.{length}
use Rattle.file.specs.Answer.{given}
use Rattle.law.specs.Tree.{Law}
use Rattle.shapes.specs.Format.{never}
use Rattle.shapes.specs.Words.{Encodable}
use Rattle.formats.specs.Infer.{Entry, names_of, all_at, round_limit, Inferred, infer_within, infer}
use Rattle.formats.specs.Code.Entries.{EachEntry, Storable}
use Rattle.formats.proofs.SlotLaws.{names_at_most}
use Rattle.formats.proofs.EntryLaws.{all_at_encodable, arguments_keep, rounds_keep}
use Rattle.formats.proofs.RoundLaws.{inferred_parts, infer_holds}

-- every inferred format
pub infer_encodable : (limit most : ℕ) (law : Law) (i : Inferred) → infer_within limit most law ≡ given i
    → EachEntry (Encodable limit) i.formats.arguments × EachEntry (Encodable limit) i.formats.results
infer_encodable limit most law i h =
    inferred_parts limit most law i h (λ found e r f same.
    let start : List Entry = all_at never (names_of law) in
    rw (← same) (
      (arguments_keep limit law start found (all_at_encodable limit (names_of law)) e).0,
      (rounds_keep limit most law start 0 r (all_at_encodable limit (names_of law)) f).0,
    )
    )

-- a store holds what is inferred of at most 64 functions
pub infer_storable : (limit : ℕ) (law : Law) (i : Inferred) → length law ≤ 64 → infer limit law ≡ given i
    → Storable limit (names_of law) i.formats.arguments i.formats.results
unfolding infer
infer_storable limit law i few h =
    let (arguments, results) = infer_encodable limit (round_limit law) law i h in
    record {
      argument_names = (infer_holds limit law i h).argument_names;
      result_names = (infer_holds limit law i h).result_names;
      few = omega (arith, names_at_most law);
      arguments_encodable = arguments;
      results_encodable = results;
    }
