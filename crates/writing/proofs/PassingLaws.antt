-- Laws for the loops over tokens that put records: those put so far and those that are left are all of them.
use Prim.Native.Nat.{ℕ, ◌+◌, ◌*◌, ◌≤◌, ◌<◌}
use mathlib.Core.List.{List, [], ◌++◌, append-nil, append_assoc}
use mathlib.Core.Path.{◌≡◌, refl, sym, ap, ◌∙◌}
use native.Mathlib.Omega.{arith}
use native.Mathlib.Nat.{mul-suc, mul-le-mul_left}
use native.Mathlib.Numerals.{add-one}
use lib.ListN.{length}
use Rattle.buffers.specs.Code.Put.{Put}
use Rattle.buffers.proofs.PutLaws.{put_none, ◌then◌}
use Rattle.tokens.specs.Token.{Placed}
use Rattle.encoding.specs.Encode.{Record, records_bytes}
use Rattle.encoding.proofs.RecordLaws.{records_append}
use Rattle.writing.proofs.SectionLaws.{bytes_none}

pub record Passing (all left : List Record) (old : List ℕ) (at next : ℕ) (now : List ℕ) : Type 0 where
  pub before : List Record
  pub whole : before ++ left ≡ all
  pub put : Put old at (records_bytes before) next now

pub passing_start : (all : List Record) (old : List ℕ) (at : ℕ) → Passing all all old at at old
passing_start all old at = record { before = []; whole = refl; put = rw bytes_none (put_none old at) }

module _ {all left : List Record} {old now : List ℕ} {at next : ℕ} (h : Passing all left old at next now) where
  pub passing_next : (here rest : List Record) {after : ℕ} {last : List ℕ} → left ≡ here ++ rest → Put now next (records_bytes here) after last
      → Passing all rest old at after last
  passing_next here rest e p =
      record {
        before = h.before ++ here;
        whole = append_assoc h.before here rest ∙ (ap (λ z. h.before ++ z) (sym e) ∙ h.whole);
        put = rw (records_append h.before here) (h.put then p);
      }

  pub passing_end : left ≡ [] → Put old at (records_bytes all) next now
  passing_end e = rw (← (sym (append-nil h.before) ∙ ap (λ z. h.before ++ z) (sym e) ∙ h.whole)) h.put

-- ---- the loop, at token i of so many: each has records of at most so many bytes

-- `all` are the records of tokens of which `Given` holds, `left` those from token i on
pub record Rounds (Given : List Placed → Type 0) (all left : List Placed → List Record) (count most : ℕ) (old : List ℕ) (at i next : ℕ) (now : List ℕ) : Type 0 where
  pub few : i ≤ count
  pub low : at ≤ next
  pub high : next ≤ at + most * i
  pub size : length now ≡ length old
  pub passing : (ts : List Placed) → Given ts → Passing (all ts) (left ts) old at next now

pub rounds_start : {Given : List Placed → Type 0} {all : List Placed → List Record} {count most : ℕ} {old : List ℕ} {at : ℕ} → Rounds Given all all count most old at 0 at old
rounds_start {all = all} {old = old} {at = at} =
    record {
      few = omega arith;
      low = omega arith;
      high = omega arith;
      size = refl;
      passing = λ ts h. passing_start (all ts) old at;
    }

module _ {Given : List Placed → Type 0} {all left : List Placed → List Record} {count most : ℕ} {old now : List ℕ} {at i next : ℕ} (r : Rounds Given all left count most old at i next now) where
  pub rounds_next : (here rest : List Placed → List Record) {after : ℕ} {last : List ℕ} → i < count → next ≤ after → after ≤ next + most → length last ≡ length now
      → ((ts : List Placed) → Given ts → left ts ≡ here ts ++ rest ts) → ((ts : List Placed) → Given ts → Put now next (records_bytes (here ts)) after last)
      → Rounds Given all rest count most old at (i + 1) after last
  rounds_next here rest l a b k e p =
      record {
        few = omega arith;
        low = omega (arith, r.low);
        high = rw (add-one i, mul-suc most i) (omega (arith, r.high));
        size = k ∙ r.size;
        passing = λ ts h. passing_next (r.passing ts h) (here ts) (rest ts) (e ts h) (p ts h);
      }

  pub rounds_end : count ≤ 4096 → ((ts : List Placed) → Given ts → left ts ≡ [])
      → (at ≤ next) × (next ≤ at + most * 4096) × ((ts : List Placed) → Given ts → Put old at (records_bytes (all ts)) next now)
  rounds_end l e =
      let product : most * i ≤ most * 4096 = mul-le-mul_left most (omega (arith, r.few)) in
      (r.low, omega (arith, r.high), λ ts h. passing_end (r.passing ts h) (e ts h))
