-- Laws of records put one after another, and of a section, whose count is put last and stands first.
use Prim.Native.Nat.{ℕ, zero, suc, ◌+◌, ◌<◌}
use mathlib.Core.List.{List, [], ◌∷◌, ◌++◌, append-nil, append_assoc, flat_map}
use mathlib.Core.Path.{◌≡◌, refl, sym, ap, ◌∙◌}
use native.Mathlib.Omega.{arith}
use native.Mathlib.Numerals.{add-one}
use lib.ListN.{length, take, get_or}
use Rattle.buffers.specs.Code.Put.{Put}
use Rattle.buffers.proofs.PutLaws.{put_none, put_before}
use Rattle.encoding.specs.Encode.{Record, word_bytes, record_bytes, records_bytes, section_bytes}

-- ---- records

-- a word more
more_from : (ws : List ℕ) (i : ℕ) → i < length ws → record_bytes (take (suc i) ws) ≡ record_bytes (take i ws) ++ word_bytes (get_or ws i 0)
unfolding flat_map
more_from [] i h = absurd (omega arith)
more_from (w ∷ ws) zero h = append-nil (word_bytes w)
more_from (w ∷ ws) (suc i) h =
    ap (λ z. word_bytes w ++ z) (more_from ws i (omega arith)) ∙ sym (append_assoc (word_bytes w) (record_bytes (take i ws)) (word_bytes (get_or ws i 0)))

pub record_more : (ws : List ℕ) (i : ℕ) → i < length ws → record_bytes (take (i + 1) ws) ≡ record_bytes (take i ws) ++ word_bytes (get_or ws i 0)
record_more ws i h = rw (add-one i) (more_from ws i h)

pub record_none : record_bytes [] ≡ []
unfolding flat_map
record_none = refl

pub bytes_none : records_bytes [] ≡ []
unfolding flat_map
bytes_none = refl

pub bytes_one : (r : Record) → records_bytes (r ∷ []) ≡ record_bytes r
unfolding flat_map
bytes_one r = append-nil (record_bytes r)

-- no record, and one
pub put_no_record : {rs : List Record} (old : List ℕ) (at : ℕ) → rs ≡ [] → Put old at (records_bytes rs) at old
put_no_record old at e = rw (e, bytes_none) (put_none old at)

pub put_record : {rs : List Record} {old last : List ℕ} {at next : ℕ} (r : Record) → rs ≡ r ∷ [] → Put old at (record_bytes r) next last → Put old at (records_bytes rs) next last
put_record r e p = rw (e, bytes_one r) p

-- ---- a section

-- the number of records from where they end, and then the section
module _ (rs : List Record) {old middle last : List ℕ} {at end count after : ℕ} (p : Put old (at + 4) (records_bytes rs) end middle)
    (q : Put middle at (word_bytes count) after last) where
  pub section_put : count ≡ length rs → Put old at (section_bytes rs) end last
  section_put e = put_before {front = word_bytes (length rs)} {back = records_bytes rs} refl p (rw e at q)
