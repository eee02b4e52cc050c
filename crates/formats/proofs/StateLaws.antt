-- Laws of the store's words (specs/Store.antt): formats are read and written by number, as the formats of entries are. A store is a row of formats of
-- `limit + 1` words each, argument then result of each name in turn, then zeros, then words that stay as they are.
use Prim.Native.Nat.{ℕ, zero, suc, ◌+◌, ◌*◌, ◌-◌, ◌≤◌, ◌<◌}
use mathlib.Core.List.{List, [], ◌∷◌, ◌++◌, append_assoc, append-nil}
use mathlib.Core.Option.{none, some}
use mathlib.Core.Path.{◌≡◌, refl, sym, ap, ◌∙◌}
use native.Mathlib.Omega.{arith}
use borrow.Author.Tests.{lt-ltb, le-ltb}
use native.Mathlib.Nat.{zero-mul, zero-add, sub-zero, add_assoc, mul-le-mul_right}
use lib.ListN.{length, take, drop, get_or, set, replicate, length-append, length-replicate, replicate-append-replicate}
use lib.Seq.{take_at, drop_at, drop-drop, drop-append-add, take-append-add, set_at}
use Rattle.file.specs.Word.{word_at}
use Rattle.file.specs.Sections.{File}
use Rattle.shapes.specs.Format.{Format, never}
use Rattle.shapes.specs.Words.{format_words, Encodable, read_format}
use Rattle.buffers.specs.Written.{written}
use Rattle.shapes.proofs.WordLaws.{filled_length, format_words_length, read_write}
use Rattle.formats.specs.Infer.{Entry, find, all_at}
use Rattle.formats.specs.Store.{entry_words, store_size, store_of}
use Rattle.formats.specs.Code.Entries.{row_words, start_of, entry_names, format_in, put, EachEntry, Storable, StoreHolds}
use Rattle.formats.specs.declared.slots.Slots.{Slots}
use Rattle.formats.specs.Code.Slots.{position, call_folded, file_names, SlotsOf}
use Rattle.formats.specs.Code.Rows.{format_at, Knows, stored_at}
use Rattle.formats.proofs.EntryLaws.{names_length, names_put, names_all_at, put_encodable, all_at_encodable, format_encodable, find_some, find_none}

-- ---- a row of formats

-- no format of the row is over the limit
abbrev EachEncodable : ℕ → List Format → Type 0
EachEncodable limit [] = Unit {0}
EachEncodable limit (f ∷ fs) = Encodable limit f × EachEncodable limit fs

row_length : (limit : ℕ) (fs : List Format) → EachEncodable limit fs → length (row_words limit fs) ≡ length fs * (limit + 1)
unfolding row_words
row_length limit [] each = omega arith
row_length limit (f ∷ fs) each =
    omega (arith, length-append (format_words limit f) (row_words limit fs), format_words_length limit f each.0, row_length limit fs each.1)

-- past the first words
drop_after : (front back : List ℕ) (size n : ℕ) → length front ≡ size → drop (size + n) (front ++ back) ≡ drop n back
drop_after front back size n e = rw (← e) (drop-append-add front back n)

-- the format number k of the row
row_read : (limit k : ℕ) (fs : List Format) (after : List ℕ) → k < length fs → EachEncodable limit fs
    → format_at limit (row_words limit fs ++ after) k ≡ format_words limit (get_or fs k never)
unfolding row_words
row_read limit k [] after h each = absurd (omega arith)
row_read limit zero (f ∷ fs) after h each =
    rw (zero-mul, append_assoc) (take_at (format_words limit f) (row_words limit fs ++ after) (limit + 1) (format_words_length limit f each.0))
row_read limit (suc k) (f ∷ fs) after h each =
    let next : suc k * (limit + 1) ≡ (limit + 1) + k * (limit + 1) = omega arith in
    rw (
      next,
      append_assoc,
      drop_after (format_words limit f) (row_words limit fs ++ after) (limit + 1) (k * (limit + 1)) (format_words_length limit f each.0),
    )
    (row_read limit k fs after (omega arith) each.1)

-- words written over as many at the front, or past the front
written_first : (front back new : List ℕ) → length front ≡ length new → written (front ++ back) 0 new ≡ new ++ back
unfolding written
written_first front back new e = rw (zero-add, drop_at front back (length new) e)

written_after : (front back new : List ℕ) (size n : ℕ) → length front ≡ size → written (front ++ back) (size + n) new ≡ front ++ written back n new
unfolding written
written_after front back new size n e =
    rw (← e, add_assoc, take-append-add front back n, drop-append-add front back (n + length new)) (simp append_assoc)

-- the format number k of the row, written
row_write : (limit k : ℕ) (f : Format) (fs : List Format) (after : List ℕ) → k < length fs → Encodable limit f → EachEncodable limit fs
    → written (row_words limit fs ++ after) (k * (limit + 1)) (format_words limit f) ≡ row_words limit (set fs k f) ++ after
unfolding row_words
row_write limit k f [] after h small each = absurd (omega arith)
row_write limit zero f (g ∷ fs) after h small each =
    rw (zero-mul, append_assoc)
    (
    written_first (format_words limit g) (row_words limit fs ++ after) (format_words limit f)
    (format_words_length limit g each.0 ∙ sym (format_words_length limit f small)) ∙ sym (append_assoc (format_words limit f) (row_words limit fs) after)
    )
row_write limit (suc k) f (g ∷ fs) after h small each =
    let next : suc k * (limit + 1) ≡ (limit + 1) + k * (limit + 1) = omega arith in
    rw (
      next,
      append_assoc,
      written_after (format_words limit g) (row_words limit fs ++ after) (format_words limit f) (limit + 1) (k * (limit + 1)) (format_words_length limit g each.0),
      row_write limit k f fs after (omega arith) small each.1,
    )
    (sym (append_assoc (format_words limit g) (row_words limit (set fs k f)) after))

-- ---- argument then result of each name in turn

-- the formats in the store's order
unfoldable in_turn : List Entry → List Entry → List Format
in_turn [] rs = []
in_turn (a ∷ rest) [] = []
in_turn (a ∷ rest) (r ∷ rs) = a.format ∷ r.format ∷ in_turn rest rs

entry_words_lem : (limit : ℕ) (arguments results : List Entry) → entry_words limit arguments results ≡ row_words limit (in_turn arguments results)
unfolding entry_words row_words in_turn
entry_words_lem limit [] rs = refl
entry_words_lem limit (a ∷ rest) [] = refl
entry_words_lem limit (a ∷ rest) (r ∷ rs) =
    rw (entry_words_lem limit rest rs) (append_assoc (format_words limit a.format) (format_words limit r.format) (row_words limit (in_turn rest rs)))

in_turn_length : (arguments results : List Entry) → length arguments ≡ length results → length (in_turn arguments results) ≡ 2 * length arguments
unfolding in_turn
in_turn_length [] rs e = refl
in_turn_length (a ∷ rest) [] e = absurd (omega arith)
in_turn_length (a ∷ rest) (r ∷ rs) e = omega (arith, in_turn_length rest rs (omega arith))

in_turn_encodable : (limit : ℕ) (arguments results : List Entry) → EachEntry (Encodable limit) arguments → EachEntry (Encodable limit) results
    → EachEncodable limit (in_turn arguments results)
unfolding in_turn
in_turn_encodable limit [] rs h k = tt
in_turn_encodable limit (a ∷ rest) [] h k = tt
in_turn_encodable limit (a ∷ rest) (r ∷ rs) h k = (h.0, (k.0, in_turn_encodable limit rest rs h.1 k.1))

in_turn_argument : (arguments results : List Entry) (p : ℕ) → length arguments ≡ length results
    → get_or (in_turn arguments results) (2 * p) never ≡ format_in arguments p
unfolding in_turn format_in
in_turn_argument [] rs p e = refl
in_turn_argument (a ∷ rest) [] p e = absurd (omega arith)
in_turn_argument (a ∷ rest) (r ∷ rs) zero e = refl
in_turn_argument (a ∷ rest) (r ∷ rs) (suc p) e =
    let next : 2 * suc p ≡ suc (suc (2 * p)) = omega arith in
    rw next (in_turn_argument rest rs p (omega arith))

in_turn_result : (arguments results : List Entry) (p : ℕ) → length arguments ≡ length results
    → get_or (in_turn arguments results) (2 * p + 1) never ≡ format_in results p
unfolding in_turn format_in
in_turn_result [] [] p e = refl
in_turn_result [] (r ∷ rs) p e = absurd (omega arith)
in_turn_result (a ∷ rest) [] p e = absurd (omega arith)
in_turn_result (a ∷ rest) (r ∷ rs) zero e = refl
in_turn_result (a ∷ rest) (r ∷ rs) (suc p) e =
    let next : 2 * suc p + 1 ≡ suc (suc (2 * p + 1)) = omega arith in
    rw next (in_turn_result rest rs p (omega arith))

in_turn_put_argument : (arguments results : List Entry) (p : ℕ) (f : Format)
    → in_turn (put p f arguments) results ≡ set (in_turn arguments results) (2 * p) f
unfolding in_turn put
in_turn_put_argument [] rs p f = refl
in_turn_put_argument (a ∷ rest) [] zero f = refl
in_turn_put_argument (a ∷ rest) [] (suc p) f = refl
in_turn_put_argument (a ∷ rest) (r ∷ rs) zero f = refl
in_turn_put_argument (a ∷ rest) (r ∷ rs) (suc p) f =
    let next : 2 * suc p ≡ suc (suc (2 * p)) = omega arith in
    rw (next, in_turn_put_argument rest rs p f)

in_turn_put_result : (arguments results : List Entry) (p : ℕ) (f : Format)
    → in_turn arguments (put p f results) ≡ set (in_turn arguments results) (2 * p + 1) f
unfolding in_turn put
in_turn_put_result [] rs p f = refl
in_turn_put_result (a ∷ rest) [] p f = refl
in_turn_put_result (a ∷ rest) (r ∷ rs) zero f = refl
in_turn_put_result (a ∷ rest) (r ∷ rs) (suc p) f =
    let next : 2 * suc p + 1 ≡ suc (suc (2 * p + 1)) = omega arith in
    rw (next, in_turn_put_result rest rs p f)

-- ---- entries that a store holds

-- the zeros after the formats of so many names, and what follows the store
abbrev unused : ℕ → ℕ → List ℕ → List ℕ
unused limit count tail = replicate (store_size limit - 2 * count * (limit + 1)) 0 ++ tail

module _ {limit : ℕ} {names : List (List ℕ)} {arguments results : List Entry} (h : Storable limit names arguments results) where
  -- as many entries as names
  pub arguments_length : length arguments ≡ length names
  arguments_length = rw (← h.argument_names) (sym (names_length arguments))

  -- and so of the results
  pub results_length : length results ≡ length names
  results_length = rw (← h.result_names) (sym (names_length results))

  same_length : length arguments ≡ length results
  same_length = arguments_length ∙ sym results_length

  turns : length (in_turn arguments results) ≡ 2 * length names
  turns = in_turn_length arguments results same_length ∙ rw arguments_length

  turns_encodable : EachEncodable limit (in_turn arguments results)
  turns_encodable = in_turn_encodable limit arguments results h.arguments_encodable h.results_encodable

  used_length : length (entry_words limit arguments results) ≡ 2 * length names * (limit + 1)
  used_length = rw (entry_words_lem limit arguments results, row_length limit (in_turn arguments results) turns_encodable, turns)

  -- the words of each format stand within the store's
  pub number_inside : (k : ℕ) → k < 2 * length names → k * (limit + 1) + (limit + 1) ≤ 128 * (limit + 1)
  number_inside k less = omega (arith, mul-le-mul_right {m = suc k} {n = 128} (limit + 1) (omega (arith, h.few)))

  -- the store's length
  pub store_length : length (store_of limit arguments results) ≡ 128 * (limit + 1)
  unfolding store_of
  store_length =
      filled_length (store_size limit) (entry_words limit arguments results)
      (omega (arith, used_length, mul-le-mul_right {m = 2 * length names} {n = 128} (limit + 1) (omega (arith, h.few))))

  -- another argument format
  pub storable_argument : (p : ℕ) (f : Format) → Encodable limit f → Storable limit names (put p f arguments) results
  storable_argument p f small =
      record {
        argument_names = names_put p f arguments ∙ h.argument_names;
        result_names = h.result_names;
        few = h.few;
        arguments_encodable = put_encodable limit p f arguments small h.arguments_encodable;
        results_encodable = h.results_encodable;
      }

  -- another result format
  pub storable_result : (p : ℕ) (f : Format) → Encodable limit f → Storable limit names arguments (put p f results)
  storable_result p f small =
      record {
        argument_names = h.argument_names;
        result_names = names_put p f results ∙ h.result_names;
        few = h.few;
        arguments_encodable = h.arguments_encodable;
        results_encodable = put_encodable limit p f results small h.results_encodable;
      }

  store_row : (tail : List ℕ) → store_of limit arguments results ++ tail ≡ row_words limit (in_turn arguments results) ++ unused limit (length names) tail
  unfolding store_of
  store_row tail = rw (used_length, entry_words_lem limit arguments results, append_assoc)

-- ---- the store

-- words that came back from a callee, to which a part of a list was lent as `&mut old[a..e]`
pub lent_written : (old new : List ℕ) (a e : ℕ) → e ≡ a + length new → take a old ++ (new ++ drop (e - a) (drop a old)) ≡ written old a new
unfolding written
lent_written old new a e size =
    let rest : a + (e - a) ≡ a + length new = omega arith in
    rw (drop-drop, rest, append_assoc)

module _ {limit : ℕ} {names : List (List ℕ)} {arguments results : List Entry} {tail store : List ℕ} (h : StoreHolds limit names arguments results tail store) where
  -- the length of the whole
  pub whole_length : length store ≡ 128 * (limit + 1) + length tail
  whole_length = rw (h.words, length-append (store_of limit arguments results) tail, store_length h.entries)

  -- the words of a part are within the whole
  pub part_inside : (k : ℕ) → k < 2 * length names → k * (limit + 1) + (limit + 1) ≤ length store
  part_inside k inside = omega (arith, whole_length, number_inside h.entries k inside)

  number_read : (k : ℕ) → k < 2 * length names → format_at limit store k ≡ format_words limit (get_or (in_turn arguments results) k never)
  number_read k inside =
      rw (h.words, store_row h.entries tail)
      (row_read limit k (in_turn arguments results) (unused limit (length names) tail) (rw (turns h.entries) inside) (turns_encodable h.entries))

  number_written : (k : ℕ) (f : Format) → k < 2 * length names → Encodable limit f
      → written store (k * (limit + 1)) (format_words limit f) ≡ row_words limit (set (in_turn arguments results) k f) ++ unused limit (length names) tail
  number_written k f inside small =
      rw (h.words, store_row h.entries tail)
      (row_write limit k f (in_turn arguments results) (unused limit (length names) tail) (rw (turns h.entries) inside) small (turns_encodable h.entries))

  -- the format number 2 p is the argument format of the name at p
  pub read_argument : (p : ℕ) → p < length names → format_at limit store (2 * p) ≡ format_words limit (format_in arguments p)
  read_argument p inside = number_read (2 * p) (omega arith) ∙ rw (in_turn_argument arguments results p (same_length h.entries))

  -- the format number 2 p + 1 is its result format
  pub read_result : (p : ℕ) → p < length names → format_at limit store (2 * p + 1) ≡ format_words limit (format_in results p)
  read_result p inside = number_read (2 * p + 1) (omega arith) ∙ rw (in_turn_result arguments results p (same_length h.entries))

  -- the argument format that the words say
  pub read_argument_format : (p : ℕ) → p < length names → limit ≤ 127 → read_format (format_at limit store (2 * p)) ≡ format_in arguments p
  read_argument_format p inside few =
      rw (read_argument p inside) (read_write limit (format_in arguments p) (format_encodable limit arguments p h.entries.arguments_encodable) few)

  -- the result format that the words say
  pub read_result_format : (p : ℕ) → p < length names → limit ≤ 127 → read_format (format_at limit store (2 * p + 1)) ≡ format_in results p
  read_result_format p inside few =
      rw (read_result p inside) (read_write limit (format_in results p) (format_encodable limit results p h.entries.results_encodable) few)

  -- the argument format of the name at p written over
  pub write_argument : (p : ℕ) (f : Format) → p < length names → Encodable limit f
      → StoreHolds limit names (put p f arguments) results tail (written store (2 * p * (limit + 1)) (format_words limit f))
  write_argument p f inside small =
      let after : Storable limit names (put p f arguments) results = storable_argument h.entries p f small in
      record {
        entries = after;
        words = number_written (2 * p) f (omega arith) small ∙ rw (← (in_turn_put_argument arguments results p f)) (sym (store_row after tail));
      }

  -- the result format of the name at p written over
  pub write_result : (p : ℕ) (f : Format) → p < length names → Encodable limit f
      → StoreHolds limit names arguments (put p f results) tail (written store ((2 * p + 1) * (limit + 1)) (format_words limit f))
  write_result p f inside small =
      let after : Storable limit names arguments (put p f results) = storable_result h.entries p f small in
      record {
        entries = after;
        words = number_written (2 * p + 1) f (omega arith) small ∙ rw (← (in_turn_put_result arguments results p f)) (sym (store_row after tail));
      }

  -- the same where the words of the format came back from a callee, to which they were lent as `&mut store[a..e]`
  pub lent_argument : (p : ℕ) (f : Format) (a e : ℕ) (new : List ℕ) → p < length names → Encodable limit f → a ≡ 2 * p * (limit + 1) → e ≡ a + (limit + 1)
      → new ≡ format_words limit f → StoreHolds limit names (put p f arguments) results tail (take a store ++ (new ++ drop (e - a) (drop a store)))
  lent_argument p f a e new inside small start end is =
      rw (lent_written store new a e (end ∙ rw (is, format_words_length limit f small)), start, is) (write_argument p f inside small)

  -- the same for a result format
  pub lent_result : (p : ℕ) (f : Format) (a e : ℕ) (new : List ℕ) → p < length names → Encodable limit f → a ≡ (2 * p + 1) * (limit + 1) → e ≡ a + (limit + 1)
      → new ≡ format_words limit f → StoreHolds limit names arguments (put p f results) tail (take a store ++ (new ++ drop (e - a) (drop a store)))
  lent_result p f a e new inside small start end is =
      rw (lent_written store new a e (end ∙ rw (is, format_words_length limit f small)), start, is) (write_result p f inside small)

  -- words written past the store
  pub write_past : (n : ℕ) (new : List ℕ) → StoreHolds limit names arguments results (written tail n new) (written store (128 * (limit + 1) + n) new)
  write_past n new =
      record {
        entries = h.entries;
        words = rw h.words (written_after (store_of limit arguments results) tail new (128 * (limit + 1)) n (store_length h.entries));
      }

  -- words read past the store
  pub read_past : (n : ℕ) → drop (128 * (limit + 1) + n) store ≡ drop n tail
  read_past n = rw h.words (drop_after (store_of limit arguments results) tail (128 * (limit + 1)) n (store_length h.entries))

-- ---- the start: zeros, then the header of one format after the other

never_encodable : (limit k : ℕ) → EachEncodable limit (replicate k never)
never_encodable limit zero = tt
never_encodable limit (suc k) = (omega arith, never_encodable limit k)

never_length : (limit k : ℕ) → length (row_words limit (replicate k never)) ≡ k * (limit + 1)
never_length limit k = rw (row_length limit (replicate k never) (never_encodable limit k), length-replicate)

never_more : (limit k : ℕ) → row_words limit (replicate (suc k) never) ≡ row_words limit (replicate k never) ++ 512 ∷ replicate limit 0
unfolding row_words
never_more limit zero =
    let less : limit + 1 - 1 ≡ limit = omega arith in
    rw (less, append-nil {A = ℕ} (replicate limit 0))
never_more limit (suc k) =
    ap (λ words. format_words limit never ++ words) (never_more limit k)
    ∙ sym (append_assoc (format_words limit never) (row_words limit (replicate k never)) (512 ∷ replicate limit 0))

never_turns : (ns : List (List ℕ)) → in_turn (all_at never ns) (all_at never ns) ≡ replicate (2 * length ns) never
unfolding in_turn all_at
never_turns [] = refl
never_turns (n ∷ ns) =
    let next : 2 * suc (length ns) ≡ suc (suc (2 * length ns)) = omega arith in
    rw (next, never_turns ns)

-- the header of one of 128 formats is in the store
pub header_inside : (limit k : ℕ) → k < 128 → k * (limit + 1) + (limit + 1) ≤ 128 * (limit + 1)
header_inside limit k inside = omega (arith, mul-le-mul_right {m = suc k} {n = 128} (limit + 1) inside)

-- the length of what is set
pub start_length : (limit k : ℕ) → k ≤ 128 → length (start_of limit k) ≡ 128 * (limit + 1)
unfolding start_of
start_length limit k inside =
    filled_length (128 * (limit + 1)) (row_words limit (replicate k never)) (rw (never_length limit k) (mul-le-mul_right (limit + 1) inside))

pub started_length : (limit k : ℕ) (tail store : List ℕ) → k ≤ 128 → store ≡ start_of limit k ++ tail → 128 * (limit + 1) ≤ length store
started_length limit k tail store inside is = rw (is, length-append (start_of limit k) tail, start_length limit k inside) (omega arith)

-- words past a store that was cleared
pub cleared_past : (limit : ℕ) (old : List ℕ) → drop (128 * (limit + 1)) (replicate (128 * (limit + 1)) 0 ++ drop (128 * (limit + 1)) old) ≡ drop (128 * (limit + 1)) old
cleared_past limit old = drop_at (replicate (128 * (limit + 1)) 0) (drop (128 * (limit + 1)) old) (128 * (limit + 1)) (length-replicate {A = ℕ} (128 * (limit + 1)) 0)

-- zeros: no format is set
pub start_none : (limit : ℕ) → replicate (128 * (limit + 1)) 0 ≡ start_of limit 0
unfolding start_of row_words
start_none limit = rw sub-zero

-- the header of one more format is set
pub start_next : (limit k after : ℕ) (tail : List ℕ) → k < 128 → after ≡ suc k → set (start_of limit k ++ tail) (k * (limit + 1)) 512 ≡ start_of limit after ++ tail
unfolding start_of
start_next limit k after tail inside a =
    let left : ℕ = 128 * (limit + 1) - suc k * (limit + 1) in
    let room : 128 * (limit + 1) - k * (limit + 1) ≡ suc (limit + left) = omega (arith, mul-le-mul_right {m = suc k} {n = 128} (limit + 1) inside) in
    let before : start_of limit k ++ tail ≡ row_words limit (replicate k never) ++ 0 ∷ (replicate (limit + left) 0 ++ tail) =
    rw (never_length limit k, room) (append_assoc (row_words limit (replicate k never)) (replicate (suc (limit + left)) 0) tail) in
    let now : start_of limit (suc k) ++ tail ≡ row_words limit (replicate k never) ++ 512 ∷ (replicate (limit + left) 0 ++ tail) =
    rw (never_length limit (suc k), never_more limit k, ← (replicate-append-replicate {A = ℕ} limit left 0)) (simp append_assoc) in
    rw (
      a,
      now,
      before,
      set_at (row_words limit (replicate k never)) 0 (replicate (limit + left) 0 ++ tail) 512 (k * (limit + 1)) (never_length limit k),
    )

-- all are set
pub start_all : (limit k : ℕ) (ns : List (List ℕ)) → k ≡ 2 * length ns → start_of limit k ≡ store_of limit (all_at never ns) (all_at never ns)
unfolding start_of store_of
start_all limit k ns e = rw (e, entry_words_lem limit (all_at never ns) (all_at never ns), never_turns ns)

-- the entries that a store holds at the start
pub start_storable : (limit : ℕ) (names : List (List ℕ)) → length names ≤ 64 → Storable limit names (all_at never names) (all_at never names)
start_storable limit names few =
    record {
      argument_names = names_all_at never names;
      result_names = names_all_at never names;
      few = few;
      arguments_encodable = all_at_encodable limit names;
      results_encodable = all_at_encodable limit names;
    }

-- the store at the start
pub start_holds : (limit k : ℕ) (names : List (List ℕ)) (tail : List ℕ) → length names ≤ 64 → k ≡ 2 * length names
    → StoreHolds limit names (all_at never names) (all_at never names) tail (start_of limit k ++ tail)
start_holds limit k names tail few e = record { entries = start_storable limit names few; words = rw (start_all limit k names e) }

-- ---- what the store says of calls

-- whatever it holds, there are results that it says: those at the places of names
pub results_known : (file : File) (slots : Slots) (store : List ℕ) (limit count : ℕ) → SlotsOf file slots
    → Knows file slots store limit count (λ name. stored_at store limit count (position (file_names file) name))
results_known file slots store limit count places = record {
  known = λ t inside call there. rw (← places.calls t inside call, lt-ltb (get_or slots.calls t 0) count there) refl;
  unknown = λ t inside call past. rw (← places.calls t inside call, le-ltb (get_or slots.calls t 0) count past) refl;
}

-- by the places of the names of calls, the store's results are those of the entries
pub store_knows : (file : File) (slots : Slots) {limit : ℕ} {arguments results : List Entry} {tail store : List ℕ} (count : ℕ) → SlotsOf file slots
    → StoreHolds limit (file_names file) arguments results tail store → count ≡ length (file_names file) → limit ≤ 127
    → Knows file slots store limit count (find results)
store_knows file slots {limit} {arguments} {results} {tail} {store} count places h few small = record { known = known; unknown = unknown }
  where
    place : (t : ℕ) → t < file.terms.count → word_at file.terms.records (24 * t) ≡ 7
        → position (entry_names results) (call_folded file t) ≡ get_or slots.calls t 0
    place t inside kind = rw h.entries.result_names (sym (places.calls t inside kind))

    known : (t : ℕ) → t < file.terms.count → word_at file.terms.records (24 * t) ≡ 7 → get_or slots.calls t 0 < count
        → find results (call_folded file t) ≡ some (read_format (format_at limit store (2 * get_or slots.calls t 0 + 1)))
    known t inside kind there =
        let at = place t inside kind in
        find_some results (call_folded file t) (rw at (omega (arith, results_length h.entries)))
        ∙ rw (at, read_result_format h (get_or slots.calls t 0) (omega arith) small)

    unknown : (t : ℕ) → t < file.terms.count → word_at file.terms.records (24 * t) ≡ 7 → count ≤ get_or slots.calls t 0
        → find results (call_folded file t) ≡ none
    unknown t inside kind past =
        let at = place t inside kind in
        find_none results (call_folded file t) (rw at (omega (arith, results_length h.entries)))
