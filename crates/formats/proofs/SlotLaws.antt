-- Laws of the sorted distinct names of a law and of their places (specs/Infer.antt, specs/Code/Slots.antt): a place is the number of names
-- before it, and each name is counted at the last function that has it.
use Prim.Native.Nat.{ℕ, zero, suc, ◌+◌, ◌*◌, ◌-◌, ◌≤◌, ◌<◌}
use mathlib.Core.Bool.{Bool, true, false, cond, ◌||◌, ◌&&◌, not, true≢false, or-true}
use mathlib.Core.List.{List, [], ◌∷◌}
use mathlib.Core.Path.{◌≡◌, refl, sym, ap, ◌∙◌}
use native.Mathlib.Omega.{arith}
use native.Mathlib.Decide.{dec_lt}
use native.Mathlib.Nat.{sub-zero, zero-add}
use native.Mathlib.Numerals.{add-one}
use lib.ListN.{length, get_or, set, take, drop, replicate}
use lib.Seq.{get_or-set_same, get_or-set_other}
use Rattle.names.specs.Name.{folded, same_bytes, order_bytes}
use Rattle.std.specs.Ordering.{is_lt}
use Rattle.std.specs.Int.{from_bool}
use Rattle.std.specs.declared.cmp.Ordering.{Ordering}
use Rattle.std.specs.declared.cmp.Ordering.TheVariants.{Less, Equal, Greater}
use Rattle.names.proofs.Laws.{same_sound, same_refl, order_refl, order_equal, less_greater, greater_less, less_trans}
use Rattle.file.specs.Word.{word_at}
use Rattle.file.specs.Sections.{File}
use Rattle.file.specs.Fields.{fields_allowed}
use Rattle.file.proofs.Fields.{call_inside, fields_terms, term_at_allowed}
use Rattle.law.specs.Tree.{Sentences, Law}
use Rattle.law.specs.Reading.{function_name, functions_from, tree_of, sentences_from}
use Rattle.law.proofs.IndexLaws.{zero_offset}
use Rattle.law.proofs.Functions.{tree_length}
use Rattle.formats.specs.Infer.{insert_name, names_of}
use Rattle.formats.specs.Code.Slots.{position, function_folded, call_folded, file_names, IsCall, is_among, names_from, names_at}
use Rattle.formats.specs.Code.Slots.{is_last, FirstFrom, Places, KeptFrom, SlotsUpTo}
use Rattle.formats.specs.declared.slots.Slots.{Slots}

-- ---- sorted names

-- names that do not stand equal are not the same
differ : (m n : List ℕ) → (order_bytes m n ≡ Equal → ⊥) → same_bytes m n ≡ false
differ m n h = go (same_bytes m n) refl
  where
    go : (b : Bool) → same_bytes m n ≡ b → same_bytes m n ≡ false
    go true e = absurd (h (cc (same_sound m n e, order_refl n)))
    go false e = e

-- names of which one comes before the other, either way round
differ_before : (m n : List ℕ) → order_bytes m n ≡ Less → same_bytes m n ≡ false
differ_before m n h = differ m n (λ e. let z : ◌≡◌ {A = ℕ} 0 1 = cc in omega arith)

differ_after : (m n : List ℕ) → order_bytes n m ≡ Less → same_bytes m n ≡ false
differ_after m n h = differ m n (λ e. let z : ◌≡◌ {A = ℕ} 0 1 = cc (less_greater n m h) in omega arith)

-- each name comes after m
abbrev pub Above : List ℕ → List (List ℕ) → Type 0
Above m [] = Unit {0}
Above m (k ∷ ks) = (order_bytes m k ≡ Less) × Above m ks

-- each name comes before those after it
abbrev pub Sorted : List (List ℕ) → Type 0
Sorted [] = Unit {0}
Sorted (m ∷ ms) = Above m ms × Sorted ms

-- names above k are above what comes before k
above_less : (m k : List ℕ) (ks : List (List ℕ)) → order_bytes m k ≡ Less → Above k ks → Above m ks
above_less m k [] h a = tt
above_less m k (x ∷ xs) h a = (less_trans m k x h a.0, above_less m k xs h a.1)

-- a name above m that is put among names above m
above_insert : (m n : List ℕ) (ms : List (List ℕ)) → order_bytes m n ≡ Less → Above m ms → Above m (insert_name n ms)
unfolding insert_name
above_insert m n [] h a = (h, tt)
above_insert m n (k ∷ ks) h a = go (order_bytes n k) refl (above_insert m n ks h a.1)
  where
    go : (o : Ordering) → order_bytes n k ≡ o → Above m (insert_name n ks) → Above m (insert_name n (k ∷ ks))
    go Less e ih = rw (e, insert_name) (h, a)
    go Equal e ih = rw (e, insert_name) a
    go Greater e ih = rw (e, insert_name) (a.0, ih)

-- a name put in its place among sorted names leaves them sorted
sorted_insert : (n : List ℕ) (ms : List (List ℕ)) → Sorted ms → Sorted (insert_name n ms)
unfolding insert_name
sorted_insert n [] h = (tt, tt)
sorted_insert n (k ∷ ks) h = go (order_bytes n k) refl (sorted_insert n ks h.1)
  where
    go : (o : Ordering) → order_bytes n k ≡ o → Sorted (insert_name n ks) → Sorted (insert_name n (k ∷ ks))
    go Less e ih = rw (e, insert_name) ((e, above_less n k ks e h.0), h)
    go Equal e ih = rw (e, insert_name) h
    go Greater e ih = rw (e, insert_name) (above_insert k n ks (greater_less n k e) h.0, ih)

-- the law's names are sorted
pub names_sorted : (law : Law) → Sorted (names_of law)
unfolding names_of
names_sorted [] = tt
names_sorted (f ∷ fs) = sorted_insert (folded f.name.spelled) (names_of fs) (names_sorted fs)

-- one name more at most
insert_length : (n : List ℕ) (ms : List (List ℕ)) → length (insert_name n ms) ≤ suc (length ms)
unfolding insert_name
insert_length n [] = omega arith
insert_length n (k ∷ ks) = go (order_bytes n k) refl (insert_length n ks)
  where
    go : (o : Ordering) → order_bytes n k ≡ o → length (insert_name n ks) ≤ suc (length ks) → length (insert_name n (k ∷ ks)) ≤ suc (suc (length ks))
    go Less e ih = rw (e, insert_name) (omega arith)
    go Equal e ih = rw (e, insert_name) (omega arith)
    go Greater e ih = rw (e, insert_name) (omega arith)

-- a law has at most as many names as functions
pub names_at_most : (law : Law) → length (names_of law) ≤ length law
unfolding names_of
names_at_most [] = omega arith
names_at_most (f ∷ fs) = omega (arith, insert_length (folded f.name.spelled) (names_of fs), names_at_most fs)

-- ---- which names there are

-- laws of `||`
or_swap : (a b c : Bool) → a || (b || c) ≡ b || (a || c)
or_swap true true c = refl
or_swap true false c = refl
or_swap false b c = refl

or_twice : (a b : Bool) → a || b ≡ a || (a || b)
or_twice true b = refl
or_twice false b = refl

-- a name that is put in its place is among the names, and no other is new
pub listed_insert : (m : List ℕ) (ns : List (List ℕ)) (n : List ℕ) → is_among (insert_name m ns) n ≡ same_bytes m n || is_among ns n
unfolding insert_name is_among
listed_insert m [] n = refl
listed_insert m (k ∷ ks) n = go (order_bytes m k) refl (listed_insert m ks n)
  where
    go : (o : Ordering) → order_bytes m k ≡ o → is_among (insert_name m ks) n ≡ same_bytes m n || is_among ks n
        → is_among (insert_name m (k ∷ ks)) n ≡ same_bytes m n || (same_bytes k n || is_among ks n)
    go Less e ih = rw (e, insert_name) refl
    go Equal e ih = rw (e, insert_name, order_equal m k e) (or_twice (same_bytes k n) (is_among ks n))
    go Greater e ih = rw (e, insert_name, ih) (or_swap (same_bytes k n) (same_bytes m n) (is_among ks n))

-- a name is not among names above it
above_unlisted : (n : List ℕ) (ms : List (List ℕ)) → Above n ms → is_among ms n ≡ false
unfolding is_among
above_unlisted n [] a = refl
above_unlisted n (m ∷ ms) a = rw (differ_after m n a.0, above_unlisted n ms a.1)

-- names above m come after it
above_listed : (m : List ℕ) (ms : List (List ℕ)) (n : List ℕ) → Above m ms → is_among ms n ≡ true → order_bytes m n ≡ Less
unfolding is_among
above_listed m [] n a h = absurd (true≢false (sym h))
above_listed m (k ∷ ks) n a h = go (same_bytes k n) refl h (above_listed m ks n a.1)
  where
    go : (b : Bool) → same_bytes k n ≡ b → b || is_among ks n ≡ true → (is_among ks n ≡ true → order_bytes m n ≡ Less) → order_bytes m n ≡ Less
    go true e q ih = rw (← same_sound k n e) a.0
    go false e q ih = ih q

-- ---- sums over names

-- a number for each name, added up
unfoldable pub tally : (List ℕ → ℕ) → List (List ℕ) → ℕ
tally w [] = 0
tally w (m ∷ ms) = w m + tally w ms

-- the number of names before n
abbrev pub before : List ℕ → List (List ℕ) → ℕ
before n ms = tally (λ m. from_bool (is_lt (order_bytes m n))) ms

-- a name that is put in its place is added where it is new
pub tally_insert : (w : List ℕ → ℕ) (n : List ℕ) (ms : List (List ℕ)) → Sorted ms → tally w (insert_name n ms) ≡ cond (is_among ms n) 0 (w n) + tally w ms
unfolding insert_name tally is_among
tally_insert w n [] h = refl
tally_insert w n (k ∷ ks) h = go (order_bytes n k) refl (tally_insert w n ks h.1)
  where
    go : (o : Ordering) → order_bytes n k ≡ o → tally w (insert_name n ks) ≡ cond (is_among ks n) 0 (w n) + tally w ks
        → tally w (insert_name n (k ∷ ks)) ≡ cond (same_bytes k n || is_among ks n) 0 (w n) + (w k + tally w ks)
    go Less e ih = rw (e, insert_name, differ_after k n e, above_unlisted n ks (above_less n k ks e h.0))
    go Equal e ih = rw (e, insert_name, order_equal n k e, same_refl k) (omega arith)
    go Greater e ih = rw (e, insert_name, differ_before k n (greater_less n k e), ih) (omega arith)

-- the number of names is the sum of 1 for each
pub length_tally : (ms : List (List ℕ)) → length ms ≡ tally (λ m. 1) ms
unfolding tally
length_tally [] = refl
length_tally (m ∷ ms) = omega (arith, length_tally ms)

-- no name above n comes before it
before_above : (n : List ℕ) (ms : List (List ℕ)) → Above n ms → before n ms ≡ 0
unfolding tally
before_above n [] a = refl
before_above n (m ∷ ms) a = rw (less_greater n m a.0, before_above n ms a.1)

-- ---- places

-- the place of one of the names is the number of names before it
pub position_before : (ms : List (List ℕ)) (n : List ℕ) → Sorted ms → is_among ms n ≡ true → position ms n ≡ before n ms
unfolding position is_among tally
position_before [] n s h = refl
position_before (m ∷ ms) n s h = go (same_bytes m n) refl h (position_before ms n s.1)
  where
    go : (b : Bool) → same_bytes m n ≡ b → b || is_among ms n ≡ true → (is_among ms n ≡ true → position ms n ≡ before n ms)
        → cond b 0 (suc (position ms n)) ≡ from_bool (is_lt (order_bytes m n)) + before n ms
    go true e q ih =
        let same : m ≡ n = same_sound m n e in
        let none : before n ms ≡ 0 = before_above n ms (rw same at s.0) in
        rw (same, order_refl n, none)
    go false e q ih = rw (above_listed m ms n s.0 q, ih q) (omega arith)

-- and it is below their number
pub position_inside : (ms : List (List ℕ)) (n : List ℕ) → is_among ms n ≡ true → position ms n < length ms
unfolding position is_among
position_inside [] n h = absurd (true≢false (sym h))
position_inside (m ∷ ms) n h = go (same_bytes m n) h (position_inside ms n)
  where
    go : (b : Bool) → b || is_among ms n ≡ true → (is_among ms n ≡ true → position ms n < length ms) → cond b 0 (suc (position ms n)) < suc (length ms)
    go true q ih = omega arith
    go false q ih = omega (arith, ih q)

-- the place of another name is their number
pub position_missing : (ms : List (List ℕ)) (n : List ℕ) → is_among ms n ≡ false → position ms n ≡ length ms
unfolding position is_among
position_missing [] n h = refl
position_missing (m ∷ ms) n h = go (same_bytes m n) h (position_missing ms n)
  where
    go : (b : Bool) → b || is_among ms n ≡ false → (is_among ms n ≡ false → position ms n ≡ length ms) → cond b 0 (suc (position ms n)) ≡ suc (length ms)
    go true q ih = absurd (true≢false q)
    go false q ih = rw (ih q)

-- a place is at most the number of names
pub position_most : (ns : List (List ℕ)) (n : List ℕ) → position ns n ≤ length ns
unfolding position
position_most [] n = omega arith
position_most (m ∷ ms) n = go (same_bytes m n) (position_most ms n)
  where
    go : (b : Bool) → position ms n ≤ length ms → cond b 0 (suc (position ms n)) ≤ suc (length ms)
    go true h = omega arith
    go false h = omega arith

-- one more element is written
pub filled_next : {A : Type 0} (d : A) (xs : List A) (n : ℕ) (value : ℕ → A) (v : A) → ((i : ℕ) → i < n → get_or xs i d ≡ value i) → n < length xs → v ≡ value n
    → (i : ℕ) → i < n + 1 → get_or (set xs n v) i d ≡ value i
filled_next d xs n value v filled l e i k = go (dec_lt i n)
  where
    go : Dec (i < n) → get_or (set xs n v) i d ≡ value i
    go (yes m) = get_or-set_other xs n i v d (λ q. omega arith) ∙ filled i m
    go (no m) =
        let q : i ≡ n = omega arith in
        rw q (get_or-set_same xs n v d l ∙ e)

-- zeros, and past them
pub zeros : (n i : ℕ) → ◌≡◌ {A = ℕ} (get_or (replicate n 0) i 0) 0
zeros zero i = refl
zeros (suc n) zero = refl
zeros (suc n) (suc i) = zeros n i

-- what is kept past a byte that is written
pub kept_next : (before xs : List ℕ) (n v m : ℕ) → KeptFrom before xs m → n < m → KeptFrom before (set xs n v) m
kept_next before xs n v m kept l j h = get_or-set_other xs n j v 0 (λ q. omega arith) ∙ kept j h

-- what is counted at the last function of a name
counted_once : (among t : Bool) → from_bool (not among && t) ≡ cond among 0 (from_bool t)
counted_once true t = refl
counted_once false t = refl

pub at_most_one : (b : Bool) → from_bool b ≤ 1
at_most_one true = omega arith
at_most_one false = omega arith

pub and_true : (b : Bool) → (b && true) ≡ b
and_true true = refl
and_true false = refl

-- ---- the names of a file's functions

-- the names from a function on are sorted
sorted_from : (name : ℕ → List ℕ) (left f : ℕ) → Sorted (names_from name left f)
unfolding names_from
sorted_from name zero f = tt
sorted_from name (suc left) f = sorted_insert (name f) (names_from name left (suc f)) (sorted_from name left (suc f))

module _ (file : File) where
  -- the names of the functions of the tree, by their numbers
  names_from_lem : (all : Sentences) (left f : ℕ) → names_of (functions_from file all left f) ≡ names_from (function_folded file) left f
  unfolding names_of names_from functions_from
  names_from_lem all zero f = refl
  names_from_lem all (suc left) f = rw (names_from_lem all left (suc f))

  -- all names are those from the first function on
  pub names_all : names_at file 0 ≡ file_names file
  unfolding names_at tree_of
  names_all = rw sub-zero (sym (names_from_lem (sentences_from file file.sentences.count 0) file.functions.count 0))

  -- no function is left, and one is read
  names_end : (f : ℕ) → file.functions.count ≤ f → names_at file f ≡ []
  unfolding names_at names_from
  names_end f h =
      let none : file.functions.count - f ≡ 0 = omega arith in
      rw none

  names_read : (f : ℕ) → f < file.functions.count → names_at file f ≡ insert_name (function_folded file f) (names_at file (f + 1))
  unfolding names_at names_from
  names_read f h =
      let left : file.functions.count - f ≡ suc (file.functions.count - (f + 1)) = omega arith in
      rw (left, add-one f)

  -- a name is that of the function f, or among the names after it
  listed_read : (f : ℕ) (n : List ℕ) → f < file.functions.count → is_among (names_at file f) n ≡ same_bytes (function_folded file f) n || is_among (names_at file (f + 1)) n
  listed_read f n h = rw (names_read f h) (listed_insert (function_folded file f) (names_at file (f + 1)) n)

  -- a sum over the names from f on: a name counts at the last function that has it
  tally_read : (w : List ℕ → ℕ) (f : ℕ) → f < file.functions.count
      → tally w (names_at file f) ≡ cond (is_among (names_at file (f + 1)) (function_folded file f)) 0 (w (function_folded file f)) + tally w (names_at file (f + 1))
  unfolding names_at
  tally_read w f h =
      rw (names_read f h) (tally_insert w (function_folded file f) (names_at file (f + 1)) (sorted_from (function_folded file) (file.functions.count - (f + 1)) (f + 1)))

  -- a function's name is among the names from any earlier function on
  listed_later : (left f : ℕ) → f + left < file.functions.count → is_among (names_at file f) (function_folded file (f + left)) ≡ true
  listed_later zero f h =
      let here : f + 0 ≡ f = omega arith in
      rw (here, listed_read f (function_folded file f) (omega arith), same_refl (function_folded file f))
  listed_later (suc left) f h =
      let later : f + suc left ≡ f + 1 + left = omega arith in
      rw (listed_read f (function_folded file (f + suc left)) (omega arith), later, listed_later left (f + 1) (omega arith))
      (or-true (same_bytes (function_folded file f) (function_folded file (f + 1 + left))))

  -- a function's name is among all names
  pub function_listed : (f : ℕ) → f < file.functions.count → is_among (file_names file) (function_folded file f) ≡ true
  function_listed f h = rw (← names_all) (rw (zero-add f) at (listed_later f 0 (omega arith)))

  -- a function's name has a place among the names
  pub function_placed : (f : ℕ) → f < file.functions.count → position (file_names file) (function_folded file f) < length (file_names file)
  function_placed f h = position_inside (file_names file) (function_folded file f) (function_listed f h)

  -- there are at most as many names as functions
  pub names_few : length (file_names file) ≤ file.functions.count
  names_few = rw (tree_length file) at (names_at_most (tree_of file))

  -- ---- the search for a name

  module _ (from : ℕ) (name : List ℕ) where
    -- the search is at the function f: the name is among those from `from` on if it is among those from f on, and no function before f has it
    abbrev pub SearchAt : ℕ → Type 0
    SearchAt f =
        (f ≤ file.functions.count) × (is_among (names_at file from) name ≡ is_among (names_at file f) name) × (from ≤ f)
        × ((g : ℕ) → from ≤ g → g < f → same_bytes (function_folded file g) name ≡ false)

    pub named_start : from ≤ file.functions.count → SearchAt from
    named_start h = (h, refl, omega arith, λ g a b. absurd (omega arith))

    -- the function f has the name
    pub named_here : (f : ℕ) (spelled : List ℕ) (t : Bool) → SearchAt f → f < file.functions.count → spelled ≡ (function_name file f).spelled
        → t ≡ same_bytes (folded spelled) name → t ≡ true → FirstFrom file from name f × (is_among (names_at file from) name ≡ true)
    named_here f spelled t s l e q h =
        let same : same_bytes (function_folded file f) name ≡ true = cc in (
          record { inside = l; not_before = s.2; first = s.3; same = same_sound _ _ same },
          s.1 ∙ rw (listed_read f name l, same),
        )

    -- it has another
    pub named_next : (f : ℕ) (spelled : List ℕ) (t : Bool) → SearchAt f → f < file.functions.count → spelled ≡ (function_name file f).spelled
        → t ≡ same_bytes (folded spelled) name → t ≡ false → SearchAt (f + 1)
    named_next f spelled t s l e q h =
        let other : same_bytes (function_folded file f) name ≡ false = cc in
        (omega arith, s.1 ∙ rw (listed_read f name l, other), omega (arith, s.2), λ g a b. before g a b (dec_lt g f))
      where
        before : (g : ℕ) → from ≤ g → g < f + 1 → Dec (g < f) → same_bytes (function_folded file g) name ≡ false
        before g a b (yes k) = s.3 g a k
        before g a b (no k) =
            let here : g ≡ f = omega arith in
            let other : same_bytes (function_folded file f) name ≡ false = cc in
            rw here other

    -- no function is left
    pub named_end : (f : ℕ) → SearchAt f → file.functions.count ≤ f → is_among (names_at file from) name ≡ false
    unfolding is_among
    named_end f s l = s.1 ∙ rw (names_end f l)

  -- ---- sums over the functions

  module _ (test : List ℕ → Bool) where
    -- the functions before f are counted: those among the names from f on are left
    abbrev pub CountAt : ℕ → ℕ → Type 0
    CountAt found f = (f ≤ file.functions.count) × (found ≤ f) × (tally (λ m. from_bool (test m)) (names_at file 0) ≡ found + tally (λ m. from_bool (test m)) (names_at file f))

    -- nothing is counted, one more function is, and all are
    pub count_start : CountAt 0 0
    count_start = (omega arith, omega arith, omega arith)

    pub count_next : (found f one : ℕ) → CountAt found f → f < file.functions.count → one ≡ from_bool (is_last file f && test (function_folded file f))
        → CountAt (found + one) (f + 1)
    count_next found f one c l e =
        let counts : one ≡ cond (is_among (names_at file (f + 1)) (function_folded file f)) 0 (from_bool (test (function_folded file f))) = e ∙ counted_once _ _ in
        let few : one ≤ 1 = rw e (at_most_one _) in
        (omega arith, omega arith, c.2 ∙ omega (arith, tally_read (λ m. from_bool (test m)) f l))

    pub count_end : (found f : ℕ) → CountAt found f → file.functions.count ≤ f → found ≡ tally (λ m. from_bool (test m)) (file_names file)
    unfolding tally
    count_end found f c l = rw (← names_all, c.2, names_end f l) (omega arith)

  -- the number of names, and the place of a function's name, as they are counted
  pub count_names : (found f : ℕ) → CountAt (λ m. true) found f → file.functions.count ≤ f → found ≡ length (file_names file)
  count_names found f c l = count_end (λ m. true) found f c l ∙ sym (length_tally (file_names file))

  pub count_before : (g : ℕ) → g < file.functions.count → (found f : ℕ) → CountAt (λ m. is_lt (order_bytes m (function_folded file g))) found f
      → file.functions.count ≤ f → found ≡ position (file_names file) (function_folded file g)
  count_before g k found f c l =
      count_end (λ m. is_lt (order_bytes m (function_folded file g))) found f c l
      ∙ sym (position_before (file_names file) (function_folded file g) (names_sorted (tree_of file)) (function_listed g k))

  -- ---- slots

  -- the name of a call lies inside the text
  pub call_name_inside : (t start len : ℕ) → fields_allowed file ≡ true → t < file.terms.count → IsCall file t
      → start ≡ word_at file.terms.records (24 * t + 4) → len ≡ word_at file.terms.records (24 * t + 8) → start + len ≤ length file.text.records
  call_name_inside t start len h l kind a b =
      rw (a, b)
      (call_inside file.text.records (word_at file.terms.records (24 * t)) (word_at file.terms.records (24 * t + 4))
      (word_at file.terms.records (24 * t + 8)) (word_at file.terms.records (24 * t + 12))
      (term_at_allowed file.text.records file.terms.records file.terms.count t (fields_terms file h) l)
      kind)

  -- the name of a call, as it is read
  pub call_name_read : (t start len : ℕ) (text name : List ℕ) → text ≡ file.text.records → start ≡ word_at file.terms.records (24 * t + 4)
      → len ≡ word_at file.terms.records (24 * t + 8) → name ≡ take len (drop start text) → folded name ≡ call_folded file t
  call_name_read t start len text name e a b q = rw (q, e, a, b)

  -- the place of a name that a function has, and of one that none has
  pub place_found : (places name : List ℕ) (f : ℕ) → Places file places → FirstFrom file 0 name f → get_or places f 0 ≡ position (file_names file) name
  place_found places name f p n = p f n.inside ∙ ap (position (file_names file)) n.same

  pub place_missing : (count : ℕ) (name : List ℕ) → count ≡ length (file_names file) → is_among (names_at file 0) name ≡ false → count ≡ position (file_names file) name
  place_missing count name e n = e ∙ sym (position_missing (file_names file) name (rw (← names_all) n))

  -- the kind of a term record, as it is read
  pub kind_read : (t kind : ℕ) → kind ≡ word_at file.terms.records (24 * t + 0) → word_at file.terms.records (24 * t) ≡ kind
  kind_read t kind e = sym (e ∙ zero_offset file.terms.records (24 * t))

  -- no call is written
  pub slots_start : (slots : Slots) → Places file slots.functions → slots.names ≡ length (file_names file) → slots.has_call ≡ false
      → KeptFrom (replicate 64 0) slots.functions file.functions.count → slots.calls ≡ replicate 512 0 → SlotsUpTo file slots 0
  slots_start slots p e h k c = record {
    functions = p;
    count = e;
    marked = λ i l. absurd (omega arith);
    unmarked = λ none. h;
    calls = λ i l. absurd (omega arith);
    other_functions = λ f l. k f l ∙ zeros 64 f;
    other_calls = λ t none. rw c (zeros 512 t);
  }

  -- a term that is no call has no slot
  pub slots_pass : (slots : Slots) (t kind : ℕ) → SlotsUpTo file slots t → kind ≡ word_at file.terms.records (24 * t + 0) → (kind ≡ 7 → ⊥)
      → SlotsUpTo file slots (t + 1)
  slots_pass slots t kind s e other = record {
    functions = s.functions;
    count = s.count;
    marked = λ i k call. s.marked i (before i k call (dec_lt i t)) call;
    unmarked = λ none. s.unmarked (λ i k call. none i (omega arith) call);
    calls = λ i k call. s.calls i (before i k call (dec_lt i t)) call;
    other_functions = s.other_functions;
    other_calls = λ i none. s.other_calls i (λ k call. none (omega arith) call);
  }
    where
      before : (i : ℕ) → i < t + 1 → IsCall file i → Dec (i < t) → i < t
      before i k call (yes m) = m
      before i k call (no m) =
          let q : i ≡ t = omega arith in
          absurd (other (sym (kind_read t kind e) ∙ rw q at call))

  -- one more call is written, and that there is one
  pub slots_next : (slots : Slots) (t place : ℕ) → SlotsUpTo file slots t → t < length slots.calls → IsCall file t
      → place ≡ position (file_names file) (call_folded file t) → SlotsUpTo file (record slots { calls = set slots.calls t place; has_call = true }) (t + 1)
  slots_next slots t place s l call e = record {
    functions = s.functions;
    count = s.count;
    marked = λ i k kind. refl;
    unmarked = λ none. absurd (none t (omega arith) call);
    calls = λ i k kind. go i k kind (dec_lt i t);
    other_functions = s.other_functions;
    other_calls = λ i none.
        let other : i ≡ t → ⊥ = λ q. none (omega arith) (rw q call) in
        get_or-set_other slots.calls t i place 0 other ∙ s.other_calls i (λ k. none (omega arith));
  }
    where
      go : (i : ℕ) → i < t + 1 → IsCall file i → Dec (i < t) → get_or (set slots.calls t place) i 0 ≡ position (file_names file) (call_folded file i)
      go i k kind (yes m) = get_or-set_other slots.calls t i place 0 (λ q. omega arith) ∙ s.calls i m kind
      go i k kind (no m) =
          let q : i ≡ t = omega arith in
          rw q (get_or-set_same slots.calls t place 0 l ∙ e)
