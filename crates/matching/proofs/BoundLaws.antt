-- What `Bindings` means (specs/Code/Bound.antt) when one variable more has a value, and the place of a variable's value.
use Prim.Native.Nat.{ℕ, zero, suc, ◌+◌, ◌-◌, ◌≤◌, ◌<◌}
use mathlib.Core.Bool.{Bool, true, false, cond}
use mathlib.Core.List.{List}
use mathlib.Core.Option.{some}
use mathlib.Core.Path.{◌≡◌, refl, sym, ap, ◌∙◌}
use native.Mathlib.Omega.{arith}
use native.Mathlib.Decide.{dec_lt}
use native.Mathlib.Nat.{add-zero}
use lib.ListN.{length, set, length-set}
use lib.Seq.{get_or-set_same, get_or-set_other}
use Rattle.file.specs.Word.{word_at}
use Rattle.file.specs.Head.{term_at}
use Rattle.file.proofs.Words.{word_part}
use Rattle.law.specs.Variables.{Variable, same_variable}
use Rattle.matching.specs.Pattern.{variable}
use Rattle.matching.specs.Match.{none_bound, bound, value_in}
use Rattle.matching.specs.Shadow.{same_atom}
use Rattle.matching.specs.Code.Part.{from, atom_of}
use Rattle.matching.specs.Code.Bound.{variable_in, place_at, variable_at, row_at, values_up_to, values_of, Kept, Bound, HasPlace}
use Rattle.matching.specs.declared.Bindings.{Bindings}
use Rattle.matching.specs.declared.Binding.{Binding}
use Rattle.std.specs.Prelude.{Some, None}
use Rattle.matching.proofs.AtomLaws.{variable_kind_lem}

-- the first record of what is left from a position on is the record at that position
pub term_from_lem : (s : List ℕ) (at : ℕ) → at + 24 ≤ length s → term_at (from at s) 0 ≡ term_at s at
unfolding term_at
term_from_lem s at h =
    rw (
      word_part s at (length s - at) 0 (omega arith),
      word_part s at (length s - at) 4 (omega arith),
      word_part s at (length s - at) 8 (omega arith),
      add-zero at,
    )

module _ (text terms : List ℕ) where
  -- the values in the first n places do not depend on a place after them
  pub values_set : (places : List Binding) (at : ℕ) (place : Binding) (n : ℕ) → n ≤ at → values_up_to text terms (set places at place) n ≡ values_up_to text terms places n
  unfolding values_up_to
  values_set places at place zero h = refl
  values_set places at place (suc n) h =
      rw (get_or-set_other places at n place (record { key = 0; start = 0; size = 0 }) (λ e. omega arith), values_set places at place n (omega arith))

module _ {text terms : List ℕ} {b : Bindings} (kept : Kept text terms b) (room : b.count < 32) {key start size : ℕ} {r : Bindings}
    (more : Bound b key start size r) where
  -- the new place
  abbrev place : Binding
  place = record { key = key; start = start; size = size }

  new_place : place_at r.places b.count ≡ place
  new_place = rw more.places (get_or-set_same b.places b.count place (record { key = 0; start = 0; size = 0 }) (omega (arith, kept.places)))

  -- the values in the old places are what they were
  older_values : values_up_to text terms r.places b.count ≡ values_of text terms b
  older_values = rw more.places (values_set text terms b.places b.count place b.count (omega arith))

  -- the variable at `key` has the row of `size` bytes from `start` on for its value; the others have their values as before
  pub bound_values : values_of text terms r ≡ bound (variable_at text terms key) (row_at text terms start size) (values_of text terms b)
  unfolding values_up_to
  bound_values = rw (more.more, new_place) (ap (bound (variable_at text terms key) (row_at text terms start size)) older_values)

  -- the old places
  old_place : (i : ℕ) → i < b.count → place_at r.places i ≡ place_at b.places i
  old_place i h = rw more.places (get_or-set_other b.places b.count i place (record { key = 0; start = 0; size = 0 }) (λ e. omega arith))

  -- what holds of the old places and of the new one holds of all
  all_places : (P : Binding → Type 0) → ((i : ℕ) → i < b.count → P (place_at b.places i)) → P place → (i : ℕ) → i < r.count → P (place_at r.places i)
  all_places P old new i h = go (dec_lt i b.count)
    where
      go : Dec (i < b.count) → P (place_at r.places i)
      go (yes l) = rw (old_place i l) (old i l)
      go (no l) = let e : i ≡ b.count = omega (arith, more.more) in rw (e, new_place) new

  -- the places stay as `Kept` says, if the key is a variable's record and the value stands among the term records
  pub bound_kept : {v : Variable} → key + 24 ≤ length terms → atom_of text (term_at terms key) ≡ variable v → start + size ≤ length terms → Kept text terms r
  bound_kept {v} keyed named inside = record {
    few = omega (arith, more.more);
    places = rw more.places (length-set b.places b.count place ∙ kept.places);
    keyed = all_places (λ p. p.key + 24 ≤ length terms) kept.keyed keyed;
    named =
        all_places (λ p. atom_of text (term_at terms p.key) ≡ variable (variable_at text terms p.key)) kept.named
        (named ∙ ap (λ a. variable (variable_in a)) (sym named));
    inside = all_places (λ p. p.start + p.size ≤ length terms) kept.inside inside;
  }

-- where no place is taken no variable has a value
pub none_values : {b : Bindings} → b.count ≡ 0 → length b.places ≡ 32 → (text terms : List ℕ) → Kept text terms b × (values_of text terms b ≡ none_bound)
unfolding values_up_to
none_values {b} e places text terms = (
  record {
    few = omega arith;
    places = places;
    keyed = λ i h. absurd (omega arith);
    named = λ i h. absurd (omega arith);
    inside = λ i h. absurd (omega arith);
  },
  rw e,
)

-- ---- the place of the variable that a pattern's first record is: places are looked through from the last to the first

-- none of the places from i on has it
pub record NotFrom (text terms pattern : List ℕ) (b : Bindings) (i : ℕ) : Type 0 where
  pub within : i ≤ b.count
  pub left : (v : Variable) → atom_of text (term_at pattern 0) ≡ variable v
      → value_in (values_of text terms b) v ≡ value_in (values_up_to text terms b.places i) v

module _ {text terms pattern : List ℕ} {b : Bindings} where
  module _ {i : ℕ} (so_far : NotFrom text terms pattern b i) where
    -- no place is left
    pub place_free : i ≡ 0 → HasPlace text terms pattern b None
    unfolding values_up_to value_in
    place_free e = (tt, λ v a. sym (so_far.left v a ∙ rw e))

    module _ (kept : Kept text terms b) (some_left : i ≡ 0 → ⊥) {key : ℕ} (is_key : key ≡ (place_at b.places (i - 1)).key) where
      -- the place before i
      last_place : i - 1 < b.count
      last_place = omega (arith, so_far.within)

      -- its key is a variable's record
      last_named : atom_of text (term_at (from key terms) 0) ≡ variable (variable_at text terms (place_at b.places (i - 1)).key)
      last_named = rw (is_key, term_from_lem terms (place_at b.places (i - 1)).key (kept.keyed (i - 1) last_place)) (kept.named (i - 1) last_place)

      module _ {t : Bool} (told : 2 < word_at (from key terms) 0 → t ≡ same_atom (atom_of text (term_at (from key terms) 0)) (atom_of text (term_at pattern 0))) where
        last_told : (v : Variable) → atom_of text (term_at pattern 0) ≡ variable v → same_variable (variable_at text terms (place_at b.places (i - 1)).key) v ≡ t
        last_told v a = sym (told (variable_kind_lem text (from key terms) last_named).0 ∙ rw (last_named, a))

        last_value : (v : Variable) → atom_of text (term_at pattern 0) ≡ variable v
            → value_in (values_of text terms b) v
            ≡ cond t (some (row_at text terms (place_at b.places (i - 1)).start (place_at b.places (i - 1)).size))
            (value_in (values_up_to text terms b.places (i - 1)) v)
        unfolding values_up_to value_in
        last_value v a =
            let e : i ≡ suc (i - 1) = omega arith in
            so_far.left v a ∙ ap (λ n. value_in (values_up_to text terms b.places n) v) e ∙ rw (last_told v a)

        -- it has the variable
        pub place_here : t ≡ true → HasPlace text terms pattern b (Some (i - 1))
        place_here e = (last_place, λ v a. sym (last_value v a ∙ rw e))

        -- it does not
        pub place_next : t ≡ false → NotFrom text terms pattern b (i - 1)
        place_next e = record { within = omega (arith, last_place); left = λ v a. last_value v a ∙ rw e }
