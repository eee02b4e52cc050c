-- The records of a part by their numbers: a variable of a pattern is one of its records; what `again` has gone through.
use Prim.Native.Nat.{ℕ, zero, suc, ◌+◌, ◌*◌, ◌-◌, ◌≤◌, ◌<◌, min}
use mathlib.Core.Bool.{Bool, true, false}
use mathlib.Core.List.{List, ◌∷◌, ◌++◌}
use mathlib.Core.Logic.{◌⊎◌, inl, inr}
use mathlib.Core.Path.{◌≡◌, refl, sym, ap, ◌∙◌}
use native.Mathlib.Omega.{arith}
use native.Mathlib.Decide.{dec_lt}
use lib.ListN.{length, take, drop, length-take, length-drop, length-append}
use lib.Seq.{take_all, take-append_seam, drop-append_seam}
use Rattle.file.specs.Word.{word_at}
use Rattle.file.specs.Forest.{contents, rest}
use Rattle.file.specs.Head.{term_at}
use Rattle.file.specs.declared.Term.{Term}
use Rattle.file.specs.declared.Term.TheVariants.{Symbol as Symbolic, SVariable, TVariable, EVariable, Bracket, Call, Block}
use Rattle.law.specs.Runs.{end_of}
use Rattle.law.specs.Variables.{Variable, same_variable, occurs}
use Rattle.law.proofs.RunLaws.{end_low, end_high}
use Rattle.matching.specs.Pattern.{Atom, literal, variable, other, Pattern}
use Rattle.matching.specs.Shadow.{same_atom}
use Rattle.matching.specs.Code.Part.{row_of, from, Stands, atom_of, term_row}
use Rattle.searches.specs.Code.Capacity.{variables_in}
use Rattle.matching.specs.Match.{Values, value_in}
use Rattle.matching.specs.Code.Bound.{place_at, variable_at, values_up_to, Kept}
use Rattle.matching.specs.declared.Bindings.{Bindings}
use Rattle.searches.specs.Code.Repeats.{atom_at, Alone, Disjoint, AgreeUpTo}
use Rattle.matching.proofs.SameLaws.{false_not_true, variable_refl}
use Rattle.matching.proofs.PartLaws.{row_empty, row_node}
use Rattle.matching.proofs.CutLaws.{from_length, from_drop, from_from, stands_part, stands_from, stands_term}
use Rattle.matching.proofs.AtomLaws.{variable_kind_lem}
use Rattle.matching.proofs.BoundLaws.{term_from_lem}
use Rattle.matching.proofs.VariableLaws.{occurs_cases, occurs_either}

-- ---- a part of a part, by the numbers of records

pub stands_whole : (s : List ℕ) → Stands s s 0
stands_whole s = record { inside = omega arith; same = sym (take_all (length s) s (omega arith)) }

-- a record of a part is a record of the whole
pub stands_at : (whole s : List ℕ) (a m : ℕ) → Stands whole s (24 * a) → 24 * m + 24 ≤ length s → term_at s (24 * m) ≡ term_at whole (24 * (a + m))
stands_at whole s a m stands h =
    let long : 24 ≤ length (from (24 * m) s) = omega (arith, from_length (24 * m) s) in
    let here : term_at (from (24 * m) s) 0 ≡ term_at s (0 + 24 * m) = stands_term s (from (24 * m) s) (0 + 24 * m) (stands_from s s 0 (24 * m) (stands_whole s) (omega arith)) long in
    let there : term_at (from (24 * m) s) 0 ≡ term_at whole (24 * a + 24 * m) = stands_term whole (from (24 * m) s) (24 * a + 24 * m)
    (stands_from whole s (24 * a) (24 * m) stands (omega arith)) long in
    let i : 0 + 24 * m ≡ 24 * m = omega arith in
    let j : 24 * a + 24 * m ≡ 24 * (a + m) = omega arith in
    (rw i at (sym here)) ∙ (rw j at there)

-- the first record ends after so many records, or with the part
pub data Ends (part : List ℕ) : Type 0 where
  at_end : length (rest 24 end_of part) < 24 → Ends part
  after_records : (e : ℕ) → end_of part ≡ 24 * e → Ends part

pub ends_at : (part : List ℕ) → Ends part
unfolding end_of
ends_at part = go (dec_lt (length part) (24 + 24 * word_at part 12))
  where
    go : Dec (length part < 24 + 24 * word_at part 12) → Ends part
    go (yes h) =
        let e : min (24 + 24 * word_at part 12) (length part) ≡ length part = omega arith in
        at_end (omega (arith, from_length (min (24 + 24 * word_at part 12) (length part)) part))
    go (no h) = after_records (1 + word_at part 12) (omega arith)

module _ (part : List ℕ) (long : 24 ≤ length part) where
  pub contents_stand : Stands part (contents 24 end_of part) (24 * 1)
  contents_stand = stands_part part part 0 24 (end_of part) (stands_whole part) (end_low part long) (end_high part)

  pub contents_length : length (contents 24 end_of part) ≡ end_of part - 24
  contents_length = length-take (end_of part - 24) (drop 24 part) ∙ omega (arith, length-drop 24 part, end_high part)

  pub rest_stands : (e : ℕ) → end_of part ≡ 24 * e → Stands part (rest 24 end_of part) (24 * e)
  rest_stands e ends =
      let stands : Stands part (rest 24 end_of part) (0 + end_of part) = stands_part part part 0 (end_of part) (length part) (stands_whole part) (end_high part) (omega arith) in
      let place : 0 + end_of part ≡ 24 * e = omega arith in
      rw place at stands

-- ---- a variable of a pattern is one of its records

module _ (text : List ℕ) where
  -- a record with this variable
  abbrev pub Somewhere : Variable → List ℕ → Type 0
  Somewhere w part = (m : ℕ) × (24 * m + 24 ≤ length part) × (atom_at text part m ≡ variable w)

  within_whole : (w : Variable) (whole s : List ℕ) (a : ℕ) → Stands whole s (24 * a) → Somewhere w s → Somewhere w whole
  within_whole w whole s a stands (m, h, e) = (a + m, omega (arith, stands.inside), ap (atom_of text) (sym (stands_at whole s a m stands h)) ∙ e)

  -- the variables of a term before others
  abbrev pub variables_of : Term → List Variable → List Variable → List Variable
  variables_of (Symbolic x) inside after = after
  variables_of (SVariable a b) inside after = after
  variables_of (TVariable a b) inside after = after
  variables_of (EVariable a b) inside after = after
  variables_of Bracket inside after = inside ++ after
  variables_of (Call a b) inside after = after
  variables_of (Block n) inside after = after

  abbrev pub own_variable : Atom → List Variable → List Variable
  own_variable (literal a) l = l
  own_variable (variable v) l = v ∷ l
  own_variable other l = l

  pub term_variables : (t : Term) (c p : Pattern) → variables_in (term_row text t c p) ≡ own_variable (atom_of text t) (variables_of t (variables_in c) (variables_in p))
  unfolding variables_in
  term_variables (Symbolic x) c p = refl
  term_variables (SVariable a b) c p = refl
  term_variables (TVariable a b) c p = refl
  term_variables (EVariable a b) c p = refl
  term_variables Bracket c p = refl
  term_variables (Call a b) c p = refl
  term_variables (Block n) c p = refl

  own_cases : (w : Variable) (a : Atom) (l : List Variable) → occurs w (own_variable a l) ≡ true → (a ≡ variable w) ⊎ (occurs w l ≡ true)
  own_cases w (literal x) l h = inr h
  own_cases w (variable v) l h = go (occurs_cases w v l h)
    where
      go : (w ≡ v) ⊎ (occurs w l ≡ true) → (variable v ≡ variable w) ⊎ (occurs w l ≡ true)
      go (inl e) = inl (ap variable (sym e))
      go (inr k) = inr k
  own_cases w other l h = inr h

  of_cases : (w : Variable) (t : Term) (l m : List Variable) → occurs w (variables_of t l m) ≡ true → (occurs w l ≡ true) ⊎ (occurs w m ≡ true)
  of_cases w (Symbolic x) l m h = inr h
  of_cases w (SVariable a b) l m h = inr h
  of_cases w (TVariable a b) l m h = inr h
  of_cases w (EVariable a b) l m h = inr h
  of_cases w Bracket l m h = occurs_either w l m h
  of_cases w (Call a b) l m h = inr h
  of_cases w (Block n) l m h = inr h

  pub none_occurs : (w : Variable) (part : List ℕ) → length part < 24 → occurs w (variables_in (row_of text part)) ≡ true → ⊥
  unfolding variables_in occurs
  none_occurs w part h k = false_not_true (rw (row_empty text part h) at k)

  pub occurs_at : (k : ℕ) (part : List ℕ) → length part ≤ k → (w : Variable) → occurs w (variables_in (row_of text part)) ≡ true → Somewhere w part
  occurs_at zero part h w o = absurd (none_occurs w part (omega arith) o)
  occurs_at (suc k) part h w o =
      go (dec_lt (length part) 24) (λ s i p. occurs_at k s i w p)
    where
      first : atom_of text (term_at part 0) ≡ variable w → 24 ≤ length part → Somewhere w part
      first e long = (0, omega arith, e)

      go : Dec (length part < 24) → ((s : List ℕ) → length s ≤ k → occurs w (variables_in (row_of text s)) ≡ true → Somewhere w s) → Somewhere w part
      go (yes short) below = absurd (none_occurs w part short o)
      go (no n) below = cases (own_cases w (atom_of text (term_at part 0)) _ (rw (row_node text part long, term_variables (term_at part 0) _ _) at o))
        where
          long : 24 ≤ length part
          long = omega arith

          behind : Ends part → occurs w (variables_in (row_of text (rest 24 end_of part))) ≡ true → Somewhere w part
          behind (at_end short) p = absurd (none_occurs w (rest 24 end_of part) short p)
          behind (after_records e ends) p =
              within_whole w part (rest 24 end_of part) e (rest_stands part long e ends)
              (below (rest 24 end_of part) (omega (arith, from_length (end_of part) part, end_low part long)) p)

          inner : (occurs w (variables_in (row_of text (contents 24 end_of part))) ≡ true) ⊎ (occurs w (variables_in (row_of text (rest 24 end_of part))) ≡ true) → Somewhere w part
          inner (inl p) =
              within_whole w part (contents 24 end_of part) 1 (contents_stand part long)
              (below (contents 24 end_of part) (omega (arith, contents_length part long, end_high part, end_low part long)) p)
          inner (inr p) = behind (ends_at part) p

          cases : (atom_of text (term_at part 0) ≡ variable w)
              ⊎ (occurs w (variables_of (term_at part 0) (variables_in (row_of text (contents 24 end_of part))) (variables_in (row_of text (rest 24 end_of part)))) ≡ true)
              → Somewhere w part
          cases (inl e) = first e long
          cases (inr p) = inner (of_cases w (term_at part 0) _ _ p)

-- ---- what `again` has gone through: the first so many records

pub record Past (text first part : List ℕ) (i : ℕ) : Type 0 where
  pub within : i ≤ length part
  pub count : ℕ
  pub counted : i ≡ 24 * count
  pub differ : 2 < word_at first 0 → (n : ℕ) → n < count → same_atom (atom_of text (term_at first 0)) (atom_at text part n) ≡ false

-- the record at a position
pub record_at : (part : List ℕ) (i k : ℕ) → i ≡ 24 * k → 24 ≤ length (from i part) → term_at (from i part) 0 ≡ term_at part (24 * k)
record_at part i k e long =
    let here : term_at (from i part) 0 ≡ term_at part (0 + i) = stands_term part (from i part) (0 + i) (stands_from part part 0 i (stands_whole part) (omega (arith, from_length i part))) long in
    let j : 0 + i ≡ 24 * k = omega arith in
    rw j at here

-- what is left from a position on, cut into its first record and the others
module _ (part left record_bytes others : List ℕ) (i : ℕ) (here : left ≡ from i part) (cut : left ≡ record_bytes ++ others) (size : length record_bytes ≡ 24) where
  cut_from : from i part ≡ record_bytes ++ others
  cut_from = sym here ∙ cut

  pub cut_long : 24 ≤ length (from i part)
  cut_long = rw cut_from (omega (arith, length-append record_bytes others))

  pub cut_record : term_at record_bytes 0 ≡ term_at (from i part) 0
  cut_record =
      let front : record_bytes ≡ take (length record_bytes) (drop 0 (from i part)) = rw cut_from (sym (take-append_seam record_bytes others)) in
      stands_term (from i part) record_bytes 0 (record { inside = omega (arith, cut_long); same = front }) (omega arith)

  pub cut_others : others ≡ from (i + 24) part
  cut_others =
      let behind : drop 24 (from i part) ≡ others = rw (cut_from, ← size) (drop-append_seam record_bytes others) in
      sym behind ∙ sym (from_drop 24 (from i part)) ∙ from_from 24 i part

module _ {text first part : List ℕ} {i : ℕ} (so_far : Past text first part i) where
  -- what is compared with each record
  abbrev a : Atom
  a = atom_of text (term_at first 0)

  module _ (long : 24 ≤ length (from i part)) {t : Bool} (told : 2 < word_at first 0 → t ≡ same_atom a (atom_of text (term_at (from i part) 0))) where
    -- the record here
    here_told : 2 < word_at first 0 → same_atom a (atom_at text part so_far.count) ≡ t
    here_told k = ap (λ x. same_atom a (atom_of text x)) (sym (record_at part i so_far.count so_far.counted long)) ∙ sym (told k)

    pub past_next : t ≡ false → Past text first part (i + 24)
    past_next e = record {
      within = omega (arith, from_length i part, so_far.within);
      count = suc so_far.count;
      counted = omega (arith, so_far.counted);
      differ = λ k n h. go k n (dec_lt n so_far.count) h;
    }
      where
        go : 2 < word_at first 0 → (n : ℕ) → Dec (n < so_far.count) → n < suc so_far.count → same_atom a (atom_at text part n) ≡ false
        go k n (yes low) h = so_far.differ k n low
        go k n (no high) h =
            let here : n ≡ so_far.count = omega arith in
            ap (λ m. same_atom a (atom_at text part m)) here ∙ here_told k ∙ e

    -- it is the same variable
    pub past_found : t ≡ true → 2 < word_at first 0 → Alone text a part → ⊥
    past_found e k alone =
        let no : same_atom a (atom_at text part so_far.count) ≡ false = alone so_far.count (omega (arith, from_length i part, so_far.counted)) in
        false_not_true (sym no ∙ here_told k ∙ e)

-- ---- what `disjoint_variables` has gone through: none of the first so many records is a variable of the other

pub record Across (text part behind : List ℕ) (i : ℕ) : Type 0 where
  pub within : i ≤ length part
  pub count : ℕ
  pub counted : i ≡ 24 * count
  pub apart : (m : ℕ) (v : Variable) → m < count → atom_at text part m ≡ variable v → Alone text (variable v) behind

module _ {text part behind : List ℕ} {i : ℕ} (so_far : Across text part behind i) where
  pub across_all : length (from i part) < 24 → Disjoint (variables_in (row_of text part)) (variables_in (row_of text behind))
  across_all short w there = go (occurs w (variables_in (row_of text part))) refl
    where
      go : (b : Bool) → occurs w (variables_in (row_of text part)) ≡ b → b ≡ false
      go false e = refl
      go true e =
          let (m, inside, a) = occurs_at text (length part) part (omega arith) w e in
          let (n, within, b) = occurs_at text (length behind) behind (omega arith) w there in
          let no : same_atom (variable w) (atom_at text behind n) ≡ false =
          so_far.apart m w (omega (arith, from_length i part, so_far.counted, so_far.within)) a n within in
          absurd (false_not_true (sym (rw b at no) ∙ variable_refl w))

  module _ (long : 24 ≤ length (from i part)) where
    -- one record more
    across_next : ((v : Variable) → atom_of text (term_at (from i part) 0) ≡ variable v → Alone text (variable v) behind) → Across text part behind (i + 24)
    across_next new = record {
      within = omega (arith, from_length i part, so_far.within);
      count = suc so_far.count;
      counted = omega (arith, so_far.counted);
      apart = λ m v low. go m v (dec_lt m so_far.count) low;
    }
      where
        go : (m : ℕ) (v : Variable) → Dec (m < so_far.count) → m < suc so_far.count → atom_at text part m ≡ variable v → Alone text (variable v) behind
        go m v (yes below) low e = so_far.apart m v below e
        go m v (no above) low e =
            let here : m ≡ so_far.count = omega arith in
            new v (ap (atom_of text) (record_at part i so_far.count so_far.counted long) ∙ ap (atom_at text part) (sym here) ∙ e)

    pub across_symbol : (bytes : List ℕ) → term_at bytes 0 ≡ term_at (from i part) 0 → word_at bytes 0 ≤ 2 → Across text part behind (i + 24)
    across_symbol bytes same h = across_next (λ v e. absurd (omega (arith, (variable_kind_lem text bytes (ap (atom_of text) same ∙ e)).0)))

    pub across_alone : Alone text (atom_of text (term_at (from i part) 0)) behind → Across text part behind (i + 24)
    across_alone alone = across_next (λ v e. rw e at alone)

-- ---- what `closed` has gone through: none of a pattern's variables has a value in so many places more

module _ {text terms : List ℕ} {b : Bindings} (pattern : List ℕ) (kept : Kept text terms b) {i key : ℕ}
    (low : i < b.count) (is_key : key ≡ (place_at b.places i).key)
    (alone : 2 < word_at (from key terms) 0 → Alone text (atom_of text (term_at (from key terms) 0)) pattern) where
  -- the next place has a variable's record for its key
  key_named : atom_of text (term_at (from key terms) 0) ≡ variable (variable_at text terms (place_at b.places i).key)
  key_named = rw (is_key, term_from_lem terms (place_at b.places i).key (kept.keyed i low)) (kept.named i low)

  -- it is none of the pattern's variables
  other_variable : (w : Variable) → occurs w (variables_in (row_of text pattern)) ≡ true → same_variable (variable_at text terms (place_at b.places i).key) w ≡ false
  other_variable w o =
      let (m, inside, e) = occurs_at text (length pattern) pattern (omega arith) w o in
      rw (key_named, e) at (alone (variable_kind_lem text (from key terms) key_named).0 m inside)

  pub closed_next : (vs : Values Atom) → AgreeUpTo text terms pattern b i vs → AgreeUpTo text terms pattern b (i + 1) vs
  unfolding values_up_to value_in
  closed_next vs so_far w o =
      let e : i + 1 ≡ suc i = omega arith in
      rw (e, other_variable w o) (so_far w o)
