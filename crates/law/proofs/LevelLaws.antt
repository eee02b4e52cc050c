-- A run of term records fits exactly where, for each of its records at whatever depth, n stays inside the run and the level inside the record fits
-- (`level_fits`, specs/Code/Levels.antt). So the code can take the records in order.
use Prim.Native.Nat.{ℕ, zero, suc, ◌+◌, ◌*◌, ◌-◌, ◌≤◌, ◌<◌}
use mathlib.Core.List.{List}
use mathlib.Core.Bool.{Bool, true, false, ◌&&◌}
use mathlib.Core.Path.{◌≡◌, refl, sym, ◌∙◌}
use native.Mathlib.Omega.{arith}
use native.Mathlib.Nat.{le_refl}
use native.Mathlib.Decide.{dec_lt}
use lib.ListN.{length, take, drop, length-take, length-drop}
use lib.Dec.{leb}
use borrow.Author.Tests.{leb-true, le-leb, lt-leb}
use Rattle.file.specs.Word.{word_at}
use Rattle.file.specs.Forest.{Forest, end, node, contents, rest}
use Rattle.file.proofs.Below.{both, both_first, both_second}
use Rattle.law.specs.Runs.{end_of, fits, run_fits, term_forest}
use Rattle.law.specs.Code.Levels.{own_level, level_fits}
use Rattle.law.specs.Code.Whole.{heads, term_parts}
use Rattle.std.specs.List.{list_all}
use Rattle.law.proofs.Parts.{from_all, part_part, part_word}
use Rattle.law.proofs.Tests.{three_hold}
use Rattle.law.proofs.RunLaws.{terms_none, terms_node, fits_none, fits_node}

-- a level, record by record
level_none : (s : List ℕ) → length s < 24 → level_fits s ≡ true
unfolding own_level
level_none s h = rw (terms_none s h)

level_node : (s : List ℕ) → 24 ≤ length s → level_fits s ≡ leb (24 + 24 * word_at s 12) (length s) && level_fits (rest 24 end_of s)
unfolding own_level
level_node s h = rw (terms_node s h)

-- a run's first record stays inside the run
abbrev pub record_stays : List ℕ → Bool
record_stays s = leb (24 + 24 * word_at s 12) (length s)

level_of_heads : (f : Forest) → list_all record_stays (heads f) ≡ own_level f
unfolding own_level heads
level_of_heads end = refl
level_of_heads (node s inside after) = rw (level_of_heads after) refl

-- a level fits where each of its records stays inside it
pub level_of_terms : (s : List ℕ) → list_all record_stays (term_parts s) ≡ level_fits s
unfolding term_parts
level_of_terms s = level_of_heads (term_forest s)

-- where all fits, the run's own level does
own_fits : (f : Forest) → fits f ≡ true → own_level f ≡ true
unfolding fits own_level
own_fits end h = refl
own_fits (node s inside after) h =
    let (first, inner, outer) = three_hold (leb (24 + 24 * word_at s 12) (length s)) (fits inside) (fits after) h in
    both _ _ first (own_fits after outer)

-- the bytes of a part from one position to another
abbrev cut : List ℕ → ℕ → ℕ → List ℕ
cut s a b = take (b - a) (drop a s)

module _ (s : List ℕ) where
  -- the record at a byte, with the records inside it
  abbrev size : ℕ → ℕ
  size a = 24 + 24 * word_at s (a + 12)

  cut_length : (a b : ℕ) → b ≤ length s → length (cut s a b) ≡ b - a
  cut_length a b inside = simp (length-take, length-drop) (omega arith)

  module _ (a b : ℕ) (inside : b ≤ length s) (some : 24 ≤ b - a) where
    cut_word : word_at (cut s a b) 12 ≡ word_at s (a + 12)
    cut_word = part_word a (b - a) 12 s (omega arith)

    -- in a level or a run that fits, it does not
    level_stays : level_fits (cut s a b) ≡ true → size a ≤ b - a
    level_stays h =
        let own = rw (level_node (cut s a b) (omega (arith, cut_length a b inside)), cut_word, cut_length a b inside) at h in
        leb-true (size a) (b - a) (both_first _ _ own)

    fits_stays : run_fits (cut s a b) ≡ true → size a ≤ b - a
    fits_stays h =
        let all = rw (fits_node (cut s a b) (omega (arith, cut_length a b inside)), cut_word, cut_length a b inside) at h in
        leb-true (size a) (b - a) (three_hold _ _ _ all).0

    module _ (stays : size a ≤ b - a) where
      cut_end : end_of (cut s a b) ≡ size a
      unfolding end_of
      cut_end = rw (cut_word, cut_length a b inside) (omega arith)

      cut_contents : contents 24 end_of (cut s a b) ≡ cut s (a + 24) (a + size a)
      cut_contents =
          let same : a + size a - (a + 24) ≡ size a - 24 = omega arith in
          rw (cut_end, same, part_part a (b - a) 24 (size a - 24) s (omega arith))

      cut_rest : rest 24 end_of (cut s a b) ≡ cut s (a + size a) b
      cut_rest =
          let same : b - (a + size a) ≡ b - a - size a = omega arith in
          rw (cut_end, cut_length a b inside, same, part_part a (b - a) (size a) (b - a - size a) s (omega arith))

      -- the rest decides over the level, contents and rest over the run
      level_first : level_fits (cut s a b) ≡ level_fits (cut s (a + size a) b)
      level_first =
          rw (level_node (cut s a b) (omega (arith, cut_length a b inside)), cut_rest, cut_word, cut_length a b inside, le-leb (size a) (b - a) stays)

      fits_first_lem : run_fits (cut s a b) ≡ run_fits (cut s (a + 24) (a + size a)) && run_fits (cut s (a + size a) b)
      fits_first_lem =
          let node = fits_node (cut s a b) (omega (arith, cut_length a b inside)) in
          rw (node, cut_contents, cut_rest, cut_word, cut_length a b inside, le-leb (size a) (b - a) stays)

  -- the records inside the record k, those after them up to a byte, and the number of the first of these
  abbrev inner : ℕ → List ℕ
  inner k = cut s (24 * k + 24) (24 * k + size (24 * k))

  abbrev outer : ℕ → ℕ → List ℕ
  outer k b = cut s (24 * k + size (24 * k)) b

  abbrev next : ℕ → ℕ
  next k = k + 1 + word_at s (24 * k + 12)

  -- what holds of a part without a record, and of a part whose contents and rest it holds of, holds of every part that begins with a record
  module _ (P : ℕ → ℕ → Type 0) (none : (k b : ℕ) → b - 24 * k < 24 → P k b)
      (some : (k b : ℕ) → 24 ≤ b - 24 * k
      → (size (24 * k) ≤ b - 24 * k → P (k + 1) (24 * k + size (24 * k)) × P (next k) b) → P k b) where
    by_fuel : (fuel k b : ℕ) → b - 24 * k ≤ fuel → P k b
    by_fuel zero k b few = none k b (omega arith)
    by_fuel (suc fuel) k b few =
        go (dec_lt (b - 24 * k) 24)
        (λ h stays. (by_fuel fuel (k + 1) (24 * k + size (24 * k)) (omega arith), by_fuel fuel (next k) b (omega arith)))
      where
        go : Dec (b - 24 * k < 24)
            → (24 ≤ b - 24 * k → size (24 * k) ≤ b - 24 * k → P (k + 1) (24 * k + size (24 * k)) × P (next k) b)
            → P k b
        go (yes h) deeper = none k b h
        go (no h) deeper = some k b (omega arith) (deeper (omega arith))

    by_parts : (k b : ℕ) → P k b
    by_parts k b = by_fuel (b - 24 * k) k b (le_refl _)

  -- the record k: its n stays inside the run, and the level inside it fits
  pub record RecordFits (k : ℕ) : Type 0 where
    pub stays : size (24 * k) ≤ length s - 24 * k
    pub inside : level_fits (inner k) ≡ true

  -- records none of which passes the part: their level fits
  abbrev LevelOfRecords : ℕ → ℕ → Type 0
  LevelOfRecords k b =
      b ≤ length s → ((q : ℕ) → k ≤ q → 24 * q + 24 ≤ b → size (24 * q) ≤ b - 24 * q) → level_fits (cut s (24 * k) b) ≡ true

  level_of_records : (k b : ℕ) → LevelOfRecords k b
  level_of_records =
      by_parts LevelOfRecords
      (λ k b short inside each. level_none _ (omega (arith, cut_length (24 * k) b inside)))
      (λ k b long deeper inside each.
      let stays = each k (le_refl k) (omega arith) in
      let after : 24 * k + size (24 * k) ≡ 24 * next k = omega arith in
      level_first (24 * k) b inside long stays ∙ rw after ((deeper stays).1 inside (λ q l. each q (omega arith))))

  -- a run whose level fits, and the level inside each of its records: the run fits
  abbrev RunOfRecords : ℕ → ℕ → Type 0
  RunOfRecords k b =
      b ≤ length s → ((q : ℕ) → k ≤ q → 24 * q + 24 ≤ b → RecordFits q) → level_fits (cut s (24 * k) b) ≡ true
      → run_fits (cut s (24 * k) b) ≡ true

  run_of_records : (k b : ℕ) → RunOfRecords k b
  run_of_records =
      by_parts RunOfRecords
      (λ k b short inside each own. fits_none _ (omega (arith, cut_length (24 * k) b inside)))
      (λ k b long deeper inside each own.
      let stays = level_stays (24 * k) b inside long own in
      let start : 24 * k + 24 ≡ 24 * (k + 1) = omega arith in
      let after : 24 * k + size (24 * k) ≡ 24 * next k = omega arith in
      let own-level = rw start at (each k (le_refl k) (omega arith)).inside in
      let contents_fit = (deeper stays).0 (omega arith) (λ q l h. each q (omega arith) (omega arith)) own-level in
      let rest_fits = (deeper stays).1 inside (λ q l. each q (omega arith)) (rw after at (sym (level_first (24 * k) b inside long stays) ∙ own)) in
      fits_first_lem (24 * k) b inside long stays ∙ both (run_fits (inner k)) (run_fits (outer k b)) (rw start contents_fit) (rw after rest_fits))

  -- in a run that fits, each record does: the first, those inside it and those after it
  abbrev RecordsOfRun : ℕ → ℕ → Type 0
  RecordsOfRun k b = b ≤ length s → run_fits (cut s (24 * k) b) ≡ true → (q : ℕ) → k ≤ q → 24 * q + 24 ≤ b → RecordFits q

  each_of : (k q : ℕ) → k ≤ q → RecordFits k → (k + 1 ≤ q → 24 * q + 24 ≤ 24 * k + size (24 * k) → RecordFits q)
      → (next k ≤ q → RecordFits q) → RecordFits q
  each_of k q l first within after = go (dec_lt k q) (dec_lt (24 * q) (24 * k + size (24 * k)))
    where
      go : Dec (k < q) → Dec (24 * q < 24 * k + size (24 * k)) → RecordFits q
      go (no a) d =
          let same : q ≡ k = omega arith in
          rw same first
      go (yes a) (yes d) = within (omega arith) (omega arith)
      go (yes a) (no d) = after (omega arith)

  records_of_run : (k b : ℕ) → RecordsOfRun k b
  records_of_run =
      by_parts RecordsOfRun
      (λ k b short inside fit q l h. absurd (omega arith))
      (λ k b long deeper inside fit q l h.
      let stays = fits_stays (24 * k) b inside long fit in
      let start : 24 * k + 24 ≡ 24 * (k + 1) = omega arith in
      let after : 24 * k + size (24 * k) ≡ 24 * next k = omega arith in
      let two = sym (fits_first_lem (24 * k) b inside long stays) ∙ fit in
      let contents_fit : run_fits (inner k) ≡ true = both_first (run_fits (inner k)) (run_fits (outer k b)) two in
      let rest_fits : run_fits (outer k b) ≡ true = both_second (run_fits (inner k)) (run_fits (outer k b)) two in
      each_of k q l (record { stays = omega (arith, stays); inside = own_fits _ contents_fit })
      (λ a d. (deeper stays).0 (omega arith) (rw start at contents_fit) q a d)
      (λ a. (deeper stays).1 inside (rw after at rest_fits) q a h))

  -- the run is the part from its start to its end
  whole : cut s 0 (length s) ≡ s
  whole = from_all s

  fails : (a b : Bool) → (a ≡ true → b ≡ true) → b ≡ false → a ≡ false
  fails true b h e = sym (h refl) ∙ e
  fails false b h e = refl

  -- the records before k fit
  pub record RecordsFit (k : ℕ) : Type 0 where
    pub within : 24 * k ≤ length s
    pub each : (q : ℕ) → q < k → RecordFits q

  module _ {k : ℕ} (so_far : RecordsFit k) where
    -- no record is left
    pub records_end : length s - 24 * k < 24 → true ≡ run_fits s
    records_end h =
        let each : (q : ℕ) → 24 * q + 24 ≤ length s → RecordFits q = λ q l. so_far.each q (omega arith) in
        let own = level_of_records 0 (length s) (le_refl _) (λ q l h. (each q h).stays) in
        sym (rw whole at (run_of_records 0 (length s) (le_refl _) (λ q l. each q) own))

    module _ (some : 24 ≤ length s - 24 * k) where
      -- one record more
      pub records_next : RecordFits k → RecordsFit (k + 1)
      records_next one = record { within = omega arith; each = λ q h. go q (dec_lt q k) h }
        where
          go : (q : ℕ) → Dec (q < k) → q < k + 1 → RecordFits q
          go q (yes a) h = so_far.each q a
          go q (no a) h =
              let same : q ≡ k = omega arith in
              rw same one

      record_of : run_fits s ≡ true → RecordFits k
      record_of fit = records_of_run 0 (length s) (le_refl _) (rw whole fit) k (omega arith) (omega arith)

      module _ {n : ℕ} (told : n ≡ word_at s (24 * k + 12)) where
        -- the next record has nothing inside it; its n passes the run; the level inside it fits or does not
        pub record_leaf : n ≡ 0 → RecordFits k
        record_leaf none =
            let nothing = length-take (24 * k + size (24 * k) - (24 * k + 24)) (drop (24 * k + 24) s) in
            record { stays = omega arith; inside = level_none _ (omega (arith, nothing)) }

        pub record_over : length s - 24 * k < 24 + 24 * n → false ≡ run_fits s
        record_over o =
            sym
            (fails (run_fits s) (leb (size (24 * k)) (length s - 24 * k))
            (λ fit. le-leb _ _ (record_of fit).stays)
            (lt-leb (size (24 * k)) (length s - 24 * k) (omega arith)))

        pub record_unfit : level_fits (cut s (24 * k + 24) (24 * k + (24 + 24 * n))) ≡ false → false ≡ run_fits s
        record_unfit h = sym (fails (run_fits s) _ (λ fit. (record_of fit).inside) (rw (← told) h))

        pub record_fits : 24 + 24 * n ≤ length s - 24 * k → level_fits (cut s (24 * k + 24) (24 * k + (24 + 24 * n))) ≡ true → RecordFits k
        record_fits l h = record { stays = omega arith; inside = rw (← told) h }
