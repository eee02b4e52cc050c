-- Five sections after each other are cut where they were put together, or refused with 1 or 4.
use Prim.Native.Nat.{ℕ, ◌+◌, ◌*◌, ◌≤◌, ◌<◌}
use mathlib.Core.List.{List, [], ◌++◌, append-nil}
use mathlib.Core.Bool.{Bool, true, false, ◌||◌}
use mathlib.Core.Path.{◌≡◌, refl, ◌∙◌}
use native.Mathlib.Omega.{arith}
use lib.ListN.{length, length-append}
use lib.Seq.{take_at, drop_at}
use lib.Dec.{ltb}
use borrow.Author.Tests.{ltb-true, ltb-false}
use Rattle.file.specs.Word.{word_at}
use Rattle.file.specs.Answer.{refused, given, refuse_if, ◌>>◌}
use Rattle.file.specs.Sections.{File, section, sections_of}
use Rattle.file.proofs.SectionLaws.{section_whole, section_over}
use Rattle.encoding.specs.Encode.{word_bytes}
use Rattle.encoding.proofs.RecordLaws.{word_encoded}

-- a section within its limit
section_given : (limit size n : ℕ) (records after : List ℕ) → n ≤ limit → n < 4294967296 → length records ≡ size * n
    → section limit size (word_bytes n ++ (records ++ after)) ≡ given (record { count = n; records = records }, after)
section_given limit size n records after h k l =
    let s = word_bytes n ++ (records ++ after) in
    let word : word_at s 0 ≡ n = word_encoded n (records ++ after) k in
    let long : length (records ++ after) ≡ size * n + length after = rw (length-append records after, l) in
    section_whole limit size s (omega arith) (rw word h) (rw word (omega arith))
    ∙ rw (word, take_at records after (size * n) l, drop_at (word_bytes n ++ records) after (4 + size * n) (rw (length-append (word_bytes n) records, l)))

-- a section over its limit
section_refused : (limit size n : ℕ) (records after : List ℕ) → limit < n → n < 4294967296 → section limit size (word_bytes n ++ (records ++ after)) ≡ refused 4
section_refused limit size n records after h k = section_over limit size (word_bytes n ++ (records ++ after)) (omega arith) (rw (word_encoded n (records ++ after) k) h)

module _ (t f s c k : ℕ) (text functions sentences conditions terms : List ℕ) (lt : length text ≡ 1 * t) (lf : length functions ≡ 20 * f) (ls : length sentences ≡ 20 * s)
    (lc : length conditions ≡ 16 * c) (lk : length terms ≡ 24 * k) (tl : t ≤ 4096) where
  -- the bytes from each section on
  abbrev r₅ : List ℕ
  r₅ = word_bytes k ++ terms

  abbrev r₄ : List ℕ
  r₄ = word_bytes c ++ (conditions ++ r₅)

  abbrev r₃ : List ℕ
  r₃ = word_bytes s ++ (sentences ++ r₄)

  abbrev r₂ : List ℕ
  r₂ = word_bytes f ++ (functions ++ r₃)

  abbrev together : List ℕ
  together = word_bytes t ++ (text ++ r₂)

  abbrev cut : File
  cut =
      record {
        text = record { count = t; records = text };
        functions = record { count = f; records = functions };
        sentences = record { count = s; records = sentences };
        conditions = record { count = c; records = conditions };
        terms = record { count = k; records = terms };
      }

  together_length : length together ≡ 20 + t + 20 * f + 20 * s + 16 * c + 24 * k
  together_length =
      omega (arith, lt, lf, ls, lc, lk, length-append text r₂, length-append functions r₃, length-append sentences r₄, length-append conditions r₅)

  over_file : ltb 16384 (length together) ≡ true → sections_of together ≡ refused 1
  unfolding sections_of
  over_file e = rw e

  module _ (fits : ltb 16384 (length together) ≡ false) where
    size : 20 + t + 20 * f + 20 * s + 16 * c + 24 * k ≤ 16384
    size = rw together_length at (ltb-false 16384 (length together) fits)

    -- the text, and with it each section within its limit
    whole₁ : section 4096 1 together ≡ given (record { count = t; records = text }, r₂)
    whole₁ = section_given 4096 1 t text r₂ tl (omega (arith, size)) lt

    whole₂ : f ≤ 64 → section 64 20 r₂ ≡ given (record { count = f; records = functions }, r₃)
    whole₂ h = section_given 64 20 f functions r₃ h (omega (arith, size)) lf

    whole₃ : s ≤ 128 → section 128 20 r₃ ≡ given (record { count = s; records = sentences }, r₄)
    whole₃ h = section_given 128 20 s sentences r₄ h (omega (arith, size)) ls

    whole₄ : c ≤ 128 → section 128 16 r₄ ≡ given (record { count = c; records = conditions }, r₅)
    whole₄ h = section_given 128 16 c conditions r₅ h (omega (arith, size)) lc

    whole₅ : k ≤ 512 → section 512 24 r₅ ≡ given (record { count = k; records = terms }, [])
    whole₅ h = rw (append-nil terms) at (section_given 512 24 k terms [] h (omega (arith, size)) lk)

    over_functions : 64 < f → sections_of together ≡ refused 4
    unfolding sections_of
    over_functions h = rw (fits, whole₁, section_refused 64 20 f functions r₃ h (omega (arith, size)))

    over_sentences : f ≤ 64 → 128 < s → sections_of together ≡ refused 4
    unfolding sections_of
    over_sentences h₂ h = rw (fits, whole₁, whole₂ h₂, section_refused 128 20 s sentences r₄ h (omega (arith, size)))

    over_conditions : f ≤ 64 → s ≤ 128 → 128 < c → sections_of together ≡ refused 4
    unfolding sections_of
    over_conditions h₂ h₃ h = rw (fits, whole₁, whole₂ h₂, whole₃ h₃, section_refused 128 16 c conditions r₅ h (omega (arith, size)))

    over_terms : f ≤ 64 → s ≤ 128 → c ≤ 128 → 512 < k → sections_of together ≡ refused 4
    unfolding sections_of
    over_terms h₂ h₃ h₄ h =
        let over : section 512 24 r₅ ≡ refused 4 = rw (append-nil terms) at (section_refused 512 24 k terms [] h (omega (arith, size))) in
        rw (fits, whole₁, whole₂ h₂, whole₃ h₃, whole₄ h₄, over)

    in_limits : f ≤ 64 → s ≤ 128 → c ≤ 128 → k ≤ 512 → sections_of together ≡ given cut
    unfolding sections_of
    in_limits h₂ h₃ h₄ h₅ = rw (fits, whole₁, whole₂ h₂, whole₃ h₃, whole₄ h₄, whole₅ h₅)

  -- all cases: 2 and 3 never come
  pub sections_cut : sections_of together
      ≡ refuse_if 1 (ltb 16384 (length together)) >> (refuse_if 4 (ltb 64 f || ltb 128 s || ltb 128 c || ltb 512 k) >> given cut)
  sections_cut = go (ltb 16384 (length together)) (ltb 64 f) (ltb 128 s) (ltb 128 c) (ltb 512 k) refl refl refl refl refl
    where
      go : (p q₂ q₃ q₄ q₅ : Bool) → ltb 16384 (length together) ≡ p → ltb 64 f ≡ q₂ → ltb 128 s ≡ q₃ → ltb 128 c ≡ q₄ → ltb 512 k ≡ q₅
          → sections_of together ≡ refuse_if 1 p >> (refuse_if 4 (q₂ || q₃ || q₄ || q₅) >> given cut)
      go true q₂ q₃ q₄ q₅ e e₂ e₃ e₄ e₅ = over_file e
      go false true q₃ q₄ q₅ e e₂ e₃ e₄ e₅ = over_functions e (ltb-true 64 f e₂)
      go false false true q₄ q₅ e e₂ e₃ e₄ e₅ = over_sentences e (ltb-false 64 f e₂) (ltb-true 128 s e₃)
      go false false false true q₅ e e₂ e₃ e₄ e₅ = over_conditions e (ltb-false 64 f e₂) (ltb-false 128 s e₃) (ltb-true 128 c e₄)
      go false false false false true e e₂ e₃ e₄ e₅ =
          over_terms e (ltb-false 64 f e₂) (ltb-false 128 s e₃) (ltb-false 128 c e₄) (ltb-true 512 k e₅)
      go false false false false false e e₂ e₃ e₄ e₅ =
          in_limits e (ltb-false 64 f e₂) (ltb-false 128 s e₃) (ltb-false 128 c e₄) (ltb-false 512 k e₅)
