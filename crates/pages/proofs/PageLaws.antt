-- The page as the code writes it, line after line.
use Prim.Native.Nat.{ℕ, zero, suc, ◌+◌, ◌*◌, ◌-◌, ◌≤◌, ◌<◌}
use mathlib.Core.List.{List, [], ◌∷◌, ◌++◌, flatten, append-nil, append_assoc}
use mathlib.Core.Path.{◌≡◌, refl, sym, ap, ◌∙◌}
use native.Mathlib.Omega.{arith}
use native.Mathlib.Numerals.{add-one}
use Rattle.file.specs.Sections.{File}
use Rattle.buffers.specs.Code.Put.{Put}
use Rattle.buffers.proofs.PutLaws.{put_none, ◌then◌}
use Rattle.pages.specs.Page.{heading, heading_before, lines_from, page_lines}
use Rattle.pages.specs.Code.Lines.{line_at, lines_at, words_page}

flatten_append : (xs ys : List (List ℕ)) → flatten (xs ++ ys) ≡ flatten xs ++ flatten ys
unfolding flatten
flatten_append [] ys = refl
flatten_append (x ∷ xs) ys = ap (λ r. x ++ r) (flatten_append xs ys) ∙ sym (append_assoc x (flatten xs) (flatten ys))

module _ (file : File) (words : List ℕ) where
  abbrev functions : ℕ
  functions = file.functions.count

  -- the lines of so many findings, from the one at a position on
  abbrev pub rest : ℕ → ℕ → List ℕ
  rest i left = flatten (lines_from functions i (lines_at file words (8 * i) left))

  -- a page with a finding is these lines
  page_all : (count : ℕ) → (count ≡ 0 → ⊥) → words_page file words count ≡ rest 0 count
  unfolding words_page page_lines lines_at
  page_all zero h = absurd (h refl)
  page_all (suc count) h = refl

  pub page_none : words_page file words 0 ≡ heading functions 1
  unfolding words_page page_lines lines_at flatten
  page_none = append-nil (heading functions 1)

  rest_none : (i left : ℕ) → left ≡ 0 → rest i left ≡ []
  unfolding lines_from lines_at flatten
  rest_none i left h = rw h

  rest_next : (i left more : ℕ) → left ≡ suc more → rest i left ≡ flatten (heading_before functions i) ++ line_at file words (8 * i) ++ rest (suc i) more
  unfolding lines_from lines_at flatten
  rest_next i left more h =
      let past : 8 * suc i ≡ 8 * i + 8 = omega arith in
      rw (h, past)
      (flatten_append (heading_before functions i) (line_at file words (8 * i) ∷ lines_from functions (suc i) (lines_at file words (8 * i + 8) more))
      ∙ sym (append_assoc (flatten (heading_before functions i)) (line_at file words (8 * i)) (rest_after i more)))
    where
      rest_after : ℕ → ℕ → List ℕ
      rest_after i more = flatten (lines_from functions (suc i) (lines_at file words (8 * i + 8) more))

  -- ---- the loop: what is still to be put makes the page

  module _ (count : ℕ) (old : List ℕ) where
    abbrev pub ToPut : ℕ → List ℕ → ℕ → Type 0
    ToPut i now at = (end : ℕ) (last : List ℕ) → Put now at (rest i (count - i)) end last → Put old 0 (words_page file words count) end last

    pub begun : (count ≡ 0 → ⊥) → ToPut 0 old 0
    begun some end last p =
        let all : count - 0 ≡ count = omega arith in
        rw (page_all count some) (rw all at p)

    pub gone_on : (i at line end : ℕ) (now middle last : List ℕ) → i < count → ToPut i now at → Put now at (flatten (heading_before functions i)) line middle
        → Put middle line (line_at file words (8 * i)) end last → ToPut (i + 1) last end
    gone_on i at line end now middle last less h p q stop final r =
        h stop final (rw (rest_next i (count - i) (count - suc i) (omega (arith, less))) (p then q then (rw (add-one i) at r)))

    pub finished : (i at : ℕ) (now : List ℕ) → count ≤ i → ToPut i now at → Put old 0 (words_page file words count) at now
    finished i at now none h = h at now (rw (rest_none i (count - i) (omega (arith, none))) (put_none now at))
