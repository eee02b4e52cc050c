-- The loose test before the search, for both matchers: what does not pass has no match, and what passes has one where no variable is repeated.
use Prim.Native.Nat.{ℕ}
use mathlib.Core.Bool.{Bool, true, false}
use mathlib.Core.List.{List, [], ◌∷◌}
use mathlib.Core.Path.{◌≡◌, refl, sym, ap, ◌∙◌}
use Rattle.law.specs.Symbol.{character}
use Rattle.matching.specs.Pattern.{Atom, literal, Pattern}
use Rattle.matching.specs.Match.{Values, none_bound, value_in, some_in}
use Rattle.matching.specs.Shadow.{same_atom, symbol_like, single_term, shadows, shadows_with, own_values}
use Rattle.matching.specs.Literal.{literal_matches}
use Rattle.matching.specs.Code.Part.{row_of, literal_part, symbols_of}
use Rattle.matching.specs.Code.Step.{found}
use Rattle.searches.specs.Code.Capacity.{variables_in}
use Rattle.searches.specs.Code.Asked.{some_holds, resume}
use Rattle.matching.proofs.SameLaws.{false_not_true, symbol_refl, atom_sound}
use Rattle.searches.proofs.LiteralParts.{literal_found}
use Rattle.sentences.specs.Code.Loose.{once_each}
use Rattle.sentences.specs.Code.Ahead.{passes, Matches}
use Rattle.sentences.proofs.LooseLaws.{loose_misses_nothing, loose_found}

module _ (back : Bool) (p x : Pattern) where
  -- what does not pass has no match
  none_found : passes p x ≡ false → found back p x none_bound ≡ []
  none_found h = go (found back p x none_bound) refl
    where
      go : (l : List (Values Atom)) → found back p x none_bound ≡ l → l ≡ []
      go [] e = refl
      go (vs ∷ l) e =
          absurd (false_not_true (sym h
          ∙ loose_misses_nothing same_atom literal symbol_like single_term symbol_refl back atom_sound (literal (character 0)) refl refl p x (ap some_in e)))

  -- what passes has one, where no variable is repeated
  some_found : once_each (variables_in p) ≡ true → passes p x ≡ true → some_in (found back p x none_bound) ≡ true
  unfolding value_in
  some_found o h = loose_found same_atom literal symbol_like single_term back p x none_bound o (λ w i. refl) h

holds_some : (l : List (Values Atom)) → some_in l ≡ some_holds (resume []) l
unfolding some_holds resume
holds_some [] = refl
holds_some (vs ∷ l) = refl

module _ (text pattern row : List ℕ) where
  pub known_not : passes (row_of text pattern) (row_of text row) ≡ false → Matches text pattern row false
  known_not h back = ap some_in (none_found back (row_of text pattern) (row_of text row) h)

  pub known_once : passes (row_of text pattern) (row_of text row) ≡ true → once_each (variables_in (row_of text pattern)) ≡ true → Matches text pattern row true
  known_once h o back = some_found back (row_of text pattern) (row_of text row) o h

  pub shadow_known : {b : Bool} → Matches text pattern row b → b ≡ shadows (row_of text pattern) (row_of text row)
  unfolding shadows_with own_values
  shadow_known h = sym (h false)

  pub literal_known : literal_part row ≡ true → {b : Bool} → Matches text pattern row b → b ≡ literal_matches (row_of text pattern) (symbols_of text row)
  literal_known k h = sym (h true) ∙ holds_some _ ∙ literal_found text row (row_of text pattern) k

-- ---- a pattern and a row that are parted, by the parts that stand for them

module _ (text pattern row : List ℕ) {t p r : List ℕ} (e : t ≡ text) (f : p ≡ pattern) (g : r ≡ row) (h : passes (row_of t p) (row_of t r) ≡ false) where
  pub shadow_parted : false ≡ shadows (row_of text pattern) (row_of text row)
  shadow_parted = shadow_known text pattern row (known_not text pattern row (rw (e, f, g) at h))

  pub literal_parted : literal_part row ≡ true → false ≡ literal_matches (row_of text pattern) (symbols_of text row)
  literal_parted k = literal_known text pattern row k (known_not text pattern row (rw (e, f, g) at h))
