-- A search depends on the values of the pattern's variables alone, and gives values to no others.
use mathlib.Core.Bool.{Bool, true, false, cond, ◌||◌}
use mathlib.Core.List.{List, [], ◌∷◌, ◌++◌, Memᴰ}
use mathlib.Core.Option.{Option, none, some}
use mathlib.Core.Path.{◌≡◌, refl, sym, ap, ◌∙◌}
use Rattle.law.specs.Tree.{Kind}
use Rattle.law.specs.Expression.{Terms, nothing, symbol, brackets}
use Rattle.law.specs.Variables.{Variable, same_variable, occurs}
use Rattle.law.specs.Symbol.{Symbol}
use Rattle.matching.specs.Pattern.{literal, variable, other, Pattern}
use Rattle.matching.specs.Match.{Values, value_in, noted, when, each, all_or_first, some_in, choices, matches}
use Rattle.searches.specs.Code.Capacity.{variables_in}
use Rattle.searches.specs.Code.Repeats.{Agree}
use Rattle.matching.proofs.SearchLaws.{in_when, in_each, each_in, in_all_or_first, some_member, member_some}
use Rattle.matching.proofs.SameLaws.{false_not_true, variable_sound, variable_refl}
use Rattle.matching.proofs.VariableLaws.{occurs_first, occurs_later, occurs_left, occurs_right}

-- ---- lists of variables

neither : (a b : Bool) → (a || b) ≡ false → (a ≡ false) × (b ≡ false)
neither false false h = (refl, refl)
neither false true h = (refl, h)
neither true b h = absurd (false_not_true (sym h))

-- what does not occur in two lists together occurs in neither
pub not_left : (v : Variable) (l m : List Variable) → occurs v (l ++ m) ≡ false → occurs v l ≡ false
not_left v l m h = go (occurs v l) refl
  where
    go : (b : Bool) → occurs v l ≡ b → b ≡ false
    go false e = refl
    go true e = absurd (false_not_true (sym h ∙ occurs_left v l m e))

not_right : (v : Variable) (l m : List Variable) → occurs v (l ++ m) ≡ false → occurs v m ≡ false
not_right v l m h = go (occurs v m) refl
  where
    go : (b : Bool) → occurs v m ≡ b → b ≡ false
    go false e = refl
    go true e = absurd (false_not_true (sym h ∙ occurs_right v l m e))

-- ---- values that agree

module _ {A : Type 0} (l : List Variable) where
  -- as many in one list as in the other, one agreeing with the other
  abbrev pub Paired : List (Values A) → List (Values A) → Type 0
  Paired [] [] = Unit {0}
  Paired [] (us ∷ n) = ⊥
  Paired (vs ∷ m) [] = ⊥
  Paired (vs ∷ m) (us ∷ n) = Agree l vs us × Paired m n

  paired_append : (m n o p : List (Values A)) → Paired m n → Paired o p → Paired (m ++ o) (n ++ p)
  paired_append [] [] o p h k = k
  paired_append (vs ∷ m) (us ∷ n) o p h k = (h.0, paired_append m n o p h.1 k)
  paired_append [] (us ∷ n) o p h k = elim h [ ]
  paired_append (vs ∷ m) [] o p h k = elim h [ ]

  paired_when : (b : Bool) (m n : List (Values A)) → Paired m n → Paired (when b m) (when b n)
  paired_when true m n h = h
  paired_when false m n h = tt

  paired_first : (back : Bool) (m n : List (Values A)) → Paired m n → Paired (all_or_first back m) (all_or_first back n)
  paired_first true m n h = h
  paired_first false [] [] h = tt
  paired_first false (vs ∷ m) (us ∷ n) h = (h.0, tt)
  paired_first false [] (us ∷ n) h = elim h [ ]
  paired_first false (vs ∷ m) [] h = elim h [ ]

  paired_some : (m n : List (Values A)) → Paired m n → some_in m ≡ some_in n
  paired_some [] [] h = refl
  paired_some (vs ∷ m) (us ∷ n) h = refl
  paired_some [] (us ∷ n) h = elim h [ ]
  paired_some (vs ∷ m) [] h = elim h [ ]

  paired_each : (f : Values A → List (Values A)) → ((vs us : Values A) → Agree l vs us → Paired (f vs) (f us))
      → (m n : List (Values A)) → Paired m n → Paired (each f m) (each f n)
  paired_each f alike [] [] h = tt
  paired_each f alike (vs ∷ m) (us ∷ n) h = paired_append (f vs) (f us) (each f m) (each f n) (alike vs us h.0) (paired_each f alike m n h.1)
  paired_each f alike [] (us ∷ n) h = elim h [ ]
  paired_each f alike (vs ∷ m) [] h = elim h [ ]

  paired_same : {X : Type 0} (f g : X → List (Values A)) → ((x : X) → Paired (f x) (g x)) → (xs : List X) → Paired (each f xs) (each g xs)
  paired_same f g alike [] = tt
  paired_same f g alike (x ∷ xs) = paired_append (f x) (g x) (each f xs) (each g xs) (alike x) (paired_same f g alike xs)

  -- one more variable gets the same value
  noted_agree : (o : Option (Terms A)) (v : Variable) (y : Terms A) (vs us : Values A) → Agree l vs us → Agree l (noted o v y vs) (noted o v y us)
  unfolding value_in
  noted_agree (some z) v y vs us h w k = h w k
  noted_agree none v y vs us h w k = ap (λ o. cond (same_variable v w) (some y) o) (h w k)

module _ {A : Type 0} where
  -- another variable's value stays as it was
  pub noted_other : (o : Option (Terms A)) (v w : Variable) (y : Terms A) (vs : Values A) → same_variable w v ≡ false → value_in (noted o v y vs) w ≡ value_in vs w
  unfolding value_in
  noted_other (some z) v w y vs h = refl
  noted_other none v w y vs h = go (same_variable v w) refl
    where
      go : (b : Bool) → same_variable v w ≡ b → cond b (some y) (value_in vs w) ≡ value_in vs w
      go false e = refl
      go true e = let i : v ≡ w = variable_sound v w e in absurd (false_not_true (sym h ∙ rw i (variable_refl w)))

module _ {A : Type 0} (same : A → A → Bool) (of_law : Symbol → A) (is_symbol is_single : A → Bool) (back : Bool) where
  abbrev may : Option (Terms A) → Kind → Terms A → List (Terms A × Terms A)
  may = choices same of_law is_symbol is_single back

  abbrev found : Pattern → Terms A → Values A → List (Values A)
  found = matches same of_law is_symbol is_single back

  -- a match gives values to variables of its pattern only
  pub match_values : (w : Variable) (p : Pattern) (x : Terms A) (vs : Values A) {us : Values A} → Memᴰ us (found p x vs)
      → occurs w (variables_in p) ≡ false → value_in us w ≡ value_in vs w
  unfolding matches variables_in occurs
  match_values w nothing nothing vs (Memᴰ.head e) h = rw e
  match_values w (symbol (literal a) p) (symbol b x) vs m h =
      match_values w p x vs (in_when (same (of_law a) b) _ m).1 h
  match_values w (symbol (variable v) p) x vs m h =
      let (q, l, k) = in_each _ (may (value_in vs v) v.kind x) m in
      let (a, b) = neither (same_variable w v) (occurs w (variables_in p)) h in
      match_values w p q.1 (noted (value_in vs v) v q.0 vs) k b ∙ noted_other (value_in vs v) v w q.0 vs a
  match_values w (brackets c p) (brackets d x) vs m h =
      let (ws, l, k) = in_each _ (all_or_first back (found c d vs)) m in
      match_values w p x ws k (not_right w (variables_in c) (variables_in p) h)
      ∙ match_values w c d vs (in_all_or_first back _ l) (not_left w (variables_in c) (variables_in p) h)
  match_values w nothing nothing vs {us = us} (mathlib.Core.List.Memᴰ.tail x11) h = elim x11 [ ]
  match_values w nothing (symbol b x) vs {us = us} m h = elim m [ ]
  match_values w nothing (brackets d x) vs {us = us} m h = elim m [ ]
  match_values w (symbol (literal a) p) nothing vs {us = us} m h = elim m [ ]
  match_values w (symbol (literal a) p) (brackets d x) vs {us = us} m h = elim m [ ]
  match_values w (symbol other p) x vs {us = us} m h = elim m [ ]
  match_values w (brackets c p) nothing vs {us = us} m h = elim m [ ]
  match_values w (brackets c p) (symbol b x) vs {us = us} m h = elim m [ ]

  module _ (l : List Variable) where
    -- from values that agree, a pattern of these variables has matches that agree
    pub matches_agree : (p : Pattern) (x : Terms A) (vs us : Values A) → ((w : Variable) → occurs w (variables_in p) ≡ true → occurs w l ≡ true)
        → Agree l vs us → Paired l (found p x vs) (found p x us)
    unfolding matches variables_in
    matches_agree nothing nothing vs us among h = (h, tt)
    matches_agree nothing (symbol a x) vs us among h = tt
    matches_agree nothing (brackets c x) vs us among h = tt
    matches_agree (symbol (literal a) p) nothing vs us among h = tt
    matches_agree (symbol (literal a) p) (symbol b x) vs us among h =
        paired_when l (same (of_law a) b) (found p x vs) (found p x us) (matches_agree p x vs us among h)
    matches_agree (symbol (literal a) p) (brackets c x) vs us among h = tt
    matches_agree (symbol (variable v) p) x vs us among h =
        go (value_in vs v) (value_in us v) (h v (among v (occurs_first v (variables_in p))))
        (λ o q. matches_agree p q.1 (noted o v q.0 vs) (noted o v q.0 us) (λ w k. among w (occurs_later w v (variables_in p) k)) (noted_agree l o v q.0 vs us h))
      where
        go : (o o' : Option (Terms A)) → o ≡ o'
            → ((o : Option (Terms A)) (q : Terms A × Terms A) → Paired l (found p q.1 (noted o v q.0 vs)) (found p q.1 (noted o v q.0 us)))
            → Paired l (each (λ (q : Terms A × Terms A). found p q.1 (noted o v q.0 vs)) (may o v.kind x))
            (each (λ (q : Terms A × Terms A). found p q.1 (noted o' v q.0 us)) (may o' v.kind x))
        go o o' e below =
            rw e
            (paired_same l (λ (q : Terms A × Terms A). found p q.1 (noted o' v q.0 vs))
            (λ (q : Terms A × Terms A). found p q.1 (noted o' v q.0 us)) (λ q. below o' q) (may o' v.kind x))
    matches_agree (symbol other p) x vs us among h = tt
    matches_agree (brackets c p) nothing vs us among h = tt
    matches_agree (brackets c p) (symbol a x) vs us among h = tt
    matches_agree (brackets c p) (brackets d x) vs us among h =
        paired_each l (λ ws. found p x ws) (λ ws zs k. matches_agree p x ws zs (λ w o. among w (occurs_right w (variables_in c) (variables_in p) o)) k)
        (all_or_first back (found c d vs)) (all_or_first back (found c d us))
        (paired_first l back (found c d vs) (found c d us) (matches_agree c d vs us (λ w o. among w (occurs_left w (variables_in c) (variables_in p) o)) h))

  -- whether there is a match depends on the values of the pattern's variables alone
  pub some_agree : (p : Pattern) (x : Terms A) (vs us : Values A) → Agree (variables_in p) vs us → some_in (found p x vs) ≡ some_in (found p x us)
  some_agree p x vs us h = paired_some (variables_in p) (found p x vs) (found p x us) (matches_agree (variables_in p) p x vs us (λ w k. k) h)

  -- where the contents of brackets share no variable with what follows, one match of the contents is as good as another
  module _ (c p : Pattern) (d x : Terms A) (vs : Values A) (apart : (w : Variable) → occurs w (variables_in p) ≡ true → occurs w (variables_in c) ≡ false) where
    same_after : {us : Values A} → Memᴰ us (found c d vs) → some_in (found p x us) ≡ some_in (found p x vs)
    same_after {us} m = some_agree p x us vs (λ w o. match_values w c d vs m (apart w o))

    pub brackets_apart : some_in (found c d vs) ≡ true → some_in (each (λ (us : Values A). found p x us) (found c d vs)) ≡ some_in (found p x vs)
    brackets_apart h = go (some_in (found p x vs)) refl (some_in (each (λ (us : Values A). found p x us) (found c d vs))) refl
      where
        go : (b : Bool) → some_in (found p x vs) ≡ b → (a : Bool) → some_in (each (λ (us : Values A). found p x us) (found c d vs)) ≡ a → a ≡ b
        go true e true k = refl
        go false e false k = refl
        go true e false k =
            let (us, m) = some_member (found c d vs) h in
            let (ws, l) = some_member (found p x us) (same_after m ∙ e) in
            absurd (false_not_true (sym k ∙ member_some (each_in (λ (us : Values A). found p x us) m l)))
        go false e true k =
            let (ws, l) = some_member (each (λ (us : Values A). found p x us) (found c d vs)) k in
            let (us, m, i) = in_each (λ (us : Values A). found p x us) (found c d vs) l in
            absurd (false_not_true (sym e ∙ sym (same_after m) ∙ member_some i))
