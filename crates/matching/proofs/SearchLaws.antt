-- Laws of the search in `Match`, over symbols of any kind: what it finds fills the pattern to the row, and where it goes back into brackets it finds
-- a match if any values of the right kinds fill the pattern to the row.
use mathlib.Core.Bool.{Bool, true, false, cond}
use mathlib.Core.List.Memᴰ
use mathlib.Core.List.{List, [], ◌∷◌, map, Memᴰ}
use mathlib.Core.Logic.{◌⊎◌, inl, inr}
use mathlib.Core.Option.{Option, none, some, none-ne-some}
use mathlib.Core.Path.{◌≡◌, refl, ap, sym, ◌∙◌}
use Rattle.law.specs.Tree.{Kind, symbol_kind, term_kind, expression_kind}
use Rattle.law.specs.Expression.{Terms, nothing, symbol, brackets, ◌⊕◌}
use Rattle.law.specs.Variables.{Variable, same_variable}
use Rattle.law.specs.Symbol.{Symbol}
use Rattle.matching.specs.Pattern.{literal, variable, Pattern}
use Rattle.matching.specs.Match.{Values, none_bound, bound, when, each, all_or_first, some_in, value_in, splits, noted, same_terms, after, choices, matches}
use Rattle.matching.specs.Fill.{Plain, filled, OfKind, Kinded, KindedValues, Agrees}
use Rattle.matching.proofs.SameLaws.{false_not_true, variable_sound, variable_refl, terms_sound, terms_refl}

-- ---- lists

module _ {X : Type 0} where
  -- a member of a list kept by a test
  pub in_when : (b : Bool) (l : List X) {x : X} → Memᴰ x (when b l) → (b ≡ true) × Memᴰ x l
  in_when true l m = (refl, m)
  in_when false l m = elim m [ ]

  -- a list is kept by a test that holds
  pub when_in : (b : Bool) {l : List X} {x : X} → b ≡ true → Memᴰ x l → Memᴰ x (when b l)
  when_in b e m = rw e m

  -- the first of a list is one of it
  pub in_all_or_first : (back : Bool) (l : List X) {x : X} → Memᴰ x (all_or_first back l) → Memᴰ x l
  in_all_or_first true l m = m
  in_all_or_first false (y ∷ l) (Memᴰ.head e) = Memᴰ.head e
  in_all_or_first false [] m = elim m [ ]
  in_all_or_first false (y ∷ l) (Memᴰ.tail x10) = elim x10 [ ]

  -- a member of the lists made from each member
  pub in_each : {Y : Type 0} (f : X → List Y) (l : List X) {y : Y} → Memᴰ y (each f l) → (x : X) × Memᴰ x l × Memᴰ y (f x)
  in_each f (x ∷ l) {y} m = go (Memᴰ.append_cases (f x) m) (λ k. in_each f l k)
    where
      go : Memᴰ y (f x) ⊎ Memᴰ y (each f l) → (Memᴰ y (each f l) → (z : X) × Memᴰ z l × Memᴰ y (f z))
          → (z : X) × Memᴰ z (x ∷ l) × Memᴰ y (f z)
      go (inl k) below = (x, Memᴰ.head refl, k)
      go (inr k) below = let (z, i, j) = below k in (z, Memᴰ.tail i, j)
  in_each {Y = Y} f [] {y = y} m = elim m [ ]

  -- what is made from a member is among all that is made
  pub each_in : {Y : Type 0} (f : X → List Y) {x : X} {l : List X} {y : Y} → Memᴰ x l → Memᴰ y (f x) → Memᴰ y (each f l)
  each_in f {l = []} m k = elim m [ ]
  each_in f {l = z ∷ l} (Memᴰ.head e) k = Memᴰ.append_left {s = f z} (each f l) (rw e at k)
  each_in f {l = z ∷ l} (Memᴰ.tail m) k = Memᴰ.append_right (f z) (each_in f m k)

  -- a member of a list made member by member
  pub in_map : {Y : Type 0} (f : X → Y) (l : List X) {y : Y} → Memᴰ y (map f l) → (x : X) × Memᴰ x l × (y ≡ f x)
  in_map f (x ∷ l) (Memᴰ.head e) = (x, Memᴰ.head refl, e)
  in_map f (x ∷ l) (Memᴰ.tail m) = let (z, k, q) = in_map f l m in (z, Memᴰ.tail k, q)
  in_map {Y = Y} f [] {y = y} x' = elim x' [ ]

  -- a list that is not empty has a member
  pub some_member : (l : List X) → some_in l ≡ true → (x : X) × Memᴰ x l
  some_member (x ∷ l) h = (x, Memᴰ.head refl)
  some_member [] h = absurd (false_not_true h)

  -- a list with a member is not empty
  pub member_some : {l : List X} {x : X} → Memᴰ x l → some_in l ≡ true
  member_some (Memᴰ.head e) = refl
  member_some (Memᴰ.tail m) = refl

-- ---- what may stand for a variable, at the front of a row

module _ {A : Type 0} where
  -- a cut row is its two parts
  in_splits : (x : Terms A) {q : Terms A × Terms A} → Memᴰ q (splits x) → x ≡ q.0 ⊕ q.1
  unfolding splits
  in_splits nothing (Memᴰ.head e) = rw e
  in_splits (symbol a x) (Memᴰ.head e) = rw e
  in_splits (symbol a x) (Memᴰ.tail m) = let (z, k, e) = in_map _ (splits x) m in rw e (ap (symbol a) (in_splits x k))
  in_splits (brackets c x) (Memᴰ.head e) = rw e
  in_splits (brackets c x) (Memᴰ.tail m) = let (z, k, e) = in_map _ (splits x) m in rw e (ap (brackets c) (in_splits x k))
  in_splits nothing {q = q} (Memᴰ.tail m) = elim m [ ]

  -- a row is cut between any two parts
  splits_in : (y r : Terms A) → Memᴰ (y, r) (splits (y ⊕ r))
  unfolding splits
  splits_in nothing nothing = Memᴰ.head refl
  splits_in nothing (symbol a r) = Memᴰ.head refl
  splits_in nothing (brackets c r) = Memᴰ.head refl
  splits_in (symbol a y) r = Memᴰ.tail (Memᴰ.map _ (splits_in y r))
  splits_in (brackets c y) r = Memᴰ.tail (Memᴰ.map _ (splits_in y r))

module _ {A : Type 0} (same : A → A → Bool) where
  -- what follows a value follows it in the row
  in_after : ((a b : A) → same a b ≡ true → a ≡ b) → (y x : Terms A) {r : Terms A} → Memᴰ r (after same y x) → x ≡ y ⊕ r
  unfolding after
  in_after sound nothing x (Memᴰ.head e) = sym e
  in_after sound (symbol a y) (symbol b x) m =
      let (h, k) = in_when (same a b) (after same y x) m in
      cc (sound a b h, in_after sound y x k)
  in_after sound (brackets c y) (brackets d x) m =
      let (h, k) = in_when (same_terms same c d) (after same y x) m in
      cc (terms_sound same sound c d h, in_after sound y x k)
  in_after sound nothing x {r = r} (Memᴰ.tail x7) = elim x7 [ ]
  in_after sound (symbol a y) nothing {r = r} m = elim m [ ]
  in_after sound (symbol a y) (brackets d x) {r = r} m = elim m [ ]
  in_after sound (brackets c y) nothing {r = r} m = elim m [ ]
  in_after sound (brackets c y) (symbol b x) {r = r} m = elim m [ ]

  -- any row may follow a value
  after_in : ((a : A) → same a a ≡ true) → (y r : Terms A) → Memᴰ r (after same y (y ⊕ r))
  unfolding after
  after_in same_refl nothing r = Memᴰ.head refl
  after_in same_refl (symbol a y) r = when_in (same a a) (same_refl a) (after_in same_refl y r)
  after_in same_refl (brackets c y) r = when_in (same_terms same c c) (terms_refl same same_refl c) (after_in same_refl y r)

-- ---- values

-- where no variable has a value, any values keep those that there are
pub none_agrees : {A : Type 0} (σ : Variable → Terms A) → Agrees none_bound σ
unfolding value_in
none_agrees σ v y e = absurd (none-ne-some y e)

-- and those that there are are of the right kinds
pub none_kinded : {A : Type 0} (is_symbol is_single : A → Bool) → KindedValues is_symbol is_single none_bound
unfolding value_in
none_kinded i j v y e = absurd (none-ne-some y e)

module _ {A : Type 0} (v : Variable) (y : Terms A) (vs : Values A) where
  -- a bound variable has its value
  pub bound_own : value_in (bound v y vs) v ≡ some y
  unfolding value_in
  bound_own = rw (variable_refl v)

  -- what holds of the new value and of the older ones holds of all
  pub bound_every : (P : Variable → Terms A → Type 0) → P v y → ((w : Variable) (z : Terms A) → value_in vs w ≡ some z → P w z)
      → (w : Variable) (z : Terms A) → value_in (bound v y vs) w ≡ some z → P w z
  unfolding value_in
  bound_every P new older w z h = go (same_variable v w) refl h
    where
      go : (b : Bool) → same_variable v w ≡ b → cond b (some y) (value_in vs w) ≡ some z → P w z
      go true e q = let i : v ≡ w = variable_sound v w e in let j : y ≡ z = cc in rw (← i, ← j) new
      go false e q = older w z q

  -- values that keep the new one keep the older ones: the variable had none
  bound_older : (σ : Variable → Terms A) → value_in vs v ≡ none → Agrees (bound v y vs) σ → Agrees vs σ
  unfolding value_in
  bound_older σ n h w z q = go (same_variable v w) refl
    where
      go : (b : Bool) → same_variable v w ≡ b → σ w ≡ z
      go true e = let i : v ≡ w = variable_sound v w e in absurd (none-ne-some z (sym n ∙ (ap (value_in vs) i ∙ q)))
      go false e = h w z (rw e q)

-- ---- soundness, whether or not brackets are gone back into

-- what a match says: its pattern is plain, its values are of the right kinds if those at the start are, and any values for all variables that keep its
-- own keep those at the start and fill the pattern to the row
pub record Matched {A : Type 0} (of_law : Symbol → A) (is_symbol is_single : A → Bool) (p : Pattern) (x : Terms A) (vs us : Values A) : Type 0 where
  pub plain : Plain p
  pub kinded : KindedValues is_symbol is_single vs → KindedValues is_symbol is_single us
  pub fills : (σ : Variable → Terms A) → Agrees us σ → Agrees vs σ × (filled of_law σ p ≡ x)

module _ {A : Type 0} (same : A → A → Bool) (of_law : Symbol → A) (is_symbol is_single : A → Bool) (back : Bool) where
  abbrev may : Option (Terms A) → Kind → Terms A → List (Terms A × Terms A)
  may = choices same of_law is_symbol is_single back

  abbrev found : Pattern → Terms A → Values A → List (Values A)
  found = matches same of_law is_symbol is_single back

  -- what a variable without a value may stand for is of its kind
  choices_kinded : (k : Kind) (x : Terms A) {q : Terms A × Terms A} → Memᴰ q (may none k x) → OfKind is_symbol is_single k q.0
  unfolding choices
  choices_kinded symbol_kind (symbol a x) m = let (h, l) = in_when (is_symbol a) _ m in rw (Memᴰ.eq_of_singleton l) h
  choices_kinded term_kind (symbol a x) m = let (h, l) = in_when (is_single a) _ m in rw (Memᴰ.eq_of_singleton l) h
  choices_kinded term_kind (brackets c x) m = rw (Memᴰ.eq_of_singleton m) tt
  choices_kinded expression_kind x m = tt
  choices_kinded symbol_kind nothing {q = q} m = elim m [ ]
  choices_kinded symbol_kind (brackets c x) {q = q} m = elim m [ ]
  choices_kinded term_kind nothing {q = q} m = elim m [ ]

  -- so the values stay of the right kinds
  noted_kinded : (o : Option (Terms A)) (v : Variable) (x : Terms A) (vs : Values A) {q : Terms A × Terms A} → Memᴰ q (may o v.kind x)
      → KindedValues is_symbol is_single vs → KindedValues is_symbol is_single (noted o v q.0 vs)
  noted_kinded (some y) v x vs m h = h
  noted_kinded none v x vs {q} m h = bound_every v q.0 vs (λ w z. OfKind is_symbol is_single w.kind z) (choices_kinded v.kind x m) h

  module _ (sound : (a b : A) → same a b ≡ true → a ≡ b) where
    -- what a variable stands for, and what follows, are the row
    choices_sound : (o : Option (Terms A)) (k : Kind) (x : Terms A) {q : Terms A × Terms A} → Memᴰ q (may o k x) → x ≡ q.0 ⊕ q.1
    unfolding choices
    choices_sound (some y) k x m = let (r, l, e) = in_map _ (after same y x) m in rw e (in_after same sound y x l)
    choices_sound none symbol_kind (symbol a x) m = rw (Memᴰ.eq_of_singleton (in_when (is_symbol a) _ m).1)
    choices_sound none term_kind (symbol a x) m = rw (Memᴰ.eq_of_singleton (in_when (is_single a) _ m).1)
    choices_sound none term_kind (brackets c x) m = rw (Memᴰ.eq_of_singleton m)
    choices_sound none expression_kind x m = in_splits x m
    choices_sound none symbol_kind nothing {q = q} m = elim m [ ]
    choices_sound none symbol_kind (brackets c x) {q = q} m = elim m [ ]
    choices_sound none term_kind nothing {q = q} m = elim m [ ]

    -- values that keep what was noted keep what was there, and the variable stands for what was chosen
    noted_sound : (σ : Variable → Terms A) (o : Option (Terms A)) (v : Variable) (x : Terms A) (vs : Values A) {q : Terms A × Terms A}
        → value_in vs v ≡ o → Memᴰ q (may o v.kind x) → Agrees (noted o v q.0 vs) σ → Agrees vs σ × (σ v ≡ q.0)
    unfolding choices
    noted_sound σ (some y) v x vs n m h = let (r, l, e) = in_map _ (after same y x) m in (h, cc (h v y n))
    noted_sound σ none v x vs {q} n m h = (bound_older v q.0 vs σ n h, h v q.0 (bound_own v q.0 vs))

    -- every match in the list is one
    pub match_sound : (p : Pattern) (x : Terms A) (vs : Values A) {us : Values A} → Memᴰ us (found p x vs) → Matched of_law is_symbol is_single p x vs us
    unfolding matches
    match_sound nothing nothing vs (Memᴰ.head e) = record { plain = tt; kinded = λ h. rw e h; fills = λ σ h. (rw (← e) h, refl) }
    match_sound (symbol (literal a) p) (symbol b x) vs m =
        let (t, k) = in_when (same (of_law a) b) _ m in
        let rest = match_sound p x vs k in
        record {
          plain = rest.plain;
          kinded = rest.kinded;
          fills = λ σ h. let (g, e) = rest.fills σ h in (g, cc (sound (of_law a) b t));
        }
    match_sound (symbol (variable v) p) x vs m =
        let (q, l, k) = in_each _ (may (value_in vs v) v.kind x) m in
        let rest = match_sound p q.1 (noted (value_in vs v) v q.0 vs) k in
        record {
          plain = rest.plain;
          kinded = λ h. rest.kinded (noted_kinded (value_in vs v) v x vs l h);
          fills = λ σ h.
              let (g, e) = rest.fills σ h in
              let (g', e') = noted_sound σ (value_in vs v) v x vs refl l g in
              (g', cc (choices_sound (value_in vs v) v.kind x l));
        }
    match_sound (brackets c p) (brackets d x) vs m =
        let (ws, l, k) = in_each _ (all_or_first back (found c d vs)) m in
        let inside = match_sound c d vs (in_all_or_first back _ l) in
        let rest = match_sound p x ws k in
        record {
          plain = (inside.plain, rest.plain);
          kinded = λ h. rest.kinded (inside.kinded h);
          fills = λ σ h.
              let (g, e) = rest.fills σ h in
              let (g', e') = inside.fills σ g in
              (g', cc);
        }
    match_sound nothing nothing vs {us = us} (Memᴰ.tail x8) = elim x8 [ ]
    match_sound nothing (symbol b x) vs {us = us} m = elim m [ ]
    match_sound nothing (brackets d x) vs {us = us} m = elim m [ ]
    match_sound (symbol (literal a) p) nothing vs {us = us} m = elim m [ ]
    match_sound (symbol (literal a) p) (brackets d x) vs {us = us} m = elim m [ ]
    match_sound (symbol Rattle.matching.specs.Pattern.other p) x vs {us = us} m = elim m [ ]
    match_sound (brackets c p) nothing vs {us = us} m = elim m [ ]
    match_sound (brackets c p) (symbol b x) vs {us = us} m = elim m [ ]

-- ---- completeness, where brackets are gone back into

module _ {A : Type 0} (same : A → A → Bool) (of_law : Symbol → A) (is_symbol is_single : A → Bool) (same_refl : (a : A) → same a a ≡ true) where
  -- a variable without a value may stand for anything of its kind
  choices_free : (k : Kind) (y r : Terms A) → OfKind is_symbol is_single k y → Memᴰ (y, r) (may same of_law is_symbol is_single true none k (y ⊕ r))
  unfolding choices
  choices_free symbol_kind (symbol a nothing) r h = when_in (is_symbol a) h (Memᴰ.head refl)
  choices_free term_kind (symbol a nothing) r h = when_in (is_single a) h (Memᴰ.head refl)
  choices_free term_kind (brackets c nothing) r h = Memᴰ.head refl
  choices_free expression_kind y r h = splits_in y r
  choices_free symbol_kind nothing r h = elim h [ ]
  choices_free symbol_kind (symbol a (symbol _ _)) r h = elim h [ ]
  choices_free symbol_kind (symbol a (brackets _ _)) r h = elim h [ ]
  choices_free symbol_kind (brackets c _) r h = elim h [ ]
  choices_free term_kind nothing r h = elim h [ ]
  choices_free term_kind (symbol a (symbol _ _)) r h = elim h [ ]
  choices_free term_kind (symbol a (brackets _ _)) r h = elim h [ ]
  choices_free term_kind (brackets c (symbol _ _)) r h = elim h [ ]
  choices_free term_kind (brackets c (brackets _ _)) r h = elim h [ ]

  module _ (σ : Variable → Terms A) (kinded : Kinded is_symbol is_single σ) where
    -- so may one with a value for the value that it has
    choices_complete : (o : Option (Terms A)) (v : Variable) (r : Terms A) → ((y : Terms A) → o ≡ some y → σ v ≡ y)
        → Memᴰ (σ v, r) (may same of_law is_symbol is_single true o v.kind (σ v ⊕ r))
    unfolding choices
    choices_complete (some y) v r h = rw (h y refl) (Memᴰ.map _ (after_in same same_refl y r))
    choices_complete none v r h = choices_free v.kind (σ v) r (kinded v)

    -- the values noted stay among those sought
    noted_complete : (o : Option (Terms A)) (v : Variable) (vs : Values A) → Agrees vs σ → Agrees (noted o v (σ v) vs) σ
    noted_complete (some y) v vs h = h
    noted_complete none v vs h = bound_every v (σ v) vs (λ w z. σ w ≡ z) refl h

    -- values of the right kinds that keep those at the start are found, in the row to which they fill a plain pattern
    pub match_complete : (p : Pattern) → Plain p → (vs : Values A) → Agrees vs σ
        → (us : Values A) × Memᴰ us (found same of_law is_symbol is_single true p (filled of_law σ p) vs) × Agrees us σ
    unfolding matches
    match_complete nothing g vs h = (vs, Memᴰ.head refl, h)
    match_complete (symbol (literal a) p) g vs h =
        let (us, m, k) = match_complete p g vs h in
        (us, when_in (same (of_law a) (of_law a)) (same_refl (of_law a)) m, k)
    match_complete (symbol (variable v) p) g vs h =
        let (us, m, k) = match_complete p g (noted (value_in vs v) v (σ v) vs) (noted_complete (value_in vs v) v vs h) in
        (us, each_in _ (choices_complete (value_in vs v) v (filled of_law σ p) (h v)) m, k)
    match_complete (brackets c p) g vs h =
        let (us, m, k) = match_complete c g.0 vs h in
        let (ws, m', k') = match_complete p g.1 us k in
        (ws, each_in _ m m', k')
    match_complete (symbol Rattle.matching.specs.Pattern.other p) g vs h = elim g [ ]
