-- Row 9 (specs/Variables.antt): the variable that a term record is, the variables of a pattern one record at a time, how many of them are
-- different, and that a part of the term records has the same variables and the same allowed fields as its records have in the whole.
use Prim.Native.Nat.{ℕ, zero, suc, ◌+◌, ◌*◌, ◌-◌, ◌≤◌, ◌<◌}
use mathlib.Core.List.{List, [], ◌∷◌, ◌++◌}
use mathlib.Core.Bool.{Bool, true, false, cond, ◌||◌}
use mathlib.Core.Path.{◌≡◌, refl, sym, ◌∙◌}
use native.Mathlib.Numerals.{add-one}
use native.Mathlib.Nat.{add-zero, add-suc}
use native.Mathlib.Omega.{arith}
use native.Mathlib.Decide.{dec_lt}
use lib.ListN.{length, take, drop, length-append}
use lib.Dec.{leb}
use Rattle.std.specs.List.{list_any, range_with_len}
use borrow.Author.Tests.{le-leb}
use Rattle.names.specs.Name.{folded_index, same_bytes}
use Rattle.file.specs.Word.{word_at}
use Rattle.file.specs.Sections.{file_of}
use Rattle.file.specs.Head.{term_from, term_at}
use Rattle.file.specs.Fields.{term_fields_at, terms_allowed, fields_allowed}
use Rattle.file.specs.declared.Term.{Term}
use Rattle.file.specs.declared.Term.TheVariants.{Symbol, SVariable, TVariable, EVariable, Bracket, Call, Block}
use Rattle.file.proofs.Words.{word_part}
use Rattle.file.proofs.SectionLaws.{sections_records}
use Rattle.file.proofs.Fields.{leaf_inside, term_at_allowed, fields_terms}
use Rattle.law.specs.Tree.{Kind, symbol_kind, term_kind, expression_kind}
use Rattle.law.specs.Places.{pattern_at, pattern_size, pattern_part}
use Rattle.law.specs.Variables.{Variable, same_kind, same_variable, variable_of, variables_from, occurs, distinct, pattern_variables}
use Rattle.law.specs.Code.Index.{Indexed}
use Rattle.law.proofs.Tests.{every_all}
use Rattle.law.proofs.Parts.{terms_length}
use Rattle.law.proofs.IndexLaws.{pattern_fits}

-- ---- one record

-- what holds of the kinds 3, 4 and 5 holds of a variable's kind
by_kind : (P : ℕ → Type 0) (k : ℕ) → 3 ≤ k → k ≤ 5 → P 3 → P 4 → P 5 → P k
by_kind P zero l h p q r = absurd (omega arith)
by_kind P (suc zero) l h p q r = absurd (omega arith)
by_kind P (suc (suc zero)) l h p q r = absurd (omega arith)
by_kind P (suc (suc (suc zero))) l h p q r = p
by_kind P (suc (suc (suc (suc zero)))) l h p q r = q
by_kind P (suc (suc (suc (suc (suc zero))))) l h p q r = r
by_kind P (suc (suc (suc (suc (suc (suc k)))))) l h p q r = absurd (omega arith)

-- the kind of a variable, by its number
abbrev kind_of : ℕ → Kind
kind_of zero = symbol_kind
kind_of (suc zero) = symbol_kind
kind_of (suc (suc zero)) = symbol_kind
kind_of (suc (suc (suc zero))) = symbol_kind
kind_of (suc (suc (suc (suc zero)))) = term_kind
kind_of (suc (suc (suc (suc (suc k))))) = expression_kind

-- the variable that a record of one of these kinds is
abbrev variable : List ℕ → ℕ → ℕ → ℕ → Variable
variable text kind a b = record { kind = kind_of kind; index = folded_index (take b (drop a text)) }

-- a record of one of these kinds is this variable
is_variable : (text : List ℕ) (kind a b : ℕ) → 3 ≤ kind → kind ≤ 5 → variable_of text (term_from kind a b) ≡ variable text kind a b ∷ []
unfolding term_from
is_variable text kind a b l h = by_kind (λ k. variable_of text (term_from k a b) ≡ variable text k a b ∷ []) kind l h refl refl refl

-- a record of a lower kind, or of a higher one, is none
lower_kind : (text : List ℕ) (kind a b : ℕ) → kind < 3 → variable_of text (term_from kind a b) ≡ []
unfolding term_from
lower_kind text zero a b l = refl
lower_kind text (suc zero) a b l = refl
lower_kind text (suc (suc zero)) a b l = refl
lower_kind text (suc (suc (suc k))) a b l = absurd (omega arith)

upper_kind : (text : List ℕ) (kind a b : ℕ) → 5 < kind → variable_of text (term_from kind a b) ≡ []
unfolding term_from
upper_kind text zero a b l = absurd (omega arith)
upper_kind text (suc zero) a b l = absurd (omega arith)
upper_kind text (suc (suc zero)) a b l = absurd (omega arith)
upper_kind text (suc (suc (suc zero))) a b l = absurd (omega arith)
upper_kind text (suc (suc (suc (suc zero)))) a b l = absurd (omega arith)
upper_kind text (suc (suc (suc (suc (suc zero))))) a b l = absurd (omega arith)
upper_kind text (suc (suc (suc (suc (suc (suc zero)))))) a b l = refl
upper_kind text (suc (suc (suc (suc (suc (suc (suc zero))))))) a b l = refl
upper_kind text (suc (suc (suc (suc (suc (suc (suc (suc k)))))))) a b l = refl

-- variables of different kinds differ
kinds_differ : (k m : ℕ) → 3 ≤ k → k ≤ 5 → 3 ≤ m → m ≤ 5 → (k ≡ m → ⊥) → same_kind (kind_of k) (kind_of m) ≡ false
kinds_differ k m lk hk lm hm =
    by_kind
    (λ k. (k ≡ m → ⊥) → same_kind (kind_of k) (kind_of m) ≡ false)
    k
    lk
    hk
    (by_kind (λ m. (3 ≡ m → ⊥) → same_kind symbol_kind (kind_of m) ≡ false) m lm hm (λ n. absurd (n refl)) (λ n. refl) (λ n. refl))
    (by_kind (λ m. (4 ≡ m → ⊥) → same_kind term_kind (kind_of m) ≡ false) m lm hm (λ n. refl) (λ n. absurd (n refl)) (λ n. refl))
    (by_kind (λ m. (5 ≡ m → ⊥) → same_kind expression_kind (kind_of m) ≡ false) m lm hm (λ n. refl) (λ n. refl) (λ n. absurd (n refl)))

-- a kind is the same as itself
same_kind_lem : (k : ℕ) → same_kind (kind_of k) (kind_of k) ≡ true
same_kind_lem k = go (kind_of k)
  where
    go : (k : Kind) → same_kind k k ≡ true
    go symbol_kind = refl
    go term_kind = refl
    go expression_kind = refl

-- a test that is joined with one that fails
or-false : (t : Bool) → (t || false) ≡ t
or-false true = refl
or-false false = refl

-- a variable occurs in one of two lists
occurs_append : (v : Variable) (vs ws : List Variable) → occurs v (vs ++ ws) ≡ (occurs v vs || occurs v ws)
unfolding occurs
occurs_append v [] ws = refl
occurs_append v (w ∷ vs) ws = rw (occurs_append v vs ws) (or_assoc (same_variable v w) _ _)
  where
    or_assoc : (a b c : Bool) → (a || (b || c)) ≡ ((a || b) || c)
    or_assoc true b c = refl
    or_assoc false b c = refl

module _ (text records : List ℕ) where
  -- the variable that the record t is, if it is one
  abbrev variables_at : ℕ → List Variable
  variables_at t = variable_of text (term_at records (24 * t))

  -- the spelling of its index
  abbrev index_at : ℕ → List ℕ
  index_at t = take (word_at records (24 * t + 8)) (drop (word_at records (24 * t + 4)) text)

  -- a record of a variable's kind is a variable
  pub variable_is : (t kind : ℕ) → kind ≡ word_at records (24 * t) → 3 ≤ kind → kind ≤ 5
      → variables_at t ≡ variable text kind (word_at records (24 * t + 4)) (word_at records (24 * t + 8)) ∷ []
  unfolding term_at
  variable_is t kind e l h = rw (← e) (is_variable text kind _ _ l h)

  -- a record of a lower kind, or of a higher one, is none
  pub variable_below : (t kind : ℕ) → kind ≡ word_at records (24 * t) → kind < 3 → variables_at t ≡ []
  unfolding term_at
  variable_below t kind e l = rw (← e) (lower_kind text kind _ _ l)

  pub variable_above : (t kind : ℕ) → kind ≡ word_at records (24 * t) → 5 < kind → variables_at t ≡ []
  unfolding term_at
  variable_above t kind e l = rw (← e) (upper_kind text kind _ _ l)

  -- a record of another kind than the variable v is not v; k and m are the kinds of the records i and j
  pub other_kind : (i j k m : ℕ) → k ≡ word_at records (24 * i) → m ≡ word_at records (24 * j) → 3 ≤ word_at records (24 * i)
      → word_at records (24 * i) ≤ 5
      → (k ≡ m → ⊥) → (v : Variable) → variables_at i ≡ v ∷ [] → false ≡ occurs v (variables_at j)
  unfolding occurs
  other_kind i j k m ek em lk hk d v e = below (dec_lt m 3)
    where
      is : v ≡ variable text k (word_at records (24 * i + 4)) (word_at records (24 * i + 8))
      is = cc (variable_is i k ek (omega arith) (omega arith))

      above : 3 ≤ m → Dec (5 < m) → false ≡ occurs v (variables_at j)
      above lm (yes l) = rw (variable_above j m em l)
      above lm (no l) = rw (variable_is j m em lm (omega arith), is, kinds_differ k m (omega arith) (omega arith) lm (omega arith) d)

      below : Dec (m < 3) → false ≡ occurs v (variables_at j)
      below (yes l) = rw (variable_below j m em l)
      below (no l) = above (omega arith) (dec_lt 5 m)

  -- a record of the same kind is v if the indices a and b of the two are the same
  pub one_kind : (i j k m : ℕ) (a b : List ℕ) → k ≡ word_at records (24 * i) → m ≡ word_at records (24 * j)
      → 3 ≤ word_at records (24 * i) → word_at records (24 * i) ≤ 5
      → k ≡ m → a ≡ index_at i → b ≡ index_at j → (v : Variable) → variables_at i ≡ v ∷ []
      → same_bytes (folded_index a) (folded_index b) ≡ occurs v (variables_at j)
  unfolding occurs
  one_kind i j k m a b ek em lk hk d ea eb v e =
      let is : v ≡ variable text k (word_at records (24 * i + 4)) (word_at records (24 * i + 8)) = cc (variable_is i k ek (omega arith) (omega arith)) in
      rw (ea, eb, variable_is j k (d ∙ em) (omega arith) (omega arith), is, same_kind_lem k) (sym (or-false _))

  -- what `any` answers of so many records from one on
  pub occurs_any : (v : Variable) (n t : ℕ) → list_any (λ j. occurs v (variables_at j)) (range_with_len t n) ≡ occurs v (variables_from text records n t)
  unfolding occurs variables_from
  occurs_any v zero t = refl
  occurs_any v (suc n) t =
      rw (occurs_any v n (t + 1), add-one t) (sym (occurs_append v (variables_at t) (variables_from text records n (suc t))))

  -- ---- the records of a pattern, one at a time

  module _ (count : ℕ) where
    -- the variables from record t on
    abbrev later : ℕ → List Variable
    later t = variables_from text records (count - t) t

    -- those of one record, and of the records after it
    pub later_next : (t : ℕ) → t < count → later t ≡ variables_at t ++ later (t + 1)
    unfolding variables_from
    later_next t l =
        let e : count - t ≡ suc (count - (t + 1)) = omega arith in
        rw (e, add-one t)

    -- past the last record there are none
    pub later_end : (t : ℕ) → count ≤ t → later t ≡ []
    unfolding variables_from
    later_end t l =
        let e : count - t ≡ 0 = omega arith in
        rw e

    -- a record that is no variable adds none
    pub distinct_skip : (t : ℕ) → t < count → variables_at t ≡ [] → distinct (later t) ≡ 0 + distinct (later (t + 1))
    distinct_skip t l e = rw (later_next t l, e) (omega arith)

    -- a variable that a later record repeats adds none, and any other one
    pub distinct_repeated : (t kind : ℕ) (r : Bool) → t < count → kind ≡ word_at records (24 * t) → 3 ≤ kind → kind ≤ 5
        → ((v : Variable) → variables_at t ≡ v ∷ [] → r ≡ occurs v (later (t + 1))) → r ≡ true
        → distinct (later t) ≡ 0 + distinct (later (t + 1))
    unfolding distinct
    distinct_repeated t kind r l e lk hk h q =
        let is = variable_is t kind e lk hk in
        rw (later_next t l, is, ← h _ is, q) (omega arith)

    pub distinct_new : (t kind : ℕ) (r : Bool) → t < count → kind ≡ word_at records (24 * t) → 3 ≤ kind → kind ≤ 5
        → ((v : Variable) → variables_at t ≡ v ∷ [] → r ≡ occurs v (later (t + 1))) → r ≡ false
        → distinct (later t) ≡ 1 + distinct (later (t + 1))
    unfolding distinct
    distinct_new t kind r l e lk hk h q =
        let is = variable_is t kind e lk hk in
        rw (later_next t l, is, ← h _ is, q) (omega arith)

    -- no record is left: all are counted
    pub distinct_end : (t found all : ℕ) → count ≤ t → all ≡ found + distinct (later t) → all ≡ found
    unfolding distinct
    distinct_end t found all l e =
        let none : distinct (later t) ≡ 0 = rw (later_end t l) in
        omega arith

    -- the spelling of an allowed variable's index lies inside the text
    pub index_inside : (t kind : ℕ) → terms_allowed text records count ≡ true → t < count → kind ≡ word_at records (24 * t) → 3 ≤ kind
        → kind ≤ 5
        → word_at records (24 * t + 4) + word_at records (24 * t + 8) ≤ length text
    index_inside t kind h l e lk hk =
        leaf_inside text (word_at records (24 * t)) _ _ _ (term_at_allowed text records count t h l) (omega arith) (omega arith)

-- ---- the number of records

-- a record is at most one variable
one_variable : (text : List ℕ) (x : Term) → length (variable_of text x) ≤ 1
one_variable text (Symbol x) = omega arith
one_variable text (SVariable a b) = omega arith
one_variable text (TVariable a b) = omega arith
one_variable text (EVariable a b) = omega arith
one_variable text Bracket = omega arith
one_variable text (Call a b) = omega arith
one_variable text (Block n) = omega arith

-- records have at most as many variables as they are
variables_length : (text records : List ℕ) (count t : ℕ) → length (variables_from text records count t) ≤ count
unfolding variables_from
variables_length text records zero t = omega arith
variables_length text records (suc count) t =
    rw (length-append (variable_of text (term_at records (24 * t))) (variables_from text records count (suc t)))
    (omega (arith, one_variable text (term_at records (24 * t)), variables_length text records count (suc t)))

-- a list has at most as many different variables as variables
distinct_length : (vs : List Variable) → distinct vs ≤ length vs
unfolding distinct
distinct_length [] = omega arith
distinct_length (v ∷ vs) = go (occurs v vs) (distinct_length vs)
  where
    go : (again : Bool) → distinct vs ≤ length vs → cond again (distinct vs) (suc (distinct vs)) ≤ suc (length vs)
    go true h = omega arith
    go false h = omega arith

-- at most 32 records have at most 32 different variables
pub few_records : (text records : List ℕ) (count t : ℕ) → count ≤ 32 → leb (distinct (variables_from text records count t)) 32 ≡ true
few_records text records count t few =
    le-leb (distinct (variables_from text records count t)) 32
    (omega (arith, distinct_length (variables_from text records count t), variables_length text records count t))

-- ---- a part of the term records

module _ (text records : List ℕ) (at n : ℕ) where
  -- n records from one on
  abbrev part : List ℕ
  part = take (24 * n) (drop (24 * at) records)

  -- a word of a record of the part, and its first word
  part_word : (t k : ℕ) → t < n → k + 4 ≤ 24 → word_at part (24 * t + k) ≡ word_at records (24 * (at + t) + k)
  part_word t k l h =
      let e : 24 * at + (24 * t + k) ≡ 24 * (at + t) + k = omega arith in
      rw (word_part records (24 * at) (24 * n) (24 * t + k) (omega arith), e)

  part_first : (t : ℕ) → t < n → word_at part (24 * t) ≡ word_at records (24 * (at + t))
  part_first t l =
      let e : 24 * at + 24 * t ≡ 24 * (at + t) = omega arith in
      rw (word_part records (24 * at) (24 * n) (24 * t) (omega arith), e)

  -- a part of allowed records is allowed
  pub part_allowed : (count : ℕ) → terms_allowed text records count ≡ true → at + n ≤ count → terms_allowed text part n ≡ true
  part_allowed count h l =
      every_all n (λ t. term_fields_at text part (24 * t)) λ t k.
      rw (part_first t k, part_word t 4 k (omega arith), part_word t 8 k (omega arith), part_word t 12 k (omega arith))
      (term_at_allowed text records count (at + t) h (omega arith))

  -- a record of the part
  part_term : (t : ℕ) → t < n → term_at part (24 * t) ≡ term_at records (24 * (at + t))
  unfolding term_at
  part_term t l = rw (part_first t l, part_word t 4 l (omega arith), part_word t 8 l (omega arith))

  -- the variables of the part, from one of its records on
  part_from : (left t : ℕ) → t + left ≤ n → variables_from text part left t ≡ variables_from text records left (at + t)
  unfolding variables_from
  part_from zero t l = refl
  part_from (suc left) t l = rw (part_term t (omega arith), part_from left (suc t) (omega arith), add-suc at t)

  -- all its variables
  pub part_variables : variables_from text part n 0 ≡ variables_from text records n at
  part_variables = part_from n 0 (omega arith) ∙ rw (add-zero at)

-- ---- a sentence's pattern

module _ (bytes index : List ℕ) (h : Indexed bytes index) (s : ℕ) (l : s < (file_of bytes).sentences.count) where
  -- its bytes are those of its records
  pub pattern_length : 24 * pattern_size (file_of bytes) s ≤ length (pattern_part (file_of bytes) s)
  unfolding pattern_part
  pattern_length =
      omega (
        arith,
        terms_length (file_of bytes) (sections_records bytes (file_of bytes) h.sections).4 (pattern_at (file_of bytes) s)
            (pattern_size (file_of bytes) s) (pattern_fits bytes index h s l),
      )

  -- its records are allowed
  pub pattern_allowed : fields_allowed (file_of bytes) ≡ true
      → terms_allowed (file_of bytes).text.records (pattern_part (file_of bytes) s) (pattern_size (file_of bytes) s) ≡ true
  unfolding pattern_part
  pattern_allowed f =
      part_allowed (file_of bytes).text.records (file_of bytes).terms.records (pattern_at (file_of bytes) s) (pattern_size (file_of bytes) s)
      (file_of bytes).terms.count
      (fields_terms (file_of bytes) f)
      (pattern_fits bytes index h s l)

  -- its variables
  pub pattern_variables_lem : variables_from (file_of bytes).text.records (pattern_part (file_of bytes) s) (pattern_size (file_of bytes) s) 0
      ≡ pattern_variables (file_of bytes) s
  unfolding pattern_part
  pattern_variables_lem =
      part_variables (file_of bytes).text.records (file_of bytes).terms.records (pattern_at (file_of bytes) s) (pattern_size (file_of bytes) s)
