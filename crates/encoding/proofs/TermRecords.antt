-- The records of some terms have 24 bytes each, none is a block, and they are a run that fits.
use Prim.Native.Nat.{ℕ, suc, ◌+◌, ◌*◌, ◌-◌, ◌≤◌, ◌<◌}
use mathlib.Core.List.{List, [], ◌∷◌, ◌++◌, append_assoc, flat_map}
use mathlib.Core.Bool.{true, false}
use mathlib.Core.Path.{◌≡◌, refl, sym, ap, ◌∙◌}
use native.Mathlib.Omega.{arith}
use lib.ListN.{length, drop, length-append}
use lib.Seq.{take_at, drop_at, take_all, drop-drop}
use lib.Dec.{eqb}
use borrow.Author.Tests.{le-leb}
use Rattle.file.specs.Word.{word_at}
use Rattle.file.specs.Forest.{contents, rest}
use Rattle.law.specs.Tree.{symbol_kind, term_kind, expression_kind}
use Rattle.law.specs.Runs.{end_of, run_fits}
use Rattle.law.proofs.RunLaws.{fits_none, fits_node}
use Rattle.tokens.specs.Token.{utf8, Atom, identifier, number, variable, quoted, kind_number}
use Rattle.grammar.specs.Grammar.{Terms, nothing, atomic, bracket, call, Conditions, no_condition, condition, Sentence}
use Rattle.encoding.specs.Encode.{Record, record_bytes, records_bytes, character_records, atom_records, term_records, condition_terms, sentence_terms}
use Rattle.encoding.proofs.Lists.{All, all_append, all-flatMap}
use Rattle.encoding.proofs.RecordLaws.{word_12, Sized, records_append, records_length}

-- ---- a record before the records inside it and those after it

abbrev pub six : ℕ → ℕ → ℕ → ℕ → ℕ → ℕ → Record
six kind a b n x y = kind ∷ a ∷ b ∷ n ∷ x ∷ y ∷ []

abbrev pub before : Record → List ℕ → List ℕ → List ℕ
before r inner outer = record_bytes r ++ (inner ++ outer)

module _ (kind a b n x y : ℕ) (inner outer : List ℕ) (small : n < 4294967296) (whole : length inner ≡ 24 * n) where
  abbrev node : List ℕ
  node = before (six kind a b n x y) inner outer

  pub node_count : word_at node 12 ≡ n
  node_count = word_12 n (inner ++ outer) kind a b (x ∷ y ∷ []) small

  pub node_length : length node ≡ 24 + 24 * n + length outer
  unfolding flat_map
  node_length = rw (length-append inner outer, whole) (omega arith)

  node_end : end_of node ≡ 24 + 24 * n
  unfolding end_of
  node_end = rw (node_count, node_length) (omega arith)

  node_drop : drop 24 node ≡ inner ++ outer
  unfolding flat_map
  node_drop = refl

  pub node_contents : contents 24 end_of node ≡ inner
  node_contents = rw (node_end, node_drop) (take_at inner outer (24 + 24 * n - 24) (omega arith))

  pub node_rest : rest 24 end_of node ≡ outer
  node_rest =
      let past : drop (24 + 24 * n) node ≡ outer = sym (drop-drop (24 * n) 24 node) ∙ rw node_drop (drop_at inner outer (24 * n) whole) in
      rw (node_end, past) (take_all (length node - (24 + 24 * n)) outer (omega (arith, node_length)))

  node_fits : run_fits inner ≡ true → run_fits outer ≡ true → run_fits node ≡ true
  node_fits h k =
      rw (fits_node node (omega (arith, node_length)), node_contents, node_rest, node_count, h, k) (rw (le-leb (24 + 24 * n) (length node) (omega (arith, node_length))))

-- ---- what term records are

-- 24 bytes, and no block
abbrev pub TermRecord : Record → Type 0
TermRecord r = Sized 24 r × ((s : List ℕ) → eqb (word_at (record_bytes r ++ s) 0) 8 ≡ false)

characters_records : (at : ℕ) (cs : List ℕ) → All TermRecord (character_records at cs)
unfolding character_records flat_map word_at
characters_records at [] = tt
characters_records at (c ∷ cs) = ((refl, λ s. refl), characters_records (at + length (utf8 c)) cs)

atom_records_lem : (at : ℕ) (a : Atom) → All TermRecord (atom_records at a)
unfolding flat_map word_at
atom_records_lem at (identifier w) = ((refl, λ s. refl), tt)
atom_records_lem at (number w) = ((refl, λ s. refl), tt)
atom_records_lem at (variable symbol_kind i) = ((refl, λ s. refl), tt)
atom_records_lem at (variable term_kind i) = ((refl, λ s. refl), tt)
atom_records_lem at (variable expression_kind i) = ((refl, λ s. refl), tt)
atom_records_lem at (quoted cs) = characters_records (at + 1) cs

pub terms_records : (t : Terms) → All TermRecord (term_records t)
unfolding term_records flat_map word_at
terms_records nothing = tt
terms_records (atomic at a rest) = all_append TermRecord (atom_records at a) (term_records rest) (atom_records_lem at a) (terms_records rest)
terms_records (bracket l inside r rest) =
    ((refl, λ s. refl), all_append TermRecord (term_records inside) (term_records rest) (terms_records inside) (terms_records rest))
terms_records (call l f inside r rest) =
    ((refl, λ s. refl), all_append TermRecord (term_records inside) (term_records rest) (terms_records inside) (terms_records rest))

pub conditions_records : (cs : Conditions) → All TermRecord (condition_terms cs)
unfolding condition_terms
conditions_records no_condition = tt
conditions_records (condition c x d y rest) =
    all_append TermRecord (term_records x ++ term_records y) (condition_terms rest)
    (all_append TermRecord (term_records x) (term_records y) (terms_records x) (terms_records y)) (conditions_records rest)

pub sentences_records : (xs : List Sentence) → All TermRecord (flat_map sentence_terms xs)
sentences_records xs =
    all-flatMap TermRecord sentence_terms xs
    (λ x. all_append TermRecord (term_records x.pattern ++ condition_terms x.conditions) (term_records x.result)
    (all_append TermRecord (term_records x.pattern) (condition_terms x.conditions) (terms_records x.pattern) (conditions_records x.conditions))
    (terms_records x.result))

pub terms_sized : (rs : List Record) → All TermRecord rs → All (Sized 24) rs
terms_sized [] h = tt
terms_sized (r ∷ rs) h = (h.0.0, terms_sized rs h.1)

pub terms_length : (rs : List Record) → All TermRecord rs → length (records_bytes rs) ≡ 24 * length rs
terms_length rs h = records_length 24 rs (terms_sized rs h)

-- the bytes of some terms' records
abbrev pub run_bytes : Terms → List ℕ
run_bytes t = records_bytes (term_records t)

pub run_length : (t : Terms) → length (run_bytes t) ≡ 24 * length (term_records t)
run_length t = terms_length (term_records t) (terms_records t)

pub characters_count : (at : ℕ) (cs : List ℕ) → length (character_records at cs) ≡ length cs
unfolding character_records
characters_count at [] = refl
characters_count at (c ∷ cs) = ap suc (characters_count (at + length (utf8 c)) cs)

-- ---- fitting

leaf_fits : (kind a b x y : ℕ) (outer : List ℕ) → run_fits outer ≡ true → run_fits (record_bytes (six kind a b 0 x y) ++ outer) ≡ true
leaf_fits kind a b x y outer h = node_fits kind a b 0 x y [] outer (omega arith) refl (fits_none [] (omega arith)) h

characters_fit : (at : ℕ) (cs : List ℕ) (outer : List ℕ) → run_fits outer ≡ true → run_fits (records_bytes (character_records at cs) ++ outer) ≡ true
unfolding character_records flat_map
characters_fit at [] outer h = h
characters_fit at (c ∷ cs) outer h =
    let e = at + length (utf8 c) in
    rw (append_assoc (record_bytes (six 0 c 0 0 at e)) (records_bytes (character_records e cs)) outer)
    (leaf_fits 0 c 0 at e (records_bytes (character_records e cs) ++ outer) (characters_fit e cs outer h))

atom_fits_lem : (at : ℕ) (a : Atom) (outer : List ℕ) → run_fits outer ≡ true → run_fits (records_bytes (atom_records at a) ++ outer) ≡ true
unfolding flat_map
atom_fits_lem at (identifier w) outer h = leaf_fits 1 at (length w) at (at + length w) outer h
atom_fits_lem at (number w) outer h = leaf_fits 2 at (length w) at (at + length w) outer h
atom_fits_lem at (variable k i) outer h = leaf_fits (kind_number k) (at + 2) (length i) at (at + 2 + length i) outer h
atom_fits_lem at (quoted cs) outer h = characters_fit (at + 1) cs outer h

-- the records of some terms are a run that fits
pub terms_fit : (t : Terms) → length (term_records t) ≤ 512 → run_fits (run_bytes t) ≡ true
unfolding term_records flat_map
terms_fit nothing l = fits_none [] (omega arith)
terms_fit (atomic at a rest) l =
    rw (records_append (atom_records at a) (term_records rest))
    (atom_fits_lem at a (run_bytes rest) (terms_fit rest (omega (arith, length-append (atom_records at a) (term_records rest)))))
terms_fit (bracket p inside r rest) l =
    let lengths = length-append (term_records inside) (term_records rest) in
    rw (records_append (term_records inside) (term_records rest))
    (node_fits 6 0 0 (length (term_records inside)) p (r + 1) (run_bytes inside) (run_bytes rest) (omega (arith, lengths)) (run_length inside)
    (terms_fit inside (omega (arith, lengths))) (terms_fit rest (omega (arith, lengths))))
terms_fit (call p f inside r rest) l =
    let lengths = length-append (term_records inside) (term_records rest) in
    rw (records_append (term_records inside) (term_records rest))
    (node_fits 7 f.start (length f.spelled) (length (term_records inside)) p (r + 1) (run_bytes inside) (run_bytes rest) (omega (arith, lengths)) (run_length inside)
    (terms_fit inside (omega (arith, lengths))) (terms_fit rest (omega (arith, lengths))))
