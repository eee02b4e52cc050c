-- The records of some terms are read as the terms' tree.
use Prim.Native.Nat.{ℕ, suc, ◌+◌, ◌*◌, ◌≤◌, ◌<◌}
use mathlib.Core.List.{List, [], ◌∷◌, ◌++◌, append_assoc, flat_map}
use mathlib.Core.Bool.{Bool, true}
use mathlib.Core.Path.{◌≡◌, refl, ap, ◌∙◌}
use native.Mathlib.Omega.{arith}
use native.Mathlib.Nat.{add-zero}
use lib.ListN.{length, take, drop, length-append}
use Rattle.names.specs.Name.{every_byte, name_allowed, number_allowed}
use Rattle.file.specs.Sections.{File}
use Rattle.file.specs.Fields.{scalar_allowed}
use Rattle.file.specs.Head.{term_at, term_from}
use Rattle.file.proofs.Below.{both_first, both_second}
use Rattle.law.specs.Tree as tree
use Rattle.law.specs.Reading.{mark_at, term_run, run_of}
use Rattle.law.proofs.RunLaws.{run_empty, run_node}
use Rattle.tokens.specs.Token.{utf8, Atom, identifier, number, variable, quoted}
use Rattle.tokens.proofs.Utf8.{scalar_bound}
use Rattle.grammar.specs.Grammar.{Terms, nothing, atomic, bracket, call}
use Rattle.encoding.specs.Encode.{record_bytes, records_bytes, character_records, atom_records, term_records}
use Rattle.encoding.specs.TextTree.{character_run, atom_run, tree_run}
use Rattle.encoding.specs.LawOfText.{short}
use Rattle.encoding.proofs.RecordLaws.{word_0, word_4, word_8, word_16, word_20, records_append}
use Rattle.encoding.proofs.TermRecords.{six, before, node_count, node_length, node_contents, node_rest, run_bytes, run_length, characters_count}

-- ---- terms whose tokens stand in a text

-- bytes that stand in a text at a place
pub record Spelled (text : List ℕ) (at : ℕ) (w : List ℕ) : Type 0 where
  pub inside : at + length w ≤ length text
  pub same : take (length w) (drop at text) ≡ w

-- and that a law may spell if they are no more than 64
abbrev pub Word : (List ℕ → Bool) → List ℕ → ℕ → List ℕ → Type 0
Word allowed text at w = Spelled text at w × (allowed w ≡ short w)

abbrev pub AtomWithin : List ℕ → ℕ → Atom → Type 0
AtomWithin text at (identifier w) = Word name_allowed text at w
AtomWithin text at (number w) = Word number_allowed text at w
AtomWithin text at (variable k i) = Word name_allowed text (at + 2) i
AtomWithin text at (quoted cs) = every_byte scalar_allowed cs ≡ true

abbrev pub Within : List ℕ → Terms → Type 0
Within text nothing = Unit {0}
Within text (atomic at a rest) = AtomWithin text at a × Within text rest
Within text (bracket l inside r rest) = Within text inside × Within text rest
Within text (call l f inside r rest) = Word name_allowed text f.start f.spelled × (l < length text) × (r < length text) × Within text inside × Within text rest

-- ---- a record as it is read

node_head : (kind a b n x y : ℕ) (s : List ℕ) → kind < 4294967296 → a < 4294967296 → b < 4294967296 → term_at (record_bytes (six kind a b n x y) ++ s) 0 ≡ term_from kind a b
unfolding term_at
node_head kind a b n x y s ks is bs =
    rw (word_0 kind s (a ∷ b ∷ n ∷ x ∷ y ∷ []) ks, word_4 a s kind (b ∷ n ∷ x ∷ y ∷ []) is, word_8 b s kind a (n ∷ x ∷ y ∷ []) bs)

node_mark : (kind a b n x y : ℕ) (s : List ℕ) (at : ℕ) → x < 4294967296 → y < 4294967296
    → mark_at at (record_bytes (six kind a b n x y) ++ s) 16 ≡ record { at = at; span_start = x; span_end = y }
node_mark kind a b n x y s at xs ys = rw (word_16 x s kind a b n (y ∷ []) xs, word_20 y s kind a b n x [] ys)

module _ (file : File) (own : ℕ → ℕ → tree.Sentences) where
  -- a record, what is inside it and what is after it
  node_run : (kind a b n x y : ℕ) (inner outer : List ℕ) (at : ℕ) → kind < 4294967296 → a < 4294967296 → b < 4294967296 → n < 4294967296 → length inner ≡ 24 * n
      → run_of file own at (before (six kind a b n x y) inner outer)
      ≡ term_run file.text.records own at (mark_at at (before (six kind a b n x y) inner outer) 16) (term_from kind a b)
      (run_of file own (at + 1) inner) (run_of file own (at + 1 + n) outer)
  node_run kind a b n x y inner outer at ks is bs ns whole =
      run_node file own at (before (six kind a b n x y) inner outer) (omega (arith, node_length kind a b n x y inner outer ns whole))
      ∙ rw (
        node_head kind a b n x y (inner ++ outer) ks is bs,
        node_contents kind a b n x y inner outer ns whole,
        node_rest kind a b n x y inner outer ns whole,
        node_count kind a b n x y inner outer ns whole,
      )

  -- a record with nothing inside
  leaf_run : (kind a b x y : ℕ) (outer : List ℕ) (at : ℕ) → kind < 4294967296 → a < 4294967296 → b < 4294967296
      → run_of file own at (record_bytes (six kind a b 0 x y) ++ outer)
      ≡ term_run file.text.records own at (mark_at at (record_bytes (six kind a b 0 x y) ++ outer) 16) (term_from kind a b)
      (run_of file own (at + 1) []) (run_of file own (at + 1) outer)
  leaf_run kind a b x y outer at ks is bs = node_run kind a b 0 x y [] outer at ks is bs (omega arith) refl ∙ rw (add-zero (at + 1))

  characters_run : (x : ℕ) (cs : List ℕ) (outer : List ℕ) (at : ℕ) → every_byte scalar_allowed cs ≡ true
      → run_of file own at (records_bytes (character_records x cs) ++ outer) ≡ character_run cs (run_of file own (at + length cs) outer)
  unfolding character_records flat_map character_run every_byte term_from
  characters_run x [] outer at h = rw (add-zero at)
  characters_run x (c ∷ cs) outer at h =
      let e = x + length (utf8 c) in
      let bound : c ≤ 0x10FFFF = scalar_bound c (both_first (scalar_allowed c) (every_byte scalar_allowed cs) h) in
      let next : at + 1 + length cs ≡ at + suc (length cs) = omega arith in
      rw (append_assoc (record_bytes (six 0 c 0 0 x e)) (records_bytes (character_records e cs)) outer)
      (leaf_run 0 c 0 x e (records_bytes (character_records e cs) ++ outer) at (omega arith) (omega arith) (omega arith)
      ∙ rw (characters_run e cs outer (at + 1) (both_second (scalar_allowed c) (every_byte scalar_allowed cs) h), next))

  module _ (short : length file.text.records ≤ 4096) where
    spelled_run : (kind x : ℕ) (w : List ℕ) (p q : ℕ) (outer : List ℕ) (at : ℕ) → kind < 4294967296 → Spelled file.text.records x w
        → run_of file own at (record_bytes (six kind x (length w) 0 p q) ++ outer)
        ≡ term_run file.text.records own at (mark_at at (record_bytes (six kind x (length w) 0 p q) ++ outer) 16) (term_from kind x (length w))
        (run_of file own (at + 1) []) (run_of file own (at + 1) outer)
    spelled_run kind x w p q outer at ks s = leaf_run kind x (length w) p q outer at ks (omega (arith, s.inside)) (omega (arith, s.inside))

    atom_run_lem : (x : ℕ) (a : Atom) (outer : List ℕ) (at : ℕ) → AtomWithin file.text.records x a
        → run_of file own at (records_bytes (atom_records x a) ++ outer) ≡ atom_run x a (run_of file own (at + length (atom_records x a)) outer)
    unfolding flat_map term_from
    atom_run_lem x (identifier w) outer at s = spelled_run 1 x w x (x + length w) outer at (omega arith) s.0 ∙ rw s.0.same
    atom_run_lem x (number w) outer at s = spelled_run 2 x w x (x + length w) outer at (omega arith) s.0 ∙ rw s.0.same
    atom_run_lem x (variable tree.Kind.symbol_kind i) outer at s = spelled_run 3 (x + 2) i x (x + 2 + length i) outer at (omega arith) s.0 ∙ rw s.0.same
    atom_run_lem x (variable tree.Kind.term_kind i) outer at s = spelled_run 4 (x + 2) i x (x + 2 + length i) outer at (omega arith) s.0 ∙ rw s.0.same
    atom_run_lem x (variable tree.Kind.expression_kind i) outer at s = spelled_run 5 (x + 2) i x (x + 2 + length i) outer at (omega arith) s.0 ∙ rw s.0.same
    atom_run_lem x (quoted cs) outer at s = rw (characters_count (x + 1) cs) (characters_run (x + 1) cs outer at s)

    -- the records of some terms, the first of number `at`
    pub terms_run : (t : Terms) (at : ℕ) → length (term_records t) ≤ 512 → Within file.text.records t → run_of file own at (run_bytes t) ≡ tree_run at t
    unfolding term_records flat_map tree_run term_from
    terms_run nothing at l h = run_empty file own at [] (omega arith)
    terms_run (atomic x a rest) at l h =
        rw (records_append (atom_records x a) (term_records rest))
        (atom_run_lem x a (run_bytes rest) at h.0
        ∙ ap (atom_run x a) (terms_run rest (at + length (atom_records x a)) (omega (arith, length-append (atom_records x a) (term_records rest))) h.1))
    terms_run (bracket p inside r rest) at l h =
        let n = length (term_records inside) in
        let lengths = length-append (term_records inside) (term_records rest) in
        rw (records_append (term_records inside) (term_records rest))
        (node_run 6 0 0 n p (r + 1) (run_bytes inside) (run_bytes rest) at (omega arith) (omega arith) (omega arith) (omega (arith, lengths)) (run_length inside)
        ∙ rw (terms_run inside (at + 1) (omega (arith, lengths)) h.0, terms_run rest (at + 1 + n) (omega (arith, lengths)) h.1))
    terms_run (call p f inside r rest) at l h =
        let n = length (term_records inside) in
        let lengths = length-append (term_records inside) (term_records rest) in
        rw (records_append (term_records inside) (term_records rest))
        (node_run 7 f.start (length f.spelled) n p (r + 1) (run_bytes inside) (run_bytes rest) at (omega arith) (omega (arith, h.0.0.inside)) (omega (arith, h.0.0.inside))
        (omega (arith, lengths)) (run_length inside)
        ∙ rw (
          node_mark 7 f.start (length f.spelled) n p (r + 1) (run_bytes inside ++ run_bytes rest) at (omega (arith, h.1)) (omega (arith, h.2)),
          h.0.0.same,
          terms_run inside (at + 1) (omega (arith, lengths)) h.3,
          terms_run rest (at + 1 + n) (omega (arith, lengths)) h.4,
        ))
