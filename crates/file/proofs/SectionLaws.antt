-- Laws of `section`, `sections_of` and `file_of` (specs/Sections.antt).
use Prim.Native.Nat.{ℕ, zero, ◌+◌, ◌*◌, ◌-◌, ◌≤◌, ◌<◌}
use mathlib.Core.List.{List}
use mathlib.Core.Path.{◌≡◌, refl, sym}
use native.Mathlib.Omega.{arith}
use lib.ListN.{length, take, drop, length-take, length-drop}
use lib.Seq.{drop-drop}
use lib.Dec.{ltb}
use borrow.Author.Tests.{lt-ltb, le-ltb, ltb-false}
use Rattle.file.specs.Word.{word_at}
use Rattle.file.specs.Answer.{refused, given, map_answer}
use Rattle.file.specs.Sections.{Section, section, File, sections_of, file_of, part, number_of, answer_of}
use Rattle.file.specs.Code.Counts.{counts_of}
use Rattle.file.specs.declared.Sections.{Sections}
use Rattle.file.specs.declared.Refusal.{Refusal}
use Rattle.std.specs.Prelude.{Result, Ok, Err}
use Rattle.file.proofs.Answers.{bind_given, pass_given, map_given, map_refused}
use Rattle.file.proofs.Words.{word_first}

-- the section of n records that stands first in these bytes, and the bytes after it
abbrev pub taken : ℕ → ℕ → List ℕ → Section × List ℕ
taken size n s = (record { count = n; records = take (size * n) (drop 4 s) }, drop (4 + size * n) s)

-- too few bytes for a count
pub section_short : (limit size : ℕ) (s : List ℕ) → length s < 4 → section limit size s ≡ refused 2
unfolding section
section_short limit size s h = rw (lt-ltb (length s) 4 h)

-- a count over its limit
pub section_over : (limit size : ℕ) (s : List ℕ) → 4 ≤ length s → limit < word_at s 0 → section limit size s ≡ refused 4
unfolding section
section_over limit size s h k = rw (le-ltb (length s) 4 h, lt-ltb limit (word_at s 0) k)

-- too few bytes for the records
pub section_cut : (limit size : ℕ) (s : List ℕ) → 4 ≤ length s → word_at s 0 ≤ limit → length s - 4 < size * word_at s 0
    → section limit size s ≡ refused 2
unfolding section
section_cut limit size s h k l = rw (le-ltb (length s) 4 h, le-ltb limit (word_at s 0) k, lt-ltb (length s - 4) (size * word_at s 0) l)

-- a section
pub section_whole : (limit size : ℕ) (s : List ℕ) → 4 ≤ length s → word_at s 0 ≤ limit → size * word_at s 0 ≤ length s - 4
    → section limit size s ≡ given (taken size (word_at s 0) s)
unfolding section
section_whole limit size s h k l = rw (le-ltb (length s) 4 h, le-ltb limit (word_at s 0) k, le-ltb (length s - 4) (size * word_at s 0) l)

-- what is known of a section that was given: `small`, `inside` and `whole` are its three tests and its value
pub record Held (limit size : ℕ) (s : List ℕ) (y : Section × List ℕ) : Type 0 where
  pub small : word_at s 0 ≤ limit
  pub inside : 4 + size * word_at s 0 ≤ length s
  pub whole : y ≡ taken size (word_at s 0) s

-- a section that was given passed the three tests
pub section_given : (limit size : ℕ) (s : List ℕ) (y : Section × List ℕ) → section limit size s ≡ given y → Held limit size s y
unfolding section
section_given limit size s y h =
    pass_given 2 (ltb (length s) 4) _ y h λ a h₁.
    pass_given 4 (ltb limit (word_at s 0)) _ y h₁ λ b h₂.
    pass_given 2 (ltb (length s - 4) (size * word_at s 0)) (given (taken size (word_at s 0) s)) y h₂ λ d h₃.
    record {
      small = ltb-false limit (word_at s 0) b;
      inside = omega (arith, ltb-false (length s) 4 a, ltb-false (length s - 4) (size * word_at s 0) d);
      whole = cc;
    }

-- what is known of a section that was given at a position of a file
pub record HeldAt (limit size at : ℕ) (bytes : List ℕ) (y : Section × List ℕ) : Type 0 where
  pub small : word_at bytes at ≤ limit
  pub inside : at + 4 + size * word_at bytes at ≤ length bytes
  pub found : (start len : ℕ) → start ≡ at + 4 → len ≡ size * word_at bytes at
      → y.0 ≡ record { count = word_at bytes at; records = part start len bytes }
  pub after : (next : ℕ) → next ≡ at + 4 + size * word_at bytes at → y.1 ≡ drop next bytes

-- the same at a position, where the bytes from there on are `s`
pub section_at : (limit size at : ℕ) (bytes s : List ℕ) (y : Section × List ℕ) → s ≡ drop at bytes → section limit size s ≡ given y
    → HeldAt limit size at bytes y
section_at limit size at bytes s y p h =
    let n : ℕ = word_at bytes at in
    let held : Held limit size (drop at bytes) y = section_given limit size (drop at bytes) y (rw p at h) in
    let e : word_at (drop at bytes) 0 ≡ n = word_first bytes at in
    let inside : 4 + size * n ≤ length bytes - at = rw (e, length-drop at bytes) at held.inside in
    let whole : y ≡ taken size n (drop at bytes) = rw e at held.whole in
    record {
      small = rw e at held.small;
      inside = omega arith;
      found = λ start len a b. rw (whole, drop-drop 4 at bytes, a, b);
      after = λ next a. let q : next ≡ at + (4 + size * n) = omega arith in rw (whole, drop-drop (4 + size * n) at bytes, q);
    }

-- the five counts, as `file_of` reads them
abbrev pub texts : List ℕ → ℕ
texts bytes = word_at bytes 0

abbrev pub functions : List ℕ → ℕ
functions bytes = word_at bytes (4 + texts bytes)

abbrev pub sentences : List ℕ → ℕ
sentences bytes = word_at bytes (8 + texts bytes + 20 * functions bytes)

abbrev pub conditions : List ℕ → ℕ
conditions bytes = word_at bytes (12 + texts bytes + 20 * functions bytes + 20 * sentences bytes)

abbrev pub terms : List ℕ → ℕ
terms bytes = word_at bytes (16 + texts bytes + 20 * functions bytes + 20 * sentences bytes + 16 * conditions bytes)

-- the file's length by its counts
abbrev pub length_by : ℕ → ℕ → ℕ → ℕ → ℕ → ℕ
length_by t f s c k = 20 + t + 20 * f + 20 * s + 16 * c + 24 * k

-- what is known of a file that was cut into its sections
pub record WholeFile (bytes : List ℕ) (file : File) : Type 0 where
  pub same : file ≡ file_of bytes
  pub bound : length bytes ≤ 16384
  pub size : length bytes ≡ length_by (texts bytes) (functions bytes) (sentences bytes) (conditions bytes) (terms bytes)
  pub limits : (texts bytes ≤ 4096) × (functions bytes ≤ 64) × (sentences bytes ≤ 128) × (conditions bytes ≤ 128) × (terms bytes ≤ 512)

-- the five sections one after the other
whole_of : (bytes : List ℕ) (y₁ y₂ y₃ y₄ y₅ : Section × List ℕ) → length bytes ≤ 16384
    → section 4096 1 bytes ≡ given y₁ → section 64 20 y₁.1 ≡ given y₂ → section 128 20 y₂.1 ≡ given y₃
    → section 128 16 y₃.1 ≡ given y₄ → section 512 24 y₄.1 ≡ given y₅ → length y₅.1 ≤ 0
    → WholeFile bytes (record { text = y₁.0; functions = y₂.0; sentences = y₃.0; conditions = y₄.0; terms = y₅.0 })
unfolding file_of
whole_of bytes y₁ y₂ y₃ y₄ y₅ b e₁ e₂ e₃ e₄ e₅ l =
    let t : ℕ = texts bytes in
    let f : ℕ = functions bytes in
    let s : ℕ = sentences bytes in
    let k : ℕ = conditions bytes in
    let n : ℕ = terms bytes in
    let w₁ = section_at 4096 1 0 bytes bytes y₁ refl e₁ in
    let w₂ = section_at 64 20 (4 + t) bytes y₁.1 y₂ (w₁.after (4 + t) (omega arith)) e₂ in
    let w₃ = section_at 128 20 (8 + t + 20 * f) bytes y₂.1 y₃ (w₂.after (8 + t + 20 * f) (omega arith)) e₃ in
    let w₄ = section_at 128 16 (12 + t + 20 * f + 20 * s) bytes y₃.1 y₄ (w₃.after (12 + t + 20 * f + 20 * s) (omega arith)) e₄ in
    let w₅ = section_at 512 24 (16 + t + 20 * f + 20 * s + 16 * k) bytes y₄.1 y₅ (w₄.after (16 + t + 20 * f + 20 * s + 16 * k) (omega arith)) e₅ in
    let past : y₅.1 ≡ drop (length_by t f s k n) bytes = w₅.after (length_by t f s k n) (omega arith) in
    let left : length bytes - length_by t f s k n ≤ 0 = rw (past, length-drop (length_by t f s k n) bytes) at l in
    record {
      same = rw (
        w₁.found 4 t (omega arith) (omega arith),
        w₂.found (8 + t) (20 * f) (omega arith) (omega arith),
        w₃.found (12 + t + 20 * f) (20 * s) (omega arith) (omega arith),
        w₄.found (16 + t + 20 * f + 20 * s) (16 * k) (omega arith) (omega arith),
        w₅.found (20 + t + 20 * f + 20 * s + 16 * k) (24 * n) (omega arith) (omega arith),
      );
      bound = b;
      size = omega (arith, w₅.inside);
      limits = (w₁.small, w₂.small, w₃.small, w₄.small, w₅.small);
    }

-- a file that was given has passed every test
pub sections_whole : (bytes : List ℕ) (file : File) → sections_of bytes ≡ given file → WholeFile bytes file
unfolding sections_of
sections_whole bytes file h =
    pass_given 1 (ltb 16384 (length bytes)) _ file h λ b h₁.
    bind_given (section 4096 1 bytes) _ file h₁ λ y₁ e₁ h₂.
    bind_given (section 64 20 y₁.1) _ file h₂ λ y₂ e₂ h₃.
    bind_given (section 128 20 y₂.1) _ file h₃ λ y₃ e₃ h₄.
    bind_given (section 128 16 y₃.1) _ file h₄ λ y₄ e₄ h₅.
    bind_given (section 512 24 y₄.1) _ file h₅ λ y₅ e₅ h₆.
    pass_given 3 (ltb zero (length y₅.1)) _ file h₆ λ l h₇.
    let e : record { text = y₁.0; functions = y₂.0; sentences = y₃.0; conditions = y₄.0; terms = y₅.0 } ≡ file = cc in
    rw e at (whole_of bytes y₁ y₂ y₃ y₄ y₅ (ltb-false 16384 (length bytes) b) e₁ e₂ e₃ e₄ e₅ (ltb-false zero (length y₅.1) l))

-- a part that lies inside the bytes
pub part_length : (start len : ℕ) (s : List ℕ) → start + len ≤ length s → length (part start len s) ≡ len
part_length start len s h = simp (length-take, length-drop) (omega arith)

-- a part as it is taken from a slice by its start and its end
pub part_slice : (start len : ℕ) (s : List ℕ) → take (start + len - start) (drop start s) ≡ part start len s
part_slice start len s =
    let e : start + len - start ≡ len = omega arith in
    rw e

-- a file that was given is the file that the bytes are
pub sections_file : (bytes : List ℕ) (file : File) → sections_of bytes ≡ given file → file ≡ file_of bytes
sections_file bytes file h = (sections_whole bytes file h).same

-- nothing is left over
pub sections_length : (bytes : List ℕ) (file : File) → sections_of bytes ≡ given file
    → length bytes ≡ length_by file.text.count file.functions.count file.sentences.count file.conditions.count file.terms.count
unfolding file_of
sections_length bytes file h = rw (sections_file bytes file h) (sections_whole bytes file h).size

-- no count is over its limit
pub sections_limits : (bytes : List ℕ) (file : File) → sections_of bytes ≡ given file
    → (file.text.count ≤ 4096) × (file.functions.count ≤ 64) × (file.sentences.count ≤ 128) × (file.conditions.count ≤ 128) × (file.terms.count ≤ 512)
unfolding file_of
sections_limits bytes file h = rw (sections_file bytes file h) (sections_whole bytes file h).limits

-- each section has the bytes of as many records as it counts
pub sections_records : (bytes : List ℕ) (file : File) → sections_of bytes ≡ given file
    → (length file.text.records ≡ file.text.count)
    × (length file.functions.records ≡ 20 * file.functions.count)
    × (length file.sentences.records ≡ 20 * file.sentences.count)
    × (length file.conditions.records ≡ 16 * file.conditions.count)
    × (length file.terms.records ≡ 24 * file.terms.count)
unfolding file_of
sections_records bytes file h =
    let t : ℕ = texts bytes in
    let f : ℕ = functions bytes in
    let s : ℕ = sentences bytes in
    let k : ℕ = conditions bytes in
    let n : ℕ = terms bytes in
    let w : length bytes ≡ length_by t f s k n = (sections_whole bytes file h).size in
    rw (sections_file bytes file h) (
      part_length 4 t bytes (omega arith),
      part_length (8 + t) (20 * f) bytes (omega arith),
      part_length (12 + t + 20 * f) (20 * s) bytes (omega arith),
      part_length (16 + t + 20 * f + 20 * s) (16 * k) bytes (omega arith),
      part_length (20 + t + 20 * f + 20 * s + 16 * k) (24 * n) bytes (omega arith),
    )

-- what a cut that is whole tells: the file, its counts, where its sections stand, its length and its limits
pub record Told (bytes : List ℕ) (s : Sections) : Type 0 where
  pub file : sections_of bytes ≡ given (file_of bytes)
  pub counts : counts_of (file_of bytes) ≡ s
  pub text : (file_of bytes).text ≡ record { count = s.text; records = part 4 s.text bytes }
  pub functions : (file_of bytes).functions ≡ record { count = s.functions; records = part (8 + s.text) (20 * s.functions) bytes }
  pub sentences : (file_of bytes).sentences ≡ record { count = s.sentences; records = part (12 + s.text + 20 * s.functions) (20 * s.sentences) bytes }
  pub conditions : (file_of bytes).conditions
      ≡ record { count = s.conditions; records = part (16 + s.text + 20 * s.functions + 20 * s.sentences) (16 * s.conditions) bytes }
  pub terms : (file_of bytes).terms
      ≡ record { count = s.terms; records = part (20 + s.text + 20 * s.functions + 20 * s.sentences + 16 * s.conditions) (24 * s.terms) bytes }
  pub size : length bytes ≡ length_by s.text s.functions s.sentences s.conditions s.terms
  pub limits : (s.text ≤ 4096) × (s.functions ≤ 64) × (s.sentences ≤ 128) × (s.conditions ≤ 128) × (s.terms ≤ 512)

-- the file that the bytes are, told of itself
told_of : (bytes : List ℕ) → sections_of bytes ≡ given (file_of bytes) → Told bytes (counts_of (file_of bytes))
unfolding file_of
told_of bytes h =
    let w = sections_whole bytes (file_of bytes) h in
    record {
      file = h;
      counts = refl;
      text = refl;
      functions = refl;
      sentences = refl;
      conditions = refl;
      terms = refl;
      size = w.size;
      limits = w.limits;
    }

-- what `answer_of` says of a cut that is whole
pub cut_whole : (bytes : List ℕ) (r : Result Sections Refusal) (s : Sections) → answer_of r ≡ map_answer counts_of (sections_of bytes) → r ≡ Ok s → Told bytes s
cut_whole bytes r s h e =
    let g : given s ≡ map_answer counts_of (sections_of bytes) = rw e at h in
    map_given counts_of (sections_of bytes) s g λ file p q.
    let same : file ≡ file_of bytes = sections_file bytes file p in
    let counts : counts_of (file_of bytes) ≡ s = rw (← same) (sym q) in
    rw counts at (told_of bytes (rw same at p))

-- what `answer_of` says of a cut that is refused
pub cut_refused : (bytes : List ℕ) (r : Result Sections Refusal) (n : Refusal) → answer_of r ≡ map_answer counts_of (sections_of bytes) → r ≡ Err n
    → sections_of bytes ≡ refused (number_of n)
cut_refused bytes r n h e =
    let g : refused (number_of n) ≡ map_answer counts_of (sections_of bytes) = rw e at h in
    map_refused counts_of (sections_of bytes) (number_of n) g
