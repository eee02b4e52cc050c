-- The parts of a file's bytes where the records of its sections stand, as code cuts them out: that they hold the records, and what refusal 5 says of them.
use Prim.Native.Nat.{ℕ, ◌+◌, ◌*◌, ◌-◌}
use mathlib.Core.List.{List}
use mathlib.Core.Bool.{Bool, ◌&&◌}
use mathlib.Core.Path.{◌≡◌, ◌∙◌}
use native.Mathlib.Omega.{arith}
use lib.ListN.{length, take, drop, length-take, length-drop}
use Rattle.file.specs.Answer.{given}
use Rattle.file.specs.declared.Sections.{Sections}
use Rattle.file.specs.Sections.{sections_of, file_of}
use Rattle.file.specs.Code.Counts.{counts_of, Limits, file_length}
use Rattle.file.specs.Fields.{fields_allowed, functions_allowed, terms_allowed}
use Rattle.file.proofs.SectionLaws.{part_slice, sections_length, sections_limits}

-- the part of the bytes where the records of a section stand, as code cuts it out by its start and end
abbrev pub cut_out : (start len : ℕ) → List ℕ → List ℕ
cut_out start len bytes = take (start + len - start) (drop start bytes)

abbrev pub functions_part : List ℕ → Sections → List ℕ
functions_part bytes s = cut_out (8 + s.text) (20 * s.functions) bytes

abbrev pub sentences_part : List ℕ → Sections → List ℕ
sentences_part bytes s = cut_out (12 + s.text + 20 * s.functions) (20 * s.sentences) bytes

abbrev pub conditions_part : List ℕ → Sections → List ℕ
conditions_part bytes s = cut_out (16 + s.text + 20 * s.functions + 20 * s.sentences) (16 * s.conditions) bytes

abbrev pub terms_part : List ℕ → Sections → List ℕ
terms_part bytes s = cut_out (20 + s.text + 20 * s.functions + 20 * s.sentences + 16 * s.conditions) (24 * s.terms) bytes

-- bytes that are cut into sections with these counts are as long as the counts say, and no count is over its limit
pub counts_known : (bytes : List ℕ) (s : Sections) → sections_of bytes ≡ given (file_of bytes) → counts_of (file_of bytes) ≡ s
    → Limits s × (length bytes ≡ file_length s)
counts_known bytes s h e = rw (← e) (sections_limits bytes (file_of bytes) h, sections_length bytes (file_of bytes) h)

-- the fields of a file, over the parts of its bytes as the code takes them
abbrev pub text_part : List ℕ → Sections → List ℕ
text_part bytes s = take (4 + s.text - 4) (drop 4 bytes)

pub fields_parts : (bytes : List ℕ) (s : Sections) → counts_of (file_of bytes) ≡ s
    → fields_allowed (file_of bytes)
    ≡ (functions_allowed (text_part bytes s) (functions_part bytes s) s.functions && terms_allowed (text_part bytes s) (terms_part bytes s) s.terms)
unfolding fields_allowed file_of
fields_parts bytes s h =
    rw (← h)
    (rw (
      part_slice 4 (file_of bytes).text.count bytes,
      part_slice (8 + (file_of bytes).text.count) (20 * (file_of bytes).functions.count) bytes,
      part_slice (20 + (file_of bytes).text.count + 20 * (file_of bytes).functions.count + 20 * (file_of bytes).sentences.count
          + 16 * (file_of bytes).conditions.count) (24 * (file_of bytes).terms.count) bytes,
    ))

-- the test of the function records, as the code asks it of the part where they stand: `at` is where it begins
pub functions_tested : (bytes text : List ℕ) (s : Sections) (at : ℕ) (r : Bool) → length bytes ≡ file_length s → text ≡ text_part bytes s → at ≡ 8 + s.text
    → ((count : ℕ) → length (cut_out at (20 * s.functions) bytes) ≡ 20 * count → r ≡ functions_allowed text (cut_out at (20 * s.functions) bytes) count)
    → r ≡ functions_allowed (text_part bytes s) (functions_part bytes s) s.functions
functions_tested bytes text s at r l e q h =
    let long : length (cut_out at (20 * s.functions) bytes) ≡ 20 * s.functions = simp (length-take, length-drop) (omega arith) in
    h s.functions long ∙ rw (e, q)

-- the same of the term records, which stand last
pub terms_tested : (bytes text : List ℕ) (s : Sections) (at : ℕ) (r : Bool) → length bytes ≡ file_length s → text ≡ text_part bytes s
    → at ≡ 20 + s.text + 20 * s.functions + 20 * s.sentences + 16 * s.conditions
    → ((count : ℕ) → length (take (length bytes - at) (drop at bytes)) ≡ 24 * count → r ≡ terms_allowed text (take (length bytes - at) (drop at bytes)) count)
    → r ≡ terms_allowed (text_part bytes s) (terms_part bytes s) s.terms
terms_tested bytes text s at r l e q h =
    let long : length (take (length bytes - at) (drop at bytes)) ≡ 24 * s.terms = simp (length-take, length-drop) (omega arith) in
    let all : length bytes - at ≡ at + 24 * s.terms - at = omega arith in
    h s.terms long ∙ rw (e, all, q)
