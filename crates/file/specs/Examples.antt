-- Examples of the definitions, by computation.
-- docs/SPECIFICATION.md, 2.7.
use Rattle.std.specs.Prelude.{[], ◌∷◌, ◌++◌, true, false, ◌≡◌, refl, replicate}
use Rattle.names.specs.Name.{every_byte}
use Rattle.file.specs.Word.{word_at}
use Rattle.file.specs.Answer.{refused, given}
use Rattle.file.specs.Sections.{Section, section, sections_of}
use Rattle.file.specs.Fields.{spelled, scalar_allowed, term_allowed}

-- words, least byte first; past the end stands 0
word_least_first : word_at (1 ∷ 2 ∷ 3 ∷ 4 ∷ []) 0 ≡ 0x04030201
unfolding word_at
word_least_first = refl

word_at_position : word_at (9 ∷ 9 ∷ 0 ∷ 0 ∷ 1 ∷ 0 ∷ []) 2 ≡ 0x10000
unfolding word_at
word_at_position = refl

word_largest : word_at (255 ∷ 255 ∷ 255 ∷ 255 ∷ []) 0 ≡ 0xFFFFFFFF
unfolding word_at
word_largest = refl

word_past_end : word_at (7 ∷ []) 0 ≡ 7
unfolding word_at
word_past_end = refl

-- a section without records
none : Section
none = record { count = 0; records = [] }

-- an empty file is cut off
file_empty : sections_of [] ≡ refused 2
unfolding sections_of section word_at
file_empty = refl

-- a count over its limit is refused before its records are looked for, and a count at its limit is not
text_over : sections_of (1 ∷ 16 ∷ 0 ∷ 0 ∷ []) ≡ refused 4
unfolding sections_of section word_at
text_over = refl

text_at_limit : sections_of (0 ∷ 16 ∷ 0 ∷ 0 ∷ []) ≡ refused 2
unfolding sections_of section word_at
text_at_limit = refl

-- the third section's limit
sentences_over : sections_of (replicate 8 0 ++ 129 ∷ 0 ∷ 0 ∷ 0 ∷ []) ≡ refused 4
unfolding sections_of section word_at
sentences_over = refl

-- five counts of 0
file_of_nothing : sections_of (replicate 20 0) ≡ given (record { text = none; functions = none; sentences = none; conditions = none; terms = none })
unfolding sections_of section word_at none
file_of_nothing = refl

-- one byte is left over
file_left_over : sections_of (replicate 21 0) ≡ refused 3
unfolding sections_of section word_at
file_left_over = refl

-- a text of two bytes, and empty sections after it
file_with_text : sections_of (2 ∷ 0 ∷ 0 ∷ 0 ∷ 65 ∷ 66 ∷ replicate 16 0)
    ≡ given (record { text = record { count = 2; records = 65 ∷ 66 ∷ [] }; functions = none; sentences = none; conditions = none; terms = none })
unfolding sections_of section word_at none
file_with_text = refl

-- the same text, and a count that is cut off after it
count_cut_off : sections_of (2 ∷ 0 ∷ 0 ∷ 0 ∷ 65 ∷ 66 ∷ 0 ∷ 0 ∷ 0 ∷ []) ≡ refused 2
unfolding sections_of section word_at
count_cut_off = refl

-- scalar values around the surrogates and at the end
scalar_before_surrogates : scalar_allowed 0xD7FF ≡ true
scalar_before_surrogates = refl

scalar_first_surrogate : scalar_allowed 0xD800 ≡ false
scalar_first_surrogate = refl

scalar_last_surrogate : scalar_allowed 0xDFFF ≡ false
scalar_last_surrogate = refl

scalar_after_surrogates : scalar_allowed 0xE000 ≡ true
scalar_after_surrogates = refl

scalar_largest : scalar_allowed 0x10FFFF ≡ true
scalar_largest = refl

scalar_over : scalar_allowed 0x110000 ≡ false
scalar_over = refl

-- term records: a kind over 8, a block with a field that is not used, a call whose name ends the text, and one that passes it
kind_nine : term_allowed (65 ∷ []) 9 0 0 0 ≡ false
unfolding term_allowed
kind_nine = refl

block_unused : term_allowed (65 ∷ []) 8 1 1 0 ≡ false
unfolding term_allowed
block_unused = refl

call_at_end : term_allowed (45 ∷ 65 ∷ []) 7 1 1 0 ≡ true
unfolding term_allowed spelled every_byte
call_at_end = refl

call_past_end : term_allowed (45 ∷ 65 ∷ []) 7 1 2 0 ≡ false
unfolding term_allowed spelled
call_past_end = refl
