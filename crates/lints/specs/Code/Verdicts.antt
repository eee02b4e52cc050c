-- What lint 2 says of one call.
use Rattle.std.specs.Prelude.{ℕ, zero, suc, cond, get_or, eqb, ltb, Option, Some, None, Result, Ok, Err}
use Rattle.file.specs.Sections.{File}
use Rattle.law.specs.Tree.{Sentences, Law, keep}
use Rattle.law.specs.Places.{sentences_of, first_sentence}
use Rattle.law.specs.Reading.{sentences_at}
use Rattle.shapes.specs.Format.{of, size}
use Rattle.shapes.specs.Disjoint.{disjoint_formats}
use Rattle.formats.specs.Infer.{Formats}
use Rattle.matching.specs.Literal.{is_literal}
use Rattle.lints.specs.Calls.{Call}
use Rattle.lints.specs.Recognition.{compared, passed, accepted}
use Rattle.lints.specs.declared.recognition.Reason as reasons
use Rattle.formats.specs.declared.TooWide.{TooWide}
use Rattle.formats.specs.declared.slots.Slots.{Slots}

abbrev pub Verdict : Type 0
Verdict = Result (Option reasons.Reason) TooWide

-- its argument has too many shapes to be compared; no sentence matches it, by formats or by literals; nothing
abbrev pub Wide : Verdict
Wide = Err (record {})

abbrev pub ByFormats : Verdict
ByFormats = Ok (Some reasons.TheVariants.Formats)

abbrev pub ByLiterals : Verdict
ByLiterals = Ok (Some reasons.TheVariants.Literals)

abbrev pub Nothing : Verdict
Nothing = Ok None

-- the word a of a finding says by what
abbrev pub reason_number : reasons.Reason → ℕ
reason_number reasons.TheVariants.Formats = 1
reason_number reasons.TheVariants.Literals = 2

-- of one that is compared: `Wide` where its argument has over `limit` shapes
unfoldable pub comparison : ℕ → Formats → Call → Verdict
comparison limit formats c =
    cond (ltb limit (size (passed formats c))) Wide
    (cond (disjoint_formats (of (passed formats c)) (accepted formats c)) ByFormats (cond (is_literal c.argument) ByLiterals Nothing))

unfoldable pub verdict_of : ℕ → Law → Formats → Call → Verdict
verdict_of limit law formats c = cond (compared law c) (comparison limit formats c) Nothing

-- ---- what the code finds on its way

-- the last of the first n functions whose name has this place
unfoldable pub last_placed : Slots → ℕ → ℕ → Option ℕ
last_placed slots place zero = None
last_placed slots place (suc n) = cond (eqb (get_or slots.functions n 0) place) (Some n) (last_placed slots place n)

-- the sentences of the function f
abbrev pub function_sentences : File → ℕ → Sentences
function_sentences file f = keep (sentences_of file f) (sentences_at file (first_sentence file f))
