-- Lint 2, `recognition_impossible`: calls that no sentence of their function can match, by formats or by literals.
-- docs/SPECIFICATION.md, 8.5, 8.6.
use Rattle.std.specs.Prelude.{ℕ, Bool, false, not, cond, ◌&&◌, ◌||◌, List, [], ◌∷◌, ltb}
use Rattle.std.proofs.Math.Option.{Option, none, some}
use Rattle.law.specs.Tree.{Run, Sentences, no_sentence, sentence, Function, Law}
use Rattle.law.specs.Expression.{Terms}
use Rattle.law.specs.Definition.{definition}
use Rattle.shapes.specs.Format.{Shapes, Format, of, size}
use Rattle.shapes.specs.Disjoint.{disjoint_formats}
use Rattle.formats.specs.FormatOf.{result_shapes}
use Rattle.formats.specs.Infer.{find, or_never, Formats}
use Rattle.law.specs.Symbol.{Symbol}
use Rattle.matching.specs.Pattern.{pattern_of}
use Rattle.matching.specs.Match.{when, each}
use Rattle.matching.specs.Literal.{is_literal, literal_terms, literal_matches}
use Rattle.lints.specs.Finding.{Claim, by_formats, by_literals, Remark, Finding, findings_from}
use Rattle.lints.specs.Calls.{Call, callee, sentence_calls}

-- ---- what is compared by formats

-- does some sentence match a literal row? Conditions are not looked at
unfoldable pub some_matches : Sentences → Terms Symbol → Bool
some_matches no_sentence x = false
some_matches (sentence m p cs r ss) x = literal_matches (pattern_of p) x || some_matches ss x

-- not compared: calls of functions that are not defined, and literal arguments that some sentence of the last definition matches
abbrev pub compared_with : Option Sentences → Run → Bool
compared_with none argument = false
compared_with (some ss) argument = not (is_literal argument && some_matches ss (literal_terms argument))

unfoldable pub compared : Law → Call → Bool
compared law c = compared_with (definition law (callee c)) c.argument

-- what the call passes, and what its function accepts: the patterns of all functions of the name, joined
abbrev pub passed : Formats → Call → Shapes
passed formats c = result_shapes (find formats.results) c.argument

abbrev pub accepted : Formats → Call → Format
accepted formats c = or_never (find formats.arguments (callee c))

-- ---- the lint

abbrev pub remark : Call → Claim → Remark
remark c claim = record { subject = c.mark; claim = claim }

-- what is said of a call that is compared: by formats, else by literals
unfoldable pub judged : Formats → Call → List Remark
judged formats c =
    cond (disjoint_formats (of (passed formats c)) (accepted formats c))
    (remark c (by_formats c.name (accepted formats c) (of (passed formats c))) ∷ [])
    (when (is_literal c.argument) (remark c (by_literals c.name) ∷ []))

unfoldable pub recognition_remarks : Law → Formats → Function → List Remark
recognition_remarks law formats f = each (λ (c : Call). when (compared law c) (judged formats c)) (sentence_calls f.sentences)

unfoldable pub recognition_findings : Law → Formats → List Finding
recognition_findings law formats = findings_from (recognition_remarks law formats) 0 law

-- ---- refusal 10: "over 64 shapes in the format [..] of an argument compared by formats"

unfoldable pub some_over : ℕ → Law → Formats → List Call → Bool
some_over limit law formats [] = false
some_over limit law formats (c ∷ cs) = (compared law c && ltb limit (size (passed formats c))) || some_over limit law formats cs

unfoldable pub arguments_over : ℕ → Law → Formats → Bool
arguments_over limit law formats = some_over limit law formats (each (λ (f : Function). sentence_calls f.sentences) law)
