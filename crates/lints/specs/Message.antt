-- The text of a finding. Document 01, "The listing": "The text is that of `Diagnostic::message`, formats spelled as formats.rs displays them. A block's
-- owner reads ``a block in `F` `` with no final space, inside the outer backticks." Names stand as they are spelled, a called name as at the call.
-- docs/SPECIFICATION.md, 11.1 to 11.3.
use Rattle.std.specs.Prelude.{ℕ, Bool, true, false, List, ◌++◌}
use Rattle.buffers.specs.Decimal.{decimal}
use Rattle.law.specs.Text.{bytes_of}
use Rattle.law.specs.Tree.{Name}
use Rattle.shapes.specs.Display.{display}
use Rattle.lints.specs.Finding.{Failure, two_integers_wanted, division_by_zero, digits_wanted, Claim, dead, by_formats, by_literals, fails, open_pattern, Finding}

abbrev pub owner_text : Bool → Name → List ℕ
owner_text true owner = bytes_of "a block in `" ++ owner.spelled ++ bytes_of "`"
owner_text false owner = owner.spelled

abbrev pub failure_text : Failure → List ℕ
failure_text two_integers_wanted = bytes_of "expected exactly two integer numbers"
failure_text division_by_zero = bytes_of "division by zero"
failure_text digits_wanted = bytes_of "expected a non-empty character string of decimal digits"

-- how the texts of lints 2 and 3 begin
abbrev pub call_text : Name → List ℕ
call_text f = bytes_of "`<" ++ f.spelled ++ bytes_of " ...>` always fails: "

unfoldable pub claim_text : Name → Claim → List ℕ
claim_text owner (dead in_block later earlier) =
    bytes_of "sentence " ++ decimal later ++ bytes_of " of `" ++ owner_text in_block owner ++ bytes_of "` is unreachable: sentence " ++ decimal earlier
    ++ bytes_of " has no conditions and already matches every argument this one matches"
claim_text owner (by_formats f accepted passed) =
    call_text f ++ bytes_of "`" ++ f.spelled ++ bytes_of "` accepts " ++ display accepted ++ bytes_of ", but this call passes " ++ display passed
claim_text owner (by_literals f) = call_text f ++ bytes_of "no sentence of `" ++ f.spelled ++ bytes_of "` matches this argument"
claim_text owner (fails f why) = call_text f ++ failure_text why
claim_text owner (open_pattern n) =
    bytes_of "sentence of `" ++ owner.spelled ++ bytes_of "` has " ++ decimal n
    ++ bytes_of " `e.`-variables in its pattern; matching may backtrack proportionally to the argument length to the power " ++ decimal n

unfoldable pub message : Finding → List ℕ
message f = claim_text f.owner f.claim
