-- What the calls that write bytes of a listing share: each is the same but for what is wanted.
use Rattle.std.specs.Prelude.{ℕ, List, length, Result}
use Rattle.file.specs.Answer.{Answer, given}
use Rattle.law.specs.Tree.{Law}
use Rattle.lints.specs.Finding.{Finding}
use Rattle.lints.specs.Levels.{Settings}
use Rattle.pages.specs.Page.{page}
use Rattle.listing.specs.declared.Turned.{Turned}
use Rattle.listing.specs.declared.bytes.Wanted.{Wanted}
use Rattle.listing.specs.declared.bytes.Wanted.TheVariants as wanted
use Rattle.listing.specs.Outcome.{told_answer, text_at}

-- the refusal of a buffer that is too short
abbrev pub wanted_number : Wanted → ℕ
wanted_number (wanted.Text position) = 13
wanted_number wanted.Page = 18

-- the bytes, by a law and the findings that settings show
abbrev pub wanted_bytes : Wanted → Settings → Law → List Finding → Answer (List ℕ)
wanted_bytes (wanted.Text position) settings = λ law fs. text_at position fs
wanted_bytes wanted.Page settings = λ law fs. given (page settings (length law) fs)

-- what a call answers, and the buffer after it
abbrev pub told_pair : Result ℕ Turned → List ℕ → Answer ℕ × List ℕ
told_pair r buffer = (told_answer r, buffer)
