-- One level of a run: the records that no other record of the run holds.
use Rattle.std.specs.Prelude.{List, Bool, true, ◌&&◌, ℕ, ◌+◌, ◌*◌, length, leb}
use Rattle.file.specs.Word.{word_at}
use Rattle.file.specs.Forest.{Forest, end, node}
use Rattle.law.specs.Runs.{term_forest}

-- no n of a record of the level passes the run, whatever stands inside these records
unfoldable pub own_level : Forest → Bool
own_level end = true
own_level (node s inside after) = leb (24 + 24 * word_at s 12) (length s) && own_level after

abbrev pub level_fits : List ℕ → Bool
level_fits s = own_level (term_forest s)
