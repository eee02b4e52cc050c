use Rattle.std.proofs.Common.{◌+◌, ◌*◌, length}
use Rattle.formats.proofs.rows.+write_row.Given as goal

-- the same part, or what is left of it after its leaves, is handed on from the row to its first record and to what is inside; the rest of a part is shorter
abbrev pub decreases-write_bracket : goal.decreases-write_bracket
decreases-write_bracket l = 3 * length l.part.now

abbrev pub decreases-write_first : goal.decreases-write_first
decreases-write_first l = 3 * length l.part.now + 1

abbrev pub decreases-write_row : goal.decreases-write_row
decreases-write_row l = 3 * length l.part.now + 2
