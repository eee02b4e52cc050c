use Rattle.std.proofs.Common.{ℕ, ◌≡◌, ◌+◌, ◌*◌, ◌≤◌, List}
use Rattle.encoding.specs.Encode.{character_records}
use Rattle.writing.specs.Code.Held.{Spans}
use Rattle.writing.proofs.SpellLaws.{Spelling}
use Rattle.writing.proofs.atoms.put_characters.Given as goal

-- the records of the characters before the iterator's place are put
abbrev pub invariant-loop-i : goal.invariant-loop-i
invariant-loop-i l =
    (l.i-iterator.text.now ≡ l.text) × (l.i-iterator.at ≤ 70000) × (l.at ≤ l.next) × (l.next ≤ l.at + 24 * l.i-iterator.at)
    × ((cs : List ℕ) → Spans l.text l.from l.to cs → Spelling l.text l.i-iterator.at l.to (character_records l.from cs) l.initial.out l.at l.next l.out)
