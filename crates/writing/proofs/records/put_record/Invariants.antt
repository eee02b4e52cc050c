use Rattle.std.proofs.Common.{◌+◌, ◌*◌, ◌≡◌, take}
use Rattle.buffers.specs.Code.Put.{Put}
use Rattle.encoding.specs.Encode.{record_bytes}
use Rattle.writing.proofs.records.put_record.Given as goal

-- the words so far are put
abbrev pub invariant-loop-word : goal.invariant-loop-word
invariant-loop-word l = (l.next ≡ l.at + 4 * l.word-index) × Put l.initial.out l.at (record_bytes (take l.word-index l.words)) l.next l.out
