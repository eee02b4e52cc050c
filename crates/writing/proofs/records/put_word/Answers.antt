use Rattle.buffers.proofs.PutLaws.{◌then◌}
use Rattle.writing.proofs.records.put_word.Goals as goal

pub returns : goal.returns
returns c =
    let put = c.put_byte-second.ensures then c.put_byte-third.ensures then c.put_byte-last.ensures then c.put_byte.ensures in
    rw c.to_le_bytes.ensures at put
