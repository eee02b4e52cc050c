-- The heading has no room, or it is put.
use Rattle.listing.proofs.NoneLaws.{none_short, none_written}
use Rattle.listing.proofs.bytes.print_none.Goals as goal

pub returns-then-buffer-length : goal.returns-then-buffer-length
returns-then-buffer-length c =
    λ settings. none_short settings c.args.buffer.now c.page_length-length.result c.page_length-length.ensures c.if-buffer-length.true

pub returns : goal.returns
returns c =
    λ settings. none_written settings c.args.buffer.now c.page_length-length.result c.page_length-length.ensures c.if-buffer-length.false
    c.put_heading.ensures
