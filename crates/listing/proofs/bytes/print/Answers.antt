-- The page has no room, or it is put.
use Rattle.listing.proofs.WantedLaws.{print_short, print_written}
use Rattle.listing.proofs.bytes.print.Goals as goal

pub returns-then-page-length : goal.returns-then-page-length
returns-then-page-length c =
    print_short c.args.accepted.now.law.bytes.now c.args.own.now c.args.count c.args.page.now c.page_length-length.result c.page_length-length.ensures
    c.if-page-length.true

pub put_page-requires : goal.put_page-requires
put_page-requires c = (c.args.accepted.now.accepted.fields, c.requires.0, c.requires.1, c.requires.2)

pub returns : goal.returns
returns c =
    print_written c.args.accepted.now.law.bytes.now c.args.own.now c.args.count c.args.page.now c.page_length-length.result c.page_length-length.ensures
    c.if-page-length.false c.put_page.ensures
