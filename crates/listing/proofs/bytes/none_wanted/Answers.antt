-- One law for each thing that can be wanted.
use Rattle.listing.proofs.NoneLaws.{none_text, none_page}
use Rattle.listing.proofs.bytes.none_wanted.Goals as goal

pub returns-in-Text : goal.returns-in-Text
returns-in-Text c = λ settings. none_text settings c.args.wanted c.args.buffer.now _ c.in-Text.is

pub returns-in-Page : goal.returns-in-Page
returns-in-Page c =
    λ settings. none_page settings c.args.wanted c.args.buffer.now _ c.print_none.result c.in-Page.is (c.print_none.ensures settings)
