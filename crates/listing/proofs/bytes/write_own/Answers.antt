-- One law for each thing that can be wanted.
use Rattle.listing.proofs.WantedLaws.{own_positions, text_wanted, page_wanted}
use Rattle.listing.proofs.bytes.write_own.Goals as goal

pub print-requires : goal.print-requires
print-requires c = (c.requires.2, c.requires.1, own_positions c.requires.0.0 c.requires.0.1 c.requires.1)

pub returns-in-Text : goal.returns-in-Text
returns-in-Text c =
    λ settings held. text_wanted settings held c.requires.1 c.args.wanted _ c.tell.result _ _ c.in-Text.is (c.tell.ensures settings held)

pub returns-in-Page : goal.returns-in-Page
returns-in-Page c =
    λ settings held. page_wanted settings held c.requires.1 c.args.wanted _ c.print.result _ c.in-Page.is c.print.ensures
