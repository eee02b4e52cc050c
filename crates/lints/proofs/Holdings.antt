-- What the fields of a law's formats come to.
use mathlib.Core.Path.{refl}
use lib.ListN.{drop}
use Rattle.file.specs.Sections.{file_of}
use Rattle.law.proofs.Allowed.{accepted_readable}
use Rattle.formats.specs.Store.{store_size}
use Rattle.formats.specs.Code.Slots.{file_names}
use Rattle.formats.specs.Code.Turns.{arguments_in, results_in}
use Rattle.formats.specs.declared.held.Formats.{Formats}
use Rattle.lints.specs.Code.Records.{Prepared}

-- all that the lints ask of them
pub prepared : (formats : Formats) → Prepared formats.law.law.bytes.now formats.law.law.index.now formats.slots.now formats.store.now formats.limit
prepared formats =
    let names = file_names (file_of formats.law.law.bytes.now) in
    record {
      accepted = formats.law.accepted;
      asked = record {
        indexed = formats.law.law.indexed;
        readable = accepted_readable formats.law.law.bytes.now formats.law.accepted;
        places = formats.places;
        names = refl;
        small = formats.small;
      };
      holding = record {
        arguments = arguments_in formats.limit names formats.store.now;
        results = results_in formats.limit names formats.store.now;
        tail = drop (store_size formats.limit) formats.store.now;
        holds = formats.holding;
      };
    }
