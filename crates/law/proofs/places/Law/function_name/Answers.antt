use mathlib.Core.Path.{◌∙◌}
use Rattle.law.proofs.IndexLaws as laws
use Rattle.file.specs.Sections.{file_of}
use Rattle.file.proofs.Fields.{function_inside, fields_functions}
use Rattle.law.proofs.places.Law.function_name.Goals as goal

pub name_in-requires : goal.name_in-requires
name_in-requires c =
    let file = file_of c.args.self.now.bytes.now in
    let fields = fields_functions file c.requires.1 in
    rw (c.function_word-start.ensures ∙ laws.zero_offset _ _, c.function_word-len.ensures, c.text.ensures)
    (function_inside file.text.records file.functions.records file.functions.count c.args.f fields c.requires.0)
