-- Where a token stands, as the code has it.
use Rattle.encoding.specs.Code.FlatTerms.{Where, outside, inside, calling}
use Rattle.writing.specs.declared.terms.Place.{Place}
use Rattle.writing.specs.declared.terms.Place.TheVariants.{Outside, Inside, Calling}

abbrev pub where_of : Place → Where
where_of Outside = outside
where_of Inside = inside
where_of Calling = calling
