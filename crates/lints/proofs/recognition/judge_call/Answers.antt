-- The last definition of the call's name is the last function of its place, and a law for each return.
use Rattle.std.proofs.Common.{arith}
use Rattle.file.specs.Sections.{file_of}
use Rattle.law.proofs.IndexLaws.{functions_limit, terms_limit}
use Rattle.lints.proofs.Holdings.{prepared}
use Rattle.lints.proofs.RecognitionLaws.{literal_read, place_is, function_here_lem, place_inside, verdict_undefined, verdict_silent, verdict_compared}
use Rattle.lints.proofs.recognition.judge_call.Goals as goal

pub bounds-formats-t : goal.bounds-formats-t
bounds-formats-t c = omega (arith, c.requires.0, terms_limit _ _ c.args.formats.now.law.law.indexed)

pub last_placed-requires : goal.last_placed-requires
last_placed-requires c =
    let indexed = c.args.formats.now.law.law.indexed in
    omega (arith, c.functions.ensures, indexed.words.functions, functions_limit _ _ indexed)

pub returns-in_default : goal.returns-in_default
returns-in_default c = verdict_undefined (prepared c.args.formats.now) c.args.t c.requires.0 c.requires.1 c.from-place.ensures c.functions.ensures c.in_default.ensures

pub is_compared-requires : goal.is_compared-requires
is_compared-requires c = record {
  f_bound = (
    function_here_lem (prepared c.args.formats.now) c.args.t c.requires.0 c.requires.1 c.from-place.ensures c.functions.ensures c.in-Some.ensures,
    c.requires.0,
    literal_read (file_of c.args.formats.now.law.law.bytes.now) c.args.t c.argument_of.ensures c.is_literal-literal.ensures,
  );
}

pub returns-then-not-is_compared : goal.returns-then-not-is_compared
returns-then-not-is_compared c = verdict_silent (prepared c.args.formats.now) c.args.t c.requires.0 c.requires.1 c.from-place.ensures c.functions.ensures c.in-Some.ensures
    c.is_compared.ensures c.if-not-is_compared.true

pub compare_call-requires-clause-term : goal.compare_call-requires-clause-term
compare_call-requires-clause-term c =
    (c.requires.0, literal_read (file_of c.args.formats.now.law.law.bytes.now) c.args.t c.argument_of.ensures c.is_literal-literal.ensures)

pub compare_call-requires-clause-place_value : goal.compare_call-requires-clause-place_value
compare_call-requires-clause-place_value c =
    (place_is (prepared c.args.formats.now) c.args.t c.requires.0 c.requires.1 c.from-place.ensures c.functions.ensures, place_inside (prepared c.args.formats.now) c.args.t c.requires.0 c.requires.1 c.from-place.ensures c.functions.ensures c.in-Some.ensures)

pub returns : goal.returns
returns c = verdict_compared (prepared c.args.formats.now) c.args.t c.requires.0 c.requires.1 c.from-place.ensures c.functions.ensures c.in-Some.ensures
    c.is_compared.ensures c.if-not-is_compared.false c.compare_call.ensures
