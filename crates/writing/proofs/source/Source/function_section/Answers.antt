use Rattle.std.proofs.Common.{arith, ap, drop}
use Rattle.encoding.specs.Code.FlatFile.{functions_at, flat_functions}
use Rattle.writing.specs.Code.Held.{at_first}
use Rattle.writing.proofs.HeldLaws.{kinds_size, none_left}
use Rattle.writing.proofs.PassingLaws.{rounds_start, rounds_next, rounds_end}
use Rattle.writing.proofs.FunctionLaws.{functions_step, functions_length}
use Rattle.writing.proofs.source.Source.function_section.Goals as goal

pub loop-i-init : goal.loop-i-init
loop-i-init c = rounds_start

pub loop-i-preserved : goal.loop-i-preserved
loop-i-preserved c =
    let l = kinds_size c.args.self.now.tokens.now in
    let put = c.put_function-next in
    let round = c.loop-i in
    rounds_next round.invariant (λ ts. at_first functions_at (drop round.i ts)) _ (omega arith) put.ensures.0 put.ensures.1 put.auto.out
    (λ ts h. functions_step h round.i (omega arith)) put.ensures.2

pub returns : goal.returns
returns c =
    let l = kinds_size c.args.self.now.tokens.now in
    let ended = rounds_end c.loop-i.invariant c.args.self.now.few (λ ts h. ap flat_functions (none_left h c.loop-i.i (omega arith))) in
    (omega (arith, ended.1, c.put_count.ensures.0), λ ts h. c.put_count.ensures.1 _ (flat_functions ts) (ended.2 ts h) (functions_length ts))
