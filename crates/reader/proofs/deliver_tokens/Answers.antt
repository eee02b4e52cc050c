use Rattle.std.proofs.Common.{arith}
use Rattle.reader.proofs.ReadLaws.{file_over, tokens_delivered}
use Rattle.reader.proofs.deliver_tokens.Goals as goal

pub returns-then-end-gt16384 : goal.returns-then-end-gt16384
returns-then-end-gt16384 c ts held stand =
    let put = c.put_file-end.ensures ts held stand in
    file_over _ _ (omega (arith, c.if-end-gt16384.true, put.end))

pub returns : goal.returns
returns c ts held stand =
    tokens_delivered _ _ _ _ _ _ (c.put_file-end.ensures ts held stand) (omega (arith, c.if-end-gt16384.false, c.requires.1)) c.deliver_law.ensures
