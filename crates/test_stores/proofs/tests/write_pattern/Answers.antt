-- A pattern is a part of the term records, and no result is asked of the store.
use Rattle.std.proofs.Common.{[], arith}
use Rattle.law.proofs.IndexLaws.{terms_limit}
use Rattle.formats.proofs.RowLaws.{stored_none}
use Rattle.formats.proofs.SentenceLaws.{pattern_here}
use Rattle.test_stores.proofs.tests.write_pattern.Goals as goal

pub write_row-requires : goal.write_row-requires
write_row-requires c =
    let placed = c.args.placed.now in
    record {
      readable = placed.readable;
      terms = terms_limit _ _ placed.law.indexed;
      here = pattern_here _ placed.readable c.requires.0 c.pattern_at.ensures c.pattern.ensures;
      stored = stored_none [] _ placed.small;
      begins = c.requires.1;
      room = omega arith;
      small = c.requires.2;
    }
