-- One digit, or the digits of a tenth of the number and then its last.
use native.Mathlib.Omega.{arith}
use Rattle.buffers.proofs.PutLaws.{◌then◌}
use Rattle.buffers.proofs.DigitLaws.{decimal_alone, decimal_last, decimal_few}
use Rattle.buffers.proofs.+put_decimal.Goals as goal

pub returns-then-n-lt10 : goal.returns-then-n-lt10
returns-then-n-lt10 t c =
    (omega (arith, c.put_byte.ensures.end), rw (decimal_alone c.args.n (omega (arith, c.if-n-lt10.true))) c.put_byte.ensures)

pub put_byte-requires-2 : goal.put_byte-requires-2
put_byte-requires-2 t c = omega (arith, c.put_decimal-next.ensures.1.end, decimal_few c.args.n (omega (arith, c.ranges.n.fits)))

pub returns : goal.returns
returns t c = (
  omega (arith, c.put_decimal-next.ensures.1.end, c.put_byte-2.ensures.end, decimal_few c.args.n (omega (arith, c.ranges.n.fits))),
  rw (decimal_last c.args.n (omega (arith, c.if-n-lt10.false))) (c.put_decimal-next.ensures.1 then c.put_byte-2.ensures),
)
