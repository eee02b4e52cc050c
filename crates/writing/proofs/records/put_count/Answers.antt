use Rattle.std.proofs.Common.{◌≡◌, ◌+◌, ◌-◌, ◌*◌, refl, arith, length}
use Rattle.std.proofs.Math.Nat.{mul-div_cancel_left}
use Rattle.writing.proofs.SectionLaws.{section_put}
use Rattle.writing.proofs.records.put_count.Goals as goal

pub returns : goal.returns
returns c = (
  refl,
  λ old rs put size.
      let room : c.args.end - (c.args.at + 4) ≡ c.args.size * length rs = omega (arith, put.end, size) in
      section_put rs put c.put_word.ensures (rw room (mul-div_cancel_left (length rs) c.requires.0)),
)
