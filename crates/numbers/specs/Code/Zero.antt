-- The digit that may stand needlessly before a number.
use Rattle.std.specs.Prelude.{ℕ, Bool, eqb}

abbrev pub zero_byte : ℕ → Bool
zero_byte d = eqb d 48
