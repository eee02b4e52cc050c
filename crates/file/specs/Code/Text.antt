-- What is known of the text while the fields are looked at.
use Rattle.std.specs.Prelude.{ℕ, List, Bool, true, ◌≡◌}
use Rattle.names.specs.Name.{name_byte, every_byte}

-- where it is said, all bytes of the text are those of names
abbrev pub Named : Bool → List ℕ → Type 0
Named named text = named ≡ true → every_byte name_byte text ≡ true
