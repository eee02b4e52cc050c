-- What the methods that put text promise: words were put after those that stood there, in the same lent buffer.
use Rattle.std.specs.Prelude.{ℕ, List, ◌≡◌}
use Rattle.buffers.specs.Code.Put.{Put}
use Rattle.buffers.specs.declared.text.Text.{Text}

pub record Puts (old new : Text) (words : List ℕ) : Type 0 where
  pub same : new.out.ghost_name ≡ old.out.ghost_name
  pub put : Put old.out.now old.at words new.at new.out.now
