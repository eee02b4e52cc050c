-- Laws of text that is put piece after piece (specs/Code/Text.antt).
use Rattle.std.proofs.Common.{List, [], ◌++◌, ℕ, refl, ◌∙◌}
use Rattle.buffers.specs.Code.Text.{Puts}
use Rattle.buffers.specs.declared.text.Text.{Text}
use Rattle.buffers.proofs.PutLaws.{put_none, ◌then◌}

-- nothing
pub puts_none : (t : Text) → Puts t t []
puts_none t = record { same = refl; put = put_none t.out.now t.at }

-- one piece after another
infixl 20 ◌next◌
pub ◌next◌ : {a b c : Text} {first second : List ℕ} → Puts a b first → Puts b c second → Puts a c (first ++ second)
◌next◌ p q = record { same = q.same ∙ p.same; put = p.put then q.put }
