-- A file is put where its six parts are, one after another.
use Prim.Native.Nat.{ℕ}
use mathlib.Core.List.{List, ◌++◌, append_assoc}
use mathlib.Core.Bool.{false}
use mathlib.Core.Path.{◌≡◌}
use lib.ListN.{length}
use Rattle.tokens.specs.Token.{Placed}
use Rattle.encoding.specs.Encode.{word_bytes, section_bytes}
use Rattle.encoding.specs.Code.FlatTerms.{outside, flat_terms}
use Rattle.encoding.specs.Code.FlatFile.{flat_functions, flat_sentences, flat_conditions, flat_file}
use Rattle.buffers.specs.Code.Put.{Put}
use Rattle.buffers.proofs.PutLaws.{◌then◌}

six_parts : (a b c d e f : List ℕ) → a ++ b ++ c ++ d ++ e ++ f ≡ a ++ (b ++ (c ++ (d ++ (e ++ f))))
six_parts a b c d e f = simp append_assoc

pub file_put : (bytes : List ℕ) (ts : List Placed) {n at₁ at₂ at₃ at₄ at₅ at₆ : ℕ} {o₀ o₁ o₂ o₃ o₄ o₅ o₆ : List ℕ} → n ≡ length bytes → Put o₀ 0 (word_bytes n) at₁ o₁
    → Put o₁ at₁ bytes at₂ o₂ → Put o₂ at₂ (section_bytes (flat_functions ts)) at₃ o₃ → Put o₃ at₃ (section_bytes (flat_sentences false ts)) at₄ o₄
    → Put o₄ at₄ (section_bytes (flat_conditions false ts)) at₅ o₅ → Put o₅ at₅ (section_bytes (flat_terms outside ts)) at₆ o₆ → Put o₀ 0 (flat_file bytes ts) at₆ o₆
file_put bytes ts e a b c d f g =
    rw (
      ← six_parts (word_bytes (length bytes)) bytes (section_bytes (flat_functions ts)) (section_bytes (flat_sentences false ts))
          (section_bytes (flat_conditions false ts)) (section_bytes (flat_terms outside ts)),
      ← e,
    )
    (a then b then c then d then f then g)
