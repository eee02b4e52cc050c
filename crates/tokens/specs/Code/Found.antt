-- What the code finds at a byte: a character, an index, a piece.
use Rattle.std.specs.Prelude.{ℕ, ◌+◌, ◌<◌, ◌≤◌, List, [], ◌∷◌, Bool, false, cond, ◌&&◌, ◌||◌, true, ◌≡◌, Option, Some, None, length, drop, get_or, eqb, ltb}
use Rattle.std.proofs.Math.Option.{none, some, Option as Choice}
use Rattle.names.specs.Name.{name_byte}
use Rattle.file.specs.Fields.{scalar_allowed}
use Rattle.tokens.specs.Token.{utf8, token_bytes, Piece, blank, comment, token, piece_bytes}
use Rattle.tokens.specs.Lex.{leading, begins, character_in, index_after, next}
use Rattle.tokens.specs.Code.TokenKind.{kind_of}
use Rattle.tokens.specs.declared.kinds.Kind.TheVariants.{Identifier}
use Rattle.tokens.specs.declared.pieces.Found.{Found}
use Rattle.tokens.specs.declared.pieces.Found.TheVariants.{Between, Token as Tokened}

-- ---- characters

-- the number of bytes of a character, by the first of them
abbrev pub width_of : ℕ → ℕ
width_of b = cond (ltb b 128) 1 (cond (ltb b 224) 2 (cond (ltb b 240) 3 4))

-- the character where some bytes begin, with the number of its bytes
abbrev pub CharacterAt : List ℕ → Option (ℕ × ℕ) → Type 0
CharacterAt s None = scalar_allowed (character_in s) && begins (utf8 (character_in s)) s ≡ false
CharacterAt s (Some p) = (p.0 ≡ character_in s) × (scalar_allowed p.0 ≡ true) × (begins (utf8 p.0) s ≡ true) × (p.1 ≡ length (utf8 p.0)) × (1 ≤ p.1)

-- a byte that goes on a character, by its six bits
abbrev pub GoesOn : ℕ → Option ℕ → Type 0
GoesOn b None = (d : ℕ) → d < 64 → b ≡ 128 + d → ⊥
GoesOn b (Some d) = (b ≡ 128 + d) × (d < 64)

-- what the bytes of a character say that begin with one from 128 on: the character if that is one of as many bytes
abbrev pub Spelled : List ℕ → Option (ℕ × ℕ) → Type 0
Spelled s None = CharacterAt s None
Spelled s (Some p) = (p.0 ≡ character_in s) × (p.1 ≡ width_of (get_or s 0 0)) × (length (utf8 p.0) ≡ p.1 → begins (utf8 p.0) s ≡ true)

-- the next character of a text from a byte on, and the text and the byte that are left
abbrev pub YieldsCharacter : List ℕ → ℕ → Option (ℕ × ℕ) → List ℕ → ℕ → Type 0
YieldsCharacter s at None t after = CharacterAt (drop at s) None × (t ≡ s) × (after ≡ at)
YieldsCharacter s at (Some p) t after =
    (p.0 ≡ at) × CharacterAt (drop at s) (Some (p.1, length (utf8 p.1))) × (after ≡ at + length (utf8 p.1)) × (after ≤ length s) × (t ≡ s)

-- ---- variables

-- where the index after a point ends that begins at a byte
abbrev pub index_end : ℕ → List ℕ → Option ℕ
index_end at [] = None
index_end at (c ∷ i) = Some (at + 1 + length (c ∷ i))

abbrev pub index_ends : ℕ → List ℕ → Option ℕ
index_ends at s = index_end at (index_after s)

-- ---- pieces

-- a byte that is a blank
abbrev pub is_blank : ℕ → Bool
is_blank c = eqb c 32 || eqb c 10 || eqb c 9 || eqb c 13

-- a piece that begins at a byte: where it ends, and a token's kind
abbrev pub found_at : ℕ → Choice Piece → Option Found
found_at at none = None
found_at at (some (blank b)) = Some (Between (at + length (piece_bytes (blank b))))
found_at at (some (comment cs)) = Some (Between (at + length (piece_bytes (comment cs))))
found_at at (some (token t)) = Some (Tokened (kind_of t) (at + length (token_bytes t)))

-- the name that begins at a byte is the token there
abbrev pub IdentifierAt : ℕ → List ℕ → Type 0
IdentifierAt at s = (end : ℕ) → end ≡ at + 1 + length (leading name_byte (drop 1 s)) → Some (Tokened Identifier end) ≡ found_at at (next s)
