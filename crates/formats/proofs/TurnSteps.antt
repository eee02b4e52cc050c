-- A function's turn, step by step: what its sentences join to goes into its name's format.
use Prim.Native.Nat.{ℕ, ◌+◌, ◌*◌, ◌-◌, ◌≤◌, ◌<◌}
use mathlib.Core.Bool.{Bool, not}
use mathlib.Core.List.{List}
use mathlib.Core.Path.{◌≡◌, refl, sym, ap, ◌∙◌}
use native.Mathlib.Omega.{arith}
use native.Mathlib.Nat.{add-sub_cancel_left}
use lib.ListN.{length, take, drop, get_or}
use Rattle.file.specs.Answer.{Answer, refused, given}
use Rattle.file.specs.Sections.{file_of}
use Rattle.law.specs.Tree.{Sentences, keep}
use Rattle.law.specs.Reading.{sentences_at}
use Rattle.law.specs.Places.{sentences_of, first_sentence}
use Rattle.law.proofs.IndexLaws as indexed
use Rattle.law.proofs.PlaceLaws as places
use Rattle.shapes.specs.Format.{Format, never}
use Rattle.shapes.specs.Join.{join_formats}
use Rattle.shapes.specs.Same.{same_format}
use Rattle.shapes.specs.Words.{format_words, Encodable, read_format}
use Rattle.shapes.specs.Code.Words.{FormatIn}
use Rattle.buffers.specs.Written.{written}
use Rattle.shapes.proofs.WordLaws.{read_write}
use Rattle.formats.specs.FormatOf.{Results}
use Rattle.formats.specs.Code.Entries.{format_in}
use Rattle.formats.specs.Code.Rows.{format_at}
use Rattle.formats.specs.Code.Slots.{file_names, function_folded, position}
use Rattle.formats.specs.Code.Turns.{RoundAsked, Holding, rows_joined, JoinedIs, format_number, too_wide, TurnIs}
use Rattle.std.specs.Prelude.{Result, Ok, Err}
use Rattle.formats.specs.declared.slots.Slots.{Slots}
use Rattle.formats.specs.declared.infer.Side.{Side}
use Rattle.formats.specs.declared.infer.Side.TheVariants as side
use Rattle.formats.specs.declared.TooWide.{TooWide}
use Rattle.formats.proofs.EntryLaws.{results_encodable_lem, patterns_encodable, format_encodable}
use Rattle.formats.proofs.SlotLaws.{function_placed, names_few}
use Rattle.formats.proofs.StateLaws.{part_inside, read_argument, read_result}

-- what sentences join to has at most so many shapes
pub rows_encodable : (limit : ℕ) (patterns : Side) (t : Results) (ss : Sentences) (g : Format) → rows_joined limit patterns t never ss ≡ given g → Encodable limit g
rows_encodable limit side.Pattern t ss g h = patterns_encodable limit never ss g (omega arith) h
rows_encodable limit side.Result t ss g h = results_encodable_lem limit t never ss g (omega arith) h

-- an answer that is given is not a refusal, and says what it gives
pub made_not : {A : Type 0} (a : A) → ◌≡◌ {A = Result A TooWide} (Ok a) (Err too_wide) → ⊥
made_not a e = let z : ◌≡◌ {A = ℕ} 0 1 = cc in omega arith

pub made_is : {A : Type 0} {a b : A} → ◌≡◌ {A = Result A TooWide} (Ok a) (Ok b) → a ≡ b
made_is e = cc

-- a join that was not made
pub turn_over : (limit : ℕ) (patterns : Side) (t : Results) (ss : Sentences) (words : List ℕ) (made : Result (Unit {0}) TooWide) → made ≡ Err too_wide
    → JoinedIs limit (rows_joined limit patterns t never ss) made words → (k : ℕ) (before : List ℕ) → TurnIs limit (rows_joined limit patterns t never ss) k before before (Err too_wide)
turn_over limit patterns t ss words made e h k before = go (rows_joined limit patterns t never ss) h
  where
    go : (joined : Answer Format) → JoinedIs limit joined made words → TurnIs limit joined k before before (Err too_wide)
    go (given g) is = absurd (made_not tt (sym is.0 ∙ e))
    go (refused n) is = (refl, refl)

-- a join that was made
pub joined_made : (limit : ℕ) (joined : Answer Format) (words : List ℕ) (made : Result (Unit {0}) TooWide) → made ≡ Ok tt → JoinedIs limit joined made words
    → (g : Format) × (joined ≡ given g) × (words ≡ format_words limit g)
joined_made limit (given g) words made e h = (g, refl, h.1)
joined_made limit (refused n) words made e h = absurd (made_not tt (sym e ∙ h.0))

module _ (limit : ℕ) (few : limit ≤ 64) (patterns : Side) (t : Results) (ss : Sentences) (words : List ℕ) (ok : Result (Unit {0}) TooWide) (made : ok ≡ Ok tt)
    (joined : JoinedIs limit (rows_joined limit patterns t never ss) ok words) where
  -- its words are a format's
  pub made_format : FormatIn limit words
  made_format =
      let (g, is, same) = joined_made limit (rows_joined limit patterns t never ss) words ok made joined in
      record { format = g; encodable = rows_encodable limit patterns t ss g is; same = same }

  -- and it is joined into the format number k
  pub turn_renewed : (k : ℕ) (before after : List ℕ) (changed : Bool)
      → after ≡ written before (k * (limit + 1)) (format_words limit (join_formats (read_format (format_at limit before k)) (read_format words)))
      → changed ≡ not (same_format (join_formats (read_format (format_at limit before k)) (read_format words)) (read_format (format_at limit before k)))
      → TurnIs limit (rows_joined limit patterns t never ss) k before after (Ok changed)
  turn_renewed k before after changed p q =
      let (g, is, same) = joined_made limit (rows_joined limit patterns t never ss) words ok made joined in
      let reads : read_format words ≡ g = ap read_format same ∙ read_write limit g (rows_encodable limit patterns t ss g is) (omega arith) in
      rw is (rw reads at p, ap (λ b. Ok b) (rw reads at q))

-- the sentences of a function, by the index
module _ {bytes index : List ℕ} {slots : Slots} {limit count : ℕ} (h : RoundAsked bytes index slots limit count) (f : ℕ) (inside : f < (file_of bytes).functions.count) where
  pub turn_few : f + 1 ≤ 64
  turn_few = omega (arith, indexed.functions_limit bytes index h.indexed)

  pub turn_first : get_or index (8 + f) 0 ≡ first_sentence (file_of bytes) f
  turn_first = h.indexed.words.first_sentences f (omega arith)

  pub turn_next : get_or index (8 + (f + 1)) 0 ≡ first_sentence (file_of bytes) f + sentences_of (file_of bytes) f
  turn_next = indexed.sentences_before bytes index h.indexed f inside

  -- the first sentence, and the first of the next function, as the code reads them
  pub turn_sentences : (first next : ℕ) → first ≡ get_or index (8 + f) 0 → next ≡ get_or index (8 + (f + 1)) 0
      → keep (next - first) (sentences_at (file_of bytes) first) ≡ keep (sentences_of (file_of bytes) f) (sentences_at (file_of bytes) (first_sentence (file_of bytes) f))
  turn_sentences first next p q =
      let start : first ≡ first_sentence (file_of bytes) f = p ∙ turn_first in
      let number : next - first ≡ sentences_of (file_of bytes) f = omega (arith, turn_next) in
      rw (number, start)

  pub turn_inside : first_sentence (file_of bytes) f + sentences_of (file_of bytes) f ≤ (file_of bytes).sentences.count
  turn_inside = places.function_inside (file_of bytes) h.indexed.used f inside

  -- the place of its name
  pub turn_place : position (file_names (file_of bytes)) (function_folded (file_of bytes) f) < length (file_names (file_of bytes))
  turn_place = function_placed (file_of bytes) f inside

  -- the number of its format, by its slot
  pub turn_number : (side : Side) (place k : ℕ) → place ≡ get_or slots.functions f 0 → k ≡ format_number side place
      → k ≡ format_number side (position (file_names (file_of bytes)) (function_folded (file_of bytes) f))
  turn_number side place k p q = q ∙ rw (p ∙ h.places.functions f inside)

  pub turn_place_few : position (file_names (file_of bytes)) (function_folded (file_of bytes) f) < 64
  turn_place_few = omega (arith, turn_place, names_few (file_of bytes), indexed.functions_limit bytes index h.indexed)

-- the format number k of a store, as the code lends it
pub lent_is : (limit : ℕ) (store : List ℕ) (number k width : ℕ) → number ≡ k → width ≡ limit + 1
    → take (number * width + width - number * width) (drop (number * width) store) ≡ format_at limit store k
lent_is limit store number k width e w = rw (e, w, add-sub_cancel_left (k * (limit + 1)) (limit + 1))

pub number_less : (patterns : Side) (p : ℕ) → p < 64 → format_number patterns p < 128
number_less side.Pattern p less = omega arith
number_less side.Result p less = omega arith

-- a name's format in the store
module _ {limit : ℕ} {names : List (List ℕ)} {store : List ℕ} (h : Holding limit names store) where
  pub number_within : (patterns : Side) (p : ℕ) → p < length names → format_number patterns p * (limit + 1) + (limit + 1) ≤ length store
  number_within side.Pattern p less = part_inside h.holds (2 * p) (omega arith)
  number_within side.Result p less = part_inside h.holds (2 * p + 1) (omega arith)

  pub number_format : (patterns : Side) (p : ℕ) → p < length names → FormatIn limit (format_at limit store (format_number patterns p))
  number_format side.Pattern p less =
      record {
        format =
            format_in h.arguments p;
        encodable =
            format_encodable limit h.arguments p h.holds.entries.arguments_encodable;
        same = read_argument h.holds p less;
      }
  number_format side.Result p less =
      record {
        format =
            format_in h.results p;
        encodable =
            format_encodable limit h.results p h.holds.entries.results_encodable;
        same = read_result h.holds p less;
      }
