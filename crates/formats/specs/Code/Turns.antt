-- What the functions that infer formats promise, between a row of shapes and the whole call.
use Rattle.std.specs.Prelude.{ℕ, zero, suc, ◌+◌, ◌*◌, ◌≤◌, ◌<◌, Bool, false, not, cond, List, [], ◌∷◌, ◌++◌, ◌≡◌, length, drop, replicate, Result, Ok, Err}
use Rattle.names.specs.Name.{folded}
use Rattle.file.specs.Answer.{Answer, refused, given}
use Rattle.file.specs.Sections.{File, file_of}
use Rattle.law.specs.Tree.{Sentences, Law}
use Rattle.law.specs.Places.{pattern_at, pattern_part, result_at, result_part}
use Rattle.law.specs.Reading.{run_of, own}
use Rattle.law.specs.Code.Index.{Indexed, Readable}
use Rattle.shapes.specs.Format.{Shapes, Format, never, of, size}
use Rattle.shapes.specs.Join.{join_formats}
use Rattle.shapes.specs.Same.{same_format}
use Rattle.shapes.specs.Words.{format_words, Encodable, read_format}
use Rattle.buffers.specs.Written.{written}
use Rattle.formats.specs.FormatOf.{pattern_shapes, Results, result_shapes}
use Rattle.formats.specs.Infer.{Entry, find, renew, or_never, join_results, join_patterns, round, Rounds, Inferred}
use Rattle.formats.specs.Store.{store_size, store_words}
use Rattle.formats.specs.Code.Entries.{StoreHolds}
use Rattle.formats.specs.Code.Slots.{SlotsOf, file_names}
use Rattle.formats.specs.Code.Rows.{format_at}
use Rattle.formats.specs.declared.slots.Slots.{Slots}
use Rattle.formats.specs.declared.infer.Side.{Side}
use Rattle.formats.specs.declared.infer.Side.TheVariants.{Pattern, Result as Results_of}
use Rattle.formats.specs.declared.TooWide.{TooWide}
use Rattle.formats.specs.declared.Inferred as code

-- a law that refusals 1 to 7 let pass, its index and the places of its names; and a limit on shapes
pub record RoundAsked (bytes index : List ℕ) (slots : Slots) (limit count : ℕ) : Type 0 where
  pub indexed : Indexed bytes index
  pub readable : Readable (file_of bytes)
  pub places : SlotsOf (file_of bytes) slots
  pub names : count ≡ length (file_names (file_of bytes))
  pub small : limit ≤ 64

-- a store that holds formats for names
pub record Holding (limit : ℕ) (names : List (List ℕ)) (store : List ℕ) : Type 0 where
  pub arguments : List Entry
  pub results : List Entry
  pub tail : List ℕ
  pub holds : StoreHolds limit names arguments results tail store

-- the formats that a store says for names: those number k, k + 2 and so on
unfoldable pub entries_from : ℕ → List ℕ → ℕ → List (List ℕ) → List Entry
entries_from limit store k [] = []
entries_from limit store k (n ∷ ns) = record { name = n; format = read_format (format_at limit store k) } ∷ entries_from limit store (k + 2) ns

abbrev pub arguments_in : ℕ → List (List ℕ) → List ℕ → List Entry
arguments_in limit names store = entries_from limit store 0 names

abbrev pub results_in : ℕ → List (List ℕ) → List ℕ → List Entry
results_in limit names store = entries_from limit store 1 names

-- what is over the limit on shapes
abbrev pub too_wide : TooWide
too_wide = record {}

-- the words of a format that the store has words for; or zeros
pub record FormatMade (limit : ℕ) (f : Shapes) (made : Result (Unit {0}) TooWide) (words : List ℕ) : Type 0 where
  pub fits : Encodable limit (of f) → (made ≡ Ok tt) × (words ≡ format_words limit (of f))
  pub over : limit < size f → (made ≡ Err too_wide) × (words ≡ replicate (limit + 1) 0)
  pub kept : length words ≡ limit + 1

-- the row of a sentence's pattern or result
abbrev pub sentence_shapes : File → Side → Results → ℕ → Shapes
sentence_shapes file Pattern t s = pattern_shapes (run_of file (own file) (pattern_at file s) (pattern_part file s))
sentence_shapes file Results_of t s = result_shapes t (run_of file (own file) (result_at file s) (result_part file s))

-- the join of sentences' patterns or results, with what was joined before
abbrev pub rows_joined : ℕ → Side → Results → Format → Sentences → Answer Format
rows_joined limit Pattern t f ss = join_patterns limit f ss
rows_joined limit Results_of t f ss = join_results limit t f ss

-- a join that was given, every word of it, or that was refused
abbrev pub JoinedIs : ℕ → Answer Format → Result (Unit {0}) TooWide → List ℕ → Type 0
JoinedIs limit (given f) made words = (made ≡ Ok tt) × (words ≡ format_words limit f)
JoinedIs limit (refused n) made words = (made ≡ Err too_wide) × (length words ≡ limit + 1)

-- the number of a name's argument or result format in the store
abbrev pub format_number : Side → ℕ → ℕ
format_number Pattern place = 2 * place
format_number Results_of place = 2 * place + 1

-- a function's turn: what was joined goes into the format number k of the store, or nothing changes where it was refused
abbrev pub TurnIs : ℕ → Answer Format → ℕ → List ℕ → List ℕ → Result Bool TooWide → Type 0
TurnIs limit (given g) k before after r =
    (after ≡ written before (k * (limit + 1)) (format_words limit (join_formats (read_format (format_at limit before k)) g)))
    × (r ≡ Ok (not (same_format (join_formats (read_format (format_at limit before k)) g) (read_format (format_at limit before k)))))
TurnIs limit (refused n) k before after r = (after ≡ before) × (r ≡ Err too_wide)

-- where a refusal stops inference: the entries that the turns before it leave
abbrev pub or_stop : Answer Format → List Entry → (Format → List Entry) → List Entry
or_stop (refused n) es next = es
or_stop (given g) es next = next g

unfoldable pub arguments_stop : ℕ → Law → List Entry → List Entry
arguments_stop limit [] es = es
arguments_stop limit (f ∷ fs) es =
    let n : List ℕ = folded f.name.spelled in
    or_stop (join_patterns limit never f.sentences) es (λ g. arguments_stop limit fs (renew n (join_formats (or_never (find es n)) g) es))

unfoldable pub round_stop : ℕ → Law → List Entry → List Entry
round_stop limit [] es = es
round_stop limit (f ∷ fs) es =
    let n : List ℕ = folded f.name.spelled in
    or_stop (join_results limit (find es) never f.sentences) es (λ g. round_stop limit fs (renew n (join_formats (or_never (find es n)) g) es))

-- by a round's answer: the round that is refused, or a round that changes nothing, is the last
abbrev pub or_last : Answer (List Entry × Bool) → List Entry → (List Entry → List Entry) → List Entry
or_last (refused n) stop next = stop
or_last (given made) stop next = cond made.1 (next made.0) made.0

unfoldable pub rounds_stop : ℕ → ℕ → Law → List Entry → List Entry
rounds_stop limit zero law es = es
rounds_stop limit (suc left) law es = or_last (round limit law es false) (round_stop limit law es) (λ next. rounds_stop limit left law next)

-- the argument formats after all functions' turns; where a pattern is over the limit, those where it stops
abbrev pub ArgumentsIs : ℕ → List (List ℕ) → Answer (List Entry) → List Entry → List Entry → List ℕ → List ℕ → Result (Unit {0}) TooWide → Type 0
ArgumentsIs limit names (given next) stop results tail after ok = StoreHolds limit names next results tail after × (ok ≡ Ok tt)
ArgumentsIs limit names (refused n) stop results tail after ok = StoreHolds limit names stop results tail after × (ok ≡ Err too_wide)

-- the result formats after a round, and whether one changed; where a result is over the limit, those where it stops
abbrev pub RoundIs : ℕ → List (List ℕ) → Answer (List Entry × Bool) → List Entry → List Entry → List ℕ → List ℕ → Result Bool TooWide → Type 0
RoundIs limit names (given next) stop arguments tail after r = StoreHolds limit names arguments next.0 tail after × (r ≡ Ok next.1)
RoundIs limit names (refused n) stop arguments tail after r = StoreHolds limit names arguments stop tail after × (r ≡ Err too_wide)

-- the result formats after the rounds, their number and whether the last was quiet; where a result is over the limit, those where it stops
abbrev pub RoundsIs : ℕ → List (List ℕ) → Answer Rounds → List Entry → List Entry → List ℕ → List ℕ → Result code.Inferred TooWide → Type 0
RoundsIs limit names (given r) stop arguments tail after i = StoreHolds limit names arguments r.results tail after × (i ≡ Ok (record { rounds = r.rounds; settled = r.settled }))
RoundsIs limit names (refused n) stop arguments tail after i = StoreHolds limit names arguments stop tail after × (i ≡ Err too_wide)

-- the formats after the arguments and the rounds, in a store that held never
abbrev pub StartedIs : ℕ → List (List ℕ) → Answer Inferred → List ℕ → List ℕ → Result code.Inferred TooWide → Type 0
StartedIs limit names (given i) tail after r = StoreHolds limit names i.formats.arguments i.formats.results tail after × (r ≡ Ok (record { rounds = i.rounds; settled = i.settled }))
StartedIs limit names (refused n) tail after r = (found results : List Entry) × StoreHolds limit names found results tail after × (r ≡ Err too_wide)

-- the same in any store that is long enough: zeros where it was refused, and words past the store are kept
abbrev pub InferIs : ℕ → Answer Inferred → List ℕ → List ℕ → Result code.Inferred TooWide → Type 0
InferIs limit (given i) before after r = (after ≡ store_words limit i ++ drop (store_size limit) before) × (r ≡ Ok (record { rounds = i.rounds; settled = i.settled }))
InferIs limit (refused n) before after r = (after ≡ replicate (store_size limit) 0 ++ drop (store_size limit) before) × (r ≡ Err too_wide)
