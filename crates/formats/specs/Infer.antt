-- Inference by rounds, as `infer_formats` does it. Document 01, "Formats": "`infer_formats` rounds go through the functions in file order, each using results
-- already renewed in that round. At most distinct folded names + 4 rounds run; an unchanged round is the last. Settled (added): 1 if the last round
-- changed nothing, else 0." The limit on shapes and the limit on rounds are parameters.
-- docs/SPECIFICATION.md, 4.1 to 4.5, 5.1.
use Rattle.std.specs.Prelude.{ℕ, zero, suc, ◌+◌, Bool, true, false, cond, not, ◌||◌, List, [], ◌∷◌, length, ltb}
use Rattle.std.proofs.Math.Option.{Option, none, some}
use Rattle.names.specs.Name.{folded, same_bytes, order_bytes}
use Rattle.std.specs.declared.cmp.Ordering.TheVariants.{Less, Equal, Greater}
use Rattle.file.specs.Answer.{Answer, given, refuse_if, ◌>>=◌, ◌>>◌}
use Rattle.law.specs.Tree.{Sentences, no_sentence, sentence, Law}
use Rattle.shapes.specs.Format.{Format, never, of, size}
use Rattle.shapes.specs.Join.{join_formats}
use Rattle.formats.specs.FormatOf.{pattern_shapes, Results, result_shapes}
use Rattle.shapes.specs.Same.{same_format}

-- a name with a format
pub record Entry : Type 0 where
  pub name : List ℕ
  pub format : Format

-- a name put in its place among sorted names; a name that is there already is not put again
unfoldable pub insert_name : List ℕ → List (List ℕ) → List (List ℕ)
insert_name n [] = n ∷ []
insert_name n (m ∷ ms) = elim (order_bytes n m) as (λ _. List (List ℕ)) [
  | Less ↦ n ∷ m ∷ ms
  | Equal ↦ m ∷ ms
  | Greater ↦ m ∷ insert_name n ms
]

-- the law's distinct folded names, sorted by bytes
unfoldable pub names_of : Law → List (List ℕ)
names_of [] = []
names_of (f ∷ fs) = insert_name (folded f.name.spelled) (names_of fs)

-- the format found for a name
unfoldable pub find : List Entry → Results
find [] n = none
find (e ∷ es) n = cond (same_bytes e.name n) (some e.format) (find es n)

-- the entries with the one of this name changed
unfoldable pub renew : List ℕ → Format → List Entry → List Entry
renew n f [] = []
renew n f (e ∷ es) = cond (same_bytes e.name n) (record { name = e.name; format = f } ∷ es) (e ∷ renew n f es)

-- a found format, never where there is none
abbrev pub or_never : Option Format → Format
or_never none = never
or_never (some f) = f

-- every name at one format
unfoldable pub all_at : Format → List (List ℕ) → List Entry
all_at f [] = []
all_at f (n ∷ ns) = record { name = n; format = f } ∷ all_at f ns

-- "over 64 shapes in the format of [..] its result in a round": the join of the results of sentences, with what was joined before
unfoldable pub join_results : ℕ → Results → Format → Sentences → Answer Format
join_results limit t f no_sentence = given f
join_results limit t f (sentence m p cs r ss) = do
  refuse_if 10 (ltb limit (size (result_shapes t r)))
  join_results limit t (join_formats f (of (result_shapes t r))) ss

-- "over 64 shapes in the format of a sentence's pattern"
unfoldable pub join_patterns : ℕ → Format → Sentences → Answer Format
join_patterns limit f no_sentence = given f
join_patterns limit f (sentence m p cs r ss) = do
  refuse_if 10 (ltb limit (size (pattern_shapes p)))
  join_patterns limit (join_formats f (of (pattern_shapes p))) ss

-- one round over the functions, and whether a format changed in it
unfoldable pub round : ℕ → Law → List Entry → Bool → Answer (List Entry × Bool)
round limit [] es changed = given (es, changed)
round limit (f ∷ fs) es changed = do
  g ← join_results limit (find es) never f.sentences
  let n : List ℕ = folded f.name.spelled
  let old : Format = or_never (find es n)
  round limit fs (renew n (join_formats old g) es) (changed || not (same_format (join_formats old g) old))

-- what inference by rounds leaves
pub record Rounds : Type 0 where
  pub results : List Entry
  pub rounds : ℕ
  pub settled : Bool

-- at most so many rounds more, after some
unfoldable pub rounds_from : ℕ → ℕ → Law → List Entry → ℕ → Answer Rounds
rounds_from limit zero law es done = given (record { results = es; rounds = done; settled = false })
rounds_from limit (suc left) law es done = do
  (next, changed) ← round limit law es false
  elim changed as (λ _. Answer Rounds) [
    | true ↦ rounds_from limit left law next (suc done)
    | false ↦ given (record { results = next; rounds = suc done; settled = true })
  ]

-- "At most distinct folded names + 4 rounds run"
abbrev pub round_limit : Law → ℕ
round_limit law = length (names_of law) + 4

-- argument formats: a name's functions join, in file order
unfoldable pub arguments : ℕ → Law → List Entry → Answer (List Entry)
arguments limit [] es = given es
arguments limit (f ∷ fs) es = do
  g ← join_patterns limit never f.sentences
  let n : List ℕ = folded f.name.spelled
  arguments limit fs (renew n (join_formats (or_never (find es n)) g) es)

-- the formats of a law: by sorted folded name, arguments and results
pub record Formats : Type 0 where
  pub arguments : List Entry
  pub results : List Entry

-- what inference gives: formats, how many rounds ran, and whether the last changed nothing
pub record Inferred : Type 0 where
  pub formats : Formats
  pub rounds : ℕ
  pub settled : Bool

unfoldable pub infer_within : ℕ → ℕ → Law → Answer Inferred
infer_within limit most law = do
  found ← arguments limit law (all_at never (names_of law))
  r ← rounds_from limit most law (all_at never (names_of law)) 0
  given (record { formats = record { arguments = found; results = r.results }; rounds = r.rounds; settled = r.settled })

-- what the inference of a law gives, with at most so many shapes in a format; document 01 asks for 64
unfoldable pub infer : ℕ → Law → Answer Inferred
infer limit law = infer_within limit (round_limit law) law
