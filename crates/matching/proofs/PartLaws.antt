-- Parts of the term records as rows (specs/Code/Part.antt): the first record with its contents and the rest.
use Prim.Native.Nat.{ℕ, ◌+◌, ◌≤◌, ◌<◌}
use mathlib.Core.List.{List}
use mathlib.Core.Path.{◌≡◌, refl}
use lib.ListN.{length}
use Rattle.file.specs.Word.{word_at}
use Rattle.file.specs.Forest.{Forest, end, node, contents, rest}
use Rattle.file.specs.Head.{term_at}
use Rattle.file.specs.declared.Term.{Term}
use Rattle.file.specs.declared.Term.TheVariants.{Symbol as Symbolic, SVariable, TVariable, EVariable, Bracket, Call, Block}
use Rattle.law.specs.Tree.{Mark, Run, Sentences, no_sentence}
use Rattle.law.specs.Expression.{nothing}
use Rattle.law.specs.Runs.{end_of, term_forest}
use Rattle.law.specs.Reading.{mark_at, term_run, forest_run}
use Rattle.law.proofs.RunLaws.{terms_none, terms_node}
use Rattle.matching.specs.Pattern.{pattern_of}
use Rattle.matching.specs.Code.Part.{row_of, term_row}

-- a term before the runs inside and after it, as a pattern
term_row_lem : (text : List ℕ) (own : ℕ → ℕ → Sentences) (at : ℕ) (mark : Mark) (x : Term) (inside after : Run)
    → pattern_of (term_run text own at mark x inside after) ≡ term_row text x (pattern_of inside) (pattern_of after)
unfolding pattern_of
term_row_lem text own at mark (Symbolic x) inside after = refl
term_row_lem text own at mark (SVariable a b) inside after = refl
term_row_lem text own at mark (TVariable a b) inside after = refl
term_row_lem text own at mark (EVariable a b) inside after = refl
term_row_lem text own at mark Bracket inside after = refl
term_row_lem text own at mark (Call a b) inside after = refl
term_row_lem text own at mark (Block n) inside after = refl

-- record numbers, and what blocks own, do not matter
run_pattern : (text : List ℕ) (own mine : ℕ → ℕ → Sentences) (at here : ℕ) (f : Forest)
    → pattern_of (forest_run text own at f) ≡ pattern_of (forest_run text mine here f)
unfolding forest_run
run_pattern text own mine at here end = refl
run_pattern text own mine at here (node s inside after) =
    rw (
      term_row_lem text own at (mark_at at s 16) (term_at s 0) (forest_run text own (at + 1) inside) (forest_run text own (at + 1 + word_at s 12) after),
      term_row_lem text mine here (mark_at here s 16) (term_at s 0) (forest_run text mine (here + 1) inside) (forest_run text mine (here + 1 + word_at s 12) after),
      run_pattern text own mine (at + 1) (here + 1) inside,
      run_pattern text own mine (at + 1 + word_at s 12) (here + 1 + word_at s 12) after,
    )

-- a part as a row is the pattern of its run, whatever its first record's number is
pub row_run : (text : List ℕ) (own : ℕ → ℕ → Sentences) (at : ℕ) (part : List ℕ) → pattern_of (forest_run text own at (term_forest part)) ≡ row_of text part
unfolding row_of
row_run text own at part = run_pattern text own (λ t n. no_sentence) at 0 (term_forest part)

-- too few bytes for a record are nothing
pub row_empty : (text part : List ℕ) → length part < 24 → row_of text part ≡ nothing
unfolding row_of forest_run pattern_of
row_empty text part h = rw (terms_none part h)

-- the first record, with its contents and the rest
pub row_node : (text part : List ℕ) → 24 ≤ length part
    → row_of text part ≡ term_row text (term_at part 0) (row_of text (contents 24 end_of part)) (row_of text (rest 24 end_of part))
unfolding forest_run
row_node text part h =
    let own : ℕ → ℕ → Sentences = λ t n. no_sentence in
    rw (
      ← row_run text own 0 part,
      terms_node part h,
      term_row_lem text own 0 (mark_at 0 part 16) (term_at part 0) (forest_run text own (0 + 1) (term_forest (contents 24 end_of part)))
          (forest_run text own (0 + 1 + word_at part 12) (term_forest (rest 24 end_of part))),
      row_run text own (0 + 1) (contents 24 end_of part),
      row_run text own (0 + 1 + word_at part 12) (rest 24 end_of part),
    )
