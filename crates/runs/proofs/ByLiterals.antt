-- Literal matching against a run. An argument without variables, calls and blocks comes to one expression; where literal matching finds no match for
-- it, a run finds none.
use Prim.Native.Nat.{ℕ}
use mathlib.Core.Bool.{true}
use mathlib.Core.List.{List}
use mathlib.Core.Path.{◌≡◌, refl, sym, ap, ap₂, ◌∙◌}
use Rattle.names.proofs.Laws.{both_hold}
use Rattle.law.specs.Tree as tree
use Rattle.law.specs.Tree.{Name, Run, Sentences, no_sentence, sentence}
use Rattle.law.specs.Expression.{Expression, symbol, brackets}
use Rattle.law.specs.Symbol.{symbol_of, literal_of}
use Rattle.matching.specs.Pattern.{pattern_of}
use Rattle.matching.specs.Match.{none_bound, run_matches}
use Rattle.matching.specs.Literal.{is_literal, literal_terms, changed, expression_of, InDigits, RunInDigits}
use Rattle.matching.proofs.SameLaws.{false_not_true}
use Rattle.matching.proofs.LiteralLaws.{literal_misses_nothing}
use Rattle.runs.proofs.Fits.{Fits, fits_empty, fits_symbol, fits_variable, fits_bracket, fits_call, fits_block}
use Rattle.runs.proofs.Invariant.{NoneMatches}
use Rattle.runs.proofs.ByFormats.{none_in}
use Rattle.lints.proofs.Everywhere.{EveryRun, EverySentence}
use Rattle.lints.proofs.Listed.{NoLiteralMatch}

-- a literal run comes to its own symbols and brackets
pub literal_comes : (Res : List ℕ → Expression → Type 0) {r : Run} {v : Expression} → Fits Res r v → is_literal r ≡ true
    → v ≡ expression_of (literal_terms r)
unfolding is_literal literal_terms changed
literal_comes Res fits_empty h = refl
literal_comes Res (fits_symbol {a = a} f) h = ap (symbol (literal_of (symbol_of a))) (literal_comes Res f h)
literal_comes Res (fits_variable u k f) h = absurd (false_not_true h)
literal_comes Res (fits_bracket {q = q} {r = r} g f) h =
    let (inside, after) = both_hold (is_literal q) (is_literal r) h in
    ap₂ brackets (literal_comes Res g inside) (literal_comes Res f after)
literal_comes Res (fits_call u k f) h = absurd (false_not_true h)
literal_comes Res (fits_block u f) h = absurd (false_not_true h)

-- ---- no literal match, none in a run

module _ (OfCall : ℕ → Name → Run → Type 0) (OfBlock : ℕ → Type 0) where
  -- the numbers of an accepted law are spelled by digits, so those that stand in a pattern
  run_in_digits : (r : Run) → EveryRun InDigits OfCall OfBlock r → RunInDigits r
  run_in_digits tree.Run.empty h = tt
  run_in_digits (tree.Run.symbol a r) h = (h.0, run_in_digits r h.1)
  run_in_digits (tree.Run.variable k i r) h = run_in_digits r h
  run_in_digits (tree.Run.bracket q r) h = (run_in_digits q h.0, run_in_digits r h.1)
  run_in_digits (tree.Run.call m f q r) h = run_in_digits r h.2
  run_in_digits (tree.Run.block m q ss r) h = run_in_digits r h.2

  pub literal_none_matches : (q : Run) → EveryRun InDigits OfCall OfBlock q → (ss : Sentences) → EverySentence InDigits OfCall OfBlock ss
      → NoLiteralMatch ss (literal_terms q) → NoneMatches ss (expression_of (literal_terms q))
  literal_none_matches q a no_sentence b h = tt
  literal_none_matches q a (sentence m p cs r ss) b h = (
    none_in (run_matches (pattern_of p) (expression_of (literal_terms q)) none_bound)
        (λ e. false_not_true (sym h.0 ∙ literal_misses_nothing p q (run_in_digits p b.0) (run_in_digits q a) e)),
    literal_none_matches q a ss b.3 h.1,
  )
