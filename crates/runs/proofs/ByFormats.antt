-- Formats against a run. By a settled table of results, what a result can come to is admitted by its format; what a pattern matches is admitted by
-- the pattern's format; so where an argument's format and a function's argument format share nothing, no sentence of the function matches.
use Prim.Native.Nat.{ℕ}
use mathlib.Core.Bool.{true}
use mathlib.Core.List.{List, [], ◌∷◌}
use mathlib.Core.Option.{some, none}
use mathlib.Core.Path.{◌≡◌, refl, sym, ap, ◌∙◌}
use lib.Dec.{T}
use Rattle.names.specs.Name.{folded, folded_index}
use Rattle.file.specs.Answer.{given}
use Rattle.law.specs.Tree as tree
use Rattle.law.specs.Tree.{Kind, symbol_kind, term_kind, expression_kind, Run, Sentences, no_sentence, sentence, Law}
use Rattle.law.specs.Expression.{Literal, Expression, nothing, symbol, brackets, ◌⊕◌}
use Rattle.law.specs.Variables.{Variable}
use Rattle.matching.specs.Pattern.{pattern_of}
use Rattle.matching.specs.Match.{Values, none_bound, some_in, any_literal, run_matches}
use Rattle.matching.specs.Fill.{OfKind, run_filled, RunKinded}
use Rattle.matching.proofs.FillLaws.{matches_iff}
use Rattle.shapes.specs.Format.{Shapes, Format, of, Admits, FormatAdmits}
use Rattle.shapes.specs.Disjoint.{disjoint_formats}
use Rattle.shapes.proofs.LeafLaws.{leaf_of_held}
use Rattle.shapes.proofs.JoinLaws.{Within}
use Rattle.shapes.proofs.DisjointLaws.{disjoint_exact}
use Rattle.formats.specs.FormatOf.{variable_shapes, pattern_shapes, result_shapes}
use Rattle.formats.specs.Infer.{Entry, find, or_never, Inferred, infer}
use Rattle.formats.proofs.FormatOfLaws.{MayGive, extend_admits}
use Rattle.formats.proofs.TableLaws.{find_undefined}
use Rattle.formats.proofs.RoundLaws.{EachSentence, each_sentence_map, ResultsWithin, PatternsWithin, results_admitted, patterns_admitted, Holds, infer_holds}
use Rattle.law.specs.Definition.{definition}
use Rattle.runs.proofs.Fits.{Fits, fits_empty, fits_symbol, fits_variable, fits_bracket, fits_call, fits_block}
use Rattle.runs.proofs.Invariant.{NoneMatches}
use Rattle.lints.proofs.Everywhere.{each_function_in}
use Rattle.lints.proofs.Defined.{definition_in, undefined_name}

-- ---- what is admitted

-- a variable's value before the rest
variable_admitted : (k : Kind) (u : Expression) (f : Shapes) (w : Expression) → OfKind any_literal any_literal k u → Admits f w
    → Admits (variable_shapes k f) (u ⊕ w)
variable_admitted symbol_kind nothing f w h g = elim h [ ]
variable_admitted symbol_kind (symbol a nothing) f w h g = (tt, g)
variable_admitted symbol_kind (symbol a (symbol _ _)) f w h g = elim h [ ]
variable_admitted symbol_kind (symbol a (brackets _ _)) f w h g = elim h [ ]
variable_admitted symbol_kind (brackets c _) f w h g = elim h [ ]
variable_admitted term_kind nothing f w h g = elim h [ ]
variable_admitted term_kind (symbol a nothing) f w h g = (tt, g)
variable_admitted term_kind (symbol a (symbol _ _)) f w h g = elim h [ ]
variable_admitted term_kind (symbol a (brackets _ _)) f w h g = elim h [ ]
variable_admitted term_kind (brackets c nothing) f w h g = (tt, g)
variable_admitted term_kind (brackets c (symbol _ _)) f w h g = elim h [ ]
variable_admitted term_kind (brackets c (brackets _ _)) f w h g = elim h [ ]
variable_admitted expression_kind u f w h g = tt

-- what a call of a folded name can come to, by a table: anything, where no function has the name
abbrev pub ComesTo : List Entry → List ℕ → Expression → Type 0
ComesTo results f a = MayGive (find results f) a

-- what a result can come to is admitted by its format
pub fits_admitted : (results : List Entry) {r : Run} {v : Expression} → Fits (ComesTo results) r v → Admits (result_shapes (find results) r) v
unfolding result_shapes
fits_admitted results fits_empty = tt
fits_admitted results (fits_symbol {a = a} f) = (leaf_of_held a, fits_admitted results f)
fits_admitted results (fits_variable {k = k} {r = r} u {w = w} h f) = variable_admitted k u (result_shapes (find results) r) w h (fits_admitted results f)
fits_admitted results (fits_bracket g f) = (fits_admitted results g, fits_admitted results f)
fits_admitted results (fits_call {f = name} {r = r} u {w = w} h f) =
    extend_admits (find results (folded name.spelled)) (result_shapes (find results) r) u w h (fits_admitted results f)
fits_admitted results (fits_block u f) = tt

-- a pattern filled with values of the right kinds is admitted by its format
filled_admitted : (σ : Variable → Expression) → RunKinded σ → (p : Run) → Admits (pattern_shapes p) (run_filled σ (pattern_of p))
unfolding pattern_shapes pattern_of
filled_admitted σ kinded tree.Run.empty = tt
filled_admitted σ kinded (tree.Run.symbol a p) = (leaf_of_held a, filled_admitted σ kinded p)
filled_admitted σ kinded (tree.Run.variable k i p) =
    variable_admitted k (σ (record { kind = k; index = folded_index i.spelled })) (pattern_shapes p) (run_filled σ (pattern_of p))
    (kinded (record { kind = k; index = folded_index i.spelled })) (filled_admitted σ kinded p)
filled_admitted σ kinded (tree.Run.bracket q p) = (filled_admitted σ kinded q, filled_admitted σ kinded p)
filled_admitted σ kinded (tree.Run.call m f q p) = tt
filled_admitted σ kinded (tree.Run.block m q ss p) = tt

-- what a pattern matches is admitted by its format
pub match_admitted : (p : Run) (v : Expression) → some_in (run_matches (pattern_of p) v none_bound) ≡ true → Admits (pattern_shapes p) v
match_admitted p v h =
    let (plain, (σ, kinded, fills)) = (matches_iff (pattern_of p) v).0 h in
    rw fills at (filled_admitted σ kinded p)

-- ---- the sentences of a definition

-- nothing is in an empty list, and something in any other
pub none_in : (es : List (Values Literal)) → (some_in es ≡ true → ⊥) → es ≡ []
none_in [] h = refl
none_in (env ∷ es) h = absurd (h refl)

-- where a format that is over every pattern's does not admit an expression, no sentence matches it
pub outside_none_matches : (ss : Sentences) (format : Format) → EachSentence (λ p r. Within (of (pattern_shapes p)) format) ss
    → (v : Expression) → (FormatAdmits format v → ⊥) → NoneMatches ss v
outside_none_matches no_sentence format h v out = tt
outside_none_matches (sentence m p cs r ss) format h v out = (
  none_in (run_matches (pattern_of p) v none_bound) (λ e. out (h.0 v (match_admitted p v e))),
  outside_none_matches ss format h.1 v out,
)

-- ---- in inferred formats

module _ (limit : ℕ) (law : Law) (i : Inferred) (inferred : infer limit law ≡ given i) where
  holds : Holds limit law i
  holds = infer_holds limit law i inferred

  -- what is not defined can come to anything
  pub undefined_comes : (f : List ℕ) → definition law f ≡ none → (a : Expression) → ComesTo i.formats.results f a
  undefined_comes f e a = rw (find_undefined law i.formats.results f holds.result_names (undefined_name law f e)) tt

  -- in a settled table, each result of a function comes to what the function can come to
  pub result_comes : i.settled ≡ true → (f : List ℕ) (ss : Sentences) → definition law f ≡ some ss
      → EachSentence (λ p r. (w : Expression) → Fits (ComesTo i.formats.results) r w → ComesTo i.formats.results f w) ss
  result_comes settled f ss e =
      let (d, in_law, name, same) = definition_in law f ss e in
      let within : ResultsWithin i.formats.results d = each_function_in (ResultsWithin i.formats.results) law (holds.results settled) d in_law in
      rw same at
      (each_sentence_map (λ p r. Within (of (result_shapes (find i.formats.results) r)) within.format)
      (λ p r. (w : Expression) → Fits (ComesTo i.formats.results) r w → ComesTo i.formats.results f w)
      (λ p r over w fits. rw (← name, within.is_found) (over w (fits_admitted i.formats.results fits)))
      d.sentences (results_admitted i.formats.results d within))

  -- where an argument's format shares nothing with the function's argument format, no sentence matches what the argument can come to. The argument
  -- format joins all functions of the name, and the last of them is called: two functions of one name do no harm
  pub disjoint_none_matches : (f : List ℕ) (q : Run) → disjoint_formats (of (result_shapes (find i.formats.results) q)) (or_never (find i.formats.arguments f)) ≡ true
      → (v : Expression) → Fits (ComesTo i.formats.results) q v → (ss : Sentences) → definition law f ≡ some ss → NoneMatches ss v
  disjoint_none_matches f q apart v fits ss e =
      let (d, in_law, name, same) = definition_in law f ss e in
      let within : PatternsWithin i.formats.arguments d = each_function_in (PatternsWithin i.formats.arguments) law holds.patterns d in_law in
      let found : or_never (find i.formats.arguments f) ≡ within.format =
      ap (λ n. or_never (find i.formats.arguments n)) (sym name) ∙ ap or_never within.is_found in
      let told : T (disjoint_formats (of (result_shapes (find i.formats.results) q)) within.format) = rw (← found, apart) tt in
      rw same at
      (outside_none_matches d.sentences within.format (patterns_admitted i.formats.arguments d within) v
      (λ a. (disjoint_exact (of (result_shapes (find i.formats.results) q)) within.format).0 told v (fits_admitted i.formats.results fits) a))
