-- Row 9: "over 32 distinct variables in a sentence's pattern". Every variable record of the pattern's run counts, inside a call or a block's
-- argument too. Two variables are the same when kind and folded index are.
-- docs/SPECIFICATION.md, 1.9, 2.6.
use Rattle.std.specs.Prelude.{ℕ, zero, suc, ◌*◌, List, [], ◌∷◌, ◌++◌, Bool, true, false, cond, ◌&&◌, ◌||◌, take, drop, leb}
use Rattle.names.specs.Name.{folded_index, same_bytes}
use Rattle.file.specs.Below.{every}
use Rattle.file.specs.Sections.{File}
use Rattle.file.specs.Head.{term_at}
use Rattle.file.specs.declared.Term as terms
use Rattle.law.specs.Tree.{Kind, symbol_kind, term_kind, expression_kind}
use Rattle.law.specs.Places.{pattern_at, pattern_size}

-- a variable: its kind and its folded index
pub record Variable : Type 0 where
  pub kind : Kind
  pub index : List ℕ

abbrev pub same_kind : Kind → Kind → Bool
same_kind symbol_kind symbol_kind = true
same_kind symbol_kind term_kind = false
same_kind symbol_kind expression_kind = false
same_kind term_kind symbol_kind = false
same_kind term_kind term_kind = true
same_kind term_kind expression_kind = false
same_kind expression_kind symbol_kind = false
same_kind expression_kind term_kind = false
same_kind expression_kind expression_kind = true

abbrev pub same_variable : Variable → Variable → Bool
same_variable v w = same_kind v.kind w.kind && same_bytes v.index w.index

-- the variable that a term record is, if it is one
abbrev pub variable_of : List ℕ → terms.Term → List Variable
variable_of text (terms.TheVariants.Symbol x) = []
variable_of text (terms.TheVariants.SVariable a b) = record { kind = symbol_kind; index = folded_index (take b (drop a text)) } ∷ []
variable_of text (terms.TheVariants.TVariable a b) = record { kind = term_kind; index = folded_index (take b (drop a text)) } ∷ []
variable_of text (terms.TheVariants.EVariable a b) = record { kind = expression_kind; index = folded_index (take b (drop a text)) } ∷ []
variable_of text terms.TheVariants.Bracket = []
variable_of text (terms.TheVariants.Call a b) = []
variable_of text (terms.TheVariants.Block n) = []

-- the variables of so many term records from record t on, in record order
unfoldable pub variables_from : List ℕ → List ℕ → ℕ → ℕ → List Variable
variables_from text records zero t = []
variables_from text records (suc left) t = variable_of text (term_at records (24 * t)) ++ variables_from text records left (suc t)

unfoldable pub occurs : Variable → List Variable → Bool
occurs v [] = false
occurs v (w ∷ ws) = same_variable v w || occurs v ws

-- how many different variables there are: each counts where it stands last
unfoldable pub distinct : List Variable → ℕ
distinct [] = 0
distinct (v ∷ vs) = cond (occurs v vs) (distinct vs) (suc (distinct vs))

-- the variables of a sentence's pattern
abbrev pub pattern_variables : File → ℕ → List Variable
pattern_variables file s = variables_from file.text.records file.terms.records (pattern_size file s) (pattern_at file s)

-- row 9
unfoldable pub patterns_allowed : File → Bool
patterns_allowed file = every file.sentences.count (λ s. leb (distinct (pattern_variables file s)) 32)
