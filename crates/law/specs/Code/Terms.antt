-- Terms and conditions, as the functions that walk through a law speak of them.
use Rattle.std.specs.Prelude.{ℕ, suc, ◌≤◌, ◌<◌, List, [], ◌∷◌, ◌++◌}
use Rattle.names.specs.Name.{folded_index}
use Rattle.file.specs.Sections.{File}
use Rattle.file.specs.declared.Term as terms
use Rattle.law.specs.Tree.{Run, empty, symbol, variable, bracket, call, block}
use Rattle.law.specs.Places.{first_condition}
use Rattle.law.specs.Variables.{Variable}

-- the condition c is one of the sentence s
pub record Owns (file : File) (s c : ℕ) : Type 0 where
  pub sentence : s < file.sentences.count
  pub from : first_condition file s ≤ c
  pub up_to : c < first_condition file (suc s)

-- a term's number of sentences, 0 where it is no block
abbrev pub sentences_in : terms.Term → ℕ
sentences_in (terms.TheVariants.Symbol x) = 0
sentences_in (terms.TheVariants.SVariable a b) = 0
sentences_in (terms.TheVariants.TVariable a b) = 0
sentences_in (terms.TheVariants.EVariable a b) = 0
sentences_in terms.TheVariants.Bracket = 0
sentences_in (terms.TheVariants.Call a b) = 0
sentences_in (terms.TheVariants.Block n) = n

-- a run's first term alone
unfoldable pub first_term : Run → Run
first_term empty = empty
first_term (symbol x after) = symbol x empty
first_term (variable k i after) = variable k i empty
first_term (bracket inside after) = bracket inside empty
first_term (call m f inside after) = call m f inside empty
first_term (block m inside ss after) = block m inside ss empty

-- the variables of a run of the tree, in record order: those inside brackets, calls and blocks' arguments too, those of blocks' sentences not
unfoldable pub run_variables : Run → List Variable
run_variables empty = []
run_variables (symbol x after) = run_variables after
run_variables (variable k i after) = record { kind = k; index = folded_index i.spelled } ∷ run_variables after
run_variables (bracket inside after) = run_variables inside ++ run_variables after
run_variables (call m f inside after) = run_variables inside ++ run_variables after
run_variables (block m inside ss after) = run_variables inside ++ run_variables after
