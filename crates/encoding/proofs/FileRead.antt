-- The file that a text within the limits becomes is read as the text: no refusal 6 or 7, 5 and 9 as the text has them, and the text's tree.
use Prim.Native.Nat.{ℕ, ◌≤◌}
use mathlib.Core.List.{List, [], ◌∷◌, ◌++◌, flat_map}
use mathlib.Core.Bool.{true}
use mathlib.Core.Path.{◌≡◌, refl, ap, ◌∙◌}
use native.Mathlib.Omega.{arith}
use lib.ListN.{length, length-append, length-map}
use lib.Seq.{take-length}
use Rattle.file.specs.Sections.{File}
use Rattle.file.specs.Fields.{fields_allowed}
use Rattle.law.specs.Places as places
use Rattle.law.specs.Runs.{runs_allowed, blocks_allowed}
use Rattle.law.specs.Reading.{tree_of}
use Rattle.law.specs.Variables.{patterns_allowed}
use Rattle.grammar.specs.Grammar.{Conditions, no_condition, condition, Sentence, Function, Text, Written}
use Rattle.encoding.specs.Encode.{records_bytes, term_records, condition_terms, sentence_record, sentence_terms, sentences_in, function_record}
use Rattle.encoding.specs.Encode.{functions_of, sentences_of, function_section, sentence_section, condition_section, term_section}
use Rattle.encoding.specs.TextTree.{tree_of_text}
use Rattle.encoding.specs.LawOfText.{all_of, spellings_short, few_variables}
use Rattle.encoding.proofs.Lists.{All}
use Rattle.encoding.proofs.SentencePlaces.{SmallConditions, Small, conditions_in, sentence_size, Holds}
use Rattle.encoding.proofs.SentencesRead.{WithinSentence}
use Rattle.encoding.proofs.FunctionsRead.{Named, HoldsFunctions, first_sentence_lem, tree_read}
use Rattle.encoding.proofs.TokensStand.{NameStands, sentences_inside, names_inside}
use Rattle.encoding.proofs.RunsAllowed.{runs_allowed_lem, blocks_allowed_lem}
use Rattle.encoding.proofs.Spellings.{fields_spelled}
use Rattle.encoding.proofs.PatternVariables.{patterns_few}

-- the law file of a text, cut into its sections
abbrev pub file_of_text : List ℕ → Text → File
file_of_text b x =
    record {
      text = record { count = length b; records = b };
      functions = record { count = length (function_section x); records = records_bytes (function_section x) };
      sentences = record { count = length (sentence_section x); records = records_bytes (sentence_section x) };
      conditions = record { count = length (condition_section x); records = records_bytes (condition_section x) };
      terms = record { count = length (term_section x); records = records_bytes (term_section x) };
    }

-- ---- within the limits everything fits a word

small_conditions : (cs : Conditions) → length (condition_terms cs) ≤ 512 → SmallConditions cs
unfolding condition_terms
small_conditions no_condition h = tt
small_conditions (condition c x d y rest) h =
    let p = length-append (term_records x ++ term_records y) (condition_terms rest) in
    let q = length-append (term_records x) (term_records y) in
    (omega (arith, p, q), omega (arith, p, q), small_conditions rest (omega (arith, p, q)))

all_small : (b : List ℕ) (xs : List Sentence) → All (WithinSentence b) xs → length b ≤ 4096 → length (flat_map sentence_terms xs) ≤ 512 → length (flat_map conditions_in xs) ≤ 128
    → All Small xs
unfolding flat_map
all_small b [] w l h k = tt
all_small b (x ∷ xs) w l h k =
    let p = sentence_size x in
    let t = length-append (sentence_terms x) (flat_map sentence_terms xs) in
    let c = length-append (conditions_in x) (flat_map conditions_in xs) in (
      record {
        pattern = omega (arith, p, t);
        count = omega (arith, c);
        result = omega (arith, p, t);
        conditions = small_conditions x.conditions (omega (arith, p, t));
        starts = omega (arith, w.0.starts);
        ends = omega (arith, w.0.ends);
      },
      all_small b xs w.1 l (omega (arith, t)) (omega (arith, c)),
    )

all_named : (b : List ℕ) (fs : List Function) → All (NameStands b) fs → length (flat_map sentences_in fs) ≤ 128 → All (Named b) fs
unfolding flat_map
all_named b [] n h = tt
all_named b (f ∷ fs) n h =
    let t = length-append (sentences_in f) (flat_map sentences_in fs) in
    (record { name = n.0; count = omega (arith, t) }, all_named b fs n.1 (omega (arith, t)))

-- ---- the file

-- no count is over its limit
pub record Limits (x : Text) : Type 0 where
  pub functions : length (function_section x) ≤ 64
  pub sentences : length (sentence_section x) ≤ 128
  pub conditions : length (condition_section x) ≤ 128
  pub terms : length (term_section x) ≤ 512

module _ (b : List ℕ) (x : Text) (w : Written b x) (short : length b ≤ 4096) (limits : Limits x) where
  holds : Holds (file_of_text b x) (sentences_of x)
  holds = record { sentences = refl; conditions = refl; terms = refl; small = all_small b (sentences_of x) (sentences_inside b x w) short limits.terms limits.conditions }

  holds_functions : HoldsFunctions (file_of_text b x) (functions_of x)
  holds_functions =
      let n = length-map (sentences_of x) sentence_record in
      record {
        functions = refl;
        function_count = length-map (functions_of x) function_record;
        sentence_count = n;
        sentences = holds;
        short = short;
        named = all_named b (functions_of x) (names_inside b x w) (omega (arith, n, limits.sentences));
        inside = sentences_inside b x w;
      }

  all_sentences : places.first_sentence (file_of_text b x) (length (function_section x)) ≡ length (sentences_of x)
  all_sentences =
      ap (places.first_sentence (file_of_text b x)) (length-map (functions_of x) function_record)
      ∙ first_sentence_lem (file_of_text b x) (functions_of x) holds_functions (length (functions_of x)) (omega arith)
      ∙ ap (λ z. length (flat_map sentences_in z)) (take-length (functions_of x))

  sentence_count_lem : length (sentence_section x) ≡ length (sentences_of x)
  sentence_count_lem = length-map (sentences_of x) sentence_record

  pub text_fields : fields_allowed (file_of_text b x) ≡ spellings_short x
  text_fields = fields_spelled (file_of_text b x) (functions_of x) holds_functions refl

  pub text_runs : runs_allowed (file_of_text b x) ≡ true
  text_runs = runs_allowed_lem (file_of_text b x) (sentences_of x) holds sentence_count_lem refl refl all_sentences

  pub text_blocks : blocks_allowed (file_of_text b x) ≡ true
  text_blocks = blocks_allowed_lem (file_of_text b x) (sentences_of x) holds sentence_count_lem refl refl all_sentences

  pub text_tree : tree_of (file_of_text b x) ≡ tree_of_text x
  text_tree = tree_read (file_of_text b x) (functions_of x) holds_functions

  pub text_patterns : patterns_allowed (file_of_text b x) ≡ all_of few_variables (sentences_of x)
  text_patterns = patterns_few (file_of_text b x) (sentences_of x) holds short (sentences_inside b x w) sentence_count_lem
