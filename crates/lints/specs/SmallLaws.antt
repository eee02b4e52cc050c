-- Document 01, "Small laws": "The cases marked * are proved as one table with one theorem over the definitions." These are the cases marked *, all of
-- them and no others, in its order: `table`, and the theorem `small_laws`. Those without * stand in specs/Examples.antt of `formats`, `matching` and this
-- crate, and go through the calls in the test program of refusals.
-- docs/SPECIFICATION.md, 18.1.
use Rattle.std.specs.Prelude.{Bool, true, false, List, [], ◌∷◌, ◌≡◌, refl}
use Rattle.names.specs.Name.{same_bytes, order_bytes}
use Rattle.file.specs.Answer.{given}
use Rattle.law.specs.Tree.{Run, empty, bracket, Law}
use Rattle.law.specs.Examples.{bytes_of}
use Rattle.shapes.specs.Leaf.{character, number, any_symbol}
use Rattle.shapes.specs.Format.{Format, item, group, never, of, size}
use Rattle.shapes.specs.Join.{join_rows, join_formats}
use Rattle.shapes.specs.Disjoint.{disjoint_rows, disjoint_formats}
use Rattle.shapes.specs.Same.{same_shapes}
use Rattle.shapes.specs.Examples.{closed, opened}
use Rattle.formats.specs.FormatOf.{pattern_shapes, chain, result_shapes}
use Rattle.formats.specs.Infer.{Inferred, insert_name, names_of, find, renew, all_at, join_results, join_patterns, round, rounds_from, arguments, infer_within, infer}
use Rattle.formats.specs.Examples.{growing}
use Rattle.matching.specs.Pattern.{pattern_of}
use Rattle.matching.specs.Match.{value_in, splits, same_terms, after, choices, matches}
use Rattle.matching.specs.Shadow.{own_values, shadows_with, shadows}
use Rattle.matching.specs.Examples.{s_variable, t_variable, e_variable, characters, text}

pub data Case : Type 0 where
  -- two formats, and their join
  joined : Format → Format → Format → Case
  -- two formats, and whether they are disjoint
  apart : Format → Format → Bool → Case
  -- an earlier and a later pattern, and whether the earlier one shadows the later one
  shadowed : Run → Run → Bool → Case
  -- a law, and what inference gives
  inferred : Law → Inferred → Case

abbrev pub Holds : Case → Type 0
Holds (joined a b c) = join_formats a b ≡ c
Holds (apart a b answer) = disjoint_formats a b ≡ answer
Holds (shadowed earlier later answer) = shadows (pattern_of earlier) (pattern_of later) ≡ answer
Holds (inferred law formats) = infer 64 law ≡ given formats

abbrev pub AllHold : List Case → Type 0
AllHold [] = Unit {0}
AllHold (c ∷ cs) = Holds c × AllHold cs

abbrev pub table : List Case
table =
    -- "Join of closed [character] and closed [number]: closed [symbol]."
    joined (of (item character closed)) (of (item number closed)) (of (item any_symbol closed))
    -- "Of closed [character] and closed [character, number]: open [character]."
    ∷ joined (of (item character closed)) (of (item character (item number closed))) (of (item character opened))
    -- "Never with empty: empty."
    ∷ joined never (of closed) (of closed)
    -- "Disjoint: character and number;"
    ∷ apart (of (item character closed)) (of (item number closed)) true
    -- "`()` and `('a')`."
    ∷ apart (of (group closed closed)) (of (group (item character closed) closed)) true
    -- "Not: open nothing and closed [number]."
    ∷ apart (of opened) (of (item number closed)) false
    -- "`e.X` shadows `(t.A)`."
    ∷ shadowed (e_variable "X" empty) (bracket (t_variable "A" empty) empty) true
    -- "`(t.X)` does not shadow `(e.A)`."
    ∷ shadowed (bracket (t_variable "X" empty) empty) (bracket (e_variable "A" empty) empty) false
    -- "`s.A s.A` shadows `'x' 'x'`,"
    ∷ shadowed (s_variable "A" (s_variable "A" empty)) (text "xx" empty) true
    -- "not `s.B s.C`."
    ∷ shadowed (s_variable "A" (s_variable "A" empty)) (s_variable "B" (s_variable "C" empty)) false
    -- "`(e.A) t.B` does not shadow `(s.Q) e.A`"
    ∷ shadowed (bracket (e_variable "A" empty) (t_variable "B" empty)) (bracket (s_variable "Q" empty) (e_variable "A" empty)) false
    -- of `F { = 'a' <F> 1 1 1; }`: "With five 1s: 5 rounds, unsettled, open [character, four symbols, number]."
    ∷ inferred (growing 5)
    (record {
      formats = record {
        arguments = record { name = 70 ∷ []; format = of closed } ∷ [];
        results =
            record {
              name = 70 ∷ [];
              format = of (item character (item any_symbol (item any_symbol (item any_symbol (item any_symbol (item number opened))))));
            } ∷ [];
      };
      rounds = 5;
      settled = false;
    })
    ∷ []

pub small_laws : AllHold table
unfolding
    bytes_of characters same_bytes order_bytes pattern_of value_in splits same_terms after choices matches own_values shadows_with
    join_rows disjoint_rows size pattern_shapes chain result_shapes same_shapes insert_name names_of find renew all_at join_results join_patterns round rounds_from
    arguments infer_within infer
small_laws = (refl, (refl, (refl, (refl, (refl, (refl, (refl, (refl, (refl, (refl, (refl, (refl, tt))))))))))))
