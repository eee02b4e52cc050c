-- Laws of the shapes of single terms (specs/Leaf.antt). The laws of formats use these and no others of a shape that is no bracket.
use mathlib.Core.Bool.{Bool, true, false, cond, not}
use mathlib.Core.List.{[]}
use mathlib.Core.Logic.{◌↔◌}
use mathlib.Core.Path.{◌≡◌, refl, sym, ◌∙◌}
use lib.Dec.{T}
use Rattle.law.specs.Expression as expressions
use Rattle.law.specs.Expression.{Literal}
use Rattle.law.specs.Symbol.{symbol_of, literal_of}
use Rattle.law.specs.Tree as tree
use Rattle.shapes.specs.Leaf.{Leaf, character, number, identifier, any_symbol, unknown, holds_symbol, holds_brackets, join_leaves, leaves_apart, same_leaf, leaf_word, leaf_of, leaf_at}
use Rattle.shapes.specs.Words.{is_bracket}

-- a symbol of each kind
abbrev some_character : Literal
some_character = expressions.Literal.character 0

abbrev some_number : Literal
some_number = expressions.Literal.number 0

abbrev some_identifier : Literal
some_identifier = expressions.Literal.identifier []

-- every shape holds a symbol
abbrev pub some_literal : Leaf → Literal
some_literal character = some_character
some_literal number = some_number
some_literal identifier = some_identifier
some_literal any_symbol = some_character
some_literal unknown = some_character

pub some_literal_held : (b : Leaf) → T (holds_symbol b (some_literal b))
some_literal_held character = tt
some_literal_held number = tt
some_literal_held identifier = tt
some_literal_held any_symbol = tt
some_literal_held unknown = tt

-- a symbol of a law is of its shape
pub leaf_of_held : (a : tree.Symbol) → T (holds_symbol (leaf_of a) (literal_of (symbol_of a)))
leaf_of_held (tree.Symbol.character c) = tt
leaf_of_held (tree.Symbol.identifier i) = tt
leaf_of_held (tree.Symbol.number n) = tt

-- ---- the order of shapes

-- what is of the first shape is of the second
abbrev pub LeafWithin : Leaf → Leaf → Type 0
LeafWithin a b = ((x : Literal) → T (holds_symbol a x) → T (holds_symbol b x)) × (T (holds_brackets a) → T (holds_brackets b))

pub leaf_within_itself : (a : Leaf) → LeafWithin a a
leaf_within_itself a = (λ x h. h, λ h. h)

pub leaf_within_unknown : (a : Leaf) → LeafWithin a unknown
leaf_within_unknown a = (λ x h. tt, λ h. tt)

-- a shape that holds a bracket holds everything
pub unknown_within : (c : Leaf) → T (holds_brackets c) → LeafWithin unknown c
unknown_within unknown h = leaf_within_itself unknown
unknown_within character h = elim h [ ]
unknown_within number h = elim h [ ]
unknown_within identifier h = elim h [ ]
unknown_within any_symbol h = elim h [ ]

-- tests that imply each other are the same
test_same : (a b : Bool) → (T a → T b) → (T b → T a) → a ≡ b
test_same true true h k = refl
test_same true false h k = absurd (h tt)
test_same false true h k = absurd (k tt)
test_same false false h k = refl

-- the shape, by which of a character, an identifier and a bracket it holds
abbrev leaf_for : Bool → Bool → Bool → Leaf
leaf_for c i b = cond b unknown (cond c (cond i any_symbol character) (cond i identifier number))

leaf_for_lem : (a : Leaf) → leaf_for (holds_symbol a some_character) (holds_symbol a some_identifier) (holds_brackets a) ≡ a
leaf_for_lem character = refl
leaf_for_lem number = refl
leaf_for_lem identifier = refl
leaf_for_lem any_symbol = refl
leaf_for_lem unknown = refl

-- shapes that are within each other are the same
pub leaf_within_same : (a b : Leaf) → LeafWithin a b → LeafWithin b a → a ≡ b
leaf_within_same a b h k =
    let c : holds_symbol a some_character ≡ holds_symbol b some_character = test_same _ _ (h.0 some_character) (k.0 some_character) in
    let i : holds_symbol a some_identifier ≡ holds_symbol b some_identifier = test_same _ _ (h.0 some_identifier) (k.0 some_identifier) in
    let t : holds_brackets a ≡ holds_brackets b = test_same _ _ h.1 k.1 in
    sym (leaf_for_lem a) ∙ (rw (c, i, t) (leaf_for_lem b))

-- ---- join

-- a symbol's shape is within any symbol
within_any : (a : Leaf) → T (not (holds_brackets a)) → LeafWithin a any_symbol
within_any character h = (λ x k. tt, λ k. k)
within_any number h = (λ x k. tt, λ k. k)
within_any identifier h = (λ x k. tt, λ k. k)
within_any any_symbol h = (λ x k. tt, λ k. k)
within_any unknown h = elim h [ ]

-- the join is over both shapes
pub join_leaf_left : (a b : Leaf) → LeafWithin a (join_leaves a b)
join_leaf_left character character = leaf_within_itself character
join_leaf_left character number = within_any character tt
join_leaf_left character identifier = within_any character tt
join_leaf_left character any_symbol = within_any character tt
join_leaf_left character unknown = leaf_within_unknown character
join_leaf_left number character = within_any number tt
join_leaf_left number number = leaf_within_itself number
join_leaf_left number identifier = within_any number tt
join_leaf_left number any_symbol = within_any number tt
join_leaf_left number unknown = leaf_within_unknown number
join_leaf_left identifier character = within_any identifier tt
join_leaf_left identifier number = within_any identifier tt
join_leaf_left identifier identifier = leaf_within_itself identifier
join_leaf_left identifier any_symbol = within_any identifier tt
join_leaf_left identifier unknown = leaf_within_unknown identifier
join_leaf_left any_symbol character = within_any any_symbol tt
join_leaf_left any_symbol number = within_any any_symbol tt
join_leaf_left any_symbol identifier = within_any any_symbol tt
join_leaf_left any_symbol any_symbol = within_any any_symbol tt
join_leaf_left any_symbol unknown = leaf_within_unknown any_symbol
join_leaf_left unknown b = leaf_within_unknown unknown

pub join_leaf_right : (a b : Leaf) → LeafWithin b (join_leaves a b)
join_leaf_right character character = leaf_within_itself character
join_leaf_right character number = within_any number tt
join_leaf_right character identifier = within_any identifier tt
join_leaf_right character any_symbol = within_any any_symbol tt
join_leaf_right character unknown = leaf_within_unknown unknown
join_leaf_right number character = within_any character tt
join_leaf_right number number = leaf_within_itself number
join_leaf_right number identifier = within_any identifier tt
join_leaf_right number any_symbol = within_any any_symbol tt
join_leaf_right number unknown = leaf_within_unknown unknown
join_leaf_right identifier character = within_any character tt
join_leaf_right identifier number = within_any number tt
join_leaf_right identifier identifier = leaf_within_itself identifier
join_leaf_right identifier any_symbol = within_any any_symbol tt
join_leaf_right identifier unknown = leaf_within_unknown unknown
join_leaf_right any_symbol character = within_any character tt
join_leaf_right any_symbol number = within_any number tt
join_leaf_right any_symbol identifier = within_any identifier tt
join_leaf_right any_symbol any_symbol = within_any any_symbol tt
join_leaf_right any_symbol unknown = leaf_within_unknown unknown
join_leaf_right unknown b = leaf_within_unknown b

-- a shape that holds symbols of two kinds holds any symbol
any_character_number : (c : Leaf) → T (holds_symbol c some_character) → T (holds_symbol c some_number) → LeafWithin any_symbol c
any_character_number any_symbol h k = leaf_within_itself any_symbol
any_character_number unknown h k = leaf_within_unknown any_symbol
any_character_number character h k = elim k [ ]
any_character_number number h k = elim h [ ]
any_character_number identifier h k = elim h [ ]

any_character_identifier : (c : Leaf) → T (holds_symbol c some_character) → T (holds_symbol c some_identifier) → LeafWithin any_symbol c
any_character_identifier any_symbol h k = leaf_within_itself any_symbol
any_character_identifier unknown h k = leaf_within_unknown any_symbol
any_character_identifier character h k = elim k [ ]
any_character_identifier number h k = elim h [ ]
any_character_identifier identifier h k = elim h [ ]

any_number_identifier : (c : Leaf) → T (holds_symbol c some_number) → T (holds_symbol c some_identifier) → LeafWithin any_symbol c
any_number_identifier any_symbol h k = leaf_within_itself any_symbol
any_number_identifier unknown h k = leaf_within_unknown any_symbol
any_number_identifier character h k = elim h [ ]
any_number_identifier number h k = elim k [ ]
any_number_identifier identifier h k = elim h [ ]

-- and is the least such
pub join_leaf_least : (a b c : Leaf) → LeafWithin a c → LeafWithin b c → LeafWithin (join_leaves a b) c
join_leaf_least character character c p q = p
join_leaf_least character number c p q = any_character_number c (p.0 some_character tt) (q.0 some_number tt)
join_leaf_least character identifier c p q = any_character_identifier c (p.0 some_character tt) (q.0 some_identifier tt)
join_leaf_least character any_symbol c p q = q
join_leaf_least character unknown c p q = q
join_leaf_least number character c p q = any_character_number c (q.0 some_character tt) (p.0 some_number tt)
join_leaf_least number number c p q = p
join_leaf_least number identifier c p q = any_number_identifier c (p.0 some_number tt) (q.0 some_identifier tt)
join_leaf_least number any_symbol c p q = q
join_leaf_least number unknown c p q = q
join_leaf_least identifier character c p q = any_character_identifier c (q.0 some_character tt) (p.0 some_identifier tt)
join_leaf_least identifier number c p q = any_number_identifier c (q.0 some_number tt) (p.0 some_identifier tt)
join_leaf_least identifier identifier c p q = p
join_leaf_least identifier any_symbol c p q = q
join_leaf_least identifier unknown c p q = q
join_leaf_least any_symbol character c p q = p
join_leaf_least any_symbol number c p q = p
join_leaf_least any_symbol identifier c p q = p
join_leaf_least any_symbol any_symbol c p q = p
join_leaf_least any_symbol unknown c p q = q
join_leaf_least unknown b c p q = p

-- ---- disjointness

-- no symbol is of two shapes that are apart
pub apart_symbol : (a b : Leaf) (x : Literal) → T (leaves_apart a b) → T (holds_symbol a x) → T (holds_symbol b x) → ⊥
apart_symbol character number (expressions.Literal.character v) p h k = k
apart_symbol character identifier (expressions.Literal.character v) p h k = k
apart_symbol number character (expressions.Literal.number v) p h k = k
apart_symbol number identifier (expressions.Literal.number v) p h k = k
apart_symbol identifier character (expressions.Literal.identifier v) p h k = k
apart_symbol identifier number (expressions.Literal.identifier v) p h k = k
apart_symbol character character _ p h k = elim p [ ]
apart_symbol character number (expressions.identifier v) p h k = elim h [ ]
apart_symbol character number (expressions.number v) p h k = elim h [ ]
apart_symbol character identifier (expressions.identifier v) p h k = elim h [ ]
apart_symbol character identifier (expressions.number v) p h k = elim h [ ]
apart_symbol character any_symbol _ p h k = elim p [ ]
apart_symbol character unknown _ p h k = elim p [ ]
apart_symbol number character (expressions.character v) p h k = elim h [ ]
apart_symbol number character (expressions.identifier v) p h k = elim h [ ]
apart_symbol number number _ p h k = elim p [ ]
apart_symbol number identifier (expressions.character v) p h k = elim h [ ]
apart_symbol number identifier (expressions.identifier v) p h k = elim h [ ]
apart_symbol number any_symbol _ p h k = elim p [ ]
apart_symbol number unknown _ p h k = elim p [ ]
apart_symbol identifier character (expressions.character v) p h k = elim h [ ]
apart_symbol identifier character (expressions.number v) p h k = elim h [ ]
apart_symbol identifier number (expressions.character v) p h k = elim h [ ]
apart_symbol identifier number (expressions.number v) p h k = elim h [ ]
apart_symbol identifier identifier _ p h k = elim p [ ]
apart_symbol identifier any_symbol _ p h k = elim p [ ]
apart_symbol identifier unknown _ p h k = elim p [ ]
apart_symbol any_symbol b _ p h k = elim p [ ]
apart_symbol unknown b _ p h k = elim p [ ]

-- and no bracket
pub apart_brackets : (a b : Leaf) → T (leaves_apart a b) → T (holds_brackets a) → ⊥
apart_brackets character b p h = h
apart_brackets number b p h = h
apart_brackets identifier b p h = h
apart_brackets any_symbol b p h = elim p [ ]
apart_brackets unknown b p h = elim p [ ]

-- shapes that are not apart share a symbol
pub shared_symbol : (a b : Leaf) → T (not (leaves_apart a b)) → (x : Literal) × T (holds_symbol a x) × T (holds_symbol b x)
shared_symbol character character p = (some_character, tt, tt)
shared_symbol character any_symbol p = (some_character, tt, tt)
shared_symbol character unknown p = (some_character, tt, tt)
shared_symbol number number p = (some_number, tt, tt)
shared_symbol number any_symbol p = (some_number, tt, tt)
shared_symbol number unknown p = (some_number, tt, tt)
shared_symbol identifier identifier p = (some_identifier, tt, tt)
shared_symbol identifier any_symbol p = (some_identifier, tt, tt)
shared_symbol identifier unknown p = (some_identifier, tt, tt)
shared_symbol any_symbol b p = (some_literal b, tt, some_literal_held b)
shared_symbol unknown b p = (some_literal b, tt, some_literal_held b)
shared_symbol character number p = elim p [ ]
shared_symbol character identifier p = elim p [ ]
shared_symbol number character p = elim p [ ]
shared_symbol number identifier p = elim p [ ]
shared_symbol identifier character p = elim p [ ]
shared_symbol identifier number p = elim p [ ]

-- ---- equality

-- shapes that are the same are equal
pub leaf_same_equal : (a b : Leaf) → T (same_leaf a b) → a ≡ b
leaf_same_equal character character h = refl
leaf_same_equal number number h = refl
leaf_same_equal identifier identifier h = refl
leaf_same_equal any_symbol any_symbol h = refl
leaf_same_equal unknown unknown h = refl
leaf_same_equal character number h = elim h [ ]
leaf_same_equal character identifier h = elim h [ ]
leaf_same_equal character any_symbol h = elim h [ ]
leaf_same_equal character unknown h = elim h [ ]
leaf_same_equal number character h = elim h [ ]
leaf_same_equal number identifier h = elim h [ ]
leaf_same_equal number any_symbol h = elim h [ ]
leaf_same_equal number unknown h = elim h [ ]
leaf_same_equal identifier character h = elim h [ ]
leaf_same_equal identifier number h = elim h [ ]
leaf_same_equal identifier any_symbol h = elim h [ ]
leaf_same_equal identifier unknown h = elim h [ ]
leaf_same_equal any_symbol character h = elim h [ ]
leaf_same_equal any_symbol number h = elim h [ ]
leaf_same_equal any_symbol identifier h = elim h [ ]
leaf_same_equal any_symbol unknown h = elim h [ ]
leaf_same_equal unknown character h = elim h [ ]
leaf_same_equal unknown number h = elim h [ ]
leaf_same_equal unknown identifier h = elim h [ ]
leaf_same_equal unknown any_symbol h = elim h [ ]

-- a shape is the same as itself
pub leaf_same_itself : (b : Leaf) → same_leaf b b ≡ true
leaf_same_itself character = refl
leaf_same_itself number = refl
leaf_same_itself identifier = refl
leaf_same_itself any_symbol = refl
leaf_same_itself unknown = refl

-- the test is yes exactly of equal shapes
pub leaf_same_exact : (a b : Leaf) → (same_leaf a b ≡ true) ↔ (a ≡ b)
leaf_same_exact a b = (λ e. leaf_same_equal a b (rw e tt), λ e. rw e (leaf_same_itself b))

-- ---- store words

-- a shape is read back from its word
pub leaf_at_word : (b : Leaf) → leaf_at (leaf_word b) ≡ b
leaf_at_word character = refl
leaf_at_word number = refl
leaf_at_word identifier = refl
leaf_at_word any_symbol = refl
leaf_at_word unknown = refl

-- no word of these is a bracket's
pub leaf_word_plain : (b : Leaf) → is_bracket (leaf_word b) ≡ false
leaf_word_plain character = refl
leaf_word_plain number = refl
leaf_word_plain identifier = refl
leaf_word_plain any_symbol = refl
leaf_word_plain unknown = refl
