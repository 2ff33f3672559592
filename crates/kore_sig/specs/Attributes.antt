-- Attributes (Kore language document, "Attributes"; K framework, the attributes that its compiler
-- writes). Only the name of an attribute counts, whatever its sorts and arguments, except where its
-- text or its sorts are needed.
use Rattle.std.specs.Prelude.{ℕ, Bool, false, ◌||◌, List, [], ◌∷◌, Option, Some, None, option_map}
use Rattle.std.specs.Prelude.{unwrap_or, find, filter_map, if◌then◌else◌, codes}
use Rattle.std.specs.List.{list_any}
use Rattle.std.specs.Str.{bytes_eq}
use Rattle.kore_text.specs.Trees.{SortTree, listed_sorts, PatternTree, string, symbol_applied}
use Rattle.kore_text.specs.Trees.{listed_patterns}

-- the pattern is an attribute with this name
abbrev pub is_attribute_named : List ℕ → PatternTree → Bool
is_attribute_named name (symbol_applied at n sorts arguments) = bytes_eq n name
is_attribute_named name p = false

-- some attribute has this name
abbrev pub has_attribute : List ℕ → List PatternTree → Bool
has_attribute name attributes = list_any (is_attribute_named name) attributes

-- the first attribute with this name; if there are several, only this one counts
abbrev pub first_of_name : List ℕ → List PatternTree → Option PatternTree
first_of_name name attributes = find (is_attribute_named name) attributes

-- the text of a pattern that is a string
abbrev pub text_itself : PatternTree → Option (List ℕ)
text_itself (string at text) = Some text
text_itself p = None

-- the text of the only pattern, if it is a string
abbrev pub only_text : List PatternTree → Option (List ℕ)
only_text (p ∷ []) = text_itself p
only_text ps = None

-- the text of an attribute whose only argument is a text
abbrev pub attribute_text : PatternTree → Option (List ℕ)
attribute_text (symbol_applied at n sorts arguments) = only_text (listed_patterns arguments)
attribute_text p = None

-- the name of the hook; the empty text, which names no hook, if the attribute has no text
abbrev pub hook_of : List PatternTree → Option (List ℕ)
hook_of attributes =
    option_map (λ (a : PatternTree). unwrap_or (attribute_text a) [])
    (first_of_name (codes "hook") attributes)

-- some attribute says that the symbol is associative, commutative or idempotent, or has a unit
abbrev pub is_said_ac : List PatternTree → Bool
is_said_ac attributes =
    has_attribute (codes "assoc") attributes || has_attribute (codes "comm") attributes
    || has_attribute (codes "unit") attributes || has_attribute (codes "idem") attributes

-- the two sorts of `subsort{A,B}()`: the lower one and the upper one
abbrev pub stated_pair : List ℕ → List SortTree → List PatternTree → Option (SortTree × SortTree)
stated_pair name (lower ∷ (upper ∷ [])) [] =
    if bytes_eq name (codes "subsort") then Some (lower, upper) else None
stated_pair name sorts arguments = None

abbrev pub subsort_sorts : PatternTree → Option (SortTree × SortTree)
subsort_sorts (symbol_applied at n sorts arguments) =
    stated_pair n (listed_sorts sorts) (listed_patterns arguments)
subsort_sorts p = None

-- the pairs of sorts that the attributes of an axiom state, in order
abbrev pub subsort_pairs : List PatternTree → List (SortTree × SortTree)
subsort_pairs attributes = filter_map subsort_sorts attributes
