-- Where the images of axioms have what they are about.
use Rattle.std.specs.Prelude.{ℕ, Option, Some, None, option_map}
use Rattle.ml_pat.specs.Patterns.{Pattern, nullary, unary, binary, sorted, quantified, var, meta}
use Rattle.ml_pat.specs.Patterns.{constant, Equal, App, AtSort, Ex, All}
use Rattle.term_core.specs.declared.ids.SortId.{SortId}

-- `all x a ( ex y b .. )`: the sorts a and b
abbrev pub inner_sort : ℕ → Pattern → Option (ℕ × ℕ)
inner_sort a (quantified Ex y b p) = Some (a, b)
inner_sort a p = None

abbrev pub two_sorts : Pattern → Option (ℕ × ℕ)
two_sorts (quantified All x a p) = inner_sort a p
two_sorts p = None

-- `all x a ( equal ( app ( at_sort ( at_sort .. b ) c ) .. ) .. )`: the sorts a, b and c
abbrev pub sort_before : ℕ → ℕ → Pattern → Option (ℕ × (ℕ × ℕ))
sort_before a c (sorted AtSort p b) = Some (a, (b, c))
sort_before a c p = None

abbrev pub sorts_applied : ℕ → Pattern → Option (ℕ × (ℕ × ℕ))
sorts_applied a (sorted AtSort p c) = sort_before a c p
sorts_applied a p = None

abbrev pub sorts_of_app : ℕ → Pattern → Option (ℕ × (ℕ × ℕ))
sorts_of_app a (binary App p q) = sorts_applied a p
sorts_of_app a p = None

abbrev pub sorts_of_equal : ℕ → Pattern → Option (ℕ × (ℕ × ℕ))
sorts_of_equal a (binary Equal p q) = sorts_of_app a p
sorts_of_equal a p = None

abbrev pub three_sorts : Pattern → Option (ℕ × (ℕ × ℕ))
three_sorts (quantified All x a p) = sorts_of_equal a p
three_sorts p = None

-- the constant that is applied first, below quantifiers and other connectives, and on the right of a
-- variable
abbrev pub beside : Pattern → Option ℕ → Option ℕ → Option ℕ
beside (var x) a b = b
beside p a b = a

abbrev pub first_constant : Pattern → Option ℕ
first_constant (nullary c) = None
first_constant (unary c p) = first_constant p
first_constant (binary c p q) = beside p (first_constant p) (first_constant q)
first_constant (sorted c p s) = first_constant p
first_constant (quantified c x s p) = first_constant p
first_constant (var x) = None
first_constant (meta i) = None
first_constant (constant c) = Some c

-- the second part of the connective on two patterns, below quantifiers and connectives on one
abbrev pub right_side : Pattern → Pattern
right_side (nullary c) = nullary c
right_side (unary c p) = right_side p
right_side (binary c p q) = q
right_side (sorted c p s) = sorted c p s
right_side (quantified c x s p) = right_side p
right_side (var x) = var x
right_side (meta i) = meta i
right_side (constant c) = constant c

-- pairs and triples of sorts, as the code has them
abbrev pub pair_of : SortId × SortId → ℕ × ℕ
pair_of r = (r.0.0, r.1.0)

abbrev pub pair_found : Option (SortId × SortId) → Option (ℕ × ℕ)
pair_found = option_map pair_of

abbrev pub triple_of : SortId × SortId × SortId → ℕ × (ℕ × ℕ)
triple_of r = (r.0.0, (r.1.0, r.2.0))

abbrev pub triple_found : Option (SortId × SortId × SortId) → Option (ℕ × (ℕ × ℕ))
triple_found = option_map triple_of
