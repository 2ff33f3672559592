-- Heads of terms and of patterns (Maranget 2008, "Compiling Pattern Matching to Good Decision
-- Trees"): a value of a sort, a constructor with its number of arguments, or an injection.
use Rattle.std.specs.Prelude.{◌==◌, ◌&&◌, ◌||◌, ℕ, Bool, true, false, List, [], ◌∷◌, length, nat_lt}
use Rattle.term_core.specs.Terms.{DomainValue, Tree, leaf, node, inj}
use Rattle.term_core.specs.Forests.{trees}
use Rattle.term_core.specs.TreeTest.{value_eq}
use Rattle.term_core.specs.Patterns.{Pattern, Patterns, variable, domain_value, application}
use Rattle.term_core.specs.Patterns.{injection, call, no_pattern, more_patterns}
use Rattle.rule_core.specs.Subsorts.{is_below}

pub data PlainHead : Type 0 where
  of_value : ℕ → DomainValue → PlainHead
  of_constructor : ℕ → ℕ → PlainHead
  of_injection : ℕ → ℕ → PlainHead

abbrev pub head_eq : PlainHead → PlainHead → Bool
head_eq (of_value s v) (of_value r w) = (s == r) && value_eq v w
head_eq (of_constructor f n) (of_constructor g m) = (f == g) && (n == m)
head_eq (of_injection a b) (of_injection c d) = (a == c) && (b == d)
head_eq h k = false

-- the head of a term
abbrev pub root : Tree → PlainHead
root (leaf s v) = of_value s v
root (node f ts) = of_constructor f (length (trees ts))
root (inj a b t) = of_injection a b

-- the patterns of a list, in its order
abbrev pub pattern_list : Patterns → List Pattern
pattern_list no_pattern = []
pattern_list (more_patterns p ps) = p ∷ pattern_list ps

abbrev pub is_variable : Pattern → Bool
is_variable (variable x) = true
is_variable (domain_value s v) = false
is_variable (application f ps) = false
is_variable (injection a b p) = false
is_variable (call f ss ps) = false

-- an injection of a variable of the sort b is met by the injection of a term of a lower sort
abbrev pub lowers : List (ℕ × ℕ) → ℕ → ℕ → Pattern → Bool
lowers pairs a b (variable x) = is_below pairs a b
lowers pairs a b (domain_value s v) = false
lowers pairs a b (application f ps) = false
lowers pairs a b (injection c d p) = false
lowers pairs a b (call f ss ps) = false

abbrev pub injection_takes : List (ℕ × ℕ) → ℕ → ℕ → Pattern → PlainHead → Bool
injection_takes pairs b c p (of_value s v) = false
injection_takes pairs b c p (of_constructor f n) = false
injection_takes pairs b c p (of_injection a d) = (c == d) && (a == b || lowers pairs a b p)

-- The pattern has this head: a term that it matches may begin with it. The injection of a variable
-- has more than one head. A variable has none, since it asks nothing of a term.
abbrev pub takes : List (ℕ × ℕ) → Pattern → PlainHead → Bool
takes pairs (variable x) h = false
takes pairs (domain_value s v) h = head_eq (of_value s v) h
takes pairs (application f ps) h = head_eq (of_constructor f (length (pattern_list ps))) h
takes pairs (injection b c p) h = injection_takes pairs b c p h
takes pairs (call f ss ps) h = false

-- the head is an injection to d, from one of the first n sorts that is below b
abbrev pub lower_takes : List (ℕ × ℕ) → ℕ → ℕ → ℕ → PlainHead → Bool
lower_takes pairs n b d (of_value s v) = false
lower_takes pairs n b d (of_constructor f m) = false
lower_takes pairs n b d (of_injection a c) = (nat_lt a n && is_below pairs a b) && (d == c)
