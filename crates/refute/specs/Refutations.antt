-- What is proved of a pattern of a rule and a term of its sort. If the pattern does not match the
-- term, the two have nothing in common. If it matches, each variable equals its binding wherever
-- the two have something in common.
use Rattle.std.specs.Prelude.{◌≡◌, ◌==◌, ◌||◌, ℕ, Bool, true, false, if◌then◌else◌, List, [], ◌∷◌}
use Rattle.std.specs.Prelude.{◌++◌, Option, Some, None}
use Rattle.ml_pat.specs.Patterns.{Pattern as LogicPattern}
use Rattle.ml_pat.specs.Patterns as logic
use Rattle.term_core.specs.Terms.{Tree, truth}
use Rattle.term_core.specs.Patterns.{Pattern, Patterns, variable, domain_value, application}
use Rattle.term_core.specs.Patterns.{injection, call, no_pattern, more_patterns, binding}
use Rattle.term_core.specs.Patterns.{ground_pattern}
use Rattle.ml_image.specs.Images.{image_of}
use Rattle.ml_image.specs.Sentences.{Sentence, term, top, not, and, implies, equals}
use Rattle.ml_image.specs.Sentences.{sentence_image}
use Rattle.prove_term.specs.Contexts.{Context}
use Rattle.prove_open.specs.Givens.{all_sorted}

-- whether the number is in the list
abbrev pub is_one_of : ℕ → List ℕ → Bool
is_one_of x [] = false
is_one_of x (y ∷ ys) = (x == y) || is_one_of x ys

-- the list, with x at its end if it is not in it
abbrev pub and_new : List ℕ → ℕ → List ℕ
and_new xs x = if is_one_of x xs then xs else xs ++ x ∷ []

-- the list, with the variables of the pattern that are not in it behind, in the order in which they
-- first occur
abbrev mutual
  pub and_new_of : List ℕ → Pattern → List ℕ
  and_new_of xs (variable x) = and_new xs x
  and_new_of xs (domain_value s v) = xs
  and_new_of xs (application f ps) = and_new_of_all xs ps
  and_new_of xs (injection a b p) = and_new_of xs p
  and_new_of xs (call f ss ps) = and_new_of_all xs ps

  pub and_new_of_all : List ℕ → Patterns → List ℕ
  and_new_of_all xs no_pattern = xs
  and_new_of_all xs (more_patterns p ps) = and_new_of_all (and_new_of xs p) ps

-- the variables of the pattern, in the order in which they first occur
abbrev pub variables_in_order : Pattern → List ℕ
variables_in_order p = and_new_of [] p

-- what the pattern and the term have in common
abbrev pub in_common : Pattern → Tree → Sentence
in_common p t = and (term p) (term (ground_pattern t))

-- If each variable of the pattern is one element of its sort, then the pattern and the term have
-- nothing in common.
abbrev pub mismatched : List ℕ → Pattern → Tree → Sentence
mismatched sorts p t = implies (all_sorted sorts (variables_in_order p)) (not (in_common p t))

-- the variable equals its binding, if it has one
abbrev pub is_bound_to : ℕ → Option Tree → Sentence
is_bound_to x None = top
is_bound_to x (Some t) = equals (term (variable x)) (term (ground_pattern t))

-- each of these variables equals its binding: the conjunction of that for each, in order, and of
-- `top`
abbrev pub all_bound : List (Option Tree) → List ℕ → Sentence
all_bound theta [] = top
all_bound theta (x ∷ xs) = and (is_bound_to x (binding theta x)) (all_bound theta xs)

-- If each variable of the pattern is one element of its sort, and the pattern and the term have
-- something in common, then each variable equals its binding.
abbrev pub inverted : List ℕ → List (Option Tree) → Pattern → Tree → Sentence
inverted sorts theta p t =
    implies (and (all_sorted sorts (variables_in_order p)) (in_common p t))
    (all_bound theta (variables_in_order p))

-- the pattern is the image of the sentence
abbrev pub SaysSentence : Context → Sentence → LogicPattern → Type 0
SaysSentence cx s p = sentence_image cx.program.sig cx.names s ≡ Some p

-- the pattern e says that something equals the image of the term
abbrev pub EqualsTerm : Context → Tree → LogicPattern → Type 0
EqualsTerm cx t e =
    (p : LogicPattern) × (q : LogicPattern) × (e ≡ logic.equal p q)
    × (image_of cx.program.sig cx.names (ground_pattern t) ≡ Some q)

-- the pattern r says that what e is an equality of differs from the value `true` of the sort
abbrev pub SaysNotTrue : Context → ℕ → LogicPattern → LogicPattern → Type 0
SaysNotTrue cx sort e r =
    (p : LogicPattern) × (q : LogicPattern) × (d : LogicPattern) × (e ≡ logic.equal p q)
    × (image_of cx.program.sig cx.names (domain_value sort (truth true)) ≡ Some d)
    × (r ≡ logic.not (logic.equal p d))
