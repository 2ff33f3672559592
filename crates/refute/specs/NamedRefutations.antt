-- What is proved of a left side some of whose parts have names, and a term of its sort: the same as
-- without names, but the left side is the pattern with its names. A name is a variable like the
-- others.
use Rattle.std.specs.Prelude.{ℕ, List, [], Option}
use Rattle.term_core.specs.Terms.{Tree}
use Rattle.term_core.specs.Patterns.{Pattern, ground_pattern}
use Rattle.rule_core.specs.NamedParts.{Name}
use Rattle.ml_image.specs.NamedSides.{left_sentence}
use Rattle.ml_image.specs.Sentences.{Sentence, term, apply, not, and, implies}
use Rattle.prove_open.specs.Givens.{all_sorted}
use Rattle.refute.specs.Refutations.{and_new_of, all_bound}

-- the list, with the variables of a sentence of patterns, symbols, applications and conjunctions that
-- are not in it behind, in the order in which they first occur; left sides have no other parts
abbrev pub and_new_in : List ℕ → Sentence → List ℕ
and_new_in xs (term p) = and_new_of xs p
and_new_in xs (apply p q) = and_new_in (and_new_in xs p) q
and_new_in xs (and p q) = and_new_in (and_new_in xs p) q
and_new_in xs p = xs

-- the variables of a pattern whose parts have these names, in the order in which they first occur as
-- it is written
abbrev pub variables_as_written : List Name → Pattern → List ℕ
variables_as_written names p = and_new_in [] (left_sentence names p)

-- what the pattern with its names and the term have in common
abbrev pub named_in_common : List Name → Pattern → Tree → Sentence
named_in_common names p t = and (left_sentence names p) (term (ground_pattern t))

-- If each variable is one element of its sort, then the pattern with its names and the term have
-- nothing in common.
abbrev pub mismatched_named : List ℕ → List Name → Pattern → Tree → Sentence
mismatched_named sorts names p t =
    implies (all_sorted sorts (variables_as_written names p)) (not (named_in_common names p t))

-- If each variable is one element of its sort, and the pattern with its names and the term have
-- something in common, then each variable equals its binding.
abbrev pub inverted_named : List ℕ → List (Option Tree) → List Name → Pattern → Tree → Sentence
inverted_named sorts theta names p t =
    implies
    (and (all_sorted sorts (variables_as_written names p)) (named_in_common names p t))
    (all_bound theta (variables_as_written names p))
