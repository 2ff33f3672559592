-- The bindings that a pattern under an injection adds.
use Rattle.std.specs.Prelude.{◌==◌, ◌||◌, ℕ, List, Option, None, if◌then◌else◌}
use Rattle.std.specs.Option.{option_and_then}
use Rattle.term_core.specs.Terms.{Tree, leaf, node, inj}
use Rattle.term_core.specs.Patterns.{Pattern, binding}
use Rattle.rule_core.specs.Subsorts.{is_below}
use Rattle.rule_core.specs.MatchSteps.{lowered, bound_to, matched}
use Rattle.pat_matrix.specs.Occurrences.{lowered_child}

-- the substitution after a variable of the sort b under an injection is bound
abbrev pub bound_below : ℕ → Tree → ℕ → List (Option Tree) → Option (List (Option Tree))
bound_below b t x theta =
    option_and_then (λ (u : Tree). bound_to u x theta (binding theta x)) (lowered_child b t)

-- the substitution with the bindings that a pattern of the sort b under an injection adds
abbrev pub matched_under : List (ℕ × ℕ) → ℕ → Pattern → Tree → List (Option Tree)
    → Option (List (Option Tree))
matched_under pairs b p (leaf s v) theta = None
matched_under pairs b p (node f ts) theta = None
matched_under pairs b p (inj a d t) theta =
    if a == b || is_below pairs a b then matched pairs p (lowered a b t) theta else None
