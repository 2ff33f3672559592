-- The variables of a pattern whose parts have names, one after another.
use Rattle.std.specs.Prelude.{ℕ, ◌+◌, if◌then◌else◌, List, [], ◌∷◌}
use Rattle.term_core.specs.Patterns.{Patterns, no_pattern, more_patterns}
use Rattle.rule_core.specs.NamedParts.{Name}
use Rattle.ml_image.specs.NamedSides.{left_sentence, of_child}
use Rattle.refute.specs.NamedRefutations.{and_new_in}
use Rattle.refute.specs.Refutations.{and_new}

-- the list, with those names behind that are written before the pattern and are not in it; the last
-- one is the outermost
abbrev pub with_first_names : List ℕ → List Name → List ℕ
with_first_names xs [] = xs
with_first_names xs (n ∷ names) =
    if n.first then and_new (with_first_names xs names) n.variable else with_first_names xs names

-- the list, with those names behind that are written behind the pattern and are not in it
abbrev pub with_last_names : List ℕ → List Name → List ℕ
with_last_names xs [] = xs
with_last_names xs (n ∷ names) =
    with_last_names (if n.first then xs else and_new xs n.variable) names

-- the list, with the variables behind that are not in it, of patterns whose parts have these names;
-- the first pattern is the child k
abbrev pub and_new_in_all : List ℕ → List Name → ℕ → Patterns → List ℕ
and_new_in_all xs names k no_pattern = xs
and_new_in_all xs names k (more_patterns p ps) =
    and_new_in_all (and_new_in xs (left_sentence (of_child k names) p)) names (k + 1) ps
