-- Occurrences of variables in a row. When every head for which a row asks was found, the row
-- matches exactly if the occurrences of each variable stand for one term.
use Rattle.std.specs.Prelude.{◌==◌, ◌+◌, ◌&&◌, ℕ, Bool, true, false, List, [], ◌∷◌, ◌++◌}
use Rattle.std.specs.Prelude.{Option, Some, None, if◌then◌else◌}
use Rattle.std.specs.Option.{option_and_then}
use Rattle.term_core.specs.Terms.{Tree, leaf, node, inj}
use Rattle.term_core.specs.TreeTest.{tree_eq}
use Rattle.term_core.specs.Patterns.{Pattern, Patterns, variable, domain_value, application}
use Rattle.term_core.specs.Patterns.{injection, call, no_pattern, more_patterns}
use Rattle.term_core.specs.Instances.{patterns}
use Rattle.rule_core.specs.MatchSteps.{lowered}
use Rattle.pat_matrix.specs.Positions.{subject_at}

-- A place is the position of the variable, and no sort; or the position of an injection of the
-- variable, and the injection's source sort.
abbrev pub Place : Type 0
Place = List ℕ × Option ℕ

-- an occurrence has the number of the variable and its place
abbrev pub Occurrence : Type 0
Occurrence = ℕ × Place

-- the places of the variables at and below a position, in order
abbrev mutual
  pub occurrences : List ℕ → Pattern → List Occurrence
  occurrences position (variable x) = (x, (position, None)) ∷ []
  occurrences position (domain_value s v) = []
  occurrences position (application f ps) = all_occurrences position 0 ps
  occurrences position (injection b c p) = occurrences_under position b p
  occurrences position (call f ss ps) = []

  -- those of the children from k on
  pub all_occurrences : List ℕ → ℕ → Patterns → List Occurrence
  all_occurrences position k no_pattern = []
  all_occurrences position k (more_patterns p ps) =
      occurrences (position ++ k ∷ []) p ++ all_occurrences position (k + 1) ps

  -- those of the pattern under an injection from the sort b
  pub occurrences_under : List ℕ → ℕ → Pattern → List Occurrence
  occurrences_under position b (variable x) = (x, (position, Some b)) ∷ []
  occurrences_under position b (domain_value s v) = []
  occurrences_under position b (application f ps) = all_occurrences (position ++ 0 ∷ []) 0 ps
  occurrences_under position b (injection c d p) = occurrences_under (position ++ 0 ∷ []) c p
  occurrences_under position b (call f ss ps) = []

abbrev pub row_occurrences : List Pattern → List Occurrence
row_occurrences ps = all_occurrences [] 0 (patterns ps)

-- what a variable of the sort b under an injection stands for, if this is the term's injection
abbrev pub lowered_child : ℕ → Tree → Option Tree
lowered_child b (leaf s v) = None
lowered_child b (node f ts) = None
lowered_child b (inj a d t) = Some (lowered a b t)

-- the term for which the variable at a place stands
abbrev pub tree_of_place : List Tree → Place → Option Tree
tree_of_place ts (position, None) = subject_at ts position
tree_of_place ts (position, Some b) = option_and_then (lowered_child b) (subject_at ts position)

-- the place of the first occurrence of a variable
abbrev pub first_place : ℕ → List Occurrence → Option Place
first_place x [] = None
first_place x (e ∷ seen) = if e.0 == x then Some e.1 else first_place x seen

-- the occurrences that came first, after one more
abbrev pub seen_after : List Occurrence → Occurrence → Option Place → List Occurrence
seen_after seen e None = seen ++ e ∷ []
seen_after seen e (Some first) = seen

-- a place beside the first one of its variable, if there is an earlier one
abbrev pub twin_before : Option Place → Place → List (Place × Place) → List (Place × Place)
twin_before None place later = later
twin_before (Some first) place later = (first, place) ∷ later

-- each later occurrence of a variable beside the variable's first one
abbrev pub twins : List Occurrence → List Occurrence → List (Place × Place)
twins seen [] = []
twins seen (e ∷ later) =
    twin_before (first_place e.0 seen) e.1
    (twins (seen_after seen e (first_place e.0 seen)) later)

abbrev pub row_twins : List Pattern → List (Place × Place)
row_twins ps = twins [] (row_occurrences ps)

-- both places stand for one term
abbrev pub same_trees : Option Tree → Option Tree → Bool
same_trees (Some t) (Some u) = tree_eq t u
same_trees None o = false
same_trees (Some t) None = false

abbrev pub twins_agree : List Tree → List (Place × Place) → Bool
twins_agree ts [] = true
twins_agree ts (e ∷ pairs) =
    same_trees (tree_of_place ts e.0) (tree_of_place ts e.1) && twins_agree ts pairs
