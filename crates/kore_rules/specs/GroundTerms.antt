-- Terms: patterns that have only applications, domain values and folds.
use Rattle.std.specs.Prelude.{ℕ, List, [], ◌∷◌, ◌++◌, if◌then◌else◌}
use Rattle.kore_text.specs.Trees.{PatternTree, element_variable, set_variable, string}
use Rattle.kore_text.specs.Trees.{symbol_applied, connected, binder_applied, value_written, folded}
use Rattle.kore_text.specs.Trees.{PatternTrees, no_patterns, pattern_then, listed_patterns}
use Rattle.kore_sig.specs.FirstFault.{Fault}
use Rattle.kore_shapes.specs.Forms.{is_one, is_none}

abbrev pub not_ground : ℕ → List Fault
not_ground at = record { number = 26; byte = at } ∷ []

-- 26 at each pattern that is a variable or has another form; the inside of such a pattern is not
-- checked
abbrev mutual
  pub ground_faults : PatternTree → List Fault
  ground_faults (element_variable at n s) = not_ground at
  ground_faults (set_variable at n s) = not_ground at
  ground_faults (string at text) = not_ground at
  ground_faults (symbol_applied at f ss ps) = all_ground_faults ps
  ground_faults (connected at op ss ps) = not_ground at
  ground_faults (binder_applied at b ss x p) = not_ground at
  ground_faults (value_written at s text place) = []
  ground_faults (folded at left p) = folded_ground_faults p

  pub all_ground_faults : PatternTrees → List Fault
  all_ground_faults no_patterns = []
  all_ground_faults (pattern_then p ps) = ground_faults p ++ all_ground_faults ps

  -- The faults of the pattern inside a fold. It must be an application with an argument, or a
  -- connective of one argument, which means that argument.
  pub folded_ground_faults : PatternTree → List Fault
  folded_ground_faults (element_variable at n s) = not_ground at
  folded_ground_faults (set_variable at n s) = not_ground at
  folded_ground_faults (string at text) = not_ground at
  folded_ground_faults (symbol_applied at f ss ps)
      = if is_none (listed_patterns ps) then not_ground at else all_ground_faults ps
  folded_ground_faults (connected at op ss ps)
      = if is_one (listed_patterns ps) then all_ground_faults ps else not_ground at
  folded_ground_faults (binder_applied at b ss x p) = not_ground at
  folded_ground_faults (value_written at s text place) = not_ground at
  folded_ground_faults (folded at left p) = not_ground at
