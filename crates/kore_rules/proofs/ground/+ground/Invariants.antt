use Rattle.std.proofs.Common.{◌≡◌, drop, map}
use Rattle.kore_text.specs.Trees.{pattern_trees}
use Rattle.kore_ast.specs.Plain.{pattern_tree}
use Rattle.kore_rules.specs.GroundTerms.{all_ground_faults}
use Rattle.kore_rules.specs.GroundNotes.{behind}
use Rattle.kore_rules.proofs.ground.+ground.Given as goal

abbrev pub invariant-note_all-loop-pat : goal.invariant-note_all-loop-pat
invariant-note_all-loop-pat l =
    behind l.first (all_ground_faults (pattern_trees (map pattern_tree (drop l.pat-index l.pats))))
    ≡ behind l.fn.first (all_ground_faults (pattern_trees (map pattern_tree l.pats)))
