use Rattle.std.proofs.Common.{List, drop, ◌+◌, map, ap, sym, ◌∙◌}
use Rattle.kore_text.specs.Trees.{pattern_trees}
use Rattle.kore_ast.specs.declared.tree.Pat.{Pat}
use Rattle.kore_ast.specs.Plain.{pattern_tree}
use Rattle.kore_sig.proofs.ListLaws.{drop_step}
use Rattle.kore_rules.specs.GroundTerms.{ground_faults, all_ground_faults}
use Rattle.kore_rules.specs.GroundNotes.{behind}
use Rattle.kore_rules.proofs.NotedSteps.{noted_step}
use Rattle.kore_rules.proofs.ground.+ground.Goals as goal

pub note_all-loop-pat-preserved : goal.note_all-loop-pat-preserved
note_all-loop-pat-preserved t c =
    let i = c.loop-pat.pat-index in
    noted_step c.loop-pat.first c.note_not_ground.new.first
    (ground_faults (pattern_tree c.pat-item.result))
    (all_ground_faults (pattern_trees (map pattern_tree (drop (i + 1) c.args.pats.now))))
    c.note_not_ground.ensures
    ∙ ap (λ (ps : List Pat).
    behind c.loop-pat.first (all_ground_faults (pattern_trees (map pattern_tree ps))))
    (sym (drop_step c.args.pats.now i c.pat-item.result c.loop-pat-test.true c.pat-item.is))
    ∙ c.loop-pat.invariant
