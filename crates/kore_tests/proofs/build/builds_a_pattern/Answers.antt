use Rattle.std.proofs.Common.{◌≡◌, []}
use Rattle.std.specs.Prelude.{nat_lt}
use Rattle.kore_ast.specs.Plain.{pattern_tree}
use Rattle.kore_sig.specs.FirstFault.{when}
use Rattle.kore_check.specs.Folds.{unfolded, unfolded_height, unfolded_byte}
use Rattle.rule_core.specs.Evaluation.{most_height}
use Rattle.kore_check.specs.PatternFaults.{pattern_faults, all_faults}
use Rattle.kore_check.proofs.BuildLaws.{parts_empty}
use Rattle.kore_check.proofs.CheckLaws.{nothing_noted}
use Rattle.kore_tests.proofs.build.builds_a_pattern.Goals as goal

pub build_pattern-requires-clause-faultless : goal.build_pattern-requires-clause-faultless
build_pattern-requires-clause-faultless g c =
    let none : all_faults c.in_ok-sig.sig (unfolded (pattern_tree c.in_ok-pat.pat)) ≡ [] =
    nothing_noted (all_faults c.in_ok-sig.sig (unfolded (pattern_tree c.in_ok-pat.pat)))
    c.note_pattern.new.first c.note_pattern.ensures.first c.in_default.is in
    (parts_empty (when (nat_lt most_height
    (unfolded_height (unfolded (pattern_tree c.in_ok-pat.pat)))) 3
    (unfolded_byte (unfolded (pattern_tree c.in_ok-pat.pat))))
    (pattern_faults c.in_ok-sig.sig (unfolded (pattern_tree c.in_ok-pat.pat))) none).1
