use Rattle.std.specs.Prelude.{nat_lt}
use Rattle.kore_ast.specs.Plain.{pattern_tree}
use Rattle.kore_sig.specs.FirstFault.{when}
use Rattle.kore_check.specs.Folds.{unfolded, unfolded_height, unfolded_byte}
use Rattle.rule_core.specs.Evaluation.{most_height}
use Rattle.kore_check.specs.PatternFaults.{pattern_faults, all_faults}
use Rattle.kore_check.proofs.NotedLaws.{first-kept}
use Rattle.kore_check.proofs.Applications.{after-append}
use Rattle.kore_check.proofs.patterns.note_pattern.Goals as goal

pub returns-clause-first : goal.returns-clause-first
returns-clause-first c = λ before is.
    first-kept before (all_faults c.args.sig.now (unfolded (pattern_tree c.args.pat.now)))
    c.args.first.now c.check.new.first is
    (after-append c.args.first.now c.check_height.new.first _ (when
    (nat_lt most_height (unfolded_height (unfolded (pattern_tree c.args.pat.now)))) 3
    (unfolded_byte (unfolded (pattern_tree c.args.pat.now))))
    (pattern_faults c.args.sig.now (unfolded (pattern_tree c.args.pat.now))) c.check_height.ensures
    c.check.ensures.first)
