use Rattle.std.proofs.Common.{◌≡◌, ◌≤◌, ◌+◌, ◌*◌, ◌↔◌, [], Some, drop}
use Rattle.term_core.specs.Forests.{forest, children, sizes}
use Rattle.term_core.specs.Patterns.{instances_of}
use Rattle.term_core.specs.PatternLists.{plain_patterns}
use Rattle.term_core.specs.RulePatterns.{plain_pattern}
use Rattle.term_core.proofs.PatternLaws.{depth, depths}
use Rattle.term_core.proofs.instances.+is_instance.Given as goal

abbrev pub decreases-is_instance : goal.decreases-is_instance
decreases-is_instance g l = 2 * depth (plain_pattern l.pat.now)

abbrev pub decreases-are_instances : goal.decreases-are_instances
decreases-are_instances g l = 2 * depths (plain_patterns l.pats.now) + 1

abbrev pub decreases-is_injected : goal.decreases-is_injected
decreases-is_injected g l = 2 * depth (plain_pattern l.pat.now) + 1

abbrev pub invariant-are_instances-loop-i : goal.invariant-are_instances-loop-i
invariant-are_instances-loop-i g l = record {
  instances : (instances_of [] (plain_patterns (drop l.i l.pats))
      ≡ Some (forest (drop l.i (children l.term))))
      ↔ (instances_of [] (plain_patterns l.pats) ≡ Some (forest (children l.term)));
  looks : l.steps + sizes (forest (drop l.i (children l.term)))
      ≤ l.initial.steps + sizes (forest (children l.term));
}
