use Rattle.std.proofs.Common.{◌≡◌, ◌++◌, drop, map, List, ℕ}
use Rattle.term_core.specs.Patterns.{Pattern}
use Rattle.term_core.specs.Instances.{patterns}
use Rattle.term_core.specs.RulePatterns.{plain_pattern}
use Rattle.kore_check.specs.PatternMeanings.{AllMean, with_all_variables}
use Rattle.kore_check.specs.Building.{Extends, AreFaultless}
use Rattle.kore_check.proofs.Applications.{reads}
use Rattle.kore_check.proofs.build.+build.Given as goal

abbrev pub invariant-build_all-loop-arg : goal.invariant-build_all-loop-arg
invariant-build_all-loop-arg l = record {
  grows : Extends l.fn.vars l.vars;
  good : AreFaultless l.sig (reads l.args) → AreFaultless l.sig (reads (drop l.arg-index l.args));
  vars : with_all_variables l.sig l.vars (reads (drop l.arg-index l.args))
      ≡ with_all_variables l.sig l.fn.vars (reads l.args);
  means : (more : List (List ℕ × ℕ)) (qs : List Pattern) → Extends l.vars more
      → AllMean l.sig more (reads (drop l.arg-index l.args)) (patterns qs)
      → AllMean l.sig more (reads l.args) (patterns (map plain_pattern l.pats.items ++ qs));
}
