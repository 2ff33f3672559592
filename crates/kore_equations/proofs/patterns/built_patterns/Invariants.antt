use Rattle.std.proofs.Common.{◌≡◌, ◌++◌, drop, map, List, ℕ}
use Rattle.term_core.specs.Patterns.{Pattern}
use Rattle.term_core.specs.Instances.{patterns}
use Rattle.term_core.specs.RulePatterns.{plain_pattern}
use Rattle.kore_check.specs.PatternMeanings.{AllMean, with_all_variables}
use Rattle.kore_check.specs.Building.{Extends}
use Rattle.kore_shapes.specs.Views.{pattern_at}
use Rattle.kore_equations.specs.ReadableSides.{all_read}
use Rattle.kore_equations.specs.BuiltEquations.{AreFine}
use Rattle.kore_equations.proofs.patterns.built_patterns.Given as goal

abbrev pub invariant-loop-pat : goal.invariant-loop-pat
invariant-loop-pat l = record {
  fine : AreFine l.sig (all_read (map pattern_at (drop l.pat-index l.pats)));
  vars : with_all_variables l.sig l.vars (all_read (map pattern_at (drop l.pat-index l.pats)))
      ≡ with_all_variables l.sig l.fn.vars (all_read (map pattern_at l.pats));
  means : (more : List (List ℕ × ℕ)) (qs : List Pattern) → Extends l.vars more
      → AllMean l.sig more (all_read (map pattern_at (drop l.pat-index l.pats))) (patterns qs)
      → AllMean l.sig more (all_read (map pattern_at l.pats))
      (patterns (map plain_pattern l.made.items ++ qs));
}
