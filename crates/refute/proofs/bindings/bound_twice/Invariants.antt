use Rattle.term_core.specs.RulePatterns.{plain_pattern}
use Rattle.refute.proofs.TwoBindings.{Remains}
use Rattle.refute.proofs.bindings.bound_twice.Given as goal

abbrev pub invariant-loop-x : goal.invariant-loop-x
invariant-loop-x l = Remains l.subsorts (plain_pattern l.pat) l.term l.variables l.x-index
