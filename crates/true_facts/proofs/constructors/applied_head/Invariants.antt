use Rattle.std.proofs.Common.{◌≡◌}
use Rattle.true_facts.specs.Constructors.{applied_head}
use Rattle.true_facts.proofs.constructors.applied_head.Given as goal

abbrev pub invariant-loop-inner : goal.invariant-loop-inner
invariant-loop-inner l = applied_head l.head ≡ applied_head l.pattern
