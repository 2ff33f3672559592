use Rattle.std.proofs.Common.{◌≡◌}
use Rattle.true_facts.specs.Closing.{unquantified}
use Rattle.true_facts.proofs.closing.unquantified.Given as goal

abbrev pub invariant-loop-inner : goal.invariant-loop-inner
invariant-loop-inner l = unquantified l.body ≡ unquantified l.pattern
