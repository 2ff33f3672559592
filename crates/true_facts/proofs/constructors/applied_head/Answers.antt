use Rattle.std.proofs.Common.{sym, ◌∙◌}
use Rattle.true_facts.proofs.ConstructorLaws.{applied_head-same}
use Rattle.true_facts.proofs.constructors.applied_head.Goals as goal

pub returns : goal.returns
returns c =
    sym (applied_head-same c.loop-inner.head.now c.in_default.ensures) ∙ c.loop-inner.invariant
