use Rattle.term_core.proofs.PatternLaws.{AreNormalBindings-replicate}
use Rattle.term_core.proofs.subst.Subst.new.Goals as goal

pub invariant_of-result : goal.invariant_of-result
invariant_of-result c = rw c.loop.invariant (AreNormalBindings-replicate c.loop.counter)
