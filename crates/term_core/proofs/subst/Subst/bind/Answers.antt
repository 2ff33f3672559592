use Rattle.term_core.proofs.PatternLaws.{AreNormalBindings-set}
use Rattle.term_core.proofs.subst.Subst.bind.Goals as goal

pub invariant_of-self : goal.invariant_of-self
invariant_of-self c =
    AreNormalBindings-set c.self.inside.slots.items c.args.var c.args.term c.self.invariant
    c.height-high.ensures.normal
