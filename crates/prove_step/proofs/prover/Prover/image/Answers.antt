use Rattle.prove_step.proofs.GrowthLaws.{lemmas_grown}
use Rattle.prove_step.proofs.prover.Prover.image.Goals as goal

pub invariant_of-self : goal.invariant_of-self
invariant_of-self c =
    lemmas_grown c.self.inside.cx c.image.new.self c.self.inside.rules.items c.self.inside.kept
    c.self.inside.sides c.image.ensures.grown c.self.invariant
