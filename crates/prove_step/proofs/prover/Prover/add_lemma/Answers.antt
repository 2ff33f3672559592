use Rattle.prove_step.proofs.GrowthLaws.{lemmas_grown}
use Rattle.prove_step.proofs.ProverLaws.{grown_either}
use Rattle.prove_step.proofs.prover.Prover.add_lemma.Goals as goal

pub invariant_of-self : goal.invariant_of-self
invariant_of-self c =
    lemmas_grown c.self.inside.cx c.add_lemma.new.self c.self.inside.rules.items c.self.inside.kept
    c.self.inside.sides
    (grown_either c.add_lemma.result c.self.inside.cx c.add_lemma.new.self c.args.thm
    c.add_lemma.ensures.ok c.add_lemma.ensures.err) c.self.invariant
