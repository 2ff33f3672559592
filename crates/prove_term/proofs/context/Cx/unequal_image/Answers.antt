use Rattle.prove_term.proofs.KeptInside.{kept_gains, grown_gains}
use Rattle.prove_term.proofs.context.Cx.unequal_image.Goals as goal

pub invariant_of-self : goal.invariant_of-self
invariant_of-self c =
    kept_gains c.self.inside c.apart_fact.new.names c.self.invariant c.apart_fact.ensures.names

pub returns-clause-grown : goal.returns-clause-grown
returns-clause-grown c =
    grown_gains c.self.inside c.args.self.now c.apart_fact.new.names c.self.view_is
    c.apart_fact.ensures.names
