use Rattle.prove_term.proofs.KeptInside.{kept_gains, grown_gains}
use Rattle.prove_term.proofs.context.Cx.image.Goals as goal

pub invariant_of-self : goal.invariant_of-self
invariant_of-self c =
    kept_gains c.self.inside c.term_image.new.names c.self.invariant c.term_image.ensures.names

pub returns-clause-grown : goal.returns-clause-grown
returns-clause-grown c =
    grown_gains c.self.inside c.args.self.now c.term_image.new.names c.self.view_is
    c.term_image.ensures.names
