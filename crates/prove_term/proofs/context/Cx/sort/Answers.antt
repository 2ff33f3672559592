use Rattle.prove_term.proofs.KeptInside.{kept_gains}
use Rattle.prove_term.proofs.context.Cx.sort.Goals as goal

pub invariant_of-self : goal.invariant_of-self
invariant_of-self c =
    kept_gains c.self.inside c.sort_number.new.names c.self.invariant c.sort_number.ensures.names
