use Rattle.term_core.proofs.Forests.{norm-normal}
use Rattle.term_core.proofs.terms.Term.inj.Goals as goal

pub returns-clause-norm : goal.returns-clause-norm
returns-clause-norm c =
    rw (norm-normal c.args.child.now c.height-high.ensures.normal) c.joined.ensures
