use Rattle.term_core.proofs.PatternLaws.{norm-substituted}
use Rattle.term_core.proofs.instances.instance.Goals as goal

pub returns-clause-norm : goal.returns-clause-norm
returns-clause-norm c = rw (norm-substituted _ _ c.vars-vars.ensures.normal) c.build.ensures
