use Rattle.ml_kernel.specs.Theorems.{conclusions}
use Rattle.prove_term.proofs.ResultLaws.{if_ok}
use Rattle.prove_open.specs.Values.{at_values, values_from}
use Rattle.prove_open.proofs.OpenInstances.{opens, holds}
use Rattle.prove_open.proofs.instances.at_patterns.Goals as goal

pub instance_open-requires : goal.instance_open-requires
instance_open-requires c = (
  at_values (values_from c.requires.k c.requires.qs) c.requires.body,
  opens c.args.h.now c.args.sentence.now.conclusion (conclusions c.args.facts.now) c.requires,
)

pub returns-clause-conclusion : goal.returns-clause-conclusion
returns-clause-conclusion c =
    if_ok c.instance_open.result
    (λ t says. holds c.args.h.now c.args.sentence.now.conclusion (conclusions c.args.facts.now)
    t.conclusion says)
    c.instance_open.ensures.conclusion
