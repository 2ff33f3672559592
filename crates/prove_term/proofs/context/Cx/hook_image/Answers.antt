use Rattle.std.proofs.Common.{inr, map}
use Rattle.term_core.specs.Values.{scalar_value}
use Rattle.ml_image.specs.TrueFacts.{of_hook}
use Rattle.prove_term.proofs.ResultLaws.{if_ok}
use Rattle.prove_term.proofs.KeptInside.{kept_gains, grown_gains}
use Rattle.prove_term.proofs.context.Cx.hook_image.Goals as goal

pub invariant_of-self : goal.invariant_of-self
invariant_of-self c =
    kept_gains c.self.inside c.hook_fact.new.names c.self.invariant c.hook_fact.ensures.names

pub returns-clause-assumed : goal.returns-clause-assumed
returns-clause-assumed c =
    if_ok c.hook_fact.result
    (λ p h. (h.0, inr (of_hook c.args.symbol.0 (map scalar_value c.args.args.now) h.1), h.2))
    c.hook_fact.ensures.image

pub returns-clause-grown : goal.returns-clause-grown
returns-clause-grown c =
    grown_gains c.self.inside c.args.self.now c.hook_fact.new.names c.self.view_is
    c.hook_fact.ensures.names
