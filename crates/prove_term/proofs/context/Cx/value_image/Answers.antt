use Rattle.std.proofs.Common.{inr}
use Rattle.ml_image.specs.TrueFacts.{of_value}
use Rattle.term_core.specs.Values.{value_of}
use Rattle.prove_term.proofs.ResultLaws.{if_ok}
use Rattle.prove_term.proofs.KeptInside.{kept_gains, grown_gains}
use Rattle.prove_term.proofs.context.Cx.value_image.Goals as goal

pub invariant_of-self : goal.invariant_of-self
invariant_of-self c =
    kept_gains c.self.inside c.value_fact.new.names c.self.invariant c.value_fact.ensures.names

pub returns-clause-assumed : goal.returns-clause-assumed
returns-clause-assumed c =
    if_ok c.value_fact.result
    (λ p h. (h.0, inr (of_value c.args.sort.0 (value_of c.args.value.now) h.1), h.2))
    c.value_fact.ensures.image

pub returns-clause-grown : goal.returns-clause-grown
returns-clause-grown c =
    grown_gains c.self.inside c.args.self.now c.value_fact.new.names c.self.view_is
    c.value_fact.ensures.names
