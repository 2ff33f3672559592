use Rattle.std.proofs.Common.{sym, ◌∙◌, ap, subst}
use Rattle.ml_kernel.specs.Theorems.{conclusions}
use Rattle.prove_schema.specs.Assumptions.{AreAssumptions, facts_of}
use Rattle.prove_schema.proofs.ResultLaws.{if_ok}
use Rattle.prove_schema.proofs.OpeningLaws.{sentence_has_instance, opened_says, opened_stays}
use Rattle.prove_schema.proofs.opening.schema.Goals as goal

pub instance-requires : goal.instance-requires
instance-requires c =
    sentence_has_instance c.args.sentence.conclusion (conclusions c.deref.result.now) c.requires
    (ap conclusions c.deref.ensures.value ∙ c.in_ok-facts.ensures.facts
    ∙ ap facts_of c.conclusion.ensures)

pub returns-clause-says : goal.returns-clause-says
returns-clause-says c =
    if_ok c.instance.result
    (λ t made. opened_says c.args.sentence.conclusion t.conclusion (conclusions c.deref.result.now)
    (ap conclusions c.deref.ensures.value ∙ c.in_ok-facts.ensures.facts
    ∙ ap facts_of c.conclusion.ensures) made) c.instance.ensures.conclusion

pub returns-clause-stays : goal.returns-clause-stays
returns-clause-stays c =
    if_ok c.instance.result
    (λ t stays. opened_stays c.args.sentence t c.deref.result.now
    (ap conclusions c.deref.ensures.value ∙ c.in_ok-facts.ensures.facts
    ∙ ap facts_of c.conclusion.ensures)
    (subst AreAssumptions (sym c.deref.ensures.value) c.in_ok-facts.ensures.assumed)
    stays) c.instance.ensures.stays
