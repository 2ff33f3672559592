use Rattle.std.proofs.Common.{List, sym, ◌∙◌, subst, ℕ}
use Rattle.ml_pat.specs.Patterns.{Pattern}
use Rattle.ml_kernel.specs.Theorems.{Theorem}
use Rattle.prove_schema.specs.Elements.{AreElementsFor}
use Rattle.prove_schema.specs.Using.{IsUsable, IsUsed, StaysUsed}
use Rattle.prove_schema.proofs.ResultLaws.{if_ok}
use Rattle.prove_step.proofs.ApplyingLaws.{few_bound, each_bound, cited_at}
use Rattle.prove_step.proofs.StepLaws.{cited_usable, cited_says, cited_stays}
use Rattle.prove_step.proofs.applying.applied.Goals as goal

pub elements-requires-clause-few : goal.elements-requires-clause-few
elements-requires-clause-few c =
    few_bound c.args.cx.now c.requires.0 c.args.lemma.now c.args.subst.now c.args.condition.now
    c.requires.1

pub elements-requires-clause-bound : goal.elements-requires-clause-bound
elements-requires-clause-bound c =
    each_bound c.args.cx.now c.requires.0 c.args.lemma.now c.args.subst.now c.args.condition.now
    c.requires.1

pub schema_at-requires : goal.schema_at-requires
schema_at-requires c =
    let facts : AreElementsFor c.elements.new.cx c.args.subst.now c.deref.result.now =
    subst (AreElementsFor c.elements.new.cx c.args.subst.now) (sym c.deref.ensures.value)
    c.in_ok-facts.ensures.facts in
    subst (λ (os : List Theorem). (qs : List Pattern) × (ns : List ℕ)
    × IsUsable qs ns c.args.lemma.now c.deref.result.now os)
    (sym (c.deref-2.ensures.value ∙ c.in_ok-others.ensures))
    (cited_usable c.elements.new.cx c.requires.0 c.args.lemma.now c.args.subst.now
    c.args.condition.now c.deref.result.now
    (cited_at c.args.cx.now c.elements.new.cx c.requires.0 c.args.lemma.now c.args.subst.now
    c.args.condition.now c.deref.result.now c.elements.ensures.grown facts c.requires.1))

pub returns-clause-says : goal.returns-clause-says
returns-clause-says c =
    let facts : AreElementsFor c.elements.new.cx c.args.subst.now c.deref.result.now =
    subst (AreElementsFor c.elements.new.cx c.args.subst.now) (sym c.deref.ensures.value)
    c.in_ok-facts.ensures.facts in
    if_ok c.schema_at.result
    (λ t used. λ r can. cited_says c.elements.new.cx r c.args.lemma.now c.args.subst.now
    c.args.condition.now c.deref.result.now t
    (cited_at c.args.cx.now c.elements.new.cx r c.args.lemma.now c.args.subst.now
    c.args.condition.now c.deref.result.now c.elements.ensures.grown facts can)
    (subst (λ (os : List Theorem). IsUsed c.args.lemma.now c.deref.result.now os t)
    (c.deref-2.ensures.value ∙ c.in_ok-others.ensures) used)) c.schema_at.ensures.says

pub returns-clause-stays : goal.returns-clause-stays
returns-clause-stays c =
    let facts : AreElementsFor c.elements.new.cx c.args.subst.now c.deref.result.now =
    subst (AreElementsFor c.elements.new.cx c.args.subst.now) (sym c.deref.ensures.value)
    c.in_ok-facts.ensures.facts in
    if_ok c.schema_at.result
    (λ t used. cited_stays c.elements.new.cx c.requires.0 c.args.lemma.now c.args.subst.now
    c.args.condition.now c.deref.result.now t
    (cited_at c.args.cx.now c.elements.new.cx c.requires.0 c.args.lemma.now c.args.subst.now
    c.args.condition.now c.deref.result.now c.elements.ensures.grown facts c.requires.1)
    (subst (λ (os : List Theorem). StaysUsed c.args.lemma.now c.deref.result.now os t)
    (c.deref-2.ensures.value ∙ c.in_ok-others.ensures) used)) c.schema_at.ensures.stays
