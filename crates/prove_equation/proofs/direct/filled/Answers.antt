use Rattle.std.proofs.Common.{ℕ, List, sym, ◌∙◌, subst, arith}
use Rattle.ml_pat.specs.Patterns.{Pattern}
use Rattle.ml_kernel.specs.Theorems.{Theorem}
use Rattle.rule_core.specs.ProgramView.{function_equation}
use Rattle.prove_schema.specs.Elements.{AreElementsFor}
use Rattle.prove_schema.specs.Using.{IsUsable, IsUsed, StaysUsed}
use Rattle.prove_schema.proofs.ResultLaws.{if_ok}
use Rattle.prove_equation.proofs.FillingLaws.{IsCited, all_bound, can_fill_grown, cited_usable}
use Rattle.prove_equation.proofs.FillingLaws.{cited_says, cited_stays}
use Rattle.prove_equation.proofs.direct.filled.Goals as goal

pub elements-requires-clause-few : goal.elements-requires-clause-few
elements-requires-clause-few c = omega (arith, c.requires.used.room, c.requires.used.image.few)

pub elements-requires-clause-bound : goal.elements-requires-clause-bound
elements-requires-clause-bound c =
    all_bound c.args.cx.now.program.sig (function_equation c.args.equation.now).variables
    c.args.subst.now c.requires.used.respects c.requires.used.room c.requires.used.bound

pub schema_at-requires : goal.schema_at-requires
schema_at-requires c =
    let w : IsCited c.elements.new.cx c.args.equation.now.fun.0
    (function_equation c.args.equation.now) c.args.lemma.now c.args.subst.now
    c.args.condition.now c.deref.result.now =
    record {
      can =
          can_fill_grown c.args.cx.now c.elements.new.cx c.args.equation.now.fun.0
          (function_equation c.args.equation.now) c.args.lemma.now c.args.subst.now
          c.args.condition.now c.elements.ensures.grown c.requires.used;
      elements =
          subst (AreElementsFor c.elements.new.cx c.args.subst.now) (sym c.deref.ensures.value)
          c.in_ok-facts.ensures.facts;
    } in
    subst (λ (os : List Theorem). (qs : List Pattern) × (ns : List ℕ)
    × IsUsable qs ns c.args.lemma.now c.deref.result.now os)
    (sym (c.deref-2.ensures.value ∙ c.in_ok-others.ensures))
    (cited_usable c.elements.new.cx c.args.equation.now.fun.0
    (function_equation c.args.equation.now) c.args.lemma.now c.args.subst.now
    c.args.condition.now c.deref.result.now w)

pub returns-clause-says : goal.returns-clause-says
returns-clause-says c =
    let w : IsCited c.elements.new.cx c.args.equation.now.fun.0
    (function_equation c.args.equation.now) c.args.lemma.now c.args.subst.now
    c.args.condition.now c.deref.result.now =
    record {
      can =
          can_fill_grown c.args.cx.now c.elements.new.cx c.args.equation.now.fun.0
          (function_equation c.args.equation.now) c.args.lemma.now c.args.subst.now
          c.args.condition.now c.elements.ensures.grown c.requires.used;
      elements =
          subst (AreElementsFor c.elements.new.cx c.args.subst.now) (sym c.deref.ensures.value)
          c.in_ok-facts.ensures.facts;
    } in
    if_ok c.schema_at.result
    (λ t used. cited_says c.elements.new.cx c.args.equation.now.fun.0
    (function_equation c.args.equation.now) c.args.lemma.now c.args.subst.now
    c.args.condition.now c.deref.result.now t w
    (subst (λ (os : List Theorem). IsUsed c.args.lemma.now c.deref.result.now os t)
    (c.deref-2.ensures.value ∙ c.in_ok-others.ensures) used)) c.schema_at.ensures.says

pub returns-clause-stays : goal.returns-clause-stays
returns-clause-stays c =
    let w : IsCited c.elements.new.cx c.args.equation.now.fun.0
    (function_equation c.args.equation.now) c.args.lemma.now c.args.subst.now
    c.args.condition.now c.deref.result.now =
    record {
      can =
          can_fill_grown c.args.cx.now c.elements.new.cx c.args.equation.now.fun.0
          (function_equation c.args.equation.now) c.args.lemma.now c.args.subst.now
          c.args.condition.now c.elements.ensures.grown c.requires.used;
      elements =
          subst (AreElementsFor c.elements.new.cx c.args.subst.now) (sym c.deref.ensures.value)
          c.in_ok-facts.ensures.facts;
    } in
    if_ok c.schema_at.result
    (λ t used. cited_stays c.elements.new.cx c.args.equation.now.fun.0
    (function_equation c.args.equation.now) c.args.lemma.now c.args.subst.now
    c.args.condition.now c.deref.result.now t w
    (subst (λ (os : List Theorem). StaysUsed c.args.lemma.now c.deref.result.now os t)
    (c.deref-2.ensures.value ∙ c.in_ok-others.ensures) used)) c.schema_at.ensures.stays
