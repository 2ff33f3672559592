use Rattle.std.proofs.Common.{sym, subst}
use Rattle.ml_pat.specs.Patterns.{Pattern}
use Rattle.ml_derived.specs.Implications.{HasCondition}
use Rattle.prove_schema.proofs.ResultLaws.{if_ok, if_ok_two}
use Rattle.prove_schema.specs.Assumptions.{HoldsByParts}
use Rattle.prove_step.specs.RuleLemmas.{IsConditional}
use Rattle.prove_step.proofs.LemmaLaws.{ImageAt, Opened, image_at, image_for_all, whole_conditional}
use Rattle.prove_step.proofs.LemmaLaws.{is_condition, opened_lemma, opened_says}
use Rattle.prove_step.proofs.schemas.rule_schema.Goals as goal

pub schema-requires : goal.schema-requires
schema-requires c =
    image_for_all c.rule_axiom.new.self c.args.rule c.in_ok-axiom.axiom.conclusion
    (image_at c.args.cx.now c.rule_axiom.new.self c.args.rule c.in_ok-axiom.axiom.conclusion
    c.rule_axiom.ensures.grown c.requires c.in_ok-axiom.ensures.says)

pub condition-requires : goal.condition-requires
condition-requires c =
    let at : ImageAt c.rule_axiom.new.self c.args.rule c.in_ok-axiom.axiom.conclusion =
    image_at c.args.cx.now c.rule_axiom.new.self c.args.rule c.in_ok-axiom.axiom.conclusion
    c.rule_axiom.ensures.grown c.requires c.in_ok-axiom.ensures.says in
    subst IsConditional (sym c.conclusion.ensures)
    (whole_conditional c.rule_axiom.new.self c.args.rule c.in_ok-axiom.axiom.conclusion
    c.in_ok-whole.whole.conclusion at c.in_ok-whole.ensures.says)

pub assumed-requires : goal.assumed-requires
assumed-requires c =
    let at : ImageAt c.rule_axiom.new.self c.args.rule c.in_ok-axiom.axiom.conclusion =
    image_at c.args.cx.now c.rule_axiom.new.self c.args.rule c.in_ok-axiom.axiom.conclusion
    c.rule_axiom.ensures.grown c.requires c.in_ok-axiom.ensures.says in
    is_condition c.rule_axiom.new.self c.args.rule c.in_ok-axiom.axiom.conclusion
    c.in_ok-whole.whole.conclusion c.condition.result.now at c.in_ok-whole.ensures.says
    (subst (HasCondition c.condition.result.now) c.conclusion.ensures c.condition.ensures)

pub free_of_condition-requires : goal.free_of_condition-requires
free_of_condition-requires c =
    subst (λ (q : Pattern). HasCondition q c.in_ok-whole.whole.conclusion)
    (sym c.in_ok-held.ensures.conclusion)
    (subst (HasCondition c.condition.result.now) c.conclusion.ensures c.condition.ensures)

pub returns-clause-says : goal.returns-clause-says
returns-clause-says c =
    let at : ImageAt c.rule_axiom.new.self c.args.rule c.in_ok-axiom.axiom.conclusion =
    image_at c.args.cx.now c.rule_axiom.new.self c.args.rule c.in_ok-axiom.axiom.conclusion
    c.rule_axiom.ensures.grown c.requires c.in_ok-axiom.ensures.says in
    let o : Opened c.rule_axiom.new.self c.args.rule c.in_ok-axiom.axiom c.in_ok-whole.whole
    c.in_ok-held.held =
    record {
      at = at;
      axiom_stays = c.in_ok-axiom.ensures.stays;
      schema = c.in_ok-whole.ensures.says;
      whole_stays = c.in_ok-whole.ensures.stays;
      held_has =
          subst (λ (q : Pattern). HasCondition q c.in_ok-whole.whole.conclusion)
          (sym c.in_ok-held.ensures.conclusion) (subst (HasCondition c.condition.result.now)
          c.conclusion.ensures c.condition.ensures);
      held_stays =
          subst (λ (q : Pattern). HoldsByParts q c.in_ok-held.held)
          (sym c.in_ok-held.ensures.conclusion) c.in_ok-held.ensures.stays;
    } in
    if_ok_two c.free_of_condition.result
    (λ t is stays. opened_says c.rule_axiom.new.self c.args.rule c.in_ok-axiom.axiom
    c.in_ok-whole.whole c.in_ok-held.held t o is stays)
    c.free_of_condition.ensures.conclusion c.free_of_condition.ensures.stays

pub returns-clause-lemma : goal.returns-clause-lemma
returns-clause-lemma c =
    let at : ImageAt c.rule_axiom.new.self c.args.rule c.in_ok-axiom.axiom.conclusion =
    image_at c.args.cx.now c.rule_axiom.new.self c.args.rule c.in_ok-axiom.axiom.conclusion
    c.rule_axiom.ensures.grown c.requires c.in_ok-axiom.ensures.says in
    let o : Opened c.rule_axiom.new.self c.args.rule c.in_ok-axiom.axiom c.in_ok-whole.whole
    c.in_ok-held.held =
    record {
      at = at;
      axiom_stays = c.in_ok-axiom.ensures.stays;
      schema = c.in_ok-whole.ensures.says;
      whole_stays = c.in_ok-whole.ensures.stays;
      held_has =
          subst (λ (q : Pattern). HasCondition q c.in_ok-whole.whole.conclusion)
          (sym c.in_ok-held.ensures.conclusion) (subst (HasCondition c.condition.result.now)
          c.conclusion.ensures c.condition.ensures);
      held_stays =
          subst (λ (q : Pattern). HoldsByParts q c.in_ok-held.held)
          (sym c.in_ok-held.ensures.conclusion) c.in_ok-held.ensures.stays;
    } in
    if_ok c.free_of_condition.result
    (λ t stays. opened_lemma c.rule_axiom.new.self c.args.rule c.in_ok-axiom.axiom
    c.in_ok-whole.whole c.in_ok-held.held t o stays)
    c.free_of_condition.ensures.stays
