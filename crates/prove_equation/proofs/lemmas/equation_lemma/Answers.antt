use Rattle.rule_core.specs.ProgramView.{function_equation}
use Rattle.prove_schema.proofs.ResultLaws.{if_ok, if_ok_two}
use Rattle.prove_equation.proofs.LemmaLaws.{IsOpened, image_grown, axiom_for_all}
use Rattle.prove_equation.proofs.LemmaLaws.{opened_conditional, opened_lemma, opened_says}
use Rattle.prove_equation.proofs.lemmas.equation_lemma.Goals as goal

pub schema-requires : goal.schema-requires
schema-requires c =
    axiom_for_all c.args.cx.now c.equation_axiom.new.self c.args.equation.now.fun.0
    (function_equation c.args.equation.now) c.in_ok-axiom.axiom.conclusion
    c.equation_axiom.ensures.grown c.requires.image c.in_ok-axiom.ensures.says

pub without_condition-requires : goal.without_condition-requires
without_condition-requires c =
    let o : IsOpened c.equation_axiom.new.self c.args.equation.now.fun.0
    (function_equation c.args.equation.now) c.in_ok-axiom.axiom c.in_ok-whole.whole =
    record {
      image =
          image_grown c.args.cx.now c.equation_axiom.new.self c.args.equation.now.fun.0
          (function_equation c.args.equation.now) c.equation_axiom.ensures.grown
          c.requires.image;
      axiom_says = c.in_ok-axiom.ensures.says;
      axiom_stays = c.in_ok-axiom.ensures.stays;
      says = c.in_ok-whole.ensures.says;
      stays = c.in_ok-whole.ensures.stays;
    } in
    opened_conditional c.equation_axiom.new.self c.args.equation.now.fun.0
    (function_equation c.args.equation.now) c.in_ok-axiom.axiom c.in_ok-whole.whole o

pub returns-clause-says : goal.returns-clause-says
returns-clause-says c =
    let o : IsOpened c.equation_axiom.new.self c.args.equation.now.fun.0
    (function_equation c.args.equation.now) c.in_ok-axiom.axiom c.in_ok-whole.whole =
    record {
      image =
          image_grown c.args.cx.now c.equation_axiom.new.self c.args.equation.now.fun.0
          (function_equation c.args.equation.now) c.equation_axiom.ensures.grown
          c.requires.image;
      axiom_says = c.in_ok-axiom.ensures.says;
      axiom_stays = c.in_ok-axiom.ensures.stays;
      says = c.in_ok-whole.ensures.says;
      stays = c.in_ok-whole.ensures.stays;
    } in
    if_ok_two c.without_condition.result
    (λ t follows stays. opened_says c.equation_axiom.new.self c.args.equation.now.fun.0
    (function_equation c.args.equation.now) c.in_ok-axiom.axiom c.in_ok-whole.whole t o follows
    stays)
    c.without_condition.ensures.says c.without_condition.ensures.stays

pub returns-clause-lemma : goal.returns-clause-lemma
returns-clause-lemma c =
    let o : IsOpened c.equation_axiom.new.self c.args.equation.now.fun.0
    (function_equation c.args.equation.now) c.in_ok-axiom.axiom c.in_ok-whole.whole =
    record {
      image =
          image_grown c.args.cx.now c.equation_axiom.new.self c.args.equation.now.fun.0
          (function_equation c.args.equation.now) c.equation_axiom.ensures.grown
          c.requires.image;
      axiom_says = c.in_ok-axiom.ensures.says;
      axiom_stays = c.in_ok-axiom.ensures.stays;
      says = c.in_ok-whole.ensures.says;
      stays = c.in_ok-whole.ensures.stays;
    } in
    if_ok c.without_condition.result
    (λ t stays. opened_lemma c.equation_axiom.new.self c.args.equation.now.fun.0
    (function_equation c.args.equation.now) c.in_ok-axiom.axiom c.in_ok-whole.whole t o stays)
    c.without_condition.ensures.stays
