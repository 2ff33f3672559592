use Rattle.rule_core.specs.ProgramView.{function_equation}
use Rattle.prove_term.proofs.ResultLaws.{if_ok}
use Rattle.prove_term.proofs.EquationLaws.{equation_assumed, says_equation_grown}
use Rattle.prove_term.proofs.EquationLaws.{says_equation_there}
use Rattle.prove_term.proofs.context.Cx.equation_axiom.Goals as goal

pub state-requires : goal.state-requires
state-requires c =
    equation_assumed c.args.self.now c.equation_image.new.self c.args.equation.now.fun.0
    (function_equation c.args.equation.now) c.in_ok-image.image
    c.in_ok-image.ensures.grown c.requires.own c.in_ok-image.ensures.says

pub returns-clause-says : goal.returns-clause-says
returns-clause-says c =
    if_ok c.axiom.result
    (λ t there. says_equation_there c.state.new.self c.args.equation.now.fun.0
    (function_equation c.args.equation.now) c.in_ok-no.no.0 c.in_ok-image.image t.conclusion
    (says_equation_grown c.equation_image.new.self c.state.new.self c.args.equation.now.fun.0
    (function_equation c.args.equation.now) c.in_ok-image.image c.in_ok-no.ensures.grown
    c.in_ok-image.ensures.says)
    c.in_ok-no.ensures.there there)
    c.axiom.ensures.conclusion
