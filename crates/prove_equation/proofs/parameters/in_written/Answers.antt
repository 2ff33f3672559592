use Rattle.std.proofs.Common.{subst}
use Rattle.ml_pat.specs.Patterns.{Pattern}
use Rattle.prove_schema.proofs.ResultLaws.{if_ok}
use Rattle.prove_equation.specs.Parameters.{IsInHole}
use Rattle.prove_equation.proofs.MembershipLaws.{enter_carries, entered_says}
use Rattle.prove_equation.proofs.parameters.in_written.Goals as goal

pub carry-requires : goal.carry-requires
carry-requires c =
    let hole : IsInHole c.in_ok-turned-in-Some.turned.conclusion c.in_ok-context-in-Some.context =
    subst (λ (e : Pattern). IsInHole e c.in_ok-context-in-Some.context) c.conclusion.ensures
    c.in_ok-context-in-Some.ensures in
    enter_carries c.args.itself.conclusion c.in_ok-turned-in-Some.turned.conclusion
    c.in_ok-context-in-Some.context c.args.equality.now c.in-Some.thm c.in-Some.is c.requires
    c.in_ok-turned-in-Some.ensures.conclusion hole

pub returns-in_ok-context-in-Some-clause-says : goal.returns-in_ok-context-in-Some-clause-says
returns-in_ok-context-in-Some-clause-says c =
    let hole : IsInHole c.in_ok-turned-in-Some.turned.conclusion c.in_ok-context-in-Some.context =
    subst (λ (e : Pattern). IsInHole e c.in_ok-context-in-Some.context) c.conclusion.ensures
    c.in_ok-context-in-Some.ensures in
    if_ok c.carry.result
    (λ t carried. entered_says c.args.itself c.in_ok-turned-in-Some.turned t
    c.in_ok-context-in-Some.context c.args.equality.now c.in-Some.thm c.in-Some.is
    c.in_ok-turned-in-Some.ensures.conclusion hole carried)
    c.carry.ensures.conclusion
