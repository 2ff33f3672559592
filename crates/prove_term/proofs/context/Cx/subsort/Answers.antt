use Rattle.std.proofs.Common.{subst}
use Rattle.prove_term.specs.Injections.{SaysInjecting}
use Rattle.prove_term.proofs.ResultLaws.{if_ok}
use Rattle.prove_term.proofs.ConstructingLaws.{same_there}
use Rattle.prove_term.proofs.InjectionGrown.{injecting_grown}
use Rattle.prove_term.proofs.context.Cx.subsort.Goals as goal

pub returns-clause-says : goal.returns-clause-says
returns-clause-says c =
    if_ok c.axiom.result
    (λ t there. subst (SaysInjecting c.state_once.new.self c.args.from.0 c.args.to.0)
    (same_there c.state_once.new.self.axioms c.in_ok-no.no.0 c.in_ok-image.image t.conclusion
    c.in_ok-no.ensures.there there)
    (injecting_grown c.subsort_image.new.self c.state_once.new.self c.args.from.0 c.args.to.0
    c.in_ok-image.image c.in_ok-no.ensures.grown c.in_ok-image.ensures.says))
    c.axiom.ensures.conclusion
