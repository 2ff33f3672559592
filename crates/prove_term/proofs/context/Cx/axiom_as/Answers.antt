use Rattle.std.proofs.Common.{subst}
use Rattle.ml_kernel.specs.StepView.{numbers_of}
use Rattle.prove_term.specs.Contexts.{Context, StaysIn}
use Rattle.prove_term.proofs.ResultLaws.{if_ok_two}
use Rattle.prove_term.proofs.ContextLaws.{axiom_as_stays}
use Rattle.prove_term.proofs.context.Cx.axiom_as.Goals as goal

pub returns-clause-stays : goal.returns-clause-stays
returns-clause-stays c =
    if_ok_two c.axiom_as.result
    (λ t cited none. subst (λ (v : Context). StaysIn v t) c.self.view_is
    (axiom_as_stays _ c.args.no.0 t (numbers_of c.args.new.now)
    c.self.invariant.context cited none))
    c.axiom_as.ensures.axiom c.axiom_as.ensures.hypotheses
