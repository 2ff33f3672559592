use Rattle.std.proofs.Common.{subst}
use Rattle.prove_term.specs.Contexts.{Context, StaysIn}
use Rattle.prove_term.proofs.ResultLaws.{if_ok_three}
use Rattle.prove_term.proofs.ContextLaws.{axiom_stays}
use Rattle.prove_term.proofs.context.Cx.axiom.Goals as goal

pub returns-clause-stays : goal.returns-clause-stays
returns-clause-stays c =
    if_ok_three c.axiom.result
    (λ t conclusion hypotheses derivation. subst (λ (v : Context). StaysIn v t) c.self.view_is
    (axiom_stays _ c.args.no.0 t c.self.invariant.context conclusion hypotheses derivation))
    c.axiom.ensures.conclusion c.axiom.ensures.hypotheses c.axiom.ensures.derivation
