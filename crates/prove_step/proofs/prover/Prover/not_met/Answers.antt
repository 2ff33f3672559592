use Rattle.std.proofs.Common.{sym, subst}
use Rattle.rule_core.specs.AcSymbols.{IsAcFree}
use Rattle.prove_term.specs.Contexts.{Context}
use Rattle.prove_step.proofs.GrowthLaws.{lemmas_after}
use Rattle.prove_step.proofs.prover.Prover.not_met.Goals as goal

pub not_met-requires-clause-no_ac : goal.not_met-requires-clause-no_ac
not_met-requires-clause-no_ac c =
    subst (λ (cx : Context). IsAcFree cx.program.sig) (sym c.self.view_is) c.requires.no_ac

pub invariant_of-self : goal.invariant_of-self
invariant_of-self c =
    lemmas_after c.self.inside.cx c.not_met.new.cx c.self.inside.rules.items c.self.inside.kept
    c.not_met.new.kept c.self.inside.sides c.not_met.ensures.grown c.self.invariant
    c.not_met.ensures.kept
