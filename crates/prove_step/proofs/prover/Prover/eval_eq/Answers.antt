use Rattle.std.proofs.Common.{ℕ, List, sym, subst}
use Rattle.term_core.specs.RulePatterns.{plain_pattern}
use Rattle.rule_core.specs.Sorting.{HasSort}
use Rattle.rule_core.specs.WellSorted.{BindsVariablesOf}
use Rattle.prove_term.specs.Contexts.{Context}
use Rattle.prove_step.proofs.GrowthLaws.{lemmas_after}
use Rattle.prove_step.proofs.prover.Prover.eval_eq.Goals as goal

pub eval_eq-requires-clause-sorted : goal.eval_eq-requires-clause-sorted
eval_eq-requires-clause-sorted c =
    subst (λ (cx : Context). (variables : List ℕ) × (sort : ℕ)
    × HasSort cx.program.sig variables (plain_pattern c.args.pat.now) sort
    × BindsVariablesOf cx.program.sig variables c.args.subst.now (plain_pattern c.args.pat.now))
    (sym c.self.view_is) c.requires.sorted

pub invariant_of-self : goal.invariant_of-self
invariant_of-self c =
    lemmas_after c.self.inside.cx c.eval_eq.new.cx c.self.inside.rules.items c.self.inside.kept
    c.eval_eq.new.kept c.self.inside.sides c.eval_eq.ensures.grown c.self.invariant
    c.eval_eq.ensures.kept
