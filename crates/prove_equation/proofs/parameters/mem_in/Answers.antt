use Rattle.std.proofs.Common.{[], ◌∷◌}
use Rattle.ml_pat.specs.Patterns.{imp, fun, member}
use Rattle.ml_kernel.specs.Rules.{pattern, sort}
use Rattle.ml_kernel.specs.declared.rules.Rule.TheVariants as rule
use Rattle.ml_derived.proofs.RuleLaws.{rule_stays}
use Rattle.prove_equation.proofs.parameters.mem_in.Goals as goal

pub returns-clause-stays : goal.returns-clause-stays
returns-clause-stays c =
    rule_stays rule.MemIn (pattern c.args.p.now ∷ sort c.args.s.0 ∷ [])
    (fun c.args.p.now c.args.s.0 ∷ []) []
    (imp (fun c.args.p.now c.args.s.0) (member c.args.p.now c.args.p.now)) c.mem_in.result
    (λ s hp ht. ((hp.0.0, (hp.0.1, tt)), (hp.0, (hp.0.0, hp.0.0)))) c.mem_in.ensures
