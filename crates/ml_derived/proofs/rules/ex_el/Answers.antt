use Rattle.std.proofs.Common.{[], ◌∷◌, subst}
use Rattle.ml_pat.specs.Patterns.{imp, fun, ex, var}
use Rattle.ml_kernel.specs.Rules.{pattern, variable, sort}
use Rattle.ml_kernel.specs.declared.rules.Rule.TheVariants as rule
use Rattle.ml_derived.specs.Scopes.{IsOver}
use Rattle.ml_derived.proofs.RuleLaws.{rule_stays}
use Rattle.ml_derived.proofs.rules.ex_el.Goals as goal

pub returns-clause-stays : goal.returns-clause-stays
returns-clause-stays c =
    rule_stays rule.ExEl (pattern c.args.p.now ∷ pattern c.args.q.now ∷ variable c.args.x.0 ∷ sort c.args.s.0 ∷ [])
    [] (c.args.a.now ∷ [])
    (imp (ex c.args.x.0 c.args.s.0 c.args.p.now) c.args.q.now)
    c.ex_el.result
    (λ s hp ht.
    let all : IsOver s (imp (fun (var c.args.x.0) c.args.s.0) (imp c.args.p.now c.args.q.now)) =
    subst (IsOver s) c.requires.a ht.0.conclusion in
    ((all.1.0, (all.1.1, (all.0.0, (all.0.1, tt)))), ((all.1.0, all.0), all.1.1)))
    c.ex_el.ensures
