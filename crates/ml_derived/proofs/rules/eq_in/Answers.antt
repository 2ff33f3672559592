use Rattle.std.proofs.Common.{[], ◌∷◌, subst}
use Rattle.ml_pat.specs.Patterns.{imp, equal}
use Rattle.ml_kernel.specs.Rules.{pattern}
use Rattle.ml_kernel.specs.declared.rules.Rule.TheVariants as rule
use Rattle.ml_derived.specs.Scopes.{IsOver}
use Rattle.ml_derived.proofs.RuleLaws.{rule_stays}
use Rattle.ml_derived.proofs.rules.eq_in.Goals as goal

pub returns-clause-stays : goal.returns-clause-stays
returns-clause-stays c =
    rule_stays rule.EqIn (pattern c.args.p.now ∷ pattern c.args.q.now ∷ [])
    [] (c.args.a.now ∷ c.args.b.now ∷ [])
    (equal c.args.p.now c.args.q.now)
    c.eq_in.result
    (λ s hp ht.
    let both : IsOver s (imp c.args.p.now c.args.q.now) =
    subst (IsOver s) c.requires.a ht.0.conclusion in
    ((both.0, (both.1, tt)), both))
    c.eq_in.ensures
