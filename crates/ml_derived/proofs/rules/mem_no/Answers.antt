use Rattle.std.proofs.Common.{[], ◌∷◌, subst}
use Rattle.ml_pat.specs.Patterns.{imp, not, and, member}
use Rattle.ml_kernel.specs.Rules.{pattern}
use Rattle.ml_kernel.specs.declared.rules.Rule.TheVariants as rule
use Rattle.ml_derived.specs.Scopes.{IsOver}
use Rattle.ml_derived.proofs.RuleLaws.{rule_stays}
use Rattle.ml_derived.proofs.rules.mem_no.Goals as goal

pub returns-clause-stays : goal.returns-clause-stays
returns-clause-stays c =
    rule_stays rule.MemNo (pattern c.args.p.now ∷ pattern c.args.q.now ∷ pattern c.args.r.now ∷ [])
    [] (c.args.a.now ∷ [])
    (imp c.args.r.now (not (member c.args.p.now c.args.q.now)))
    c.mem_no.result
    (λ s hp ht.
    let all : IsOver s (imp c.args.r.now (not (and c.args.p.now c.args.q.now))) =
    subst (IsOver s) c.requires.a ht.0.conclusion in
    ((all.1.0, (all.1.1, (all.0, tt))), all))
    c.mem_no.ensures
