use Rattle.std.proofs.Common.{rules, ◌≡◌, subst}
use Rattle.ml_pat.specs.Patterns.{and, imp}
use Rattle.ml_derived.specs.Scopes.{IsOver}
use Rattle.prove_term.proofs.ResultLaws.{if_ok}
use Rattle.prove_open.proofs.givens.second.Goals as goal

pub returns-clause-stays : goal.returns-clause-stays
returns-clause-stays c =
    let e : c.args.both.now.conclusion ≡ imp c.sides.result.0.now (and c.in-And.p c.in-And.q) =
    search rules in
    if_ok c.chain.result
    (λ t stays s hp ht.
    let over : IsOver s (imp c.sides.result.0.now (and c.in-And.p c.in-And.q)) =
    subst (IsOver s) e ht.0.conclusion in
    stays s tt
    (ht.0, (c.in_ok-rule.ensures.stays s (over.1.0, (over.1.1, tt)) tt, tt)))
    c.chain.ensures.stays
