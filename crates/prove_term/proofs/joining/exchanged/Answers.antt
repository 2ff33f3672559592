use Rattle.std.proofs.Common.{◌≡◌, ◌∷◌, [], rules}
use Rattle.ml_pat.specs.Patterns.{equal, fun, var}
use Rattle.prove_term.proofs.ResultLaws.{if_ok}
use Rattle.prove_term.proofs.AssumingLaws.{assumes_nothing}
use Rattle.prove_term.proofs.InjectionLaws.{exchanged_keeps, exchanged_stays}
use Rattle.prove_term.proofs.joining.exchanged.Goals as goal

pub returns-clause-hypotheses : goal.returns-clause-hypotheses
returns-clause-hypotheses c =
    if_ok c.detach.result
    (λ t adds. λ h one. exchanged_keeps c.args.equality.now c.in_ok-rule.rule t h
    (assumes_nothing (c.in-Equal.left ∷ c.in-Equal.right ∷ c.in_ok-context.context ∷ c.args.old.now
    ∷ c.args.new.now ∷ var 0 ∷ []) c.in_ok-rule.rule c.in_ok-rule.ensures.stays) adds
    one)
    c.detach.ensures.hypotheses

pub returns-clause-stays : goal.returns-clause-stays
returns-clause-stays c =
    let is : c.args.equality.now.conclusion ≡ equal c.in-Equal.left c.in-Equal.right =
    search rules in
    let context : c.in_ok-context.context ≡ fun (var 0) c.requires.2 = search rules in
    if_ok c.detach.result
    (λ t stays. exchanged_stays c.args.equality.now c.in_ok-rule.rule t c.in-Equal.left
    c.in-Equal.right c.args.old.now c.args.new.now c.in_ok-context.context c.requires.0
    c.requires.1 c.requires.2
    is c.requires.3 c.requires.4 c.requires.5 context c.in_ok-rule.ensures.stays stays)
    c.detach.ensures.stays
