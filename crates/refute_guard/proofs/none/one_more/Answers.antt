use Rattle.std.proofs.Common.{sym, ◌∙◌, subst}
use Rattle.ml_pat.specs.Patterns.{imp}
use Rattle.ml_derived.specs.Scopes.{IsOver, IsWithin}
use Rattle.ml_derived.proofs.StayingLaws.{if_ok}
use Rattle.refute_guard.proofs.none.one_more.Goals as goal

pub returns-clause-stays : goal.returns-clause-stays
returns-clause-stays c =
    if_ok c.mp-2.result
    (λ t stays s hp ht.
    let one : IsOver s (imp c.sides.result.0.now c.sides.result.1.now) =
    subst (IsOver s) (sym c.conclusion.ensures ∙ c.sides.ensures) ht.0.conclusion in
    let other : IsOver s (imp c.sides-2.result.0.now c.sides-2.result.1.now) =
    subst (IsOver s) (sym c.conclusion-2.ensures ∙ c.sides-2.ensures) ht.1.0.conclusion in
    let rule : IsWithin s c.in_ok-rule.rule =
    c.in_ok-rule.ensures.stays s (one.0, (other.0, (one.1, tt))) tt in
    let half : IsWithin s c.in_ok-half.half = c.in_ok-half.ensures.stays s tt (ht.0, (rule, tt)) in
    stays s tt (ht.1.0, (half, tt)))
    c.mp-2.ensures.stays
