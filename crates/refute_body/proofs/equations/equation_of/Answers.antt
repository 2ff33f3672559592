use Rattle.std.proofs.Common.{[], ◌∷◌, refl, sym, ◌∙◌, subst}
use Rattle.ml_kernel.specs.Theorems.{Theorem}
use Rattle.ml_derived.specs.Scopes.{StaysWithin}
use Rattle.ml_derived.proofs.StayingLaws.{if_ok}
use Rattle.refute_body.specs.Implications.{IsUnderTwo}
use Rattle.refute_body.proofs.EquationLaws.{IsReading, read, rest_at_first, rest_next}
use Rattle.refute_body.proofs.EquationLaws.{fewer_left, of_first}
use Rattle.refute_body.proofs.equations.equation_of.Goals.{After-present-in-loop-present-1}
use Rattle.refute_body.proofs.equations.equation_of.Goals as goal

pub loop-present-init : goal.loop-present-init
loop-present-init c = rest_at_first c.args.x c.in_ok-present.present c.in_ok-present.present refl

reading : (c : After-present-in-loop-present-1)
    → IsReading c.args.x c.in_ok-present.present c.loop-present.present
reading c =
    read c.args.x c.in_ok-present.present c.loop-present.present c.requires.0 c.requires.1
    c.requires.2
    (subst (λ (u : Theorem). IsUnderTwo c.requires.0 c.requires.1 c.requires.2 u.conclusion)
    (sym c.in_ok-present.ensures) c.requires.3) c.requires.4 c.loop-present.invariant

pub begins_with-requires : goal.begins_with-requires
begins_with-requires c =
    let r : IsReading c.args.x c.in_ok-present.present c.loop-present.present = reading c in
    (r.g, r.b, r.first, r.others, r.says)

pub others_of-requires : goal.others_of-requires
others_of-requires c =
    let r : IsReading c.args.x c.in_ok-present.present c.loop-present.present =
    reading (goal.at.others_of-requires c).After-present-in-loop-present-1 in
    (r.g, r.b, r.first, r.others, r.says)

pub first_of-requires : goal.first_of-requires
first_of-requires c =
    let r : IsReading c.args.x c.in_ok-present.present c.loop-present.present =
    reading (goal.at.first_of-requires c).After-present-in-loop-present-1 in
    (r.g, r.b, r.first, r.others, r.says)

pub loop-present-preserved : goal.loop-present-preserved
loop-present-preserved c =
    rest_next c.args.x c.in_ok-present.present c.loop-present.present c.in_ok-present-2.present
    c.loop-present.invariant
    (λ g b p q says. sym (c.begins_with.ensures g b p q says) ∙ c.loop-present-test.true)
    c.in_ok-present-2.ensures.conclusion c.in_ok-present-2.ensures.stays

pub loop-present-smaller : goal.loop-present-smaller
loop-present-smaller c =
    let r : IsReading c.args.x c.in_ok-present.present c.loop-present.present =
    reading (goal.at.loop-present-smaller c).After-present-in-loop-present-1 in
    fewer_left r.g r.b r.first r.others _ _ r.says
    (c.in_ok-present-2.ensures.conclusion r.g r.b r.first r.others r.says)

pub returns-clause-conclusion : goal.returns-clause-conclusion
returns-clause-conclusion c =
    let r : IsReading c.args.x c.in_ok-present.present c.loop-present.present =
    reading (goal.at.returns-clause-conclusion c).After-present-in-loop-present-1 in
    if_ok c.first_of.result
    (λ t says g b p other. of_first c.args.x c.in_ok-present.present c.loop-present.present t r
    (sym (c.begins_with.ensures r.g r.b r.first r.others r.says) ∙ c.loop-present-test.false) says g
    b p
    (subst (λ (u : Theorem). IsUnderTwo g b p u.conclusion) (sym c.in_ok-present.ensures) other))
    c.first_of.ensures.conclusion

pub returns-clause-stays : goal.returns-clause-stays
returns-clause-stays c =
    if_ok c.first_of.result
    (λ t stays s hp ht. stays s tt (
      subst (λ (u : Theorem). StaysWithin [] (u ∷ []) c.loop-present.present) c.in_ok-present.ensures
          c.loop-present.invariant.stays s hp ht,
      tt,
    )) c.first_of.ensures.stays
