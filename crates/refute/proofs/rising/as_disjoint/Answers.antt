use Rattle.std.proofs.Common.{◌≡◌, sym, ◌∙◌, ap, subst}
use Rattle.ml_pat.specs.Patterns.{Pattern, imp, not, and, equal, bot}
use Rattle.ml_derived.specs.Scopes.{IsWithin}
use Rattle.term_core.specs.RulePatterns.{plain_pattern, sort_numbers}
use Rattle.prove_term.specs.Contexts.{HasGrown, StaysIn}
use Rattle.prove_term.proofs.ContextLaws.{grown_twice, stays_grown}
use Rattle.prove_term.proofs.ResultLaws.{if_ok_two}
use Rattle.refute.proofs.Conversions.{element_made, element_taken, element_image, unequal_parts}
use Rattle.refute.proofs.Conversions.{denies_disjoint}
use Rattle.prove_open.proofs.GatheringLaws.{given_grown}
use Rattle.refute.proofs.Shapes.{IsUnequal}
use Rattle.refute.proofs.rising.as_disjoint.Goals as goal
use Rattle.refute.proofs.rising.as_disjoint.Goals.{After-element_of-in-Unequal}

pub element_under-requires-in-Unequal-clause-given :
    goal.element_under-requires-in-Unequal-clause-given
element_under-requires-in-Unequal-clause-given c =
    given_grown c.args.cx.now c.element_under.new.cx _ _ c.in_ok-one-in-Unequal.ensures.grown
    c.requires.setting.given

pub element_of-requires-in-Unequal : goal.element_of-requires-in-Unequal
element_of-requires-in-Unequal c =
    element_taken c.element_under-in-Unequal.new.cx _ _ _ _
    (element_made c.args.cx.now c.element_under-in-Unequal.new.cx _
    (sort_numbers c.args.setting.now.sorts.now) c.args.setting.now.given _ _ _
    (grown_twice c.args.cx.now c.element_under.new.cx c.element_under-in-Unequal.new.cx
    c.in_ok-one-in-Unequal.ensures.grown c.in_ok-other-in-Unequal.ensures.grown)
    c.requires.covered.right c.in_ok-other-in-Unequal.ensures.says)

known : (c : After-element_of-in-Unequal)
    → IsUnequal c.args.cx.now c.args.setting.now.given.hypothesis
    (plain_pattern c.args.left.now) (plain_pattern c.args.right.now) c.in-Unequal.thm.conclusion
    × StaysIn c.args.cx.now c.in-Unequal.thm
known c = unequal_parts c.args.cx.now _ _ _ _ c.in-Unequal.thm c.in-Unequal.is c.requires.denies

one_image : (c : After-element_of-in-Unequal)
    → c.element_of.result.pattern.now ≡ (known c).0.left
one_image c =
    element_image c.args.cx.now c.element_under.new.cx c.args.setting.now.given.hypothesis
    (plain_pattern c.args.left.now) c.requires.covered.sort c.in_ok-one-in-Unequal.one.conclusion
    (known c).0.left c.element_of.result.pattern.now c.element_of.result.sort.0
    c.in_ok-one-in-Unequal.ensures.grown (known c).0.is_left
    (element_made c.args.cx.now c.element_under.new.cx _
    (sort_numbers c.args.setting.now.sorts.now) c.args.setting.now.given _ _ _
    c.in_ok-one-in-Unequal.ensures.grown c.requires.covered.left
    c.in_ok-one-in-Unequal.ensures.says)
    c.element_of.ensures.says

other_image : (c : After-element_of-in-Unequal)
    → c.element_of-in-Unequal.result.pattern.now ≡ (known c).0.right
other_image c =
    element_image c.args.cx.now c.element_under-in-Unequal.new.cx
    c.args.setting.now.given.hypothesis (plain_pattern c.args.right.now) c.requires.covered.sort
    c.in_ok-other-in-Unequal.other.conclusion (known c).0.right
    c.element_of-in-Unequal.result.pattern.now c.element_of-in-Unequal.result.sort.0
    (grown_twice c.args.cx.now c.element_under.new.cx c.element_under-in-Unequal.new.cx
    c.in_ok-one-in-Unequal.ensures.grown c.in_ok-other-in-Unequal.ensures.grown)
    (known c).0.is_right
    (element_made c.args.cx.now c.element_under-in-Unequal.new.cx _
    (sort_numbers c.args.setting.now.sorts.now) c.args.setting.now.given _ _ _
    (grown_twice c.args.cx.now c.element_under.new.cx c.element_under-in-Unequal.new.cx
    c.in_ok-one-in-Unequal.ensures.grown c.in_ok-other-in-Unequal.ensures.grown)
    c.requires.covered.right c.in_ok-other-in-Unequal.ensures.says)
    c.element_of-in-Unequal.ensures.says

pub disjoint-requires-clause-a : goal.disjoint-requires-clause-a
disjoint-requires-clause-a c =
    (known c).0.says
    ∙ ap (λ (p : Pattern). imp c.args.setting.now.given.hypothesis
    (not (equal p (known c).0.right))) (sym (one_image c))
    ∙ ap (λ (p : Pattern). imp c.args.setting.now.given.hypothesis
    (not (equal c.element_of.result.pattern.now p))) (sym (other_image c))

pub returns-in_ok-other-in-Unequal-clause-denies :
    goal.returns-in_ok-other-in-Unequal-clause-denies
returns-in_ok-other-in-Unequal-clause-denies c =
    let d =
    (goal.at.returns-in_ok-other-in-Unequal-clause-denies c).After-element_of-in-Unequal in
    let h : Pattern = c.args.setting.now.given.hypothesis in
    let grown : HasGrown c.args.cx.now c.element_under-in-Unequal.new.cx =
    grown_twice c.args.cx.now c.element_under.new.cx c.element_under-in-Unequal.new.cx
    c.in_ok-one-in-Unequal.ensures.grown c.in_ok-other-in-Unequal.ensures.grown in
    if_ok_two c.disjoint.result
    (λ t says stays. denies_disjoint c.args.cx.now c.element_under-in-Unequal.new.cx h
    (plain_pattern c.args.left.now) (plain_pattern c.args.right.now) (known d).0.left
    (known d).0.right t grown (known d).0.is_left (known d).0.is_right
    (says ∙ ap (λ (p : Pattern). imp h (imp (and p c.element_of-in-Unequal.result.pattern.now) bot))
    (one_image d) ∙ ap (λ (p : Pattern). imp h (imp (and (known d).0.left p) bot)) (other_image d))
    (λ s has. stays s tt (
      stays_grown c.args.cx.now c.element_under-in-Unequal.new.cx c.in-Unequal.thm grown
          (known d).1 s has,
      (
        subst (IsWithin s) (sym c.element_of.ensures.fact)
            (stays_grown c.element_under.new.cx c.element_under-in-Unequal.new.cx
            c.in_ok-one-in-Unequal.one c.in_ok-other-in-Unequal.ensures.grown
            c.in_ok-one-in-Unequal.ensures.stays s has),
        (
          subst (IsWithin s) (sym c.element_of-in-Unequal.ensures.fact)
              (c.in_ok-other-in-Unequal.ensures.stays s has),
          tt,
        ),
      ),
    )))
    c.disjoint.ensures.conclusion c.disjoint.ensures.stays
