use Rattle.std.proofs.Common.{◌≡◌, refl, sym, ◌∙◌, ap}
use Rattle.ml_pat.specs.Patterns.{Pattern, imp, not, equal}
use Rattle.term_core.specs.RulePatterns.{plain_pattern}
use Rattle.prove_term.specs.Contexts.{StaysIn}
use Rattle.prove_term.proofs.ContextLaws.{grown_none, stays_grown}
use Rattle.prove_term.proofs.ResultLaws.{if_ok_two}
use Rattle.prove_open.specs.declared.differences.Difference.TheVariants.{Unequal}
use Rattle.refute.proofs.Conversions.{unequal_parts, image_later, denies_unequal}
use Rattle.refute.proofs.Shapes.{IsInjective, IsRead, IsUnequal, implication_read, injective_shape}
use Rattle.refute.proofs.Shapes.{one_image, image_in}
use Rattle.refute.proofs.rising.above_injection.Goals as goal
use Rattle.refute.proofs.rising.above_injection.Goals.{After-sides-2}

known : (c : After-sides-2)
    → IsUnequal c.args.cx.now c.args.setting.now.given.hypothesis
    (plain_pattern c.args.left.now) (plain_pattern c.args.right.now) c.args.differ.now.conclusion
    × StaysIn c.args.cx.now c.args.differ.now
known c =
    unequal_parts c.args.cx.now _ _ _ (Unequal c.args.differ.now) c.args.differ.now refl
    c.requires.denies

same : (c : After-sides-2)
    → IsInjective c.injective_under.new.cx c.args.from.0 c.args.to.0
    (plain_pattern c.args.left.now) (plain_pattern c.args.right.now)
    c.args.setting.now.given.hypothesis c.in_ok-same.same.conclusion
same c =
    injective_shape c.injective_under.new.cx c.args.from.0 c.args.to.0
    (plain_pattern c.args.left.now) (plain_pattern c.args.right.now)
    c.args.setting.now.given.hypothesis c.in_ok-same.same.conclusion c.in_ok-same.ensures.says

read : (c : After-sides-2)
    → IsRead c.args.setting.now.given.hypothesis (equal (same c).first (same c).second)
    (equal (same c).left (same c).right) c.sides.result.0.now c.sides-2.result.0.now
    c.sides-2.result.1.now
read c =
    implication_read _ _ _ _ _ _ _ _ (same c).says (sym c.conclusion.ensures ∙ c.sides.ensures)
    c.sides-2.ensures

pub denied_by-requires-clause-b : goal.denied_by-requires-clause-b
denied_by-requires-clause-b c =
    let d = (goal.at.denied_by-requires-clause-b c).After-sides-2 in
    let left : (known d).0.left ≡ (same d).left =
    one_image (image_in c.injective_under.new.cx (plain_pattern c.args.left.now)) _ _
    (image_later c.args.cx.now c.injective_under.new.cx (plain_pattern c.args.left.now) _
    c.in_ok-same.ensures.grown (known d).0.is_left) (same d).is_left in
    let right : (known d).0.right ≡ (same d).right =
    one_image (image_in c.injective_under.new.cx (plain_pattern c.args.right.now)) _ _
    (image_later c.args.cx.now c.injective_under.new.cx (plain_pattern c.args.right.now) _
    c.in_ok-same.ensures.grown (known d).0.is_right) (same d).is_right in
    let h : Pattern = c.args.setting.now.given.hypothesis in
    (known d).0.says ∙ ap (λ (p : Pattern). imp h (not (equal p (known d).0.right))) left
    ∙ ap (λ (p : Pattern). imp h (not (equal (same d).left p))) right
    ∙ ap (λ (p : Pattern). imp h (not p)) (sym (read d).third)
    ∙ ap (λ (p : Pattern). imp p (not c.sides-2.result.1.now)) (sym (read d).first)

pub returns-clause-denies : goal.returns-clause-denies
returns-clause-denies c =
    let d = (goal.at.returns-clause-denies c).After-sides-2 in
    let new = c.injective_under.new.cx in
    if_ok_two c.denied_by.result
    (λ t says stays. denies_unequal new new c.args.setting.now.given.hypothesis _ _
    (same d).first (same d).second t (grown_none new) (same d).is_first (same d).is_second
    (says ∙ ap (λ (p : Pattern). imp p (not c.sides-2.result.0.now)) (read d).first
    ∙ ap (λ (p : Pattern). imp c.args.setting.now.given.hypothesis (not p)) (read d).second)
    (λ s has. stays s tt (
      c.in_ok-same.ensures.stays s has,
      (
        stays_grown c.args.cx.now new c.args.differ.now c.in_ok-same.ensures.grown (known d).1 s
            has,
        tt,
      ),
    )))
    c.denied_by.ensures.conclusion c.denied_by.ensures.stays
