use Rattle.std.proofs.Common.{◌≡◌, ℕ, Some, sym, ◌∙◌, ap, subst}
use Rattle.refute.proofs.Growing.{new_is_high}
use Rattle.ml_pat.specs.Patterns.{Pattern, imp, not, and, equal, bot, fun}
use Rattle.ml_pat.specs.Judgements.{substituted}
use Rattle.ml_derived.specs.Scopes.{IsWithin}
use Rattle.term_core.specs.RulePatterns.{plain_pattern, sort_numbers}
use Rattle.prove_term.specs.Contexts.{StaysIn}
use Rattle.prove_term.proofs.ContextLaws.{stays_grown}
use Rattle.prove_term.proofs.ResultLaws.{if_ok_two}
use Rattle.refute.proofs.Conversions.{element_made, element_image, disjoint_parts, denies_unequal}
use Rattle.refute.proofs.Conversions.{covered_keeps, member_marked}
use Rattle.refute.proofs.Conversions.{common_read, other_read}
use Rattle.refute.proofs.Shapes.{IsDisjoint}
use Rattle.refute.proofs.rising.as_unequal.Goals as goal
use Rattle.refute.proofs.rising.as_unequal.Goals.{After-sides-in-Disjoint}

known : (c : After-sides-in-Disjoint)
    → IsDisjoint c.args.cx.now c.args.setting.now.given.hypothesis
    (plain_pattern c.args.left.now) (plain_pattern c.args.right.now) c.in-Disjoint.thm.conclusion
    × StaysIn c.args.cx.now c.in-Disjoint.thm
known c = disjoint_parts c.args.cx.now _ _ _ _ c.in-Disjoint.thm c.in-Disjoint.is c.requires.denies

pub conjuncts-requires : goal.conjuncts-requires
conjuncts-requires c = (
  (known c).0.left,
  (known c).0.right,
  common_read c.args.cx.now _ _ _ _ _ _ _ _ (known c).0 (sym c.conclusion.ensures ∙ c.sides.ensures)
      c.sides-in-Disjoint.ensures,
)

-- what was read is the two images
abbrev AreRead : (c : After-sides-in-Disjoint) → Pattern → Pattern → Type 0
AreRead c e r = (e ≡ (known c).0.left) × (r ≡ (known c).0.right)

are_read : (c : After-sides-in-Disjoint) (e x r : Pattern) (n : ℕ)
    → c.in_ok-one-in-Disjoint.one.conclusion ≡ imp c.args.setting.now.given.hypothesis (fun e n)
    → c.sides-in-Disjoint.result.0.now ≡ and x r → AreRead c e r
are_read c e x r n one both = (
  element_image c.args.cx.now c.element_under.new.cx c.args.setting.now.given.hypothesis
      (plain_pattern c.args.left.now) c.requires.covered.sort
      c.in_ok-one-in-Disjoint.one.conclusion (known c).0.left e n
      c.in_ok-one-in-Disjoint.ensures.grown (known c).0.is_left
      (element_made c.args.cx.now c.element_under.new.cx _
      (sort_numbers c.args.setting.now.sorts.now) c.args.setting.now.given _ _ _
      c.in_ok-one-in-Disjoint.ensures.grown c.requires.covered.left
      c.in_ok-one-in-Disjoint.ensures.says)
      one,
  other_read c.args.cx.now _ _ _ _ _ _ _ _ x r (known c).0
      (sym c.conclusion.ensures ∙ c.sides.ensures) c.sides-in-Disjoint.ensures both,
)

keeps_left : (c : After-sides-in-Disjoint) (e r u : Pattern) → AreRead c e r
    → substituted e c.args.setting.now.new.0 u ≡ Some e
keeps_left c e r u read =
    subst (λ (p : Pattern). substituted p c.args.setting.now.new.0 u ≡ Some p) (sym read.0)
    (covered_keeps c.args.cx.now (sort_numbers c.args.setting.now.sorts.now)
    c.args.setting.now.given (plain_pattern c.args.left.now) c.requires.covered.sort
    c.args.setting.now.new.0 (known c).0.left u c.requires.covered.left
    (new_is_high c.args.cx.now c.args.setting.now c.requires.setting)
    (known c).0.is_left)

pub unequal-requires-clause-a : goal.unequal-requires-clause-a
unequal-requires-clause-a c =
    let d = (goal.at.unequal-requires-clause-a c).After-sides-in-Disjoint in
    let h : Pattern = c.args.setting.now.given.hypothesis in
    let read : AreRead d c.element_of.result.pattern.now c.conjuncts.result.1.now =
    are_read d c.element_of.result.pattern.now c.conjuncts.result.0.now c.conjuncts.result.1.now
    c.element_of.result.sort.0 c.element_of.ensures.says c.conjuncts.ensures in
    (known d).0.says
    ∙ ap (λ (p : Pattern). imp h (imp (and p (known d).0.right) bot)) (sym read.0)
    ∙ ap (λ (p : Pattern). imp h (imp (and c.element_of.result.pattern.now p) bot)) (sym read.1)

pub unequal-requires-clause-left : goal.unequal-requires-clause-left
unequal-requires-clause-left c =
    let d = (goal.at.unequal-requires-clause-left c).After-sides-in-Disjoint in
    member_marked c.element_of.result.pattern.now c.element_of.result.pattern.now
    c.args.setting.now.new.0
    (keeps_left d c.element_of.result.pattern.now c.conjuncts.result.1.now
    c.element_of.result.pattern.now
    (are_read d c.element_of.result.pattern.now c.conjuncts.result.0.now
    c.conjuncts.result.1.now c.element_of.result.sort.0 c.element_of.ensures.says
    c.conjuncts.ensures))

pub unequal-requires-clause-right : goal.unequal-requires-clause-right
unequal-requires-clause-right c =
    let d = (goal.at.unequal-requires-clause-right c).After-sides-in-Disjoint in
    member_marked c.element_of.result.pattern.now c.conjuncts.result.1.now
    c.args.setting.now.new.0
    (keeps_left d c.element_of.result.pattern.now c.conjuncts.result.1.now
    c.conjuncts.result.1.now
    (are_read d c.element_of.result.pattern.now c.conjuncts.result.0.now
    c.conjuncts.result.1.now c.element_of.result.sort.0 c.element_of.ensures.says
    c.conjuncts.ensures))

pub returns-in_ok-one-in-Disjoint-clause-denies : goal.returns-in_ok-one-in-Disjoint-clause-denies
returns-in_ok-one-in-Disjoint-clause-denies c =
    let d = (goal.at.returns-in_ok-one-in-Disjoint-clause-denies c).After-sides-in-Disjoint in
    let h : Pattern = c.args.setting.now.given.hypothesis in
    let read : AreRead d c.element_of.result.pattern.now c.conjuncts.result.1.now =
    are_read d c.element_of.result.pattern.now c.conjuncts.result.0.now c.conjuncts.result.1.now
    c.element_of.result.sort.0 c.element_of.ensures.says c.conjuncts.ensures in
    if_ok_two c.unequal.result
    (λ t says stays. denies_unequal c.args.cx.now c.element_under.new.cx h
    (plain_pattern c.args.left.now) (plain_pattern c.args.right.now) (known d).0.left
    (known d).0.right t c.in_ok-one-in-Disjoint.ensures.grown (known d).0.is_left
    (known d).0.is_right
    (says ∙ ap (λ (p : Pattern). imp h (not (equal p c.conjuncts.result.1.now))) read.0
    ∙ ap (λ (p : Pattern). imp h (not (equal (known d).0.left p))) read.1)
    (λ s has. stays s (has.objects c.args.setting.now.new.0, tt) (
      stays_grown c.args.cx.now c.element_under.new.cx c.in-Disjoint.thm
          c.in_ok-one-in-Disjoint.ensures.grown (known d).1 s has,
      (
        subst (IsWithin s) (sym c.element_of.ensures.fact)
            (c.in_ok-one-in-Disjoint.ensures.stays s has),
        tt,
      ),
    )))
    c.unequal.ensures.conclusion c.unequal.ensures.stays
