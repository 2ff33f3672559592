use Rattle.std.proofs.Common.{sym, ◌∙◌, ap}
use Rattle.ml_pat.specs.Patterns.{var, equal}
use Rattle.refute_body.specs.Implications.{is_conjunction}
use Rattle.refute_body.specs.Conditions.{AreReplaceable}
use Rattle.refute_body.proofs.ConditionFillings.{IsFilling, can_replace, filling_begins}
use Rattle.refute_body.proofs.ConditionFillings.{filling_ends, filling_next, first_left}
use Rattle.refute_body.proofs.EquationLaws.{fewer_left}
use Rattle.refute_body.proofs.conditions.filled.Goals.{After-left-in-loop-alloc-1}
use Rattle.refute_body.proofs.conditions.filled.Goals as goal

pub loop-alloc-init : goal.loop-alloc-init
loop-alloc-init c = filling_begins c.args.equations c.args.start

-- the first of the equations that are left, and what it replaces
split : (c : After-left-in-loop-alloc-1)
    → AreReplaceable c.loop-alloc.left.conclusion c.loop-alloc.present.conclusion
split c =
    can_replace c.args.equations c.args.start c.loop-alloc.left c.loop-alloc.present
    c.loop-alloc.invariant c.requires.0 c.requires.1 c.requires.2 c.requires.3 c.requires.4
    c.requires.5 c.requires.6 c.requires.7
    (λ g b p says. sym (ap is_conjunction (c.conclusion.ensures g b p says))
    ∙ sym c.is_conjunction.ensures ∙ c.loop-alloc-test.true)

pub conclusion-requires : goal.conclusion-requires
conclusion-requires c =
    let f : IsFilling c.requires.0 c.requires.1 c.requires.2 c.requires.3 c.requires.4 c.requires.5
    c.requires.6 c.loop-alloc.left c.loop-alloc.present =
    c.loop-alloc.invariant c.requires.0 c.requires.1 c.requires.2 c.requires.3 c.requires.4
    c.requires.5 c.requires.6 c.requires.7 in
    (c.requires.1, c.requires.2, f.left_says.image, f.left_says.says)

pub one_filled-requires : goal.one_filled-requires
one_filled-requires c = split c

pub others_of-requires : goal.others_of-requires
others_of-requires c =
    let r : AreReplaceable c.loop-alloc.left.conclusion c.loop-alloc.present.conclusion =
    split (goal.at.others_of-requires c).After-left-in-loop-alloc-1 in
    (r.g, r.b, equal (var r.x) r.t, r.e, r.is_equations)

pub loop-alloc-preserved : goal.loop-alloc-preserved
loop-alloc-preserved c =
    λ cx g b xs theta q s can.
    let f : IsFilling cx g b xs theta q s c.loop-alloc.left c.loop-alloc.present =
    c.loop-alloc.invariant cx g b xs theta q s can in
    filling_next cx g b xs theta q s c.loop-alloc.left c.loop-alloc.present
    c.in_ok-left.left c.in_ok-present.present f
    (first_left cx g b xs theta q s c.args.equations c.args.start c.loop-alloc.left
    c.loop-alloc.present can
    (λ g b p says. sym (ap is_conjunction (c.conclusion.ensures g b p says))
    ∙ sym c.is_conjunction.ensures ∙ c.loop-alloc-test.true) f)
    c.in_ok-present.ensures.conclusion c.in_ok-present.ensures.stays
    c.in_ok-left.ensures.conclusion c.in_ok-left.ensures.stays

pub loop-alloc-smaller : goal.loop-alloc-smaller
loop-alloc-smaller c =
    let r : AreReplaceable c.loop-alloc.left.conclusion c.loop-alloc.present.conclusion =
    split (goal.at.loop-alloc-smaller c).After-left-in-loop-alloc-1 in
    fewer_left r.g r.b (equal (var r.x) r.t) r.e _ _ r.is_equations
    (c.in_ok-left.ensures.conclusion r.g r.b (equal (var r.x) r.t) r.e r.is_equations)

pub returns : goal.returns
returns c =
    λ cx g b xs theta q s can.
    filling_ends cx g b xs theta q s c.loop-alloc.left c.loop-alloc.present
    (λ g b p says. sym (ap is_conjunction (c.conclusion.ensures g b p says))
    ∙ sym c.is_conjunction.ensures ∙ c.loop-alloc-test.false)
    (c.loop-alloc.invariant cx g b xs theta q s can)
