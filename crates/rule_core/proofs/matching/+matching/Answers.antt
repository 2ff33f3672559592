use Rattle.std.proofs.Common.{rules, ◌≡◌, ◌≢◌, ◌+◌, ◌≤◌, ◌<◌, ℕ, false, true, length, refl, sym}
use Rattle.std.proofs.Common.{◌∙◌, ap, subst, arith}
use Rattle.std.specs.Prelude.{◌==◌}
use Rattle.term_core.specs.Forests.{children}
use Rattle.term_core.specs.Patterns.{Pattern, variable, application, injection}
use Rattle.term_core.specs.RulePatterns.{plain_pattern}
use Rattle.term_core.specs.PatternLists.{plain_patterns}
use Rattle.term_core.proofs.PatternLaws.{depth, depths, depth_of-item}
use Rattle.term_core.proofs.PlainPatterns.{plain-Var, plain-Ctor, plain-Inj}
use Rattle.rule_core.specs.Matching.{OccursIn}
use Rattle.rule_core.specs.Subsorts.{is_below}
use Rattle.rule_core.proofs.Belows.{below_answer}
use Rattle.rule_core.proofs.MatchAnswers.{stands_of-item, answer_none, answer_some, rest_goes_on}
use Rattle.rule_core.proofs.MatchAnswers.{rest_fails, other_arguments, all_nodes-drop, child_is}
use Rattle.rule_core.proofs.MatchAnswers.{child_is_low, child_is_other, lowered_found, lowered_none}
use Rattle.rule_core.proofs.matching.+matching.Goals as goal

pub match_children-match_term-requires : goal.match_children-match_term-requires
match_children-match_term-requires g t c κs within =
    let low : depth (plain_pattern c.index-pats-i.result) ≤ depths
    (plain_patterns c.args.pats.now) =
    depth_of-item _ _ _ c.index-pats-i.is c.loop-i-test.true in
    let P : ℕ → Type 0 = λ n. (x : ℕ) → OccursIn x (plain_pattern c.index-pats-i.result) → x < n in (
      omega arith,
      (
        within,
        subst P (sym c.loop-i.invariant.room) (λ x stands. c.requires.scoped x
            (stands_of-item _ _ _ x c.index-pats-i.is c.loop-i-test.true stands)),
      ),
    )

pub match_children-returns-then-not-branch-clause-found :
    goal.match_children-returns-then-not-branch-clause-found
match_children-returns-then-not-branch-clause-found g t c =
    rest_fails _ _ _ _ _ _ c.child.result.now _ c.index-pats-i.is c.loop-i-test.true c.child.ensures
    (answer_none _ _ _ c.in_ok-match_term.ensures.found c.if-not-branch.true)
    c.loop-i.invariant.rest

pub match_children-loop-i-preserved : goal.match_children-loop-i-preserved
match_children-loop-i-preserved g t c = record {
  room = c.in_ok-match_term.ensures.room ∙ c.loop-i.invariant.room;
  rest =
      rest_goes_on _ _ _ _ _ _ _ c.child.result.now _ c.index-pats-i.is c.loop-i-test.true
      c.child.ensures (answer_some _ _ _ c.in_ok-match_term.ensures.found c.if-not-branch.false)
      c.loop-i.invariant.rest;
  looks =
      omega (
        arith,
        all_nodes-drop _ _ _ c.index-pats-i.is c.loop-i-test.true,
        c.match_term.ensures.looks,
      );
}

pub match_children-returns-then-not-branch-clause-looks :
    goal.match_children-returns-then-not-branch-clause-looks
match_children-returns-then-not-branch-clause-looks g t c =
    omega (
      arith,
      all_nodes-drop _ _ _ c.index-pats-i.is c.loop-i-test.true,
      c.match_term.ensures.looks,
    )

pub match_injected-bind_injected-requires-clause-room :
    goal.match_injected-bind_injected-requires-clause-room
match_injected-bind_injected-requires-clause-room g t c =
    let is : plain_pattern c.args.pat.now ≡ variable c.in-Var.var =
    ap plain_pattern c.in-Var.is ∙ plain-Var _ in
    let P : Pattern → Type 0 = λ p. OccursIn c.in-Var.var p in
    c.requires.scoped c.in-Var.var (subst P (sym is) refl)

pub match_injected-match_lowered-requires : goal.match_injected-match_lowered-requires
match_injected-match_lowered-requires g t c κs within =
    let is : plain_pattern c.args.pat.now ≡ injection c.in-Inj.own_from.0 c.in-Inj.own_to.0
    (plain_pattern c.deref.result.now) =
    ap plain_pattern c.in-Inj.is
    ∙ (plain-Inj _ _ _
    ∙ ap (λ p. injection c.in-Inj.own_from.0 c.in-Inj.own_to.0 (plain_pattern p))
    (sym c.deref.ensures)) in
    let deep : depth (plain_pattern c.args.pat.now) ≡ depth (plain_pattern c.deref.result.now) + 1 =
    ap depth is in (
      omega arith,
      (
        within,
        (
          λ x stands. let P : Pattern → Type 0 = OccursIn x in
              c.requires.scoped x (subst P (sym is) stands),
          (c.requires.low, c.requires.other),
        ),
      ),
    )

pub match_lowered-returns-then-below-clause-found :
    goal.match_lowered-returns-then-below-clause-found
match_lowered-returns-then-below-clause-found g t c =
    let other : (c.args.from.0 == c.args.to.0) ≡ false = sym c.eq.ensures ∙ c.if-eq.false in
    let below : is_below c.args.subsorts.now c.args.from.0 c.args.to.0 ≡ true =
    sym (below_answer _ _ _ _ c.below.ensures) ∙ c.if-below.true in
    rw (lowered_found c.args.subsorts.now (plain_pattern c.args.pat.now) c.args.from.0 c.args.to.0
    c.args.child.now c.args.subst.now other below)
    c.match_injected.ensures.found

pub match_lowered-returns-else-below-clause-found :
    goal.match_lowered-returns-else-below-clause-found
match_lowered-returns-else-below-clause-found g t c =
    let other : (c.args.from.0 == c.args.to.0) ≡ false = sym c.eq.ensures ∙ c.if-eq.false in
    let apart : is_below c.args.subsorts.now c.args.from.0 c.args.to.0 ≡ false =
    sym (below_answer _ _ _ _ c.below.ensures) ∙ c.if-below.false in
    lowered_none c.args.subsorts.now (plain_pattern c.args.pat.now) c.args.from.0 c.args.to.0
    c.args.child.now c.args.subst.now other apart

pub match_term-bind_term-requires : goal.match_term-bind_term-requires
match_term-bind_term-requires g t c =
    let is : plain_pattern c.args.pat.now ≡ variable c.in-Var.var =
    ap plain_pattern c.in-Var.is ∙ plain-Var _ in
    let P : Pattern → Type 0 = λ p. OccursIn c.in-Var.var p in
    c.requires c.in-Var.var (subst P (sym is) refl)

pub match_term-match_children-requires : goal.match_term-match_children-requires
match_term-match_children-requires g t c κs within =
    let is : plain_pattern c.args.pat.now ≡ application c.in-Ctor.sym.0
    (plain_patterns c.deref.result.now) =
    ap plain_pattern c.in-Ctor.is
    ∙ (plain-Ctor _ _
    ∙ ap (λ ps. application c.in-Ctor.sym.0 (plain_patterns ps))
    (sym c.deref.ensures.value)) in
    let deep : depth (plain_pattern c.args.pat.now) ≡ depths (plain_patterns c.deref.result.now) +
    1 =
    ap depth is in (
      omega arith,
      (
        within,
        (
          λ x stands. let P : Pattern → Type 0 = OccursIn x in
              c.requires x (subst P (sym is) stands),
          search rules,
        ),
      ),
    )

pub match_term-match_lowered-requires : goal.match_term-match_lowered-requires
match_term-match_lowered-requires g t c κs within =
    let is : plain_pattern c.args.pat.now ≡ injection c.in-Inj.from.0 c.in-Inj.to.0
    (plain_pattern c.deref-in-Inj-view.result.now) =
    ap plain_pattern c.in-Inj.is
    ∙ (plain-Inj _ _ _
    ∙ ap (λ p. injection c.in-Inj.from.0 c.in-Inj.to.0 (plain_pattern p))
    (sym c.deref-in-Inj-view.ensures)) in
    let deep : depth (plain_pattern c.args.pat.now) ≡ depth
    (plain_pattern c.deref-in-Inj-view.result.now) + 1 =
    ap depth is in
    let root =
    child_is c.args.term.now c.child-child.result.now _ _ _ c.in-Inj-view.ensures.shows.1
    c.child-child.ensures in (
      omega arith,
      (
        within,
        (
          λ x stands. let P : Pattern → Type 0 =
              OccursIn x in c.requires x (subst P (sym is) stands),
          (
            child_is_low c.args.term.now c.child-child.result.now _ _ 500 root
                (omega (arith, c.height-high.ensures.bound)),
            child_is_other c.args.term.now c.child-child.result.now _ _ root
                c.height-high.ensures.normal,
          ),
        ),
      ),
    )

pub match_term-returns-in_default-view-clause-found :
    goal.match_term-returns-in_default-view-clause-found
match_term-returns-in_default-view-clause-found g t c =
    let is : plain_pattern c.args.pat.now ≡ application c.in-Ctor.sym.0
    (plain_patterns c.in-Ctor.args.items) =
    ap plain_pattern c.in-Ctor.is ∙ plain-Ctor _ _ in
    let other : length c.in-Ctor.args.items ≢ length (children c.args.term.now) =
    λ e. c.if-len-count.false (omega (arith, c.in-Ctor-view.ensures.shows.1)) in
    other_arguments _ _ _ _ c.in-Ctor.args.items _ (children c.args.term.now) _ is
    c.in-Ctor-view.ensures.shows.0 other
