use Rattle.std.proofs.Common.{◌≡◌, ◌+◌, ◌≤◌, ◌<◌, ℕ, refl, sym, ◌∙◌, ap, subst}
use Rattle.std.proofs.Common.{arith}
use Rattle.term_core.specs.Forests.{children}
use Rattle.term_core.specs.Patterns.{Pattern, variable, application, injection}
use Rattle.term_core.specs.RulePatterns.{plain_pattern}
use Rattle.term_core.specs.PatternLists.{plain_patterns}
use Rattle.term_core.proofs.PatternLaws.{depth, depths, depth_of-item}
use Rattle.term_core.proofs.PlainPatterns.{plain-Var, plain-Ctor, plain-Inj}
use Rattle.rule_core.specs.Matching.{OccursIn}
use Rattle.rule_core.proofs.MatchAnswers.{stands_of-item, rest_goes_on}
use Rattle.match_tree.proofs.BindingLaws.{children_match, children_bind, children_count}
use Rattle.match_tree.proofs.BindingLaws.{under_match, under_bind, low_match, low_bind}
use Rattle.match_tree.proofs.BindingLaws.{low_children_match, low_children_bind}
use Rattle.match_tree.proofs.BindingLaws.{low_children_count, inner_match, inner_bind, on_ok}
use Rattle.match_tree.proofs.BindingLaws.{item_match, has_child}
use Rattle.match_tree.proofs.binding.+binding.Goals as goal

pub bind-bind_term-requires-clause-room : goal.bind-bind_term-requires-clause-room
bind-bind_term-requires-clause-room g t c =
    let is : plain_pattern c.args.pat.now ≡ variable c.in-Var.var =
    ap plain_pattern c.in-Var.is ∙ plain-Var _ in
    let P : Pattern → Type 0 = λ p. OccursIn c.in-Var.var p in
    c.requires.scoped c.in-Var.var (subst P (sym is) refl)

pub bind-bind_children-requires : goal.bind-bind_children-requires
bind-bind_children-requires g t c κs within =
    let is : plain_pattern c.args.pat.now ≡ application c.in-Ctor.field-0.0
    (plain_patterns c.deref.result.now) =
    ap plain_pattern c.in-Ctor.is
    ∙ (plain-Ctor _ _
    ∙ ap (λ ps. application c.in-Ctor.field-0.0 (plain_patterns ps))
    (sym c.deref.ensures.value)) in
    let deep : depth (plain_pattern c.args.pat.now) ≡ depths (plain_patterns c.deref.result.now) +
    1 =
    ap depth is in (
      omega arith,
      (
        within,
        (
          λ x stands. let P : Pattern → Type 0 = OccursIn x in
              c.requires.scoped x (subst P (sym is) stands),
          (
            children_count c.args.subsorts.now _ _ c.deref.result.now c.args.term.now _ is
                c.requires.matches,
            children_match c.args.subsorts.now _ _ _ c.args.term.now _ is c.requires.matches,
          ),
        ),
      ),
    )

pub bind-returns-in-Ctor-clause-bound : goal.bind-returns-in-Ctor-clause-bound
bind-returns-in-Ctor-clause-bound g t c =
    let is : plain_pattern c.args.pat.now ≡ application c.in-Ctor.field-0.0
    (plain_patterns c.deref.result.now) =
    ap plain_pattern c.in-Ctor.is
    ∙ (plain-Ctor _ _
    ∙ ap (λ ps. application c.in-Ctor.field-0.0 (plain_patterns ps))
    (sym c.deref.ensures.value)) in
    on_ok c.bind_children.result _ _
    (λ e. children_bind c.args.subsorts.now _ _ _ c.args.term.now _ _ is c.requires.matches e)
    c.bind_children.ensures.bound

pub bind-bind_under-requires : goal.bind-bind_under-requires
bind-bind_under-requires g t c κs within =
    let is : plain_pattern c.args.pat.now ≡ injection c.in-Inj.from.0 c.in-Inj.field-1.0
    (plain_pattern c.deref-in-Inj.result.now) =
    ap plain_pattern c.in-Inj.is
    ∙ (plain-Inj _ _ _
    ∙ ap (λ p. injection c.in-Inj.from.0 c.in-Inj.field-1.0 (plain_pattern p))
    (sym c.deref-in-Inj.ensures)) in
    let deep : depth (plain_pattern c.args.pat.now) ≡ depth
    (plain_pattern c.deref-in-Inj.result.now) + 1 =
    ap depth is in (
      omega arith,
      (
        within,
        (
          λ x stands. let P : Pattern → Type 0 = OccursIn x in
              c.requires.scoped x (subst P (sym is) stands),
          under_match c.args.subsorts.now _ _ _ _ c.args.term.now _ is c.requires.matches,
        ),
      ),
    )

pub bind-returns-in-Inj-clause-bound : goal.bind-returns-in-Inj-clause-bound
bind-returns-in-Inj-clause-bound g t c =
    let is : plain_pattern c.args.pat.now ≡ injection c.in-Inj.from.0 c.in-Inj.field-1.0
    (plain_pattern c.deref-in-Inj.result.now) =
    ap plain_pattern c.in-Inj.is
    ∙ (plain-Inj _ _ _
    ∙ ap (λ p. injection c.in-Inj.from.0 c.in-Inj.field-1.0 (plain_pattern p))
    (sym c.deref-in-Inj.ensures)) in
    on_ok c.bind_under.result _ _
    (λ e. under_bind c.args.subsorts.now _ _ _ _ c.args.term.now _ _ is c.requires.matches e)
    c.bind_under.ensures.bound

pub bind_children-bind-requires : goal.bind_children-bind-requires
bind_children-bind-requires g t c κs within =
    let low : depth (plain_pattern c.index-pats-i.result) ≤ depths
    (plain_patterns c.args.pats.now) =
    depth_of-item _ _ _ c.index-pats-i.is c.loop-i-test.true in
    let P : ℕ → Type 0 = λ n. (x : ℕ) → OccursIn x (plain_pattern c.index-pats-i.result) → x < n in (
      omega arith,
      (
        within,
        (
          subst P (sym c.loop-i.invariant.room) (λ x stands. c.requires.scoped x
              (stands_of-item _ _ _ x c.index-pats-i.is c.loop-i-test.true stands)),
          item_match c.args.subsorts.now c.args.pats.now (children c.args.term.now) _ c.loop-i.i
              c.index-pats-i.result c.child.result.now _ c.index-pats-i.is c.loop-i-test.true
              c.child.ensures c.loop-i.invariant.rest c.requires.matches,
        ),
      ),
    )

pub bind_children-loop-i-preserved : goal.bind_children-loop-i-preserved
bind_children-loop-i-preserved g t c =
    record {
      room = c.in_ok-bind.ensures.room ∙ c.loop-i.invariant.room;
      rest =
          rest_goes_on _ _ _ _ _ _ _ c.child.result.now _ c.index-pats-i.is c.loop-i-test.true
          c.child.ensures c.in_ok-bind.ensures.bound c.loop-i.invariant.rest;
    }

pub bind_under-bind_lowered-requires-clause-room : goal.bind_under-bind_lowered-requires-clause-room
bind_under-bind_lowered-requires-clause-room g t c =
    let is : plain_pattern c.args.pat.now ≡ variable c.in-Var.var =
    ap plain_pattern c.in-Var.is ∙ plain-Var _ in
    let P : Pattern → Type 0 = λ p. OccursIn c.in-Var.var p in
    c.requires.scoped c.in-Var.var (subst P (sym is) refl)

pub bind_under-bind_lowered-requires-clause-matches :
    goal.bind_under-bind_lowered-requires-clause-matches
bind_under-bind_lowered-requires-clause-matches g t c =
    low_match c.args.subsorts.now c.args.sort.0 _ _ c.args.term.now _
    (ap plain_pattern c.in-Var.is ∙ plain-Var _) c.requires.matches

pub bind_under-returns-in-Var-clause-bound : goal.bind_under-returns-in-Var-clause-bound
bind_under-returns-in-Var-clause-bound g t c =
    on_ok c.bind_lowered.result _ _
    (λ e. low_bind c.args.subsorts.now c.args.sort.0 _ _ c.args.term.now _ _
    (ap plain_pattern c.in-Var.is ∙ plain-Var _) c.requires.matches e)
    c.bind_lowered.ensures.bound

pub bind_under-child-requires : goal.bind_under-child-requires
bind_under-child-requires g t c =
    has_child c.args.subsorts.now c.args.sort.0 _ c.args.term.now _ c.requires.matches

pub bind_under-bind_children-requires : goal.bind_under-bind_children-requires
bind_under-bind_children-requires g t c κs within =
    let is : plain_pattern c.args.pat.now ≡ application c.in-Ctor.field-0.0
    (plain_patterns c.deref.result.now) =
    ap plain_pattern c.in-Ctor.is
    ∙ (plain-Ctor _ _
    ∙ ap (λ ps. application c.in-Ctor.field-0.0 (plain_patterns ps))
    (sym c.deref.ensures.value)) in
    let deep : depth (plain_pattern c.args.pat.now) ≡ depths (plain_patterns c.deref.result.now) +
    1 =
    ap depth is in (
      omega arith,
      (
        within,
        (
          λ x stands. let P : Pattern → Type 0 = OccursIn x in
              c.requires.scoped x (subst P (sym is) stands),
          (
            low_children_count c.args.subsorts.now c.args.sort.0 _ _ c.deref.result.now
                c.args.term.now c.child.result.now _ is c.child.ensures c.requires.matches,
            low_children_match c.args.subsorts.now c.args.sort.0 _ _ _ c.args.term.now
                c.child.result.now _ is c.child.ensures c.requires.matches,
          ),
        ),
      ),
    )

pub bind_under-returns-in-Ctor-clause-bound : goal.bind_under-returns-in-Ctor-clause-bound
bind_under-returns-in-Ctor-clause-bound g t c =
    let is : plain_pattern c.args.pat.now ≡ application c.in-Ctor.field-0.0
    (plain_patterns c.deref.result.now) =
    ap plain_pattern c.in-Ctor.is
    ∙ (plain-Ctor _ _
    ∙ ap (λ ps. application c.in-Ctor.field-0.0 (plain_patterns ps))
    (sym c.deref.ensures.value)) in
    on_ok c.bind_children.result _ _
    (λ e. low_children_bind c.args.subsorts.now c.args.sort.0 _ _ _ c.args.term.now
    c.child.result.now _ _ is c.child.ensures c.requires.matches e)
    c.bind_children.ensures.bound

pub bind_under-bind_under-requires : goal.bind_under-bind_under-requires
bind_under-bind_under-requires g t c κs within =
    let is : plain_pattern c.args.pat.now ≡ injection c.in-Inj.from.0 c.in-Inj.field-1.0
    (plain_pattern c.deref-in-Inj.result.now) =
    ap plain_pattern c.in-Inj.is
    ∙ (plain-Inj _ _ _
    ∙ ap (λ p. injection c.in-Inj.from.0 c.in-Inj.field-1.0 (plain_pattern p))
    (sym c.deref-in-Inj.ensures)) in
    let deep : depth (plain_pattern c.args.pat.now) ≡ depth
    (plain_pattern c.deref-in-Inj.result.now) + 1 =
    ap depth is in (
      omega arith,
      (
        within,
        (
          λ x stands. let P : Pattern → Type 0 = OccursIn x in
              c.requires.scoped x (subst P (sym is) stands),
          inner_match c.args.subsorts.now c.args.sort.0 _ _ _ _ c.args.term.now _ is
              c.height-high.ensures.normal c.requires.matches,
        ),
      ),
    )

pub bind_under-returns-in-Inj-clause-bound : goal.bind_under-returns-in-Inj-clause-bound
bind_under-returns-in-Inj-clause-bound g t c =
    let is : plain_pattern c.args.pat.now ≡ injection c.in-Inj.from.0 c.in-Inj.field-1.0
    (plain_pattern c.deref-in-Inj.result.now) =
    ap plain_pattern c.in-Inj.is
    ∙ (plain-Inj _ _ _
    ∙ ap (λ p. injection c.in-Inj.from.0 c.in-Inj.field-1.0 (plain_pattern p))
    (sym c.deref-in-Inj.ensures)) in
    on_ok c.bind_under.result _ _
    (λ e. inner_bind c.args.subsorts.now c.args.sort.0 _ _ _ _ c.args.term.now _ _ is
    c.height-high.ensures.normal c.requires.matches e)
    c.bind_under.ensures.bound
