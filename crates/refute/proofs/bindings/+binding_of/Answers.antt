use Rattle.std.proofs.Common.{◌≡◌, ◌<◌, ℕ, Some, slice_get, length, refl, sym, ◌∙◌, ap, subst, arith}
use Rattle.std.specs.Prelude.{option_copied}
use Rattle.term_core.specs.Terms.{Tree, Forest, node, inj}
use Rattle.term_core.specs.Forests.{forest, children}
use Rattle.term_core.specs.Patterns.{Pattern, application, injection, ground_pattern, ground_patterns}
use Rattle.term_core.specs.PatternLists.{plain_patterns}
use Rattle.term_core.specs.RulePatterns.{plain_pattern}
use Rattle.term_core.proofs.PatternLaws.{depth, depth_of-item}
use Rattle.rule_core.specs.MatchSteps.{lowered}
use Rattle.prove_term.proofs.ResultLaws.{if_ok}
use Rattle.refute.specs.Clashes.{IsUpTo}
use Rattle.refute.specs.Bindings.{FindsBinding}
use Rattle.refute.proofs.Findings.{found_injected, found_at, none_next, none_at_all}
use Rattle.refute.proofs.Places.{at_together}
use Rattle.refute.proofs.WeakFacts.{item_at}
use Rattle.refute.proofs.PairsOver.{lowered_kept, lowered_made, normal_inside, below_over, child_is}
use Rattle.refute.proofs.PairsOver.{as_many_wholes, as_many_terms, argument_over, whole_at}
use Rattle.refute.proofs.PairsOver.{whole_node, wholes_are, same_pattern_over}
use Rattle.refute.proofs.bindings.+binding_of.Goals as goal

pub binding_of-binding_among-requires : goal.binding_of-binding_among-requires
binding_of-binding_among-requires t c =
    let m : (ts : Forest) × (plain_pattern c.args.pat.now
    ≡ application c.in-Arguments.field-0.0 (plain_patterns c.in-Arguments.args.now))
    × (c.args.term.now ≡ node c.in-Arguments.field-0.0 ts)
    × (plain_patterns c.in-Arguments.wholes.now ≡ ground_patterns ts) = c.in-Arguments.ensures in (
      omega (arith, ap depth m.1),
      (
        (
          c.in-Arguments.field-0.0,
          whole_node c.in-Arguments.field-0.0 m.0 c.args.term.now m.2,
          same_pattern_over c.args.subsorts.now (plain_pattern c.args.pat.now)
              (application c.in-Arguments.field-0.0 (plain_patterns c.in-Arguments.args.now))
              c.args.term.now m.1 c.requires.sorted,
        ),
        wholes_are c.in-Arguments.field-0.0 m.0 c.args.term.now c.in-Arguments.wholes.now m.2 m.3,
      ),
    )

pub binding_of-binding_of-requires : goal.binding_of-binding_of-requires
binding_of-binding_of-requires t c =
    let a : ℕ = c.in-Below.from.0 in
    let b : ℕ = c.in-Below.through.0 in
    let to : ℕ = c.in-Below.field-2.0 in
    let m : (u : Tree)
    × (plain_pattern c.args.pat.now ≡ injection b to (plain_pattern c.in-Below.below.now))
    × (c.args.term.now ≡ inj a to u) × (plain_pattern c.in-Below.inner.now ≡ ground_pattern u)
    × IsUpTo c.args.subsorts.now a b = c.in-Below.ensures in
    let child : c.child-child.result.now ≡ m.0 =
    child_is a to c.args.term.now m.0 c.child-child.result.now m.2 c.child-child.ensures in
    let made : c.child-child.result.now ≡ lowered a b m.0 =
    lowered_kept a b c.child-child.result.now m.0 (sym c.eq.ensures ∙ c.if-eq.true) child in (
      omega (arith, ap depth m.1),
      (
        below_over c.args.subsorts.now a b to (plain_pattern c.args.pat.now)
            (plain_pattern c.in-Below.below.now) c.args.term.now m.0 c.child-child.result.now
            c.requires.sorted m.1 m.2 m.4 made,
        m.3 ∙ ap ground_pattern (sym child),
      ),
    )

pub binding_of-returns-then-eq : goal.binding_of-returns-then-eq
binding_of-returns-then-eq t c =
    let a : ℕ = c.in-Below.from.0 in
    let b : ℕ = c.in-Below.through.0 in
    let to : ℕ = c.in-Below.field-2.0 in
    let m : (u : Tree)
    × (plain_pattern c.args.pat.now ≡ injection b to (plain_pattern c.in-Below.below.now))
    × (c.args.term.now ≡ inj a to u) × (plain_pattern c.in-Below.inner.now ≡ ground_pattern u)
    × IsUpTo c.args.subsorts.now a b = c.in-Below.ensures in
    let child : c.child-child.result.now ≡ m.0 =
    child_is a to c.args.term.now m.0 c.child-child.result.now m.2 c.child-child.ensures in
    let made : c.child-child.result.now ≡ lowered a b m.0 =
    lowered_kept a b c.child-child.result.now m.0 (sym c.eq.ensures ∙ c.if-eq.true) child in
    if_ok c.binding_of.result
    (λ o found. found_injected c.args.subsorts.now c.args.x (option_copied c.args.but) a b to
    (plain_pattern c.args.pat.now) (plain_pattern c.in-Below.below.now) c.args.term.now m.0
    c.child-child.result.now o m.1 m.2 m.4 made found)
    c.binding_of.ensures

pub binding_of-binding_of-requires-in-Below : goal.binding_of-binding_of-requires-in-Below
binding_of-binding_of-requires-in-Below t c =
    let a : ℕ = c.in-Below.from.0 in
    let b : ℕ = c.in-Below.through.0 in
    let to : ℕ = c.in-Below.field-2.0 in
    let m : (u : Tree)
    × (plain_pattern c.args.pat.now ≡ injection b to (plain_pattern c.in-Below.below.now))
    × (c.args.term.now ≡ inj a to u) × (plain_pattern c.in-Below.inner.now ≡ ground_pattern u)
    × IsUpTo c.args.subsorts.now a b = c.in-Below.ensures in
    let child : c.child-child.result.now ≡ m.0 =
    child_is a to c.args.term.now m.0 c.child-child.result.now m.2 c.child-child.ensures in
    let made : c.in_ok-lowered-in-Below.lowered ≡ lowered a b m.0 =
    lowered_made a b c.child-child.result.now m.0 c.in_ok-lowered-in-Below.lowered
    (normal_inside c.args.subsorts.now a to (plain_pattern c.args.pat.now) c.args.term.now m.0
    c.requires.sorted m.2) (sym c.eq.ensures ∙ c.if-eq.false) child
    c.in_ok-lowered-in-Below.ensures.injected in (
      omega (arith, ap depth m.1),
      (
        below_over c.args.subsorts.now a b to (plain_pattern c.args.pat.now)
            (plain_pattern c.in-Below.below.now) c.args.term.now m.0 c.in_ok-lowered-in-Below.lowered
            c.requires.sorted m.1 m.2 m.4 made,
        c.in_ok-inner-in-Below.ensures.tree,
      ),
    )

pub binding_of-returns-in_ok-inner-in-Below : goal.binding_of-returns-in_ok-inner-in-Below
binding_of-returns-in_ok-inner-in-Below t c =
    let a : ℕ = c.in-Below.from.0 in
    let b : ℕ = c.in-Below.through.0 in
    let to : ℕ = c.in-Below.field-2.0 in
    let m : (u : Tree)
    × (plain_pattern c.args.pat.now ≡ injection b to (plain_pattern c.in-Below.below.now))
    × (c.args.term.now ≡ inj a to u) × (plain_pattern c.in-Below.inner.now ≡ ground_pattern u)
    × IsUpTo c.args.subsorts.now a b = c.in-Below.ensures in
    let child : c.child-child.result.now ≡ m.0 =
    child_is a to c.args.term.now m.0 c.child-child.result.now m.2 c.child-child.ensures in
    let made : c.in_ok-lowered-in-Below.lowered ≡ lowered a b m.0 =
    lowered_made a b c.child-child.result.now m.0 c.in_ok-lowered-in-Below.lowered
    (normal_inside c.args.subsorts.now a to (plain_pattern c.args.pat.now) c.args.term.now m.0
    c.requires.sorted m.2) (sym c.eq.ensures ∙ c.if-eq.false) child
    c.in_ok-lowered-in-Below.ensures.injected in
    if_ok c.binding_of-in-Below.result
    (λ o found. found_injected c.args.subsorts.now c.args.x (option_copied c.args.but) a b to
    (plain_pattern c.args.pat.now) (plain_pattern c.in-Below.below.now) c.args.term.now m.0
    c.in_ok-lowered-in-Below.lowered o m.1 m.2 m.4 made found)
    c.binding_of-in-Below.ensures

pub binding_among-bounds-wholes-i : goal.binding_among-bounds-wholes-i
binding_among-bounds-wholes-i t c =
    let many : length c.args.args.now ≡ length c.args.wholes.now =
    as_many_wholes c.args.subsorts.now c.requires.sorted.0 c.args.args.now c.args.wholes.now
    c.args.term.now c.requires.sorted.2 c.requires.sorted.1 c.requires.wholes in
    omega (arith, c.loop-i-test.true, c.loop-i.auto.i-end, many)

pub binding_among-child-requires : goal.binding_among-child-requires
binding_among-child-requires t c =
    let many : length c.args.args.now ≡ length c.args.wholes.now =
    as_many_wholes c.args.subsorts.now c.requires.sorted.0 c.args.args.now c.args.wholes.now
    c.args.term.now c.requires.sorted.2 c.requires.sorted.1 c.requires.wholes in
    omega (
      arith,
      c.loop-i-test.true,
      c.loop-i.auto.i-end,
      many,
      as_many_terms c.args.wholes.now (children c.args.term.now) c.requires.wholes,
    )

pub binding_among-binding_of-requires : goal.binding_among-binding_of-requires
binding_among-binding_of-requires t c =
    let many : length c.args.args.now ≡ length c.args.wholes.now =
    as_many_wholes c.args.subsorts.now c.requires.sorted.0 c.args.args.now c.args.wholes.now
    c.args.term.now c.requires.sorted.2 c.requires.sorted.1 c.requires.wholes in
    let low : c.loop-i.i < length c.args.args.now =
    omega (arith, c.loop-i-test.true, c.loop-i.auto.i-end) in
    let one : slice_get c.args.args.now c.loop-i.i ≡ Some c.index-args-i.result =
    item_at c.args.args.now c.args.args.now c.loop-i.i c.index-args-i.result refl low
    c.index-args-i.is in
    let whole : slice_get c.args.wholes.now c.loop-i.i ≡ Some c.index-wholes-i.result =
    item_at c.args.wholes.now c.args.wholes.now c.loop-i.i c.index-wholes-i.result refl
    (omega (arith, low, many)) c.index-wholes-i.is in (
      omega (
        arith,
        depth_of-item c.args.args.now c.loop-i.i c.index-args-i.result
            c.index-args-i.is low,
      ),
      (
        argument_over c.args.subsorts.now c.requires.sorted.0 (plain_patterns c.args.args.now)
            (forest (children c.args.term.now)) (plain_pattern c.index-args-i.result)
            c.child.result.now c.args.term.now c.requires.sorted.2 c.requires.sorted.1
            (at_together c.args.args.now (children c.args.term.now) c.loop-i.i
            c.index-args-i.result c.child.result.now one c.child.ensures),
        whole_at c.args.wholes.now (children c.args.term.now) c.loop-i.i c.index-wholes-i.result
            c.child.result.now c.requires.wholes whole c.child.ensures,
      ),
    )

pub binding_among-returns-then-is_some : goal.binding_among-returns-then-is_some
binding_among-returns-then-is_some t c =
    let low : c.loop-i.i < length c.args.args.now =
    omega (arith, c.loop-i-test.true, c.loop-i.auto.i-end) in
    let one : slice_get c.args.args.now c.loop-i.i ≡ Some c.index-args-i.result =
    item_at c.args.args.now c.args.args.now c.loop-i.i c.index-args-i.result refl low
    c.index-args-i.is in
    λ f is. found_at c.args.subsorts.now c.args.x (option_copied c.args.but) f c.args.args.now
    c.loop-i.i c.index-args-i.result c.child.result.now c.args.term.now c.in_ok-found.found one
    c.child.ensures is (sym c.is_some.ensures ∙ c.if-is_some.true) c.in_ok-found.ensures

pub binding_among-loop-i-preserved : goal.binding_among-loop-i-preserved
binding_among-loop-i-preserved t c =
    let low : c.loop-i.i < length c.args.args.now =
    omega (arith, c.loop-i-test.true, c.loop-i.auto.i-end) in
    let one : slice_get c.args.args.now c.loop-i.i ≡ Some c.index-args-i.result =
    item_at c.args.args.now c.args.args.now c.loop-i.i c.index-args-i.result refl low
    c.index-args-i.is in
    none_next c.args.subsorts.now c.args.x (option_copied c.args.but) c.args.args.now
    (children c.args.term.now) c.loop-i.i c.index-args-i.result c.child.result.now
    c.in_ok-found.found one c.child.ensures (sym c.is_some.ensures ∙ c.if-is_some.false)
    c.in_ok-found.ensures c.loop-i.invariant

pub binding_among-returns : goal.binding_among-returns
binding_among-returns t c =
    λ f is. none_at_all c.args.subsorts.now c.args.x (option_copied c.args.but) f c.loop-i.i
    c.args.args.now c.args.term.now c.loop-i.invariant
    (omega (arith, c.loop-i-test.false, c.loop-i.auto.i-end)) is

pub binding_of-returns-in-Arguments : goal.binding_of-returns-in-Arguments
binding_of-returns-in-Arguments t c =
    let m : (ts : Forest) × (plain_pattern c.args.pat.now
    ≡ application c.in-Arguments.field-0.0 (plain_patterns c.in-Arguments.args.now))
    × (c.args.term.now ≡ node c.in-Arguments.field-0.0 ts)
    × (plain_patterns c.in-Arguments.wholes.now ≡ ground_patterns ts) = c.in-Arguments.ensures in
    if_ok c.binding_among.result
    (λ o found. subst (λ (r : Pattern). FindsBinding c.args.subsorts.now c.args.x
    (option_copied c.args.but) r c.args.term.now o) (sym m.1)
    (found c.in-Arguments.field-0.0
    (whole_node c.in-Arguments.field-0.0 m.0 c.args.term.now m.2)))
    c.binding_among.ensures
