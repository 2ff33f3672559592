use Rattle.std.proofs.Common.{◌≡◌, ◌≢◌, ◌≤◌, ◌+◌, ℕ, sym, ◌∙◌, ap, subst, arith, eq-eqb}
use Rattle.std.specs.Prelude.{IfOk}
use Rattle.std.proofs.lemmas.Bool.{eqb-true, false≢true}
use Rattle.term_core.specs.Terms.{node, inj}
use Rattle.term_core.specs.Forests.{children}
use Rattle.term_core.specs.Patterns.{Pattern, application, injection, ground_pattern}
use Rattle.term_core.specs.Patterns.{ground_patterns}
use Rattle.term_core.specs.RulePatterns.{plain_pattern, sort_numbers}
use Rattle.term_core.specs.PatternLists.{plain_patterns}
use Rattle.term_core.proofs.PatternLaws.{depth, depths, depth_of-item}
use Rattle.rule_core.specs.Subsorts.{IsBelow}
use Rattle.rule_core.specs.declared.rules.Program.{Program}
use Rattle.prove_term.specs.Contexts.{HasGrown}
use Rattle.prove_term.proofs.ContextLaws.{grown_none, grown_twice}
use Rattle.prove_term.proofs.ResultLaws.{if_ok}
use Rattle.prove_open.specs.Differences.{DifferAtRoot}
use Rattle.refute.specs.Clashes.{Clash, IsUpTo}
use Rattle.refute.specs.Refuting.{IsPair, IsRefuted}
use Rattle.refute.proofs.Applications.{read_there}
use Rattle.refute.proofs.Comparisons.{IsArgument, argument_at, arguments_free, as_many_children}
use Rattle.refute.proofs.Comparisons.{free_none, has_child, injected_child, injected_free}
use Rattle.refute.proofs.Comparisons.{lowered_child, lowered_free, met_children, nodes_covered}
use Rattle.refute.proofs.Comparisons.{none_free, one_more_free, some_denied, values_free}
use Rattle.refute.proofs.Comparisons.{whole_node, inner_child, strictly_below}
use Rattle.refute.proofs.Growing.{covered_grown, pair_grown, program_grown, setting_grown}
use Rattle.refute.proofs.Pairs.{pair_covered}
use Rattle.refute.proofs.Roots.{clash_differs}
use Rattle.refute.proofs.denying.+refuted.Goals as goal

-- ---- arguments_refuted

pub arguments_refuted-loop-i-init : goal.arguments_refuted-loop-i-init
arguments_refuted-loop-i-init t c = record {
  grown = grown_none c.args.cx.now;
  free = λ j p u low one other. absurd (omega (arith, low));
}

pub arguments_refuted-bounds-args-i : goal.arguments_refuted-bounds-args-i
arguments_refuted-bounds-args-i t c = omega (arith, c.loop-i-test.true)

pub arguments_refuted-bounds-wholes-i : goal.arguments_refuted-bounds-wholes-i
arguments_refuted-bounds-wholes-i t c =
    let many = as_many_children c.args.cx.now.program.sig
    (sort_numbers c.args.setting.now.sorts.now) c.args.setting.now.given c.args.symbol.0
    c.args.args.now c.args.wholes.now c.args.term.now c.requires.pair c.requires.term
    c.requires.wholes in
    omega (arith, c.loop-i-test.true, many.0)

pub arguments_refuted-child-requires : goal.arguments_refuted-child-requires
arguments_refuted-child-requires t c =
    let many = as_many_children c.args.cx.now.program.sig
    (sort_numbers c.args.setting.now.sorts.now) c.args.setting.now.given c.args.symbol.0
    c.args.args.now c.args.wholes.now c.args.term.now c.requires.pair c.requires.term
    c.requires.wholes in
    omega (arith, c.loop-i-test.true, many.0, many.1)

pub arguments_refuted-refuted-requires : goal.arguments_refuted-refuted-requires
arguments_refuted-refuted-requires t c =
    let high : depth (plain_pattern c.index-args-i.result) ≤ depths
    (plain_patterns c.args.args.now) =
    depth_of-item c.args.args.now c.loop-i.i c.index-args-i.result c.index-args-i.is
    c.loop-i-test.true in
    let item : IsArgument c.args.cx.now.program.sig (sort_numbers c.args.setting.now.sorts.now)
    c.args.setting.now.given c.args.args.now c.args.wholes.now (children c.args.term.now)
    c.loop-i.i c.index-args-i.result c.index-wholes-i.result c.child.result.now =
    argument_at c.args.cx.now.program.sig (sort_numbers c.args.setting.now.sorts.now)
    c.args.setting.now.given c.args.symbol.0 c.args.args.now c.args.wholes.now c.args.term.now
    c.loop-i.i c.index-args-i.result c.index-wholes-i.result c.child.result.now c.requires.pair
    c.requires.term c.requires.wholes c.loop-i-test.true c.index-args-i.is c.index-wholes-i.is
    c.child.ensures in (
      omega (arith, high, c.decreases),
      (
        setting_grown c.args.cx.now c.loop-i.cx c.args.setting.now c.loop-i.invariant.grown
            c.requires.setting,
        (
          pair_grown c.args.cx.now c.loop-i.cx (sort_numbers c.args.setting.now.sorts.now)
              c.args.setting.now.given (plain_pattern c.index-args-i.result) c.child.result.now
              c.loop-i.invariant.grown item.pair,
          item.whole,
        ),
      ),
    )

pub arguments_refuted-returns-in_err-found-clause-grown :
    goal.arguments_refuted-returns-in_err-found-clause-grown
arguments_refuted-returns-in_err-found-clause-grown t c =
    grown_twice c.args.cx.now c.loop-i.cx c.refuted.new.cx c.loop-i.invariant.grown
    c.refuted.ensures.grown

pub arguments_refuted-argument_denied-requires-clause-setting :
    goal.arguments_refuted-argument_denied-requires-clause-setting
arguments_refuted-argument_denied-requires-clause-setting t c =
    setting_grown c.args.cx.now c.refuted.new.cx c.args.setting.now
    (grown_twice c.args.cx.now c.loop-i.cx c.refuted.new.cx c.loop-i.invariant.grown
    c.refuted.ensures.grown) c.requires.setting

pub arguments_refuted-argument_denied-requires-clause-covered :
    goal.arguments_refuted-argument_denied-requires-clause-covered
arguments_refuted-argument_denied-requires-clause-covered t c =
    covered_grown c.args.cx.now c.refuted.new.cx (sort_numbers c.args.setting.now.sorts.now)
    c.args.setting.now.given (application c.args.symbol.0 (plain_patterns c.args.args.now))
    (application c.args.symbol.0 (plain_patterns c.args.wholes.now))
    (grown_twice c.args.cx.now c.loop-i.cx c.refuted.new.cx c.loop-i.invariant.grown
    c.refuted.ensures.grown)
    (nodes_covered c.args.cx.now.program.sig (sort_numbers c.args.setting.now.sorts.now)
    c.args.setting.now.given c.args.symbol.0 c.args.args.now c.args.wholes.now c.args.term.now
    c.requires.pair c.requires.term c.requires.wholes)

pub arguments_refuted-argument_denied-requires-clause-denies :
    goal.arguments_refuted-argument_denied-requires-clause-denies
arguments_refuted-argument_denied-requires-clause-denies t c =
    let item : IsArgument c.args.cx.now.program.sig (sort_numbers c.args.setting.now.sorts.now)
    c.args.setting.now.given c.args.args.now c.args.wholes.now (children c.args.term.now)
    c.loop-i.i c.index-args-i.result c.index-wholes-i.result c.child.result.now =
    argument_at c.args.cx.now.program.sig (sort_numbers c.args.setting.now.sorts.now)
    c.args.setting.now.given c.args.symbol.0 c.args.args.now c.args.wholes.now c.args.term.now
    c.loop-i.i c.index-args-i.result c.index-wholes-i.result c.child.result.now c.requires.pair
    c.requires.term c.requires.wholes c.loop-i-test.true c.index-args-i.is c.index-wholes-i.is
    c.child.ensures in (
      c.index-args-i.result,
      c.index-wholes-i.result,
      item.is_pattern,
      item.is_whole,
      covered_grown c.args.cx.now c.refuted.new.cx (sort_numbers c.args.setting.now.sorts.now)
          c.args.setting.now.given (plain_pattern c.index-args-i.result)
          (plain_pattern c.index-wholes-i.result)
          (grown_twice c.args.cx.now c.loop-i.cx c.refuted.new.cx c.loop-i.invariant.grown
          c.refuted.ensures.grown)
          (pair_covered c.args.cx.now.program.sig (sort_numbers c.args.setting.now.sorts.now)
          c.args.setting.now.given (plain_pattern c.index-args-i.result)
          (plain_pattern c.index-wholes-i.result) c.child.result.now item.whole item.pair),
      some_denied c.refuted.new.cx c.args.setting.now (plain_pattern c.index-args-i.result)
          (plain_pattern c.index-wholes-i.result) c.child.result.now c.in_ok-found.found
          c.in-Some.difference c.in-Some.is item.whole c.in_ok-found.ensures.says,
    )

pub arguments_refuted-returns-in-Some-clause-says :
    goal.arguments_refuted-returns-in-Some-clause-says
arguments_refuted-returns-in-Some-clause-says t c =
    if_ok c.argument_denied.result
    (λ d says. says c.args.term.now
    (whole_node c.args.symbol.0 c.args.wholes.now c.args.term.now c.requires.term
    c.requires.wholes))
    c.argument_denied.ensures.says

pub arguments_refuted-returns-in-Some-clause-grown :
    goal.arguments_refuted-returns-in-Some-clause-grown
arguments_refuted-returns-in-Some-clause-grown t c =
    grown_twice c.args.cx.now c.refuted.new.cx c.argument_denied.new.cx
    (grown_twice c.args.cx.now c.loop-i.cx c.refuted.new.cx c.loop-i.invariant.grown
    c.refuted.ensures.grown) c.argument_denied.ensures.grown

pub arguments_refuted-loop-i-preserved : goal.arguments_refuted-loop-i-preserved
arguments_refuted-loop-i-preserved t c =
    let grown : HasGrown c.args.cx.now c.refuted.new.cx =
    grown_twice c.args.cx.now c.loop-i.cx c.refuted.new.cx c.loop-i.invariant.grown
    c.refuted.ensures.grown in
    record {
      grown = grown;
      free =
          one_more_free c.args.cx.now.program.sig.subsorts c.args.setting.now.goal c.args.args.now
          (children c.args.term.now) c.loop-i.i c.index-args-i.result c.child.result.now
          (read_there c.args.args.now c.loop-i.i c.index-args-i.result c.loop-i-test.true
          c.index-args-i.is) c.child.ensures
          (none_free c.args.cx.now c.refuted.new.cx c.args.setting.now
          (plain_pattern c.index-args-i.result) c.child.result.now c.in_ok-found.found grown
          c.in_default.is c.in_ok-found.ensures.says) c.loop-i.invariant.free;
    }

pub arguments_refuted-returns-clause-says : goal.arguments_refuted-returns-clause-says
arguments_refuted-returns-clause-says t c =
    free_none c.args.cx.now c.loop-i.cx c.args.setting.now
    (application c.args.symbol.0 (plain_patterns c.args.args.now)) c.args.term.now
    c.loop-i.invariant.grown
    (arguments_free c.args.cx.now.program.sig.subsorts c.args.setting.now.goal c.args.symbol.0
    c.args.args.now c.args.term.now c.loop-i.i c.requires.term
    (omega (arith, c.loop-i-test.false)) c.loop-i.invariant.free)

pub arguments_refuted-returns-clause-grown : goal.arguments_refuted-returns-clause-grown
arguments_refuted-returns-clause-grown t c = c.loop-i.invariant.grown

-- ---- injected_refuted

pub injected_refuted-child-requires : goal.injected_refuted-child-requires
injected_refuted-child-requires t c =
    has_child c.args.term.now c.requires.term.0 c.args.from.0 c.args.to.0 c.requires.term.1

pub injected_refuted-refuted-requires : goal.injected_refuted-refuted-requires
injected_refuted-refuted-requires t c = (
  omega (arith, c.decreases),
  (
    c.requires.setting,
    (
      injected_child c.args.cx.now.program.sig (sort_numbers c.args.setting.now.sorts.now)
          c.args.setting.now.given c.args.from.0 c.args.to.0 (plain_pattern c.args.below.now)
          c.args.term.now c.requires.term.0 c.child.result.now c.requires.term.1
          c.child.ensures c.requires.pair,
      inner_child c.args.term.now c.requires.term.0 c.child.result.now c.args.from.0
          c.args.to.0 (plain_pattern c.args.inner.now) c.requires.term.1 c.child.ensures
          c.requires.term.2,
    ),
  ),
)

pub injected_refuted-returns-in_err-refuted-clause-grown :
    goal.injected_refuted-returns-in_err-refuted-clause-grown
injected_refuted-returns-in_err-refuted-clause-grown t c = c.refuted.ensures.grown

pub injected_refuted-injection_denied-requires-clause-setting :
    goal.injected_refuted-injection_denied-requires-clause-setting
injected_refuted-injection_denied-requires-clause-setting t c =
    setting_grown c.args.cx.now c.refuted.new.cx c.args.setting.now c.refuted.ensures.grown
    c.requires.setting

pub injected_refuted-injection_denied-requires-clause-covered :
    goal.injected_refuted-injection_denied-requires-clause-covered
injected_refuted-injection_denied-requires-clause-covered t c =
    covered_grown c.args.cx.now c.refuted.new.cx (sort_numbers c.args.setting.now.sorts.now)
    c.args.setting.now.given
    (injection c.args.from.0 c.args.to.0 (plain_pattern c.args.below.now))
    (injection c.args.from.0 c.args.to.0 (plain_pattern c.args.inner.now)) c.refuted.ensures.grown
    (pair_covered c.args.cx.now.program.sig (sort_numbers c.args.setting.now.sorts.now)
    c.args.setting.now.given
    (injection c.args.from.0 c.args.to.0 (plain_pattern c.args.below.now))
    (injection c.args.from.0 c.args.to.0 (plain_pattern c.args.inner.now)) c.args.term.now
    (ap (injection c.args.from.0 c.args.to.0) c.requires.term.2
    ∙ ap ground_pattern (sym c.requires.term.1)) c.requires.pair)

pub injected_refuted-injection_denied-requires-clause-parts :
    goal.injected_refuted-injection_denied-requires-clause-parts
injected_refuted-injection_denied-requires-clause-parts t c =
    covered_grown c.args.cx.now c.refuted.new.cx (sort_numbers c.args.setting.now.sorts.now)
    c.args.setting.now.given (plain_pattern c.args.below.now) (plain_pattern c.args.inner.now)
    c.refuted.ensures.grown
    (pair_covered c.args.cx.now.program.sig (sort_numbers c.args.setting.now.sorts.now)
    c.args.setting.now.given (plain_pattern c.args.below.now) (plain_pattern c.args.inner.now)
    c.child.result.now
    (inner_child c.args.term.now c.requires.term.0 c.child.result.now c.args.from.0 c.args.to.0
    (plain_pattern c.args.inner.now) c.requires.term.1 c.child.ensures c.requires.term.2)
    (injected_child c.args.cx.now.program.sig (sort_numbers c.args.setting.now.sorts.now)
    c.args.setting.now.given c.args.from.0 c.args.to.0 (plain_pattern c.args.below.now)
    c.args.term.now c.requires.term.0 c.child.result.now c.requires.term.1 c.child.ensures
    c.requires.pair))

pub injected_refuted-injection_denied-requires-clause-denies :
    goal.injected_refuted-injection_denied-requires-clause-denies
injected_refuted-injection_denied-requires-clause-denies t c =
    some_denied c.refuted.new.cx c.args.setting.now (plain_pattern c.args.below.now)
    (plain_pattern c.args.inner.now) c.child.result.now c.in_ok-refuted.field-0
    c.in-Some.difference c.in-Some.is
    (inner_child c.args.term.now c.requires.term.0 c.child.result.now c.args.from.0 c.args.to.0
    (plain_pattern c.args.inner.now) c.requires.term.1 c.child.ensures c.requires.term.2)
    c.in_ok-refuted.ensures.says

pub injected_refuted-returns-in-None-clause-says : goal.injected_refuted-returns-in-None-clause-says
injected_refuted-returns-in-None-clause-says t c =
    free_none c.args.cx.now c.refuted.new.cx c.args.setting.now
    (injection c.args.from.0 c.args.to.0 (plain_pattern c.args.below.now)) c.args.term.now
    c.refuted.ensures.grown
    (injected_free c.args.cx.now.program.sig.subsorts c.args.setting.now.goal c.args.from.0
    c.args.to.0 (plain_pattern c.args.below.now) c.args.term.now c.requires.term.0
    c.child.result.now c.requires.term.1 c.child.ensures
    (none_free c.args.cx.now c.refuted.new.cx c.args.setting.now (plain_pattern c.args.below.now)
    c.child.result.now c.in_ok-refuted.field-0 c.refuted.ensures.grown c.in-None.is
    c.in_ok-refuted.ensures.says))

pub injected_refuted-returns-in-None-clause-grown :
    goal.injected_refuted-returns-in-None-clause-grown
injected_refuted-returns-in-None-clause-grown t c = c.refuted.ensures.grown

pub injected_refuted-returns-in-Some-clause-says : goal.injected_refuted-returns-in-Some-clause-says
injected_refuted-returns-in-Some-clause-says t c =
    if_ok c.injection_denied.result
    (λ d says. says c.args.term.now
    (ap (injection c.args.from.0 c.args.to.0) c.requires.term.2
    ∙ ap ground_pattern (sym c.requires.term.1)))
    c.injection_denied.ensures.says

pub injected_refuted-returns-in-Some-clause-grown :
    goal.injected_refuted-returns-in-Some-clause-grown
injected_refuted-returns-in-Some-clause-grown t c =
    grown_twice c.args.cx.now c.refuted.new.cx c.injection_denied.new.cx c.refuted.ensures.grown
    c.injection_denied.ensures.grown

-- ---- lowered_refuted

pub lowered_refuted-lowered_term-requires : goal.lowered_refuted-lowered_term-requires
lowered_refuted-lowered_term-requires t c =
    (c.args.to.0, c.requires.term.0, c.requires.term.1)

pub lowered_refuted-returns-in_err-lowered-clause-grown :
    goal.lowered_refuted-returns-in_err-lowered-clause-grown
lowered_refuted-returns-in_err-lowered-clause-grown t c = grown_none c.args.cx.now

pub lowered_refuted-returns-in_err-inner-clause-grown :
    goal.lowered_refuted-returns-in_err-inner-clause-grown
lowered_refuted-returns-in_err-inner-clause-grown t c = grown_none c.args.cx.now

pub lowered_refuted-refuted-requires : goal.lowered_refuted-refuted-requires
lowered_refuted-refuted-requires t c =
    let low : c.in_ok-lowered.lowered ≡ inj c.args.from.0 c.args.through.0 c.requires.term.0 =
    c.in_ok-lowered.ensures c.args.to.0 c.requires.term.0 c.requires.term.1 in (
      omega (arith, c.decreases),
      (
        c.requires.setting,
        (
          lowered_child c.args.cx.now.program.sig (sort_numbers c.args.setting.now.sorts.now)
              c.args.setting.now.given c.args.from.0 c.args.through.0 c.args.to.0
              (plain_pattern c.args.below.now) c.args.term.now c.requires.term.0
              c.in_ok-lowered.lowered c.requires.term.1 low c.requires.lower c.requires.pair,
          c.in_ok-inner.ensures.tree,
        ),
      ),
    )

pub lowered_refuted-returns-in_err-refuted-clause-grown :
    goal.lowered_refuted-returns-in_err-refuted-clause-grown
lowered_refuted-returns-in_err-refuted-clause-grown t c = c.refuted.ensures.grown

pub lowered_refuted-returns-in-None-clause-says : goal.lowered_refuted-returns-in-None-clause-says
lowered_refuted-returns-in-None-clause-says t c =
    let low : c.in_ok-lowered.lowered ≡ inj c.args.from.0 c.args.through.0 c.requires.term.0 =
    c.in_ok-lowered.ensures c.args.to.0 c.requires.term.0 c.requires.term.1 in
    free_none c.args.cx.now c.refuted.new.cx c.args.setting.now
    (injection c.args.through.0 c.args.to.0 (plain_pattern c.args.below.now)) c.args.term.now
    c.refuted.ensures.grown
    (lowered_free c.args.cx.now.program.sig.subsorts c.args.setting.now.goal c.args.from.0
    c.args.through.0 c.args.to.0 (plain_pattern c.args.below.now) c.args.term.now
    c.requires.term.0 c.in_ok-lowered.lowered c.requires.term.1 low c.requires.other
    c.requires.lower
    (none_free c.args.cx.now c.refuted.new.cx c.args.setting.now (plain_pattern c.args.below.now)
    c.in_ok-lowered.lowered c.in_ok-refuted.field-0 c.refuted.ensures.grown c.in-None.is
    c.in_ok-refuted.ensures.says))

pub lowered_refuted-returns-in-None-clause-grown : goal.lowered_refuted-returns-in-None-clause-grown
lowered_refuted-returns-in-None-clause-grown t c = c.refuted.ensures.grown

pub lowered_refuted-lowered_denied-requires-clause-setting :
    goal.lowered_refuted-lowered_denied-requires-clause-setting
lowered_refuted-lowered_denied-requires-clause-setting t c =
    setting_grown c.args.cx.now c.refuted.new.cx c.args.setting.now c.refuted.ensures.grown
    c.requires.setting

pub lowered_refuted-lowered_denied-requires-clause-pair :
    goal.lowered_refuted-lowered_denied-requires-clause-pair
lowered_refuted-lowered_denied-requires-clause-pair t c =
    pair_grown c.args.cx.now c.refuted.new.cx (sort_numbers c.args.setting.now.sorts.now)
    c.args.setting.now.given
    (injection c.args.through.0 c.args.to.0 (plain_pattern c.args.below.now)) c.args.term.now
    c.refuted.ensures.grown c.requires.pair

pub lowered_refuted-lowered_denied-requires-clause-lower :
    goal.lowered_refuted-lowered_denied-requires-clause-lower
lowered_refuted-lowered_denied-requires-clause-lower t c =
    program_grown c.args.cx.now c.refuted.new.cx
    (λ (program : Program). IsBelow program.sig.subsorts c.args.from.0 c.args.through.0)
    c.refuted.ensures.grown c.requires.lower

pub lowered_refuted-lowered_denied-requires-clause-term :
    goal.lowered_refuted-lowered_denied-requires-clause-term
lowered_refuted-lowered_denied-requires-clause-term t c =
    let low : c.in_ok-lowered.lowered ≡ inj c.args.from.0 c.args.through.0 c.requires.term.0 =
    c.in_ok-lowered.ensures c.args.to.0 c.requires.term.0 c.requires.term.1 in (
      c.requires.term.0,
      c.requires.term.1,
      c.in_ok-inner.ensures.tree ∙ ap ground_pattern low,
    )

pub lowered_refuted-lowered_denied-requires-clause-denies :
    goal.lowered_refuted-lowered_denied-requires-clause-denies
lowered_refuted-lowered_denied-requires-clause-denies t c =
    some_denied c.refuted.new.cx c.args.setting.now (plain_pattern c.args.below.now)
    (plain_pattern c.in_ok-inner.inner) c.in_ok-lowered.lowered c.in_ok-refuted.field-0
    c.in-Some.difference c.in-Some.is c.in_ok-inner.ensures.tree c.in_ok-refuted.ensures.says

pub lowered_refuted-returns-clause-says : goal.lowered_refuted-returns-clause-says
lowered_refuted-returns-clause-says t c =
    c.lowered_denied.ensures.says

pub lowered_refuted-returns-clause-grown : goal.lowered_refuted-returns-clause-grown
lowered_refuted-returns-clause-grown t c =
    grown_twice c.args.cx.now c.refuted.new.cx c.lowered_denied.new.cx c.refuted.ensures.grown
    c.lowered_denied.ensures.grown

-- ---- refuted

pub refuted-met-requires-clause-sorted : goal.refuted-met-requires-clause-sorted
refuted-met-requires-clause-sorted t c = (
  c.args.cx.now.program.sig,
  sort_numbers c.args.setting.now.sorts.now,
  c.requires.pair.sort,
  c.requires.pair.left.sorted,
  c.requires.pair.right,
)

pub refuted-met-requires-clause-no_call : goal.refuted-met-requires-clause-no_call
refuted-met-requires-clause-no_call t c = c.requires.pair.left.no_call

pub refuted-met-requires-clause-whole : goal.refuted-met-requires-clause-whole
refuted-met-requires-clause-whole t c = c.requires.whole

pub refuted-at_variable-requires : goal.refuted-at_variable-requires
refuted-at_variable-requires t c = c.requires.setting

pub refuted-at_clash-requires-clause-setting : goal.refuted-at_clash-requires-clause-setting
refuted-at_clash-requires-clause-setting t c = c.requires.setting

pub refuted-at_clash-requires-clause-covered : goal.refuted-at_clash-requires-clause-covered
refuted-at_clash-requires-clause-covered t c =
    pair_covered c.args.cx.now.program.sig (sort_numbers c.args.setting.now.sorts.now)
    c.args.setting.now.given (plain_pattern c.args.pat.now) (plain_pattern c.args.whole.now)
    c.args.term.now c.requires.whole c.requires.pair

pub refuted-at_clash-requires-clause-differ : goal.refuted-at_clash-requires-clause-differ
refuted-at_clash-requires-clause-differ t c =
    subst (DifferAtRoot c.args.cx.now.program.sig.subsorts (plain_pattern c.args.pat.now))
    (sym c.requires.whole)
    (clash_differs c.args.cx.now.program.sig.subsorts (plain_pattern c.args.pat.now)
    c.args.term.now c.requires.pair.normal
    (subst (λ (program : Program). Clash program.sig.subsorts (plain_pattern c.args.pat.now)
    c.args.term.now) c.program.ensures c.in-Clash.ensures))

pub refuted-arguments_refuted-requires : goal.refuted-arguments_refuted-requires
refuted-arguments_refuted-requires t c =
    let high : depth (plain_pattern c.args.pat.now) ≡ depths
    (plain_patterns c.in-Arguments.args.now) + 1 =
    ap depth c.in-Arguments.ensures.1 in
    let same = met_children c.in-Arguments.symbol.0 c.args.term.now c.in-Arguments.ensures.0
    c.in-Arguments.ensures.2 in (
      omega (arith, high, c.decreases),
      (
        c.requires.setting,
        (
          subst (λ (q : Pattern). IsPair c.args.cx.now.program.sig
              (sort_numbers c.args.setting.now.sorts.now) c.args.setting.now.given q
              c.args.term.now) c.in-Arguments.ensures.1 c.requires.pair,
          (
            c.in-Arguments.ensures.2 ∙ ap (node c.in-Arguments.symbol.0) same,
            c.in-Arguments.ensures.3 ∙ ap ground_patterns same,
          ),
        ),
      ),
    )

pub refuted-injected_refuted-requires : goal.refuted-injected_refuted-requires
refuted-injected_refuted-requires t c =
    let high : depth (plain_pattern c.args.pat.now) ≡ depth (plain_pattern c.in-Below.below.now)
    + 1 =
    ap depth c.in-Below.ensures.1 in
    let same : c.in-Below.from.0 ≡ c.in-Below.through.0 =
    eqb-true c.in-Below.from.0 c.in-Below.through.0 (sym c.eq.ensures ∙ c.if-eq.true) in (
      omega (arith, high, c.decreases),
      (
        c.requires.setting,
        (
          subst (λ (q : Pattern). IsPair c.args.cx.now.program.sig
              (sort_numbers c.args.setting.now.sorts.now) c.args.setting.now.given q
              c.args.term.now) c.in-Below.ensures.1 c.requires.pair,
          (
            c.in-Below.ensures.0,
            c.in-Below.ensures.2
                ∙ ap (λ (a : ℕ). inj a c.in-Below.to.0 c.in-Below.ensures.0) same,
            c.in-Below.ensures.3,
          ),
        ),
      ),
    )

pub refuted-lowered_refuted-requires : goal.refuted-lowered_refuted-requires
refuted-lowered_refuted-requires t c =
    let high : depth (plain_pattern c.args.pat.now) ≡ depth (plain_pattern c.in-Below.below.now)
    + 1 =
    ap depth c.in-Below.ensures.1 in
    let other : c.in-Below.from.0 ≢ c.in-Below.through.0 =
    λ (same : c.in-Below.from.0 ≡ c.in-Below.through.0).
    false≢true (sym c.if-eq.false ∙ c.eq.ensures
    ∙ eq-eqb c.in-Below.from.0 c.in-Below.through.0 same) in (
      omega (arith, high, c.decreases),
      (
        c.requires.setting,
        (
          subst (λ (q : Pattern). IsPair c.args.cx.now.program.sig
              (sort_numbers c.args.setting.now.sorts.now) c.args.setting.now.given q
              c.args.term.now) c.in-Below.ensures.1 c.requires.pair,
          (
            strictly_below c.args.cx.now.program.sig.subsorts c.in-Below.from.0
                c.in-Below.through.0 other
                (subst (λ (program : Program). IsUpTo program.sig.subsorts c.in-Below.from.0
                c.in-Below.through.0) c.program.ensures c.in-Below.ensures.4),
            (other, (c.in-Below.ensures.0, c.in-Below.ensures.2)),
          ),
        ),
      ),
    )

pub refuted-returns-in-Ends-clause-says : goal.refuted-returns-in-Ends-clause-says
refuted-returns-in-Ends-clause-says t c =
    values_free c.args.cx.now.program.sig.subsorts c.args.setting.now.goal
    (plain_pattern c.args.pat.now) c.args.term.now c.in-Ends.ensures.0 c.in-Ends.ensures.1
    c.in-Ends.ensures.2 c.in-Ends.ensures.3 c.in-Ends.ensures.4

pub refuted-returns-in-Ends-clause-grown : goal.refuted-returns-in-Ends-clause-grown
refuted-returns-in-Ends-clause-grown t c = grown_none c.args.cx.now

pub refuted-returns-in-Variable-clause-says : goal.refuted-returns-in-Variable-clause-says
refuted-returns-in-Variable-clause-says t c =
    subst (λ (q : Pattern). IfOk c.at_variable.result
    (IsRefuted c.args.cx.now c.args.setting.now q c.args.term.now))
    (sym c.in-Variable.ensures) c.at_variable.ensures

pub refuted-returns-in-Variable-clause-grown : goal.refuted-returns-in-Variable-clause-grown
refuted-returns-in-Variable-clause-grown t c = grown_none c.args.cx.now

pub refuted-returns-in-Clash-clause-says : goal.refuted-returns-in-Clash-clause-says
refuted-returns-in-Clash-clause-says t c =
    if_ok c.at_clash.result (λ d says. says c.args.term.now c.requires.whole)
    c.at_clash.ensures.says

pub refuted-returns-in-Clash-clause-grown : goal.refuted-returns-in-Clash-clause-grown
refuted-returns-in-Clash-clause-grown t c = c.at_clash.ensures.grown

pub refuted-returns-in-Arguments-clause-says : goal.refuted-returns-in-Arguments-clause-says
refuted-returns-in-Arguments-clause-says t c =
    subst (λ (q : Pattern). IfOk c.arguments_refuted.result
    (IsRefuted c.arguments_refuted.new.cx c.args.setting.now q c.args.term.now))
    (sym c.in-Arguments.ensures.1) c.arguments_refuted.ensures.says

pub refuted-returns-in-Arguments-clause-grown : goal.refuted-returns-in-Arguments-clause-grown
refuted-returns-in-Arguments-clause-grown t c = c.arguments_refuted.ensures.grown

pub refuted-returns-then-eq-clause-says : goal.refuted-returns-then-eq-clause-says
refuted-returns-then-eq-clause-says t c =
    subst (λ (q : Pattern). IfOk c.injected_refuted.result
    (IsRefuted c.injected_refuted.new.cx c.args.setting.now q c.args.term.now))
    (sym c.in-Below.ensures.1) c.injected_refuted.ensures.says

pub refuted-returns-then-eq-clause-grown : goal.refuted-returns-then-eq-clause-grown
refuted-returns-then-eq-clause-grown t c = c.injected_refuted.ensures.grown

pub refuted-returns-else-eq-clause-says : goal.refuted-returns-else-eq-clause-says
refuted-returns-else-eq-clause-says t c =
    subst (λ (q : Pattern). IfOk c.lowered_refuted.result
    (IsRefuted c.lowered_refuted.new.cx c.args.setting.now q c.args.term.now))
    (sym c.in-Below.ensures.1) c.lowered_refuted.ensures.says

pub refuted-returns-else-eq-clause-grown : goal.refuted-returns-else-eq-clause-grown
refuted-returns-else-eq-clause-grown t c = c.lowered_refuted.ensures.grown
