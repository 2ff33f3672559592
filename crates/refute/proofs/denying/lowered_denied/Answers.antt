use Rattle.std.proofs.Common.{◌≡◌, refl, sym, subst}
use Rattle.term_core.specs.Terms.{Tree}
use Rattle.term_core.specs.Patterns.{injection, ground_pattern}
use Rattle.term_core.specs.RulePatterns.{plain_pattern, sort_numbers}
use Rattle.prove_term.specs.Contexts.{HasGrown}
use Rattle.prove_term.proofs.ContextLaws.{grown_twice}
use Rattle.refute.proofs.Comparisons.{lowered_covered, only_child, twice_covered}
use Rattle.refute.proofs.Growing.{covered_grown, setting_grown}
use Rattle.refute.proofs.denying.lowered_denied.Goals as goal

pub as_unequal-requires-clause-covered : goal.as_unequal-requires-clause-covered
as_unequal-requires-clause-covered c =
    lowered_covered c.args.cx.now.program.sig (sort_numbers c.args.setting.now.sorts.now)
    c.args.setting.now.given c.args.from.0 c.args.through.0 c.args.to.0
    (plain_pattern c.args.below.now) (plain_pattern c.args.inner.now) c.args.term.now
    c.requires.term.0 c.requires.term.1 c.requires.term.2 c.requires.lower c.requires.pair

pub above_injection-requires-clause-setting : goal.above_injection-requires-clause-setting
above_injection-requires-clause-setting c =
    setting_grown c.args.cx.now c.as_unequal.new.cx c.args.setting.now c.in_ok-differ.ensures.grown
    c.requires.setting

pub above_injection-requires-clause-covered : goal.above_injection-requires-clause-covered
above_injection-requires-clause-covered c =
    covered_grown c.args.cx.now c.as_unequal.new.cx (sort_numbers c.args.setting.now.sorts.now)
    c.args.setting.now.given
    (injection c.args.through.0 c.args.to.0 (plain_pattern c.args.below.now))
    (injection c.args.through.0 c.args.to.0 (plain_pattern c.args.inner.now))
    c.in_ok-differ.ensures.grown
    (twice_covered c.args.cx.now.program.sig (sort_numbers c.args.setting.now.sorts.now)
    c.args.setting.now.given c.args.from.0 c.args.through.0 c.args.to.0
    (plain_pattern c.args.below.now) (plain_pattern c.args.inner.now) c.args.term.now
    c.requires.term.0 c.requires.term.1 c.requires.term.2 c.requires.lower c.requires.pair)

pub above_lowered-requires-clause-setting : goal.above_lowered-requires-clause-setting
above_lowered-requires-clause-setting c =
    setting_grown c.args.cx.now c.above_injection.new.cx c.args.setting.now
    (grown_twice c.args.cx.now c.as_unequal.new.cx c.above_injection.new.cx
    c.in_ok-differ.ensures.grown c.in_ok-twice.ensures.grown) c.requires.setting

pub above_lowered-requires-clause-covered : goal.above_lowered-requires-clause-covered
above_lowered-requires-clause-covered c =
    let grown : HasGrown c.args.cx.now c.above_injection.new.cx =
    grown_twice c.args.cx.now c.as_unequal.new.cx c.above_injection.new.cx
    c.in_ok-differ.ensures.grown c.in_ok-twice.ensures.grown in
    let same : c.child-child.result.now ≡ c.requires.term.0 =
    only_child c.args.term.now c.requires.term.0 c.child-child.result.now c.args.from.0 c.args.to.0
    c.requires.term.1 c.child-child.ensures in
    covered_grown c.args.cx.now c.above_injection.new.cx
    (sort_numbers c.args.setting.now.sorts.now) c.args.setting.now.given
    (injection c.args.through.0 c.args.to.0 (plain_pattern c.args.below.now))
    (injection c.args.through.0 c.args.to.0
    (injection c.args.from.0 c.args.through.0 (ground_pattern c.child-child.result.now)))
    grown
    (twice_covered c.args.cx.now.program.sig (sort_numbers c.args.setting.now.sorts.now)
    c.args.setting.now.given c.args.from.0 c.args.through.0 c.args.to.0
    (plain_pattern c.args.below.now)
    (injection c.args.from.0 c.args.through.0 (ground_pattern c.child-child.result.now))
    c.args.term.now c.requires.term.0 c.requires.term.1
    (subst (λ (u : Tree). injection c.args.from.0 c.args.through.0 (ground_pattern u)
    ≡ injection c.args.from.0 c.args.through.0 (ground_pattern c.requires.term.0))
    (sym same) refl)
    c.requires.lower c.requires.pair)

pub returns-in_err-made-clause-grown : goal.returns-in_err-made-clause-grown
returns-in_err-made-clause-grown c =
    grown_twice c.args.cx.now c.above_injection.new.cx c.above_lowered.new.cx
    (grown_twice c.args.cx.now c.as_unequal.new.cx c.above_injection.new.cx
    c.in_ok-differ.ensures.grown c.in_ok-twice.ensures.grown) c.above_lowered.ensures.grown

pub returns-clause-grown : goal.returns-clause-grown
returns-clause-grown c =
    grown_twice c.args.cx.now c.above_injection.new.cx c.above_lowered.new.cx
    (grown_twice c.args.cx.now c.as_unequal.new.cx c.above_injection.new.cx
    c.in_ok-differ.ensures.grown c.in_ok-twice.ensures.grown) c.above_lowered.ensures.grown
