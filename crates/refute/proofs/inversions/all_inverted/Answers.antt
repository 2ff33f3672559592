use Rattle.std.proofs.Common.{◌≡◌, ◌<◌, ◌-◌, ℕ, length, drop, get_or}
use Rattle.std.proofs.Common.{sym, ◌∙◌, ap, subst, arith}
use Rattle.std.specs.Prelude.{option_copied}
use Rattle.std.proofs.lemmas.Option.{slice_get-get_or, get_or_from_slice_get}
use Rattle.term_core.specs.Patterns.{variable}
use Rattle.term_core.specs.RulePatterns.{plain_pattern, sort_numbers}
use Rattle.rule_core.specs.declared.rules.Program.{Program}
use Rattle.ml_image.specs.Sentences.{Sentence}
use Rattle.prove_term.proofs.ContextLaws.{grown_none, grown_twice}
use Rattle.refute.specs.Bindings.{IsInverting, equals_bound}
use Rattle.refute.specs.Clashes.{ComesTo}
use Rattle.refute.specs.Refutations.{all_bound, in_common}
use Rattle.refute.proofs.Growing.{program_grown, setting_grown, pair_grown}
use Rattle.refute.proofs.Inverted.{all_dropped, inverting_grown, joinable, next_inverting}
use Rattle.refute.proofs.Reached.{come_to, has_binding}
use Rattle.refute.proofs.inversions.all_inverted.Goals as goal

pub loop-left-init : goal.loop-left-init
loop-left-init c = record {
  low = omega arith;
  grown = grown_none c.args.cx.now;
  inverts =
      subst (λ (s : Sentence). IsInverting c.args.cx.now c.args.setting.now.given.hypothesis
      (in_common (plain_pattern c.args.pat.now) c.args.term.now) s c.args.start)
      (sym (all_dropped c.args.subst.now c.args.variables.now)) c.requires.start;
}

pub bounds-variables-left : goal.bounds-variables-left
bounds-variables-left c = omega (arith, c.loop-left-test.true, c.loop-left.invariant.low)

pub unreachable-requires : goal.unreachable-requires
unreachable-requires c =
    let low : c.loop-left.left - 1 < length c.args.variables.now =
    omega (arith, c.loop-left-test.true, c.loop-left.invariant.low) in
    let x : ℕ = get_or c.args.variables.now (c.loop-left.left - 1) 0 in
    has_binding c.args.cx.now.program.sig.subsorts c.args.subst.now
    (plain_pattern c.args.pat.now) c.args.term.now c.args.variables.now (c.loop-left.left - 1) x
    c.requires.come low
    (sym (get_or_from_slice_get c.args.variables.now (c.loop-left.left - 1) x x
    (slice_get-get_or c.args.variables.now (c.loop-left.left - 1) 0 low)))
    (sym c.get.ensures ∙ ap option_copied c.in_default.is)

pub binding_under-requires-clause-setting : goal.binding_under-requires-clause-setting
binding_under-requires-clause-setting c =
    setting_grown c.args.cx.now c.loop-left.cx c.args.setting.now c.loop-left.invariant.grown
    c.requires.setting

pub binding_under-requires-clause-pair : goal.binding_under-requires-clause-pair
binding_under-requires-clause-pair c =
    pair_grown c.args.cx.now c.loop-left.cx (sort_numbers c.args.setting.now.sorts.now)
    c.args.setting.now.given (plain_pattern c.args.pat.now) c.args.term.now
    c.loop-left.invariant.grown c.requires.pair

pub binding_under-requires-clause-comes : goal.binding_under-requires-clause-comes
binding_under-requires-clause-comes c =
    let low : c.loop-left.left - 1 < length c.args.variables.now =
    omega (arith, c.loop-left-test.true, c.loop-left.invariant.low) in
    let x : ℕ = get_or c.args.variables.now (c.loop-left.left - 1) 0 in
    program_grown c.args.cx.now c.loop-left.cx
    (λ (program : Program). ComesTo program.sig.subsorts (variable x) c.in-Some.bound.now
    (plain_pattern c.args.pat.now) c.args.term.now) c.loop-left.invariant.grown
    (come_to c.args.cx.now.program.sig.subsorts c.args.subst.now
    (plain_pattern c.args.pat.now) c.args.term.now c.args.variables.now (c.loop-left.left - 1) x
    c.in-Some.bound.now c.requires.come low
    (sym (get_or_from_slice_get c.args.variables.now (c.loop-left.left - 1) x x
    (slice_get-get_or c.args.variables.now (c.loop-left.left - 1) 0 low)))
    (sym c.get.ensures ∙ ap option_copied c.in-Some.is))

pub one_more-requires : goal.one_more-requires
one_more-requires c =
    let there : IsInverting c.binding_under.new.cx c.args.setting.now.given.hypothesis
    (in_common (plain_pattern c.args.pat.now) c.args.term.now)
    (all_bound c.args.subst.now (drop c.loop-left.left c.args.variables.now))
    c.loop-left.present =
    inverting_grown c.loop-left.cx c.binding_under.new.cx
    c.args.setting.now.given.hypothesis (in_common (plain_pattern c.args.pat.now) c.args.term.now)
    (all_bound c.args.subst.now (drop c.loop-left.left c.args.variables.now))
    c.loop-left.present c.in_ok-equation.ensures.grown c.loop-left.invariant.inverts in
    joinable c.binding_under.new.cx c.args.setting.now.given.hypothesis
    (in_common (plain_pattern c.args.pat.now) c.args.term.now)
    (equals_bound (get_or c.args.variables.now (c.loop-left.left - 1) 0) c.in-Some.bound.now)
    (all_bound c.args.subst.now (drop c.loop-left.left c.args.variables.now))
    c.in_ok-equation.equation.conclusion c.loop-left.present.conclusion
    c.in_ok-equation.ensures.says there.says

pub loop-left-preserved : goal.loop-left-preserved
loop-left-preserved c =
    let low : c.loop-left.left - 1 < length c.args.variables.now =
    omega (arith, c.loop-left-test.true, c.loop-left.invariant.low) in
    let x : ℕ = get_or c.args.variables.now (c.loop-left.left - 1) 0 in
    record {
      low = omega (arith, c.loop-left.invariant.low);
      grown =
          grown_twice c.args.cx.now c.loop-left.cx c.binding_under.new.cx
          c.loop-left.invariant.grown c.in_ok-equation.ensures.grown;
      inverts =
          next_inverting c.binding_under.new.cx c.args.setting.now.given.hypothesis
          (in_common (plain_pattern c.args.pat.now) c.args.term.now) c.args.subst.now c.args.variables.now
          (c.loop-left.left - 1) c.loop-left.left x c.in-Some.bound.now
          c.in_ok-equation.equation c.loop-left.present c.in_ok-present.present
          (omega (arith, c.loop-left-test.true))
          (slice_get-get_or c.args.variables.now (c.loop-left.left - 1) 0 low)
          (sym c.get.ensures ∙ ap option_copied c.in-Some.is)
          c.in_ok-equation.ensures.says c.in_ok-equation.ensures.stays
          (inverting_grown c.loop-left.cx c.binding_under.new.cx
          c.args.setting.now.given.hypothesis (in_common (plain_pattern c.args.pat.now) c.args.term.now)
          (all_bound c.args.subst.now (drop c.loop-left.left c.args.variables.now))
          c.loop-left.present c.in_ok-equation.ensures.grown c.loop-left.invariant.inverts)
          c.in_ok-present.ensures.conclusion c.in_ok-present.ensures.stays;
    }

pub returns-clause-says : goal.returns-clause-says
returns-clause-says c =
    let none : c.loop-left.left ≡ 0 = omega (arith, c.loop-left-test.false) in
    subst (λ (n : ℕ). IsInverting c.loop-left.cx c.args.setting.now.given.hypothesis
    (in_common (plain_pattern c.args.pat.now) c.args.term.now)
    (all_bound c.args.subst.now (drop n c.args.variables.now)) c.loop-left.present)
    none c.loop-left.invariant.inverts

pub returns-clause-grown : goal.returns-clause-grown
returns-clause-grown c = c.loop-left.invariant.grown

pub returns-in_err-equation-clause-grown : goal.returns-in_err-equation-clause-grown
returns-in_err-equation-clause-grown c =
    grown_twice c.args.cx.now c.loop-left.cx c.binding_under.new.cx c.loop-left.invariant.grown
    c.binding_under.ensures.grown

pub returns-in_err-present-clause-grown : goal.returns-in_err-present-clause-grown
returns-in_err-present-clause-grown c =
    grown_twice c.args.cx.now c.loop-left.cx c.binding_under.new.cx c.loop-left.invariant.grown
    c.in_ok-equation.ensures.grown
