use Rattle.std.proofs.Common.{◌≡◌, ◌<◌, ◌-◌, ℕ, length, drop, get_or}
use Rattle.std.proofs.Common.{sym, ◌∙◌, ap, subst, arith}
use Rattle.std.specs.Prelude.{option_copied}
use Rattle.std.proofs.lemmas.Option.{slice_get-get_or}
use Rattle.term_core.specs.Terms.{Tree}
use Rattle.term_core.specs.Patterns.{variable}
use Rattle.term_core.specs.RulePatterns.{plain_pattern, sort_numbers}
use Rattle.rule_core.specs.declared.rules.Program.{Program}
use Rattle.ml_image.specs.PartNames.{part_names}
use Rattle.ml_image.specs.Sentences.{Sentence}
use Rattle.ml_image.proofs.ImageLaws.{none_some, some_same}
use Rattle.prove_term.proofs.ContextLaws.{grown_twice}
use Rattle.refute.specs.Bindings.{IsInverting, equals_bound}
use Rattle.refute.specs.Choosing.{chosen}
use Rattle.refute.specs.Clashes.{ComesTo}
use Rattle.refute.specs.NamedRefutations.{named_in_common}
use Rattle.refute.specs.NamedSettings.{IsReached}
use Rattle.refute.specs.Refutations.{all_bound}
use Rattle.refute.proofs.Conversions.{image_later}
use Rattle.refute.proofs.Growing.{program_grown, setting_grown, pair_grown}
use Rattle.refute.proofs.Inverted.{all_dropped, inverting_grown, joinable, next_inverting}
use Rattle.refute.proofs.NamedBegun.{reached_at}
use Rattle.refute.proofs.named_inversions.inverted.Goals as goal

pub loop-left-init : goal.loop-left-init
loop-left-init c = record {
  low = omega arith;
  grown = c.in_ok-present.ensures.grown;
  inverts =
      subst (λ (s : Sentence). IsInverting c.at_first.new.cx c.args.setting.now.given.hypothesis
      (named_in_common (part_names c.args.side.now.names.now)
      (plain_pattern c.args.side.now.pat.now) c.args.term.now) s c.in_ok-present.present)
      (sym (all_dropped c.args.subst.now c.args.variables.now)) c.in_ok-present.ensures.says;
}

pub bounds-variables-left : goal.bounds-variables-left
bounds-variables-left c = omega (arith, c.loop-left-test.true, c.loop-left.invariant.low)

pub unreachable-requires : goal.unreachable-requires
unreachable-requires c =
    let low : c.loop-left.left - 1 < length c.args.variables.now =
    omega (arith, c.loop-left-test.true, c.loop-left.invariant.low) in
    let there : IsReached c.args.cx.now.program.sig (sort_numbers c.args.setting.now.sorts.now)
    c.args.setting.now.given c.args.subst.now (part_names c.args.side.now.names.now)
    (plain_pattern c.args.side.now.pat.now) c.args.term.now
    (get_or c.args.variables.now (c.loop-left.left - 1) 0) =
    reached_at c.args.cx.now.program.sig (sort_numbers c.args.setting.now.sorts.now)
    c.args.setting.now.given c.args.subst.now (part_names c.args.side.now.names.now)
    (plain_pattern c.args.side.now.pat.now) c.args.term.now c.args.variables.now
    (c.loop-left.left - 1) (get_or c.args.variables.now (c.loop-left.left - 1) 0)
    c.requires.reached low (slice_get-get_or c.args.variables.now (c.loop-left.left - 1) 0 low) in
    none_some there.bound (sym (sym c.get.ensures ∙ ap option_copied c.in_default.is) ∙ there.is_bound)

pub named_binding-requires-clause-setting : goal.named_binding-requires-clause-setting
named_binding-requires-clause-setting c =
    setting_grown c.args.cx.now c.loop-left.cx c.args.setting.now c.loop-left.invariant.grown
    c.requires.setting

pub named_binding-requires-clause-side : goal.named_binding-requires-clause-side
named_binding-requires-clause-side c = record {
  no_call = c.requires.side.no_call;
  image =
      image_later c.args.cx.now c.loop-left.cx (plain_pattern c.args.side.now.pat.now)
      c.args.side.now.image c.loop-left.invariant.grown c.requires.side.image;
}

pub named_binding-requires-clause-pair : goal.named_binding-requires-clause-pair
named_binding-requires-clause-pair c =
    let low : c.loop-left.left - 1 < length c.args.variables.now =
    omega (arith, c.loop-left-test.true, c.loop-left.invariant.low) in
    let there : IsReached c.args.cx.now.program.sig (sort_numbers c.args.setting.now.sorts.now)
    c.args.setting.now.given c.args.subst.now (part_names c.args.side.now.names.now)
    (plain_pattern c.args.side.now.pat.now) c.args.term.now
    (get_or c.args.variables.now (c.loop-left.left - 1) 0) =
    reached_at c.args.cx.now.program.sig (sort_numbers c.args.setting.now.sorts.now)
    c.args.setting.now.given c.args.subst.now (part_names c.args.side.now.names.now)
    (plain_pattern c.args.side.now.pat.now) c.args.term.now c.args.variables.now
    (c.loop-left.left - 1) (get_or c.args.variables.now (c.loop-left.left - 1) 0)
    c.requires.reached low (slice_get-get_or c.args.variables.now (c.loop-left.left - 1) 0 low) in
    pair_grown c.args.cx.now c.loop-left.cx (sort_numbers c.args.setting.now.sorts.now)
    c.args.setting.now.given
    (chosen (get_or c.args.variables.now (c.loop-left.left - 1) 0)
    (part_names c.args.side.now.names.now) (plain_pattern c.args.side.now.pat.now))
    c.args.term.now c.loop-left.invariant.grown there.pair

pub named_binding-requires-clause-comes : goal.named_binding-requires-clause-comes
named_binding-requires-clause-comes c =
    let low : c.loop-left.left - 1 < length c.args.variables.now =
    omega (arith, c.loop-left-test.true, c.loop-left.invariant.low) in
    let there : IsReached c.args.cx.now.program.sig (sort_numbers c.args.setting.now.sorts.now)
    c.args.setting.now.given c.args.subst.now (part_names c.args.side.now.names.now)
    (plain_pattern c.args.side.now.pat.now) c.args.term.now
    (get_or c.args.variables.now (c.loop-left.left - 1) 0) =
    reached_at c.args.cx.now.program.sig (sort_numbers c.args.setting.now.sorts.now)
    c.args.setting.now.given c.args.subst.now (part_names c.args.side.now.names.now)
    (plain_pattern c.args.side.now.pat.now) c.args.term.now c.args.variables.now
    (c.loop-left.left - 1) (get_or c.args.variables.now (c.loop-left.left - 1) 0)
    c.requires.reached low (slice_get-get_or c.args.variables.now (c.loop-left.left - 1) 0 low) in
    let same : there.bound ≡ c.in-Some.bound.now =
    some_same there.bound c.in-Some.bound.now
    (sym there.is_bound ∙ sym c.get.ensures ∙ ap option_copied c.in-Some.is) in
    program_grown c.args.cx.now c.loop-left.cx
    (λ (program : Program). ComesTo program.sig.subsorts
    (variable (get_or c.args.variables.now (c.loop-left.left - 1) 0)) c.in-Some.bound.now
    (chosen (get_or c.args.variables.now (c.loop-left.left - 1) 0)
    (part_names c.args.side.now.names.now) (plain_pattern c.args.side.now.pat.now))
    c.args.term.now) c.loop-left.invariant.grown
    (subst (λ (u : Tree). ComesTo c.args.cx.now.program.sig.subsorts
    (variable (get_or c.args.variables.now (c.loop-left.left - 1) 0)) u
    (chosen (get_or c.args.variables.now (c.loop-left.left - 1) 0)
    (part_names c.args.side.now.names.now) (plain_pattern c.args.side.now.pat.now))
    c.args.term.now) same there.comes)

pub one_more-requires : goal.one_more-requires
one_more-requires c =
    let there : IsInverting c.named_binding.new.cx c.args.setting.now.given.hypothesis
    (named_in_common (part_names c.args.side.now.names.now)
    (plain_pattern c.args.side.now.pat.now) c.args.term.now)
    (all_bound c.args.subst.now (drop c.loop-left.left c.args.variables.now))
    c.loop-left.present =
    inverting_grown c.loop-left.cx c.named_binding.new.cx c.args.setting.now.given.hypothesis
    (named_in_common (part_names c.args.side.now.names.now)
    (plain_pattern c.args.side.now.pat.now) c.args.term.now)
    (all_bound c.args.subst.now (drop c.loop-left.left c.args.variables.now))
    c.loop-left.present c.in_ok-equation.ensures.grown c.loop-left.invariant.inverts in
    joinable c.named_binding.new.cx c.args.setting.now.given.hypothesis
    (named_in_common (part_names c.args.side.now.names.now)
    (plain_pattern c.args.side.now.pat.now) c.args.term.now)
    (equals_bound (get_or c.args.variables.now (c.loop-left.left - 1) 0) c.in-Some.bound.now)
    (all_bound c.args.subst.now (drop c.loop-left.left c.args.variables.now))
    c.in_ok-equation.equation.conclusion c.loop-left.present.conclusion
    c.in_ok-equation.ensures.says there.says

pub loop-left-preserved : goal.loop-left-preserved
loop-left-preserved c =
    let low : c.loop-left.left - 1 < length c.args.variables.now =
    omega (arith, c.loop-left-test.true, c.loop-left.invariant.low) in
    let x : ℕ = get_or c.args.variables.now (c.loop-left.left - 1) 0 in
    record {
      low = omega (arith, c.loop-left.invariant.low);
      grown =
          grown_twice c.args.cx.now c.loop-left.cx c.named_binding.new.cx
          c.loop-left.invariant.grown c.in_ok-equation.ensures.grown;
      inverts =
          next_inverting c.named_binding.new.cx c.args.setting.now.given.hypothesis
          (named_in_common (part_names c.args.side.now.names.now)
          (plain_pattern c.args.side.now.pat.now) c.args.term.now)
          c.args.subst.now c.args.variables.now (c.loop-left.left - 1) c.loop-left.left x
          c.in-Some.bound.now c.in_ok-equation.equation c.loop-left.present
          c.in_ok-present-2.present (omega (arith, c.loop-left-test.true))
          (slice_get-get_or c.args.variables.now (c.loop-left.left - 1) 0 low)
          (sym c.get.ensures ∙ ap option_copied c.in-Some.is)
          c.in_ok-equation.ensures.says c.in_ok-equation.ensures.stays
          (inverting_grown c.loop-left.cx c.named_binding.new.cx
          c.args.setting.now.given.hypothesis
          (named_in_common (part_names c.args.side.now.names.now)
          (plain_pattern c.args.side.now.pat.now) c.args.term.now)
          (all_bound c.args.subst.now (drop c.loop-left.left c.args.variables.now))
          c.loop-left.present c.in_ok-equation.ensures.grown c.loop-left.invariant.inverts)
          c.in_ok-present-2.ensures.conclusion c.in_ok-present-2.ensures.stays;
    }

pub returns-clause-says : goal.returns-clause-says
returns-clause-says c =
    let none : c.loop-left.left ≡ 0 = omega (arith, c.loop-left-test.false) in
    subst (λ (n : ℕ). IsInverting c.loop-left.cx c.args.setting.now.given.hypothesis
    (named_in_common (part_names c.args.side.now.names.now)
    (plain_pattern c.args.side.now.pat.now) c.args.term.now)
    (all_bound c.args.subst.now (drop n c.args.variables.now)) c.loop-left.present)
    none c.loop-left.invariant.inverts

pub returns-clause-grown : goal.returns-clause-grown
returns-clause-grown c = c.loop-left.invariant.grown

pub returns-in_err-equation-clause-grown : goal.returns-in_err-equation-clause-grown
returns-in_err-equation-clause-grown c =
    grown_twice c.args.cx.now c.loop-left.cx c.named_binding.new.cx c.loop-left.invariant.grown
    c.named_binding.ensures.grown

pub returns-in_err-present-2-clause-grown : goal.returns-in_err-present-2-clause-grown
returns-in_err-present-2-clause-grown c =
    grown_twice c.args.cx.now c.loop-left.cx c.named_binding.new.cx c.loop-left.invariant.grown
    c.in_ok-equation.ensures.grown
