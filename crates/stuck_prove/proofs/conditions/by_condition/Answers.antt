use Rattle.std.proofs.Common.{◌≡◌, ℕ, List, Some, sym, ◌∙◌, ap, subst}
use Rattle.ml_pat.specs.Patterns.{Pattern as LogicPattern, and, imp}
use Rattle.ml_pat.specs.Patterns as logic
use Rattle.term_core.specs.RulePatterns.{sort_numbers}
use Rattle.rule_core.specs.ProgramView.{rewrite_rule, theory_of}
use Rattle.rule_core.specs.declared.rules.Program.{Program}
use Rattle.ml_image.specs.Premises.{sort_of}
use Rattle.ml_image.specs.Sentences.{sentence_image}
use Rattle.prove_term.proofs.ContextLaws.{grown_twice}
use Rattle.prove_term.proofs.ResultLaws.{if_ok_two}
use Rattle.prove_open.specs.Givens.{IsGiven, all_sorted}
use Rattle.refute.proofs.Growing.{program_grown}
use Rattle.refute_body.specs.Conditions.{IsFilled}
use Rattle.stuck_prove.specs.Settings.{IsSettingOf}
use Rattle.stuck_prove.proofs.ConditionLaws.{IsInversion, IsReady, are_inverted, body_denied}
use Rattle.stuck_prove.proofs.ConditionLaws.{body_of, common_read, condition_written, denial_is}
use Rattle.stuck_prove.proofs.ConditionLaws.{hypothesis_read, inversion_read, premise_read, ready}
use Rattle.stuck_prove.proofs.ConditionLaws.{variables_of, written_given}
use Rattle.stuck_prove.proofs.RuleLaws.{setting_grown}
use Rattle.stuck_prove.proofs.conditions.by_condition.Goals.{In_ok-rule_at, In_ok-start, In_ok-denial}
use Rattle.stuck_prove.proofs.conditions.by_condition.Goals as goal

inversion : (c : In_ok-rule_at) → IsInversion c.inversion_named.new.cx (rewrite_rule c.args.rule.now)
    c.args.subst.now c.args.config.now c.in_ok-rule_at.rule_at.conclusion
inversion c =
    inversion_read c.inversion_named.new.cx c.args.rule.now c.args.subst.now c.args.config.now
    c.in_ok-rule_at.rule_at.conclusion c.args.setting.now c.deref.result.now c.deref-2.result.now
    c.deref.ensures.value c.requires.setting.sorts c.deref-2.ensures.value
    c.in_ok-rule_at.ensures.says

setting : (c : In_ok-rule_at) → IsSettingOf c.inversion_named.new.cx (rewrite_rule c.args.rule.now)
    c.args.setting.now
setting c =
    setting_grown c.args.cx.now c.inversion_named.new.cx (rewrite_rule c.args.rule.now)
    c.args.setting.now c.inversion_named.ensures.grown c.requires.setting

pub conjuncts-requires : goal.conjuncts-requires
conjuncts-requires c =
    let m : IsInversion c.inversion_named.new.cx (rewrite_rule c.args.rule.now) c.args.subst.now
    c.args.config.now c.in_ok-rule_at.rule_at.conclusion =
    inversion (goal.at.conjuncts-requires c).In_ok-rule_at in (
      m.h,
      and m.right m.left,
      premise_read c.inversion_named.new.cx (rewrite_rule c.args.rule.now) c.args.subst.now
          c.args.config.now c.in_ok-rule_at.rule_at.conclusion c.conclusion.result.now
          c.sides.result.0.now c.sides.result.1.now m c.conclusion.ensures c.sides.ensures,
    )

pub weaker-requires-clause-given : goal.weaker-requires-clause-given
weaker-requires-clause-given c =
    subst (λ (vs : List ℕ). IsGiven c.inversion_named.new.cx vs c.args.setting.now.given)
    (sym (ap sort_numbers c.deref-3.ensures.value ∙ c.requires.setting.sorts))
    (setting (goal.at.weaker-requires-clause-given c).In_ok-rule_at).given

pub weaker-requires-clause-hypothesis : goal.weaker-requires-clause-hypothesis
weaker-requires-clause-hypothesis c =
    let at : In_ok-rule_at = (goal.at.weaker-requires-clause-hypothesis c).In_ok-rule_at in
    let m : IsInversion c.inversion_named.new.cx (rewrite_rule c.args.rule.now) c.args.subst.now
    c.args.config.now c.in_ok-rule_at.rule_at.conclusion = inversion at in
    let read : m.h ≡ c.conjuncts.result.0.now =
    hypothesis_read m.h c.sides.result.0.now (and m.right m.left) c.conjuncts.result.0.now
    c.conjuncts.result.1.now
    (premise_read c.inversion_named.new.cx (rewrite_rule c.args.rule.now) c.args.subst.now
    c.args.config.now c.in_ok-rule_at.rule_at.conclusion c.conclusion.result.now
    c.sides.result.0.now c.sides.result.1.now m c.conclusion.ensures c.sides.ensures)
    c.conjuncts.ensures in (
      variables_of (rewrite_rule c.args.rule.now),
      ap (λ (vs : List ℕ). sentence_image c.inversion_named.new.cx.program.sig
          c.inversion_named.new.cx.names
          (all_sorted vs (variables_of (rewrite_rule c.args.rule.now))))
          (ap sort_numbers c.deref-3.ensures.value ∙ c.requires.setting.sorts) ∙ m.is_h
          ∙ ap (λ (p : LogicPattern). Some p) read,
      written_given c.inversion_named.new.cx (rewrite_rule c.args.rule.now) c.args.setting.now
          (theory_of c.args.cx.now.program) c.args.config.now c.args.subst.now (setting at)
          c.requires.matches,
    )

pub equations_in-requires : goal.equations_in-requires
equations_in-requires c =
    let m : IsInversion c.inversion_named.new.cx (rewrite_rule c.args.rule.now) c.args.subst.now
    c.args.config.now c.in_ok-rule_at.rule_at.conclusion =
    inversion (goal.at.equations_in-requires c).In_ok-rule_at in
    let read : m.h ≡ c.conjuncts.result.0.now =
    hypothesis_read m.h c.sides.result.0.now (and m.right m.left) c.conjuncts.result.0.now
    c.conjuncts.result.1.now
    (premise_read c.inversion_named.new.cx (rewrite_rule c.args.rule.now) c.args.subst.now
    c.args.config.now c.in_ok-rule_at.rule_at.conclusion c.conclusion.result.now
    c.sides.result.0.now c.sides.result.1.now m c.conclusion.ensures c.sides.ensures)
    c.conjuncts.ensures in
    are_inverted c.inversion_named.new.cx (rewrite_rule c.args.rule.now) c.args.subst.now
    c.args.config.now c.args.setting.now.given.hypothesis c.in_ok-rule_at.rule_at.conclusion
    c.in_ok-weaker.weaker.conclusion m
    (c.in_ok-weaker.ensures.says ∙ ap (imp c.args.setting.now.given.hypothesis) (sym read))

pub condition_in-requires : goal.condition_in-requires
condition_in-requires c =
    let m : IsInversion c.inversion_named.new.cx (rewrite_rule c.args.rule.now) c.args.subst.now
    c.args.config.now c.in_ok-rule_at.rule_at.conclusion =
    inversion (goal.at.condition_in-requires c).In_ok-rule_at in (
      m.right,
      m.left,
      common_read m.h c.sides.result.0.now (and m.right m.left) c.conjuncts.result.0.now
          c.conjuncts.result.1.now
          (premise_read c.inversion_named.new.cx (rewrite_rule c.args.rule.now) c.args.subst.now
          c.args.config.now c.in_ok-rule_at.rule_at.conclusion c.conclusion.result.now
          c.sides.result.0.now c.sides.result.1.now m c.conclusion.ensures c.sides.ensures)
          c.conjuncts.ensures,
    )

-- the equations and the condition are ready for `filled`
can_fill : (c : In_ok-start) → IsReady c.inversion_named.new.cx
    (rewrite_rule c.args.rule.now) c.args.subst.now c.args.config.now c.args.setting.now c.requires.untrue.condition
    c.in_ok-rule_at.rule_at.conclusion c.in_ok-equations.equations c.in_ok-start.start
can_fill c =
    let m : IsInversion c.inversion_named.new.cx (rewrite_rule c.args.rule.now) c.args.subst.now
    c.args.config.now c.in_ok-rule_at.rule_at.conclusion =
    inversion_read c.inversion_named.new.cx c.args.rule.now c.args.subst.now c.args.config.now
    c.in_ok-rule_at.rule_at.conclusion c.args.setting.now c.deref.result.now c.deref-2.result.now
    c.deref.ensures.value c.requires.setting.sorts c.deref-2.ensures.value
    c.in_ok-rule_at.ensures.says in
    ready c.inversion_named.new.cx (rewrite_rule c.args.rule.now) c.args.subst.now
    c.args.config.now c.args.setting.now c.requires.untrue.condition
    (theory_of c.args.cx.now.program) c.in_ok-rule_at.rule_at c.in_ok-weaker.weaker
    c.in_ok-equations.equations c.in_ok-start.start c.conjuncts.result.1.now m
    (setting_grown c.args.cx.now c.inversion_named.new.cx (rewrite_rule c.args.rule.now)
    c.args.setting.now c.inversion_named.ensures.grown c.requires.setting)
    c.requires.untrue.is_condition c.requires.matches
    (common_read m.h c.sides.result.0.now (and m.right m.left) c.conjuncts.result.0.now
    c.conjuncts.result.1.now
    (premise_read c.inversion_named.new.cx (rewrite_rule c.args.rule.now) c.args.subst.now
    c.args.config.now c.in_ok-rule_at.rule_at.conclusion c.conclusion.result.now
    c.sides.result.0.now c.sides.result.1.now m c.conclusion.ensures c.sides.ensures)
    c.conjuncts.ensures)
    c.in_ok-equations.ensures.conclusion c.in_ok-start.ensures.conclusion
    c.in_ok-rule_at.ensures.stays c.in_ok-weaker.ensures.stays c.in_ok-equations.ensures.stays
    c.in_ok-start.ensures.stays

pub filled-requires : goal.filled-requires
filled-requires c =
    let w : IsReady c.inversion_named.new.cx (rewrite_rule c.args.rule.now) c.args.subst.now
    c.args.config.now c.args.setting.now c.requires.untrue.condition
    c.in_ok-rule_at.rule_at.conclusion c.in_ok-equations.equations c.in_ok-start.start =
    can_fill (goal.at.filled-requires c).In_ok-start in (
      c.inversion_named.new.cx,
      c.args.setting.now.given.hypothesis,
      body_of c.inversion_named.new.cx (rewrite_rule c.args.rule.now) c.args.subst.now
          c.args.config.now c.in_ok-rule_at.rule_at.conclusion w.inversion
          c.args.setting.now.condition,
      variables_of (rewrite_rule c.args.rule.now),
      c.args.subst.now,
      c.requires.untrue.condition,
      w.truth.sort,
      w.can,
    )

-- the condition with the terms of the substitution is denied
record IsDenied (c : In_ok-denial) : Type 0 where
  ready : IsReady c.inversion_named.new.cx (rewrite_rule c.args.rule.now) c.args.subst.now
      c.args.config.now c.args.setting.now c.requires.untrue.condition
      c.in_ok-rule_at.rule_at.conclusion c.in_ok-equations.equations c.in_ok-start.start
  full : IsFilled c.inversion_named.new.cx c.args.setting.now.given.hypothesis
      (body_of c.inversion_named.new.cx (rewrite_rule c.args.rule.now) c.args.subst.now
      c.args.config.now c.in_ok-rule_at.rule_at.conclusion ready.inversion
      c.args.setting.now.condition) (variables_of (rewrite_rule c.args.rule.now)) c.args.subst.now
      c.requires.untrue.condition ready.truth.sort c.in_ok-present.present
  denies : c.in_ok-denial.denial.conclusion ≡ logic.not full.holds.image

is_denied : (c : In_ok-denial) → IsReady c.inversion_named.new.cx (rewrite_rule c.args.rule.now)
    c.args.subst.now c.args.config.now c.args.setting.now c.requires.untrue.condition
    c.in_ok-rule_at.rule_at.conclusion c.in_ok-equations.equations c.in_ok-start.start
    → IsDenied c
is_denied c w =
    let full : IsFilled c.inversion_named.new.cx c.args.setting.now.given.hypothesis
    (body_of c.inversion_named.new.cx (rewrite_rule c.args.rule.now) c.args.subst.now
    c.args.config.now c.in_ok-rule_at.rule_at.conclusion w.inversion c.args.setting.now.condition)
    (variables_of (rewrite_rule c.args.rule.now)) c.args.subst.now c.requires.untrue.condition
    w.truth.sort c.in_ok-present.present =
    c.in_ok-present.ensures c.inversion_named.new.cx c.args.setting.now.given.hypothesis
    (body_of c.inversion_named.new.cx (rewrite_rule c.args.rule.now) c.args.subst.now
    c.args.config.now c.in_ok-rule_at.rule_at.conclusion w.inversion c.args.setting.now.condition)
    (variables_of (rewrite_rule c.args.rule.now)) c.args.subst.now c.requires.untrue.condition
    w.truth.sort w.can in
    record {
      ready = w;
      full = full;
      denies =
          denial_is c.inversion_named.new.cx c.untrue.new.cx (rewrite_rule c.args.rule.now)
          c.args.subst.now c.requires.untrue.condition w.truth.sort
          c.args.setting.now.given.hypothesis
          (body_of c.inversion_named.new.cx (rewrite_rule c.args.rule.now) c.args.subst.now
          c.args.config.now c.in_ok-rule_at.rule_at.conclusion w.inversion
          c.args.setting.now.condition) c.in_ok-present.present c.in_ok-denial.denial.conclusion
          c.untrue.ensures.grown full
          (condition_written c.args.cx.now.program.sig c.requires.sorted.0
          (rewrite_rule c.args.rule.now) c.requires.untrue.condition c.requires.sorted.1
          c.requires.untrue.is_condition)
          (c.in_ok-denial.ensures.says c.requires.untrue.condition w.truth.sort
          c.requires.untrue.is_condition
          (program_grown c.inversion_named.new.cx c.untrue.new.cx
          (λ (program : Program). sort_of program.sig (rewrite_rule c.args.rule.now).variables
          c.requires.untrue.condition ≡ Some w.truth.sort) c.untrue.ensures.grown
          w.truth.is_sort));
    }

pub denied_by-requires : goal.denied_by-requires
denied_by-requires c =
    let at : In_ok-denial = (goal.at.denied_by-requires c).In_ok-denial in
    let d : IsDenied at = is_denied at (can_fill (goal.at.denied_by-requires c).In_ok-start) in (
      c.args.setting.now.given.hypothesis,
      body_of c.inversion_named.new.cx (rewrite_rule c.args.rule.now) c.args.subst.now
          c.args.config.now c.in_ok-rule_at.rule_at.conclusion d.ready.inversion
          c.args.setting.now.condition,
      d.full.holds.image,
      d.full.holds.says,
      d.denies,
    )

pub returns-clause-denied : goal.returns-clause-denied
returns-clause-denied c =
    let at : In_ok-denial = (goal.at.returns-clause-denied c).In_ok-denial in
    let d : IsDenied at = is_denied at (can_fill (goal.at.returns-clause-denied c).In_ok-start) in
    if_ok_two c.denied_by.result
    (λ made says stays. body_denied c.inversion_named.new.cx c.untrue.new.cx
    (rewrite_rule c.args.rule.now) c.args.subst.now c.args.config.now c.args.setting.now
    c.requires.untrue.condition d.ready.truth.sort c.in_ok-rule_at.rule_at.conclusion
    c.in_ok-present.present c.in_ok-denial.denial made d.ready.inversion c.untrue.ensures.grown
    (setting (goal.at.returns-clause-denied c).In_ok-rule_at) d.full d.denies
    c.in_ok-denial.ensures.stays says stays)
    c.denied_by.ensures.conclusion c.denied_by.ensures.stays

pub returns-in_err-denial-clause-grown : goal.returns-in_err-denial-clause-grown
returns-in_err-denial-clause-grown c =
    grown_twice c.args.cx.now c.inversion_named.new.cx c.untrue.new.cx
    c.inversion_named.ensures.grown c.untrue.ensures.grown

pub returns-clause-grown : goal.returns-clause-grown
returns-clause-grown c =
    grown_twice c.args.cx.now c.inversion_named.new.cx c.untrue.new.cx
    c.inversion_named.ensures.grown c.untrue.ensures.grown
