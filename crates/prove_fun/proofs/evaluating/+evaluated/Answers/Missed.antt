-- The answers of `used_equation`, `missed_values` and `missed_value`: the condition of the used
-- equation, and those of the equations that were missed.
use Rattle.std.proofs.Common.{◌≡◌, ◌+◌, ◌<◌, List, Option, Some, length, map, option_map, slice_get}
use Rattle.std.proofs.Common.{take, sym, ◌∙◌, ap, subst, arith}
use Rattle.std.proofs.lemmas.List.{length-map}
use Rattle.ml_kernel.specs.Theorems.{Theorem}
use Rattle.term_core.specs.Patterns.{Pattern as RulePattern}
use Rattle.term_core.specs.RulePatterns.{plain_pattern}
use Rattle.rule_core.specs.BoundVariables.{IsEquationAt}
use Rattle.rule_core.specs.ProgramView.{function_equation, theory_of}
use Rattle.rule_core.specs.Records.{Miss, results_of}
use Rattle.rule_core.specs.RecordView.{misses, plain_record}
use Rattle.rule_core.specs.Rules.{Equation as PlainEquation}
use Rattle.rule_core.specs.Theories.{equations_of}
use Rattle.rule_core.specs.declared.records.Miss.{Miss as CodeMiss}
use Rattle.rule_core.specs.declared.rules.Program.{Program}
use Rattle.prove_term.specs.Contexts.{HasGrown}
use Rattle.prove_term.proofs.ContextLaws.{grown_twice}
use Rattle.prove_equation.proofs.FillingLaws.{condition_grown}
use Rattle.prove_fun.specs.Evaluating.{IsRecorded}
use Rattle.prove_fun.specs.Missing.{AreMissedAt, AreValued, IsFalseAt, IsMissedAt, IsValued}
use Rattle.prove_fun.specs.RecordParts.{children_of}
use Rattle.prove_fun.specs.Using.{condition_record, missed_record, missed_records}
use Rattle.prove_fun.proofs.Items.{item_mapped, item_there}
use Rattle.prove_fun.proofs.Missing.{missed_condition, no_condition, same_pattern, value_added}
use Rattle.prove_fun.proofs.Missing.{values_grown}
use Rattle.prove_fun.proofs.PlainRecords.{plain-CondFalse}
use Rattle.prove_fun.proofs.Sizes.{equation_size, item_missed, miss_size, miss_sizes, some_size}
use Rattle.prove_fun.proofs.Uses.{same_equation}
use Rattle.prove_fun.proofs.evaluating.+evaluated.Goals as goal

pub missed_value-unreachable-requires : goal.missed_value-unreachable-requires
missed_value-unreachable-requires t c =
    let at : IsEquationAt c.args.cx.now.program c.args.symbol.0 c.args.number
    c.equation_of-equation.result.now =
    subst (λ (p : Program). IsEquationAt p c.args.symbol.0 c.args.number
    c.equation_of-equation.result.now) c.program.ensures c.equation_of-equation.ensures in
    let w : IsFalseAt c.args.cx.now.program (function_equation c.equation_of-equation.result.now)
    c.requires.missed.0 c.in-CondFalse.subst (plain_record c.in-CondFalse.evaluation) =
    missed_condition c.args.cx.now.program c.args.symbol.0 c.args.number
    c.equation_of-equation.result.now c.requires.missed.1 c.requires.missed.0 c.in-CondFalse.subst
    c.in-CondFalse.evaluation c.args.miss.now at c.requires.missed.2 c.in-CondFalse.is
    c.requires.missed.3 in
    no_condition c.equation_of-equation.result.now.cond w.condition c.in_default.is w.conditional

pub missed_value-value_held-requires : goal.missed_value-value_held-requires
missed_value-value_held-requires t c =
    let at : IsEquationAt c.args.cx.now.program c.args.symbol.0 c.args.number
    c.equation_of-equation.result.now =
    subst (λ (p : Program). IsEquationAt p c.args.symbol.0 c.args.number
    c.equation_of-equation.result.now) c.program.ensures c.equation_of-equation.ensures in
    let w : IsFalseAt c.args.cx.now.program (function_equation c.equation_of-equation.result.now)
    c.requires.missed.0 c.in-CondFalse.subst (plain_record c.in-CondFalse.evaluation) =
    missed_condition c.args.cx.now.program c.args.symbol.0 c.args.number
    c.equation_of-equation.result.now c.requires.missed.1 c.requires.missed.0 c.in-CondFalse.subst
    c.in-CondFalse.evaluation c.args.miss.now at c.requires.missed.2 c.in-CondFalse.is
    c.requires.missed.3 in (
      omega (
        arith,
        ap miss_size (ap missed_record c.in-CondFalse.is
            ∙ plain-CondFalse c.in-CondFalse.subst c.in-CondFalse.evaluation),
        c.decreases,
      ),
      (
        subst (λ (p : RulePattern). IsRecorded c.args.cx.now.program c.in-CondFalse.subst p
            (plain_record c.in-CondFalse.evaluation))
            (same_pattern c.equation_of-equation.result.now.cond c.in-Some.pat w.condition
            c.in-Some.is w.conditional) w.recorded,
        c.requires.kept,
      ),
    )

pub missed_value-returns-in_ok-value_held-in-CondFalse-clause-value :
    goal.missed_value-returns-in_ok-value_held-in-CondFalse-clause-value
missed_value-returns-in_ok-value_held-in-CondFalse-clause-value t c =
    let at : IsEquationAt c.args.cx.now.program c.args.symbol.0 c.args.number
    c.equation_of-equation.result.now =
    subst (λ (p : Program). IsEquationAt p c.args.symbol.0 c.args.number
    c.equation_of-equation.result.now) c.program.ensures c.equation_of-equation.ensures in
    λ e there.
    let own : function_equation c.equation_of-equation.result.now ≡ e =
    same_equation c.args.cx.now.program c.args.symbol.0 c.args.number
    c.equation_of-equation.result.now e at there in
    subst (λ (m : Miss). IsValued c.value_held.new.cx e m
    (Some c.in_ok-value_held-in-CondFalse.field-0))
    (sym (ap missed_record c.in-CondFalse.is
    ∙ plain-CondFalse c.in-CondFalse.subst c.in-CondFalse.evaluation)) (
      plain_pattern c.in-Some.pat,
      ap (λ (x : PlainEquation). x.condition) (sym own)
          ∙ ap (option_map plain_pattern) c.in-Some.is,
      c.in_ok-value_held-in-CondFalse.ensures.says,
      c.in_ok-value_held-in-CondFalse.ensures.stays,
    )

pub missed_values-missed_value-requires : goal.missed_values-missed_value-requires
missed_values-missed_value-requires t c =
    let there : slice_get (map missed_record c.args.missed.now) c.loop-i.i ≡ Some
    (missed_record c.index-missed-i.result) =
    item_mapped missed_record c.args.missed.now c.loop-i.i c.index-missed-i.result
    (item_there c.args.missed.now c.loop-i.i c.index-missed-i.result c.loop-i-test.true
    c.index-missed-i.is) in
    let w = c.requires.missed.1 c.loop-i.i (missed_record c.index-missed-i.result) there in (
      omega (
        arith,
        item_missed (map missed_record c.args.missed.now) c.loop-i.i
            (missed_record c.index-missed-i.result) there,
        c.decreases,
      ),
      (
        (
          c.requires.missed.0,
          w.0,
          subst (λ (p : Program). slice_get (equations_of (theory_of p) c.args.symbol.0) c.loop-i.i ≡
              Some w.0) (sym c.loop-i.invariant.grown.program) w.1,
          subst (λ (p : Program). IsMissedAt p w.0 c.requires.missed.0
              (missed_record c.index-missed-i.result)) (sym c.loop-i.invariant.grown.program) w.2,
        ),
        c.loop-i.invariant.kept,
      ),
    )

same_miss : (m n : Miss) → Some m ≡ Some n → n ≡ m
same_miss m n e = cc

pub missed_values-loop-i-preserved : goal.missed_values-loop-i-preserved
missed_values-loop-i-preserved t c =
    let there : slice_get (map missed_record c.args.missed.now) c.loop-i.i ≡ Some
    (missed_record c.index-missed-i.result) =
    item_mapped missed_record c.args.missed.now c.loop-i.i c.index-missed-i.result
    (item_there c.args.missed.now c.loop-i.i c.index-missed-i.result c.loop-i-test.true
    c.index-missed-i.is) in
    let low : c.loop-i.i < length (map missed_record c.args.missed.now) =
    omega (arith, c.loop-i-test.true, length-map c.args.missed.now missed_record) in
    let further : HasGrown c.loop-i.cx c.missed_value.new.cx = c.in_ok-missed_value.ensures.grown in
    record {
      values =
          subst (λ (os : List (Option Theorem)). AreValued c.missed_value.new.cx c.args.symbol.0
          (take (c.loop-i.i + 1) (map missed_record c.args.missed.now)) os)
          (sym c.in_ok-push.ensures.items)
          (value_added c.missed_value.new.cx c.args.symbol.0 c.loop-i.i
          (map missed_record c.args.missed.now) c.loop-i.values.items
          c.in_ok-missed_value.field-0 low
          (values_grown c.loop-i.cx c.missed_value.new.cx c.args.symbol.0
          (take c.loop-i.i (map missed_record c.args.missed.now)) c.loop-i.values.items further
          c.loop-i.invariant.values)
          (λ e m at of.
          subst (λ (x : Miss). IsValued c.missed_value.new.cx e x c.in_ok-missed_value.field-0)
          (same_miss m (missed_record c.index-missed-i.result) (sym of ∙ there))
          (c.in_ok-missed_value.ensures.value e
          (subst (λ (p : Program).
          slice_get (equations_of (theory_of p) c.args.symbol.0) c.loop-i.i ≡ Some e)
          further.program at))));
      grown =
          grown_twice c.args.cx.now c.loop-i.cx c.missed_value.new.cx c.loop-i.invariant.grown
          further;
      kept = c.in_ok-missed_value.ensures.kept;
    }

pub used_equation-missed_values-requires : goal.used_equation-missed_values-requires
used_equation-missed_values-requires t c =
    let low =
    equation_size (plain_record c.args.evaluation.now) _ _ _ _ (condition_record c.args.used.now)
    (plain_record c.args.used.now.body.value) _ c.requires.record in (
      omega (
        arith,
        low,
        some_size (plain_record c.args.used.now.body.value),
        ap (λ (ms : List CodeMiss). miss_sizes (misses (map missed_record ms)))
            c.deref.ensures.value,
        c.decreases,
      ),
      (
        (
          results_of (children_of (plain_record c.args.evaluation.now)),
          subst (λ (ms : List CodeMiss). AreMissedAt c.condition_held.new.cx.program
              c.args.symbol.0 (results_of (children_of (plain_record c.args.evaluation.now)))
              (map missed_record ms)) (sym c.deref.ensures.value)
              (subst (λ (p : Program). AreMissedAt p c.args.symbol.0
              (results_of (children_of (plain_record c.args.evaluation.now)))
              (missed_records c.args.used.now)) (sym c.in_ok-held.ensures.grown.program)
              c.requires.used.are_missed),
        ),
        c.in_ok-held.ensures.kept,
      ),
    )

pub used_equation-equation_fact-requires-clause-condition :
    goal.used_equation-equation_fact-requires-clause-condition
used_equation-equation_fact-requires-clause-condition t c =
    let further : HasGrown c.condition_held.new.cx c.missed_values.new.cx =
    c.in_ok-values.ensures.grown in
    λ e there.
    condition_grown c.condition_held.new.cx c.missed_values.new.cx e.variables
    c.args.used.now.subst e.condition c.in_ok-held.held further
    (c.in_ok-held.ensures.says e
    (subst (λ (p : Program). slice_get (equations_of (theory_of p) c.args.symbol.0)
    c.args.used.now.equation ≡ Some e) further.program there))
