use Rattle.std.proofs.Common.{◌≡◌, ◌≤◌, Some, None, sym, ◌∙◌, ap, subst, arith}
use Rattle.std.specs.Prelude.{option_map}
use Rattle.std.proofs.lemmas.Bool.{false≢true}
use Rattle.std.proofs.lemmas.Result.{err_from_is_err_and}
use Rattle.term_core.specs.Terms.{height}
use Rattle.term_core.specs.RulePatterns.{plain_pattern}
use Rattle.rule_core.specs.Evaluation.{IsTrueValue}
use Rattle.rule_core.specs.ProgramView.{theory_of, rewrite_rule}
use Rattle.rule_core.specs.Records.{result_of}
use Rattle.rule_core.specs.RecordView.{plain_record}
use Rattle.rewriter.proofs.Trying.{condition_evaluable, no_test, triable}
use Rattle.hint_file.proofs.RuleSteps.{condition_true, condition_false, condition_ends}
use Rattle.hint_file.proofs.steps.test_condition.Goals as goal

pub returns-in_default : goal.returns-in_default
returns-in_default c =
    let none : option_map plain_pattern c.args.rule.now.cond ≡ None =
    ap (option_map plain_pattern) c.in_default.is in (
      (no_test (theory_of c.args.engine.now) c.args.calls c.args.subst.now
          (option_map plain_pattern c.args.rule.now.cond) none).0,
      none,
    )

pub eval-requires-clause-fits : goal.eval-requires-clause-fits
eval-requires-clause-fits c =
    let some : option_map plain_pattern c.args.rule.now.cond ≡ Some
    (plain_pattern c.in-Some.cond) =
    ap (option_map plain_pattern) c.in-Some.is in
    let low : height c.args.config.now ≤ 500 =
    omega (arith, c.height-high.ensures.bound, c.height-high.ensures.value) in
    condition_evaluable (theory_of c.args.engine.now) (rewrite_rule c.args.rule.now)
    c.args.config.now c.args.subst.now (plain_pattern c.in-Some.cond)
    (triable (theory_of c.args.engine.now) c.args.config.now c.args.number
    (rewrite_rule c.args.rule.now) c.requires.config c.requires.rule) c.requires.matches low some

pub returns-in_err-tested : goal.returns-in_err-tested
returns-in_err-tested c =
    let some : option_map plain_pattern c.args.rule.now.cond ≡ Some
    (plain_pattern c.in-Some.cond) =
    ap (option_map plain_pattern) c.in-Some.is in
    let p = err_from_is_err_and c.from_residual.result c.from_residual.ensures.1 in
    rw (p.1, p.2) (condition_ends (theory_of c.args.engine.now) c.args.subst.now (option_map
    plain_pattern c.args.rule.now.cond) (plain_pattern c.in-Some.cond) c.args.calls
    c.in_err-tested.field-0.0 some c.in_err-tested.ensures.blocked)

pub returns-then-is_true : goal.returns-then-is_true
returns-then-is_true c =
    let some : option_map plain_pattern c.args.rule.now.cond ≡ Some
    (plain_pattern c.in-Some.cond) =
    ap (option_map plain_pattern) c.in-Some.is in
    condition_true (theory_of c.args.engine.now) c.args.subst.now
    (option_map plain_pattern c.args.rule.now.cond) (plain_pattern c.in-Some.cond) c.args.calls
    c.eval.new.budget.calls c.in_ok-tested.tested some c.in_ok-tested.ensures.value
    c.in_ok-tested.ensures.recorded
    (subst IsTrueValue c.result.ensures (c.is_true.ensures.0 c.if-is_true.true))

pub returns-else-is_true : goal.returns-else-is_true
returns-else-is_true c =
    let some : option_map plain_pattern c.args.rule.now.cond ≡ Some
    (plain_pattern c.in-Some.cond) =
    ap (option_map plain_pattern) c.in-Some.is in
    condition_false (theory_of c.args.engine.now) c.args.subst.now
    (option_map plain_pattern c.args.rule.now.cond) (plain_pattern c.in-Some.cond) c.args.calls
    c.eval.new.budget.calls (result_of (plain_record c.in_ok-tested.tested)) some
    c.in_ok-tested.ensures.value (λ is. false≢true (sym c.if-is_true.false ∙
    c.is_true.ensures.1 (subst IsTrueValue (sym c.result.ensures) is)))
