use Rattle.std.proofs.Common.{◌≤◌, ℕ, ap, subst, arith}
use Rattle.std.specs.Prelude.{option_map}
use Rattle.term_core.specs.RulePatterns.{plain_pattern}
use Rattle.term_core.specs.Terms.{height}
use Rattle.rule_core.specs.Evaluation.{Evaluates}
use Rattle.rule_core.specs.FirstRule.{most_nesting}
use Rattle.rule_core.specs.ProgramView.{rewrite_rule, theory_of}
use Rattle.rule_core.specs.RecordView.{plain_record}
use Rattle.rule_core.specs.RunView.{cause_of}
use Rattle.fun_eval.specs.EvalEnds.{EndsBy}
use Rattle.fun_eval.specs.declared.answer.EvalEnd.{EvalEnd}
use Rattle.stuck_prove.proofs.EvaluatedLaws.{conditional, not_blocked, passed_by, record_other}
use Rattle.stuck_prove.proofs.UntrueLaws.{IsTruth, condition_served, truth_sort}
use Rattle.stuck_prove.proofs.conditions.evaluated.Goals as goal

pub unreachable-requires : goal.unreachable-requires
unreachable-requires c =
    conditional (theory_of c.args.engine.now) (rewrite_rule c.args.rule.now) c.args.config.now
    c.args.subst.now c.args.budget.now.calls c.requires.passed.0 c.requires.matches
    c.requires.passed.1 (ap (option_map plain_pattern) c.in_default.is)

pub eval-requires-clause-fits : goal.eval-requires-clause-fits
eval-requires-clause-fits c =
    let low : height c.args.config.now ≤ 500 =
    omega (arith, c.height-high.ensures.bound, c.height-high.ensures.value) in
    let sorted : (s : ℕ) × IsTruth c.args.engine.now.sig (rewrite_rule c.args.rule.now)
    (plain_pattern c.in-Some.condition) s =
    truth_sort c.args.engine.now.sig c.requires.sorted.0 (rewrite_rule c.args.rule.now)
    (plain_pattern c.in-Some.condition) c.requires.sorted.1
    (ap (option_map plain_pattern) c.in-Some.is) in (
      (rewrite_rule c.args.rule.now).variables,
      sorted.0,
      sorted.1.sorted,
      condition_served (theory_of c.args.engine.now) c.requires.sorted.0
          (rewrite_rule c.args.rule.now) c.args.config.now c.args.subst.now
          (plain_pattern c.in-Some.condition) c.requires.sorted.1 c.requires.matches low
          (ap (option_map plain_pattern) c.in-Some.is),
    )

pub unreachable-requires-in-Err-Blocked : goal.unreachable-requires-in-Err-Blocked
unreachable-requires-in-Err-Blocked c =
    not_blocked (theory_of c.args.engine.now) c.args.subst.now
    (rewrite_rule c.args.rule.now).condition c.args.budget.now.calls c.requires.passed.0
    (plain_pattern c.in-Some.condition) (cause_of c.in-Err-Blocked.field-0-0)
    c.program-program.ensures.sorted
    (passed_by (theory_of c.args.engine.now) c.requires.sorted.0 (rewrite_rule c.args.rule.now)
    c.args.config.now c.args.subst.now c.args.budget.now.calls c.requires.passed.0
    c.program-program.ensures.sorted c.requires.sorted.1 c.requires.matches c.requires.passed.1)
    (ap (option_map plain_pattern) c.in-Some.is)
    (subst (λ (end : EvalEnd). EndsBy (Evaluates (theory_of c.args.engine.now) most_nesting
    c.args.subst.now (plain_pattern c.in-Some.condition) c.args.budget.now.calls) end)
    c.in-Err-Blocked.field-0-is c.in-Err-Blocked.ensures.blocked)

pub returns-in-Ok-clause-untrue : goal.returns-in-Ok-clause-untrue
returns-in-Ok-clause-untrue c =
    (record_other (theory_of c.args.engine.now) (rewrite_rule c.args.rule.now) c.args.subst.now
    c.args.budget.now.calls c.requires.passed.0 c.eval.new.budget.calls
    (plain_pattern c.in-Some.condition) (plain_record c.in-Ok.record)
    c.program-program.ensures.sorted
    (passed_by (theory_of c.args.engine.now) c.requires.sorted.0 (rewrite_rule c.args.rule.now)
    c.args.config.now c.args.subst.now c.args.budget.now.calls c.requires.passed.0
    c.program-program.ensures.sorted c.requires.sorted.1 c.requires.matches c.requires.passed.1)
    (ap (option_map plain_pattern) c.in-Some.is) c.in-Ok.ensures.value c.in-Ok.ensures.recorded).0

pub returns-in-Ok-clause-passed : goal.returns-in-Ok-clause-passed
returns-in-Ok-clause-passed c = λ d passed.
    (record_other (theory_of c.args.engine.now) (rewrite_rule c.args.rule.now) c.args.subst.now
    c.args.budget.now.calls d c.eval.new.budget.calls (plain_pattern c.in-Some.condition)
    (plain_record c.in-Ok.record) c.program-program.ensures.sorted
    (passed_by (theory_of c.args.engine.now) c.requires.sorted.0 (rewrite_rule c.args.rule.now)
    c.args.config.now c.args.subst.now c.args.budget.now.calls d
    c.program-program.ensures.sorted c.requires.sorted.1 c.requires.matches passed)
    (ap (option_map plain_pattern) c.in-Some.is) c.in-Ok.ensures.value c.in-Ok.ensures.recorded).1
