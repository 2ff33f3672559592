use Rattle.std.proofs.Common.{◌≤◌, ℕ, List, Option, refl, subst, arith}
use Rattle.std.specs.Prelude.{Ok, MatchOption}
use Rattle.std.proofs.lemmas.Result.{err_from_is_err_and}
use Rattle.term_core.specs.Terms.{Tree, height}
use Rattle.rule_core.specs.FirstRule.{Matches, IsUnmatched}
use Rattle.rule_core.specs.ProgramView.{theory_of, rewrite_rule}
use Rattle.rule_core.specs.declared.records.EvalRecord.{EvalRecord}
use Rattle.hint_file.specs.Paths.{does_not_match}
use Rattle.hint_file.specs.ReadAnswers.{TestsCondition}
use Rattle.hint_file.proofs.RuleSteps.{right_evaluable, test_ends, test_fails, right_ends}
use Rattle.hint_file.proofs.RuleSteps.{step_made}
use Rattle.hint_file.proofs.steps.step_by.Goals as goal

pub returns-in_default : goal.returns-in_default
returns-in_default c =
    does_not_match (subst (λ (o : Option (List (Option Tree))). MatchOption o
    (IsUnmatched (theory_of c.args.engine.now) (rewrite_rule c.args.rule.now) c.args.config.now)
    (Matches (theory_of c.args.engine.now) (rewrite_rule c.args.rule.now) c.args.config.now))
    c.in_default.is c.in_ok-subst.ensures)

pub returns-in_err-cond : goal.returns-in_err-cond
returns-in_err-cond c =
    let match : Matches (theory_of c.args.engine.now) (rewrite_rule c.args.rule.now)
    c.args.config.now c.in-Some.subst =
    subst (λ (o : Option (List (Option Tree))). MatchOption o
    (IsUnmatched (theory_of c.args.engine.now) (rewrite_rule c.args.rule.now) c.args.config.now)
    (Matches (theory_of c.args.engine.now) (rewrite_rule c.args.rule.now) c.args.config.now))
    c.in-Some.is c.in_ok-subst.ensures in
    let p = err_from_is_err_and c.from_residual-in_err-cond.result
    c.from_residual-in_err-cond.ensures.1 in
    rw (p.1, p.2) (test_ends (theory_of c.args.engine.now) (rewrite_rule c.args.rule.now)
    c.args.number c.args.config.now c.args.calls c.in-Some.subst c.in_err-cond.field-0.0 match
    c.in_err-cond.ensures)

pub returns-in_default-2 : goal.returns-in_default-2
returns-in_default-2 c =
    let match : Matches (theory_of c.args.engine.now) (rewrite_rule c.args.rule.now)
    c.args.config.now c.in-Some.subst =
    subst (λ (o : Option (List (Option Tree))). MatchOption o
    (IsUnmatched (theory_of c.args.engine.now) (rewrite_rule c.args.rule.now) c.args.config.now)
    (Matches (theory_of c.args.engine.now) (rewrite_rule c.args.rule.now) c.args.config.now))
    c.in-Some.is c.in_ok-subst.ensures in
    test_fails (theory_of c.args.engine.now) (rewrite_rule c.args.rule.now) c.args.number
    c.args.config.now c.args.calls c.in-Some.subst match
    (subst (λ (o : Option (Option EvalRecord × ℕ)). TestsCondition (theory_of c.args.engine.now)
    c.in-Some.subst (rewrite_rule c.args.rule.now).condition c.args.calls (Ok o))
    c.in_default-2.is c.in_ok-cond.ensures)

pub eval-requires-clause-fits : goal.eval-requires-clause-fits
eval-requires-clause-fits c =
    let low : height c.args.config.now ≤ 500 =
    omega (arith, c.height-high.ensures.bound, c.height-high.ensures.value) in
    let match : Matches (theory_of c.args.engine.now) (rewrite_rule c.args.rule.now)
    c.args.config.now c.in-Some.subst =
    subst (λ (o : Option (List (Option Tree))). MatchOption o
    (IsUnmatched (theory_of c.args.engine.now) (rewrite_rule c.args.rule.now) c.args.config.now)
    (Matches (theory_of c.args.engine.now) (rewrite_rule c.args.rule.now) c.args.config.now))
    c.in-Some.is c.in_ok-subst.ensures in
    right_evaluable (theory_of c.args.engine.now) c.args.config.now c.args.number
    (rewrite_rule c.args.rule.now) c.in-Some.subst c.requires.config c.requires.rule match low

pub returns-in_err-right : goal.returns-in_err-right
returns-in_err-right c =
    let match : Matches (theory_of c.args.engine.now) (rewrite_rule c.args.rule.now)
    c.args.config.now c.in-Some.subst =
    subst (λ (o : Option (List (Option Tree))). MatchOption o
    (IsUnmatched (theory_of c.args.engine.now) (rewrite_rule c.args.rule.now) c.args.config.now)
    (Matches (theory_of c.args.engine.now) (rewrite_rule c.args.rule.now) c.args.config.now))
    c.in-Some.is c.in_ok-subst.ensures in
    let tested =
    subst (λ (o : Option (Option EvalRecord × ℕ)). TestsCondition (theory_of c.args.engine.now)
    c.in-Some.subst (rewrite_rule c.args.rule.now).condition c.args.calls (Ok o))
    c.in-Some-2.is c.in_ok-cond.ensures in
    let p = err_from_is_err_and c.from_residual-in_err-right.result
    c.from_residual-in_err-right.ensures.1 in
    rw (p.1, p.2) (right_ends (theory_of c.args.engine.now) (rewrite_rule c.args.rule.now)
    c.args.number c.args.config.now c.args.calls c.in-Some.subst c.in-Some-2.cond c.in-Some-2.left
    c.in_err-right.field-0.0 match tested c.in_err-right.ensures.blocked)

pub returns : goal.returns
returns c =
    let low : height c.args.config.now ≤ 500 =
    omega (arith, c.height-high.ensures.bound, c.height-high.ensures.value) in
    let match : Matches (theory_of c.args.engine.now) (rewrite_rule c.args.rule.now)
    c.args.config.now c.in-Some.subst =
    subst (λ (o : Option (List (Option Tree))). MatchOption o
    (IsUnmatched (theory_of c.args.engine.now) (rewrite_rule c.args.rule.now) c.args.config.now)
    (Matches (theory_of c.args.engine.now) (rewrite_rule c.args.rule.now) c.args.config.now))
    c.in-Some.is c.in_ok-subst.ensures in
    let tested =
    subst (λ (o : Option (Option EvalRecord × ℕ)). TestsCondition (theory_of c.args.engine.now)
    c.in-Some.subst (rewrite_rule c.args.rule.now).condition c.args.calls (Ok o))
    c.in-Some-2.is c.in_ok-cond.ensures in
    step_made (theory_of c.args.engine.now) (rewrite_rule c.args.rule.now) c.args.number
    c.args.config.now c.args.calls c.in-Some-2.left c.eval.new.budget.calls
    (record {
      rule = c.args.number;
      subst = c.in-Some.subst;
      cond = c.in-Some-2.cond;
      right = c.in_ok-right.right;
    })
    c.program-program.ensures.sorted c.requires.config low c.requires.rule match refl tested
    c.in_ok-right.ensures.value c.in_ok-right.ensures.recorded
