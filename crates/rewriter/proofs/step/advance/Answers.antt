use Rattle.std.proofs.Common.{◌≤◌, Some, subst, arith}
use Rattle.std.proofs.lemmas.Result.{err_from_is_err_and}
use Rattle.term_core.specs.Terms.{height}
use Rattle.rule_core.specs.ProgramView.{theory_of, rewrite_rule}
use Rattle.rule_core.specs.Runs.{by_none}
use Rattle.rewriter.specs.Choosing.{ChoiceSays}
use Rattle.rewriter.specs.Keeping.{KeepsChoice}
use Rattle.rewriter.proofs.Trying.{choice_stops, chosen_within, right_evaluable, right_stops}
use Rattle.rewriter.proofs.Trying.{step_made}
use Rattle.rewriter.proofs.step.advance.Goals as goal

pub returns-in_err-chosen-clause-advances : goal.returns-in_err-chosen-clause-advances
returns-in_err-chosen-clause-advances g c =
    let p = err_from_is_err_and c.from_residual.result c.from_residual.ensures.1 in
    rw (p.1, p.2) (choice_stops g.R.Recording.tells (theory_of c.args.engine.now) c.args.config.now
    c.args.calls c.in_err-chosen.field-0.0 c.in_err-chosen.ensures.chooses)

pub returns-in_default-clause-advances : goal.returns-in_default-clause-advances
returns-in_default-clause-advances g c =
    by_none (subst (λ o. ChoiceSays g.R.Recording.tells (theory_of c.args.engine.now)
    c.args.config.now c.args.calls o c.in_ok-chosen.left) c.in_default.is
    c.in_ok-chosen.ensures.chooses)

pub rule_of-rule-requires : goal.rule_of-rule-requires
rule_of-rule-requires g c =
    let picked : ChoiceSays g.R.Recording.tells (theory_of c.args.engine.now) c.args.config.now
    c.args.calls (Some c.in-Some.chosen) c.in_ok-chosen.left =
    subst (λ o. ChoiceSays g.R.Recording.tells (theory_of c.args.engine.now) c.args.config.now
    c.args.calls o c.in_ok-chosen.left) c.in-Some.is c.in_ok-chosen.ensures.chooses in
    chosen_within (theory_of c.args.engine.now) c.args.config.now c.args.calls
    c.in-Some.chosen.number c.in_ok-chosen.left c.in-Some.chosen.subst picked.0

pub eval_as-requires-clause-fits : goal.eval_as-requires-clause-fits
eval_as-requires-clause-fits g c =
    let picked : ChoiceSays g.R.Recording.tells (theory_of c.args.engine.now) c.args.config.now
    c.args.calls (Some c.in-Some.chosen) c.in_ok-chosen.left =
    subst (λ o. ChoiceSays g.R.Recording.tells (theory_of c.args.engine.now) c.args.config.now
    c.args.calls o c.in_ok-chosen.left) c.in-Some.is c.in_ok-chosen.ensures.chooses in
    let low : height c.args.config.now ≤ 500 =
    omega (arith, c.height-high.ensures.bound, c.height-high.ensures.value) in
    right_evaluable (theory_of c.args.engine.now) c.args.config.now c.args.calls
    c.in-Some.chosen.number c.in_ok-chosen.left c.in-Some.chosen.subst
    (rewrite_rule c.rule_of-rule.result.now) c.requires.config picked.0 c.rule_of-rule.ensures low

pub returns-clause-advances : goal.returns-clause-advances
returns-clause-advances g c =
    let picked : ChoiceSays g.R.Recording.tells (theory_of c.args.engine.now) c.args.config.now
    c.args.calls (Some c.in-Some.chosen) c.in_ok-chosen.left =
    subst (λ o. ChoiceSays g.R.Recording.tells (theory_of c.args.engine.now) c.args.config.now
    c.args.calls o c.in_ok-chosen.left) c.in-Some.is c.in_ok-chosen.ensures.chooses in
    let low : height c.args.config.now ≤ 500 =
    omega (arith, c.height-high.ensures.bound, c.height-high.ensures.value) in
    step_made g.R.Recording.tells (theory_of c.args.engine.now) c.args.config.now
    c.in_ok-answer.answer.term c.args.calls c.in-Some.chosen.number c.in_ok-chosen.left
    c.eval_as.new.budget.calls c.in-Some.chosen.subst c.in-Some.chosen.cond
    (rewrite_rule c.rule_of-rule.result.now) c.in_ok-answer.answer.recorded
    c.program-program.ensures.sorted c.requires.config low picked.0 picked.1 c.rule_of-rule.ensures
    c.in_ok-answer.ensures.value c.in_ok-answer.ensures.recorded

pub returns-clause-kept : goal.returns-clause-kept
returns-clause-kept g c =
    subst (λ o. KeepsChoice c.args.tree.now c.args.config.now c.choose_rule.new.slots o)
    c.in-Some.is c.in_ok-chosen.ensures.kept

pub returns-in_err-answer-clause-advances : goal.returns-in_err-answer-clause-advances
returns-in_err-answer-clause-advances g c =
    let picked : ChoiceSays g.R.Recording.tells (theory_of c.args.engine.now) c.args.config.now
    c.args.calls (Some c.in-Some.chosen) c.in_ok-chosen.left =
    subst (λ o. ChoiceSays g.R.Recording.tells (theory_of c.args.engine.now) c.args.config.now
    c.args.calls o c.in_ok-chosen.left) c.in-Some.is c.in_ok-chosen.ensures.chooses in
    let p = err_from_is_err_and c.from_residual-in_err-answer.result
    c.from_residual-in_err-answer.ensures.1 in
    rw (p.1, p.2) (right_stops g.R.Recording.tells (theory_of c.args.engine.now) c.args.config.now
    c.args.calls c.in-Some.chosen.number c.in_ok-chosen.left c.in-Some.chosen.subst (rewrite_rule
    c.rule_of-rule.result.now) c.in_err-answer.field-0.0 picked.0 c.rule_of-rule.ensures
    c.in_err-answer.ensures.blocked)
