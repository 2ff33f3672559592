use Rattle.std.proofs.Common.{◌≡◌, ◌≤◌, Some, None, sym, ◌∙◌, ap, arith}
use Rattle.std.specs.Prelude.{option_map}
use Rattle.std.proofs.lemmas.Bool.{false≢true}
use Rattle.std.proofs.lemmas.Result.{err_from_is_err_and}
use Rattle.term_core.specs.Terms.{height}
use Rattle.term_core.specs.RulePatterns.{plain_pattern}
use Rattle.rule_core.specs.ProgramView.{theory_of, rewrite_rule}
use Rattle.rewriter.proofs.Trying.{condition_evaluable, no_test, test_holds, test_fails, test_stops}
use Rattle.rewriter.proofs.rules.try_rule.Goals as goal

pub returns-in_default : goal.returns-in_default
returns-in_default g c =
    let none : option_map plain_pattern c.args.rule.now.cond ≡ None =
    ap (option_map plain_pattern) c.in_default.is in
    let told =
    no_test (theory_of c.args.engine.now) c.args.calls c.args.subst
    (option_map plain_pattern c.args.rule.now.cond) none in
    (c.requires.matches, told.0, told.1)

pub eval_as-requires-clause-fits : goal.eval_as-requires-clause-fits
eval_as-requires-clause-fits g c =
    let some : option_map plain_pattern c.args.rule.now.cond ≡ Some
    (plain_pattern c.in-Some.cond) =
    ap (option_map plain_pattern) c.in-Some.is in
    let low : height c.args.term.now ≤ 500 =
    omega (arith, c.height-high.ensures.bound, c.height-high.ensures.value) in
    condition_evaluable (theory_of c.args.engine.now) (rewrite_rule c.args.rule.now) c.args.term.now
    c.args.subst (plain_pattern c.in-Some.cond) c.requires.triable c.requires.matches low some

pub returns-then-is_true : goal.returns-then-is_true
returns-then-is_true g c =
    let some : option_map plain_pattern c.args.rule.now.cond ≡ Some
    (plain_pattern c.in-Some.cond) =
    ap (option_map plain_pattern) c.in-Some.is in
    let told =
    test_holds (g.R.Recording.tells c.in_ok-answer.answer.recorded) (theory_of c.args.engine.now)
    c.args.calls c.eval_as.new.budget.calls c.args.subst
    (option_map plain_pattern c.args.rule.now.cond) (plain_pattern c.in-Some.cond)
    c.in_ok-answer.answer.term some c.in_ok-answer.ensures.value c.in_ok-answer.ensures.recorded
    (c.is_true.ensures.0 c.if-is_true.true) in
    (c.requires.matches, told.0, told.1)

pub returns : goal.returns
returns g c =
    let some : option_map plain_pattern c.args.rule.now.cond ≡ Some
    (plain_pattern c.in-Some.cond) =
    ap (option_map plain_pattern) c.in-Some.is in (
      c.requires.matches,
      test_fails (theory_of c.args.engine.now) c.args.calls c.eval_as.new.budget.calls
          c.args.subst (option_map plain_pattern c.args.rule.now.cond)
          (plain_pattern c.in-Some.cond) c.in_ok-answer.answer.term some
          c.in_ok-answer.ensures.value (λ is. false≢true (sym c.if-is_true.false ∙
          c.is_true.ensures.1 is)),
    )

pub returns-in_err-answer : goal.returns-in_err-answer
returns-in_err-answer g c =
    let some : option_map plain_pattern c.args.rule.now.cond ≡ Some
    (plain_pattern c.in-Some.cond) =
    ap (option_map plain_pattern) c.in-Some.is in
    let p = err_from_is_err_and c.from_residual.result c.from_residual.ensures.1 in
    rw (p.1, p.2) (test_stops g.R.Recording.tells (theory_of c.args.engine.now) (rewrite_rule
    c.args.rule.now) c.args.term.now c.args.calls c.args.subst (plain_pattern
    c.in-Some.cond) c.in_err-answer.field-0.0 c.requires.matches some
    c.in_err-answer.ensures.blocked)
