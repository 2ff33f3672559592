use Rattle.term_core.specs.RulePatterns.{plain_pattern}
use Rattle.rule_core.specs.ProgramView.{theory_of}
use Rattle.rewriter.proofs.Started.{start_evaluable, run_started, start_sorted}
use Rattle.rewriter.proofs.run.Run.new_as.Goals as goal

pub eval_as-requires-clause-fits : goal.eval_as-requires-clause-fits
eval_as-requires-clause-fits g c =
    start_evaluable (theory_of c.args.engine.now) (plain_pattern c.args.start.now)
    c.in_ok-subst.subst c.requires c.in_ok-subst.ensures

pub returns-clause-starts : goal.returns-clause-starts
returns-clause-starts g c =
    run_started (theory_of c.args.engine.now) (plain_pattern c.args.start.now) c.in_ok-subst.subst
    c.args.calls c.eval_as.new.budget.calls c.in_ok-answer.answer.term c.in_ok-subst.ensures
    c.in_ok-answer.ensures.value

pub returns-clause-sorted : goal.returns-clause-sorted
returns-clause-sorted g c =
    start_sorted (theory_of c.args.engine.now) (plain_pattern c.args.start.now) c.args.calls
    c.eval_as.new.budget.calls c.in_ok-answer.answer.term c.program-program.ensures.sorted
    c.requires (run_started (theory_of c.args.engine.now) (plain_pattern c.args.start.now)
    c.in_ok-subst.subst c.args.calls c.eval_as.new.budget.calls c.in_ok-answer.answer.term
    c.in_ok-subst.ensures c.in_ok-answer.ensures.value)
