use Rattle.rule_core.proofs.Trials.{NoneSoFar}
use Rattle.rule_core.specs.ProgramView.{rewrite_rules}
use Rattle.rule_core.proofs.trial.counted_match.Given as goal

abbrev pub invariant-loop-i : goal.invariant-loop-i
invariant-loop-i g l = NoneSoFar l.subsorts (rewrite_rules l.rules) l.from l.i l.term
