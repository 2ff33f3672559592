-- The end of an evaluation without a value.
use Rattle.rule_core.specs.Evaluation.{Evaluated, blocked}
use Rattle.rule_core.specs.RunView.{cause_of}
use Rattle.fun_eval.specs.declared.answer.EvalEnd.{EvalEnd}
use Rattle.fun_eval.specs.declared.answer.EvalEnd.TheVariants.{Blocked, Memory}

-- what is evaluated is blocked for this reason; if memory ran out, nothing is said
abbrev pub EndsBy : (Evaluated → Type 0) → EvalEnd → Type 0
EndsBy evaluates (Blocked why) = evaluates (blocked (cause_of why))
EndsBy evaluates Memory = Unit {0}
