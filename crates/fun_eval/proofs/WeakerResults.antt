-- A result of which something is known, for a value and for a cause, has what follows from that.
use Rattle.std.proofs.Common.{ℕ}
use Rattle.std.specs.Prelude.{Result, Ok, Err}
use Rattle.rule_core.specs.Evaluation.{Cause}
use Rattle.rule_core.specs.RunView.{cause_of}
use Rattle.fun_eval.specs.Giving.{Comes}
use Rattle.fun_eval.specs.declared.answer.EvalEnd.{EvalEnd}
use Rattle.fun_eval.specs.declared.answer.EvalEnd.TheVariants.{Blocked, Memory}

pub comes-weaker : {A : Type 0} (good : A → ℕ → Type 0) (bad : Cause → Type 0)
    (better : A → ℕ → Type 0) (worse : Cause → Type 0) (r : Result (A × ℕ) EvalEnd)
    → ((a : A) (left : ℕ) → good a left → better a left)
    → ((cause : Cause) → bad cause → worse cause) → Comes good bad r → Comes better worse r
comes-weaker good bad better worse (Ok found) up over h = up found.0 found.1 h
comes-weaker good bad better worse (Err (Blocked why)) up over h = over (cause_of why) h
comes-weaker good bad better worse (Err Memory) up over h = tt
