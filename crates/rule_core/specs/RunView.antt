-- The end of a run, as the code reports it.
use Rattle.std.specs.Prelude.{◌≡◌, ◌⊎◌}
use Rattle.term_core.specs.Terms.{Tree}
use Rattle.rule_core.specs.Evaluation as plain
use Rattle.rule_core.specs.Runs.{Run, stuck, limited, stopped, unstarted}
use Rattle.rule_core.specs.declared.rules.Blocked.{Blocked}
use Rattle.rule_core.specs.declared.rules.Blocked.TheVariants as why
use Rattle.rule_core.specs.declared.rules.Outcome.{Outcome}
use Rattle.rule_core.specs.declared.rules.Outcome.TheVariants as outcome

abbrev pub cause_of : Blocked → plain.Cause
cause_of (why.NoValue hook reason) = plain.no_value hook.0 reason
cause_of (why.Closed f) = plain.closed f.0
cause_of (why.NoEquation f) = plain.no_equation f.0
cause_of (why.Calls f) = plain.no_call_left f.0
cause_of (why.Height f) = plain.too_high f.0
cause_of (why.Nest f) = plain.too_nested f.0

-- The run has this end. A run that does not start is blocked after 0 steps.
abbrev pub IsEndOf : Outcome → Run → Type 0
IsEndOf (outcome.Stuck n) run = (t : Tree) × (run ≡ stuck n t)
IsEndOf (outcome.Limit n) run = (t : Tree) × (run ≡ limited n t)
IsEndOf (outcome.Blocked n reason) run =
    ((t : Tree) × (run ≡ stopped n (cause_of reason) t))
    ⊎ ((n ≡ 0) × (run ≡ unstarted (cause_of reason)))
