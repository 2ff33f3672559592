use Rattle.std.proofs.Common.{◌<◌, ℕ, get_or}
use Rattle.rule_core.specs.Rules.{ComesBefore}
use Rattle.rule_core.specs.declared.rules.Equation.{Equation}
use Rattle.kore_equations.proofs.readings.comes_last.Given as goal

abbrev pub invariant-loop-other : goal.invariant-loop-other
invariant-loop-other l =
    (k : ℕ) (d : Equation) → k < l.other-index
    → ComesBefore ((get_or l.others k d).priority, (get_or l.others k d).at) (l.priority, l.at)
