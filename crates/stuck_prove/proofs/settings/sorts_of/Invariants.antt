use Rattle.std.proofs.Common.{◌≡◌, take}
use Rattle.term_core.specs.RulePatterns.{sort_numbers}
use Rattle.rule_core.specs.ProgramView.{sorts_of}
use Rattle.stuck_prove.proofs.settings.sorts_of.Given as goal

abbrev pub invariant-loop-variable : goal.invariant-loop-variable
invariant-loop-variable l =
    sort_numbers l.sorts.items ≡ sorts_of (take l.variable-index l.vars)
