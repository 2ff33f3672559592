use Rattle.std.proofs.Common.{◌≡◌, take}
use Rattle.term_core.specs.RulePatterns.{sort_numbers}
use Rattle.rule_core.specs.ProgramView.{sorts_of}
use Rattle.ml_image.specs.LastResorts.{sorts_at}
use Rattle.ml_image.proofs.last_resorts.listed_sorts.Given as goal

abbrev pub invariant-loop-number : goal.invariant-loop-number
invariant-loop-number l =
    sort_numbers l.sorts.items ≡ sorts_at (sorts_of l.vars) (take l.number-index l.order)
