use Rattle.std.proofs.Common.{◌≡◌, ◌++◌, replicate, take}
use Rattle.term_core.specs.RulePatterns.{sort_numbers}
use Rattle.rule_core.specs.ProgramView.{sorts_of}
use Rattle.ml_image.specs.LastResorts.{sorts_at}
use Rattle.guard_body.proofs.renaming.padded_sorts.Given as goal

abbrev pub invariant-loop : goal.invariant-loop
invariant-loop l = sort_numbers l.sorts.items ≡ replicate l.counter l.pad.0

abbrev pub invariant-loop-number : goal.invariant-loop-number
invariant-loop-number l =
    sort_numbers l.sorts.items
    ≡ replicate l.fn.first l.fn.pad.0 ++ sorts_at (sorts_of l.vars) (take l.number-index l.order)
