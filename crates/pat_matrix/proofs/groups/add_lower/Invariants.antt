use Rattle.pat_matrix.specs.Groups.{Gains}
use Rattle.pat_matrix.specs.Heads.{lower_takes}
use Rattle.pat_matrix.proofs.groups.add_lower.Given as goal

abbrev pub invariant-loop-number : goal.invariant-loop-number
invariant-loop-number l =
    Gains l.initial.groups l.groups
    (lower_takes l.order.subsorts.now l.number l.from.0 l.to.0) l.row
