use Rattle.std.proofs.Common.{◌≡◌, ◌++◌, drop}
use Rattle.match_tree.specs.Joining.{joined}
use Rattle.match_tree.proofs.joining.joined.Given as goal

abbrev pub invariant-loop-number : goal.invariant-loop-number
invariant-loop-number l =
    l.numbers.items ++ joined (drop l.number-index l.own) l.rest ≡ joined l.own l.wild
