use Rattle.std.proofs.Common.{◌≡◌, ◌++◌, drop}
use Rattle.match_tree.specs.Joining.{those_below, those_from}
use Rattle.match_tree.proofs.joining.add_below.Given as goal

abbrev pub invariant-loop-i : goal.invariant-loop-i
invariant-loop-i l = record {
  below : l.numbers.items ++ those_below l.limit (drop l.i l.rest)
      ≡ l.initial.numbers.items ++ those_below l.limit l.rest;
  others : those_from l.limit (drop l.i l.rest) ≡ those_from l.limit l.rest;
}
