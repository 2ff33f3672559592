use Rattle.std.proofs.Common.{◌≡◌, ◌≤◌, ◌-◌, length, drop}
use Rattle.kore_lex.specs.Escapes.{further, bad_at}
use Rattle.kore_lex.proofs.escape.bad_at.Given as goal

abbrev pub invariant-loop-at : goal.invariant-loop-at
invariant-loop-at l = record {
  within : l.at ≤ length l.body;
  found : further l.at (bad_at 0 (drop l.at l.body)) ≡ bad_at 0 l.body;
}

abbrev pub decreases-loop-at : goal.decreases-loop-at
decreases-loop-at l = length l.body - l.at
