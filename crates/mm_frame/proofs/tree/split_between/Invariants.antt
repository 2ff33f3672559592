use Rattle.std.proofs.Common.{◌<◌, ◌≤◌, ◌+◌, ◌*◌}
use Rattle.mm_frame.proofs.tree.split_between.Given as goal

abbrev pub invariant-loop-low : goal.invariant-loop-low
invariant-loop-low l = record {
  less : l.low < l.high;
  some : 0 < l.unit;
  after : l.before < (l.low + 1) * l.unit;
  within : l.high * l.unit ≤ l.from;
}

abbrev pub decreases-loop-low : goal.decreases-loop-low
decreases-loop-low l = l.high
