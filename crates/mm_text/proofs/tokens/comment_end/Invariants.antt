use Rattle.std.proofs.Common.{◌≡◌, ◌≤◌, ◌-◌, length}
use Rattle.std.specs.Prelude.{None}
use Rattle.mm_text.specs.Ahead.{commented}
use Rattle.mm_text.proofs.tokens.comment_end.Given as goal

abbrev pub invariant-loop-stray : goal.invariant-loop-stray
invariant-loop-stray l = record {
  after : l.fn.from ≤ l.at;
  within : l.at ≤ length l.bytes;
  same : commented l.bytes l.opened l.fn.from None ≡ commented l.bytes l.opened l.at l.bad;
}

abbrev pub decreases-loop-stray : goal.decreases-loop-stray
decreases-loop-stray l = length l.bytes - l.at
