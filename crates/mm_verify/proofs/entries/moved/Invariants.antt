use Rattle.std.proofs.Common.{◌≡◌, ℕ, List, ◌++◌, length, take}
use Rattle.mm_verify.specs.Ranges.{pieces, AreRanges}
use Rattle.mm_verify.proofs.entries.moved.Given as goal

abbrev pub invariant-loop-range : goal.invariant-loop-range
invariant-loop-range l = record {
  front : (more : List ℕ) × (l.to.items ≡ l.fn.to.items ++ more);
  within : AreRanges (length l.to.items) l.moved.items;
  same : pieces l.to.items l.moved.items ≡ pieces l.symbols (take l.range-index l.ranges);
}
