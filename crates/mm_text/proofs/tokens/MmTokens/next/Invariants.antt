use Rattle.std.proofs.Common.{◌≡◌, ◌≤◌, ◌-◌, length, drop}
use Rattle.mm_text.specs.Tokens.{tokens_from}
use Rattle.mm_text.proofs.tokens.MmTokens.next.Given as goal

abbrev pub invariant-loop-stray : goal.invariant-loop-stray
invariant-loop-stray l = record {
  text : l.self.bytes.now ≡ l.fn.self.bytes.now;
  after : l.fn.self.at ≤ l.at;
  within : l.at ≤ length l.self.bytes.now;
  same : tokens_from l.fn.self.at (drop l.fn.self.at l.fn.self.bytes.now)
      ≡ tokens_from l.at (drop l.at l.fn.self.bytes.now);
}

abbrev pub decreases-loop-stray : goal.decreases-loop-stray
decreases-loop-stray l = length l.self.bytes.now - l.at
