use Rattle.std.proofs.Common.{◌≡◌, ◌-◌, ◌≤◌, length}
use Rattle.mm_text.specs.Next.{left}
use Rattle.mm_text.specs.Statements.{statements_in}
use Rattle.mm_text.specs.Reader.{statements_left}
use Rattle.mm_text.specs.ReaderSteps.{begun}
use Rattle.mm_text.proofs.tokens.MmTokens.next_statement.Given as goal

abbrev pub invariant-loop-token : goal.invariant-loop-token
invariant-loop-token l = record {
  text : l.self.bytes.now ≡ l.fn.self.bytes.now;
  after : l.fn.self.at ≤ l.self.at;
  within : l.self.at ≤ length l.self.bytes.now;
  same : statements_left l.fn.self
      ≡ statements_in (begun l.self.bytes.now l.tokens.items) (left l.self);
}

abbrev pub decreases-loop-token : goal.decreases-loop-token
decreases-loop-token l = length l.self.bytes.now - l.self.at
