use Rattle.std.proofs.Common.{◌≡◌, ◌≤◌, ◌<◌, ◌^◌, ◌-◌, length, drop}
use Rattle.kore_lex.specs.Lexed.{lexed}
use Rattle.kore_lex.specs.Unread.{left}
use Rattle.kore_lex.proofs.lexer.Lexer.next.Given as goal

abbrev pub invariant-loop-len : goal.invariant-loop-len
invariant-loop-len l = record {
  same : lexed l.self-inside.at (drop l.self-inside.at l.self-inside.text.now) ≡ left l.fn.self;
  text : l.self-inside.text.now ≡ l.fn.self.text;
  within : l.self-inside.at ≤ length l.self-inside.text.now;
  small : length l.self-inside.text.now < 2 ^ 32;
}

abbrev pub decreases-loop-len : goal.decreases-loop-len
decreases-loop-len l = length l.self-inside.text.now - l.self-inside.at
