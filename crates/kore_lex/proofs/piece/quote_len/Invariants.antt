use Rattle.std.proofs.Common.{◌≡◌, ◌≤◌, ◌+◌, ◌-◌, length, drop}
use Rattle.kore_lex.specs.Escapes.{further}
use Rattle.kore_lex.specs.Pieces.{quote_len}
use Rattle.kore_lex.proofs.piece.quote_len.Given as goal

abbrev pub invariant-loop-n : goal.invariant-loop-n
invariant-loop-n l = record {
  within : l.n ≤ length l.bytes + 1;
  found : further l.n (quote_len 0 (drop l.n l.bytes)) ≡ quote_len 0 l.bytes;
}

abbrev pub decreases-loop-n : goal.decreases-loop-n
decreases-loop-n l = length l.bytes - l.n
