use Rattle.std.proofs.Common.{◌≡◌, ◌≤◌, ◌-◌, length, drop}
use Rattle.kore_lex.specs.Escapes.{further}
use Rattle.kore_lex.specs.Pieces.{block_len}
use Rattle.kore_lex.proofs.piece.block_len.Given as goal

abbrev pub invariant-loop-n : goal.invariant-loop-n
invariant-loop-n l = record {
  within : l.n ≤ length l.bytes;
  found : further l.n (block_len (drop l.n l.bytes)) ≡ block_len l.bytes;
}

abbrev pub decreases-loop-n : goal.decreases-loop-n
decreases-loop-n l = length l.bytes - l.n
