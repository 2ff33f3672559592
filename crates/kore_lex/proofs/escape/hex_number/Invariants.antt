use Rattle.std.proofs.Common.{◌≡◌, ◌≤◌, ◌-◌, length, drop}
use Rattle.kore_lex.specs.Escapes.{hex_number}
use Rattle.kore_lex.proofs.escape.hex_number.Given as goal

abbrev pub invariant-loop-i : goal.invariant-loop-i
invariant-loop-i l = record {
  within : l.i ≤ length l.bytes;
  small : l.number ≤ 17825791;
  read : hex_number (l.digits - l.i) l.number (drop l.i l.bytes) ≡ hex_number l.digits 0 l.bytes;
}
