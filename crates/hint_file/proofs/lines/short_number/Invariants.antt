use Rattle.std.proofs.Common.{◌≡◌, ◌<◌, ◌^◌, drop}
use Rattle.kore_check.specs.ValueTexts.{append_digits}
use Rattle.hint_file.proofs.lines.short_number.Given as goal

abbrev pub invariant-loop-digit : goal.invariant-loop-digit
invariant-loop-digit l = record {
  value : append_digits l.number (drop l.digit-index l.digits) ≡ append_digits 0 l.digits;
  small : append_digits 0 l.digits < 10 ^ 10;
}
