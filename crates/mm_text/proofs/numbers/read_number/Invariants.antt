use Rattle.std.proofs.Common.{◌≡◌, ◌≤◌, ◌*◌, ◌^◌, drop}
use Rattle.mm_text.specs.Compressed.{number_of, within_limit}
use Rattle.mm_text.specs.DigitsRead.{number_left}
use Rattle.mm_text.proofs.numbers.read_number.Given as goal

abbrev pub invariant-loop-at : goal.invariant-loop-at
invariant-loop-at l = record {
  small : 20 * l.before ≤ 2 ^ 63;
  same : number_left l.before (drop l.at l.letters) ≡ within_limit (number_of l.letters);
}
