use Rattle.std.proofs.Common.{◌≡◌, ◌≤◌, ◌<◌, ◌^◌, drop}
use Rattle.std.specs.Prelude.{Some}
use Rattle.mm_text.specs.Compressed.{digits, steps_from, number_of_steps}
use Rattle.mm_text.proofs.numbers.push_number.Given as goal

abbrev pub invariant-loop-before : goal.invariant-loop-before
invariant-loop-before l = record {
  within : l.at ≤ 26;
  room : l.before < 5 ^ l.at;
  same : number_of_steps (steps_from (digits l.before) (drop l.at l.letters)) ≡ Some l.n;
}

abbrev pub decreases-loop-before : goal.decreases-loop-before
decreases-loop-before l = l.before
