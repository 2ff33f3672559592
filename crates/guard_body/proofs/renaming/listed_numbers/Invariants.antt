use Rattle.std.proofs.Common.{◌≡◌, ℕ, ◌+◌, length, drop}
use Rattle.std.specs.Prelude.{slice_index_or}
use Rattle.ml_image.specs.LastResorts.{number_from}
use Rattle.guard_body.proofs.renaming.listed_numbers.Given as goal

abbrev pub invariant-loop-i : goal.invariant-loop-i
invariant-loop-i l = record {
  long : length l.numbers.items ≡ l.count;
  each : (x : ℕ) → slice_index_or l.numbers.items x 0
      ≡ number_from (l.first + l.i) (drop l.i l.order) x;
}
