use Rattle.std.proofs.Common.{ℕ, ◌≡◌, ◌<◌, ◌≤◌, length}
use Rattle.std.specs.Prelude.{bit_or}
use Rattle.rule_core.specs.SubsortFields.{word_at}
use Rattle.rule_core.proofs.sort_sets.include.Given as goal

abbrev pub invariant-loop-k : goal.invariant-loop-k
invariant-loop-k l = record {
  room : length l.set.items ≡ length l.initial.set.items;
  done : (z : ℕ) → z < l.k
      → word_at l.set.items z ≡ bit_or (word_at l.initial.set.items z) (word_at l.more z);
  rest : (z : ℕ) → l.k ≤ z → word_at l.set.items z ≡ word_at l.initial.set.items z;
}
