use Rattle.std.proofs.Common.{ℕ, ◌≡◌, ◌<◌, ◌≤◌}
use Rattle.std.specs.Prelude.{vec_len, ◌||◌, ◌&&◌}
use Rattle.rule_core.specs.SubsortFields.{has, is_in, set_at, reaches}
use Rattle.rule_core.proofs.sort_sets.merge.Given as goal

abbrev pub invariant-loop-x : goal.invariant-loop-x
invariant-loop-x l = record {
  count : vec_len l.rows ≡ vec_len l.initial.rows;
  done : (z y : ℕ) → z < l.x
      → is_in l.rows.items z y
      ≡ (is_in l.initial.rows.items z y
      || (reaches l.initial.rows.items z l.fn.a.0 && has l.more y));
  rest : (z : ℕ) → l.x ≤ z → set_at l.rows.items z ≡ set_at l.initial.rows.items z;
}
