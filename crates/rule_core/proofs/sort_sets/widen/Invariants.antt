use Rattle.std.proofs.Common.{ℕ, ◌≡◌, ◌<◌, ◌≤◌, length}
use Rattle.std.specs.Prelude.{IsTrue, vec_len}
use Rattle.rule_core.specs.SubsortFields.{is_in, set_at, reaches}
use Rattle.rule_core.proofs.sort_sets.widen.Given as goal

abbrev pub invariant-loop-x : goal.invariant-loop-x
invariant-loop-x l = record {
  count : vec_len l.rows ≡ vec_len l.initial.rows;
  same : (x y : ℕ) → is_in l.rows.items x y ≡ is_in l.initial.rows.items x y;
  long : (z : ℕ) → z < l.x → IsTrue (reaches l.initial.rows.items z l.fn.a.0)
      → l.len ≤ length (set_at l.rows.items z);
}
