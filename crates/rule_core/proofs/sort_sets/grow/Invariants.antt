use Rattle.std.proofs.Common.{ℕ, ◌≡◌, ◌+◌, ◌-◌}
use Rattle.std.specs.Prelude.{vec_len}
use Rattle.rule_core.specs.SubsortFields.{set_at}
use Rattle.rule_core.proofs.sort_sets.grow.Given as goal

abbrev pub invariant-loop-alloc : goal.invariant-loop-alloc
invariant-loop-alloc l = (x : ℕ) → set_at l.rows.items x ≡ set_at l.initial.rows.items x

abbrev pub decreases-loop-alloc : goal.decreases-loop-alloc
decreases-loop-alloc l = l.a.0 + 1 - vec_len l.rows
