use Rattle.std.proofs.Common.{ℕ, ◌<◌, get_or}
use Rattle.rule_core.proofs.Paths.{Leads}
use Rattle.rule_core.proofs.subsorts.Subsorts.next_towards.Given as goal

abbrev pub invariant-loop-lower : goal.invariant-loop-lower
invariant-loop-lower l = (k : ℕ) → k < l.lower-index
    → Leads l.self l.from.0 l.b.0 (get_or l.self k (0, 0)) → ⊥
