use Rattle.std.proofs.Common.{◌≡◌, ℕ, drop}
use Rattle.std.specs.Prelude.{◌||◌}
use Rattle.std.specs.List.{list_any}
use Rattle.mm_frame.specs.PlainFrames.{in_groups, groups_of}
use Rattle.mm_frame.specs.HypothesesView.{hypotheses_in}
use Rattle.mm_scope.proofs.CommonPairs.{wanted_pair}
use Rattle.mm_scope.proofs.scopes.Scopes.asked_pairs.Given as goal

abbrev pub invariant-loop-group : goal.invariant-loop-group
invariant-loop-group l = (a b : ℕ)
    → (in_groups (groups_of l.pairs.items) a b
    || list_any (wanted_pair (hypotheses_in l.self.hyps) a b)
    (groups_of (drop l.group-index l.group-items)))
    ≡ list_any (wanted_pair (hypotheses_in l.self.hyps) a b) (groups_of l.group-items)
