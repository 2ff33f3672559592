use Rattle.std.proofs.Common.{◌≡◌, ℕ, drop}
use Rattle.std.specs.Prelude.{◌||◌}
use Rattle.std.specs.List.{list_any}
use Rattle.mm_frame.specs.PlainFrames.{in_groups, groups_of}
use Rattle.mm_frame.specs.HypothesesView.{hypotheses_in}
use Rattle.mm_frame.specs.DisjointView.{groups_in}
use Rattle.mm_scope.specs.Sharing.{shares_wanted}
use Rattle.mm_scope.proofs.scopes.Scopes.own_pairs.Given as goal

abbrev pub invariant-loop-place : goal.invariant-loop-place
invariant-loop-place l = (a b : ℕ)
    → (in_groups (groups_of l.pairs.items) a b
    || list_any
    (shares_wanted (hypotheses_in l.self.hyps) (groups_in l.self.disjoint) l.own a b)
    (drop l.place-index l.place-items))
    ≡ list_any (shares_wanted (hypotheses_in l.self.hyps) (groups_in l.self.disjoint) l.own a b)
    l.place-items
