use Rattle.std.proofs.Common.{◌≡◌, drop}
use Rattle.std.specs.List.{list_all}
use Rattle.mm_frame.specs.HypothesesView.{hypotheses_in}
use Rattle.mm_frame.specs.DisjointView.{groups_in}
use Rattle.mm_scope.specs.Sharing.{is_free_number}
use Rattle.mm_scope.proofs.scopes.Scopes.are_free.Given as goal

abbrev pub invariant-loop-n : goal.invariant-loop-n
invariant-loop-n l =
    list_all (is_free_number (hypotheses_in l.self.hyps) (groups_in l.self.disjoint))
    (drop l.n-index l.statement)
    ≡ list_all (is_free_number (hypotheses_in l.self.hyps) (groups_in l.self.disjoint))
    l.statement
