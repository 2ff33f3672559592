use Rattle.std.proofs.Common.{◌≡◌, ◌++◌, drop}
use Rattle.std.specs.Prelude.{filter}
use Rattle.mm_frame.specs.HypothesesView.{hypotheses_in}
use Rattle.mm_scope.specs.Sharing.{is_wanted_number}
use Rattle.mm_scope.proofs.scopes.Scopes.wanted.Given as goal

abbrev pub invariant-loop-n : goal.invariant-loop-n
invariant-loop-n l = l.wanted.items
    ++ filter (is_wanted_number (hypotheses_in l.self.hyps) l.own) (drop l.n-index l.group)
    ≡ filter (is_wanted_number (hypotheses_in l.self.hyps) l.own) l.group
