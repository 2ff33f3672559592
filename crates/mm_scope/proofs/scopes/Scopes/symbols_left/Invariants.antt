use Rattle.std.proofs.Common.{◌≡◌, ◌++◌, drop}
use Rattle.std.specs.Prelude.{filter}
use Rattle.mm_frame.specs.HypothesesView.{hypotheses_in}
use Rattle.mm_scope.specs.Sharing.{is_unasked_number}
use Rattle.mm_scope.proofs.scopes.Scopes.symbols_left.Given as goal

abbrev pub invariant-loop-n : goal.invariant-loop-n
invariant-loop-n l = l.left.items
    ++ filter (is_unasked_number (hypotheses_in l.self.hyps)) (drop l.n-index l.statement)
    ≡ filter (is_unasked_number (hypotheses_in l.self.hyps)) l.statement
