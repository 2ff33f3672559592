use Rattle.std.proofs.Common.{◌≡◌, ◌<◌, ℕ, Some}
use Rattle.ml_pat.specs.Judgements.{IsFresh}
use Rattle.term_core.specs.Patterns.{binding}
use Rattle.term_core.specs.Terms.{Tree}
use Rattle.refute_body.proofs.conditions.concerns.Given as goal

abbrev pub invariant-loop-x : goal.invariant-loop-x
invariant-loop-x l =
    (x : ℕ) (t : Tree) → x < l.x → binding l.theta x ≡ Some t → IsFresh x l.condition
