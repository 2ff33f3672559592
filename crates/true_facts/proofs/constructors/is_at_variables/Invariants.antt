use Rattle.std.proofs.Common.{◌≡◌, ◌↔◌, ℕ}
use Rattle.ml_pat.specs.Patterns.{constant}
use Rattle.ml_image.specs.Counted.{at_variables}
use Rattle.true_facts.proofs.constructors.is_at_variables.Given as goal

abbrev pub invariant-loop-i : goal.invariant-loop-i
invariant-loop-i l =
    (c : ℕ) → (l.pattern ≡ at_variables (constant c) l.first l.count)
    ↔ (l.head ≡ at_variables (constant c) l.first l.i)
