use Rattle.std.proofs.Common.{◌≡◌}
use Rattle.term_core.specs.PatternLists.{plain_patterns}
use Rattle.ml_image.specs.Sides.{numbered}
use Rattle.prove_open.proofs.fact_sides.variables.Given as goal

abbrev pub invariant-loop-i : goal.invariant-loop-i
invariant-loop-i l = plain_patterns l.pats.items ≡ numbered l.k l.i
