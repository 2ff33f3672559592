use Rattle.std.proofs.Common.{◌≡◌, drop, map}
use Rattle.std.specs.List.{list_any}
use Rattle.kore_shapes.specs.Views.{pattern_at}
use Rattle.kore_axioms.specs.LeftNames.{has_bad_and}
use Rattle.kore_equations.proofs.sides.have_bad_and.Given as goal

abbrev pub invariant-loop-pat : goal.invariant-loop-pat
invariant-loop-pat l =
    list_any (has_bad_and (map pattern_at l.pats)) (map pattern_at (drop l.pat-index l.pats))
    ≡ list_any (has_bad_and (map pattern_at l.pats)) (map pattern_at l.pats)
