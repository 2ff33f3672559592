use Rattle.std.proofs.Common.{◌≡◌, drop, map}
use Rattle.kore_shapes.specs.Views.{pattern_at}
use Rattle.kore_equations.specs.ReadableSides.{all_read}
use Rattle.kore_equations.specs.ClearEquations.{each_faultless}
use Rattle.kore_equations.proofs.sorts.are_arguments.Given as goal

abbrev pub invariant-loop-i : goal.invariant-loop-i
invariant-loop-i l =
    each_faultless l.sig (drop l.i l.places) (all_read (map pattern_at (drop l.i l.pats)))
    ≡ each_faultless l.sig l.places (all_read (map pattern_at l.pats))
