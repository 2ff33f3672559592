use Rattle.std.proofs.Common.{◌≡◌, drop, map}
use Rattle.std.specs.List.{list_any}
use Rattle.kore_shapes.specs.Forms.{has_form, others}
use Rattle.kore_shapes.specs.Views.{pattern_at}
use Rattle.kore_equations.proofs.sides.have_form.Given as goal

abbrev pub invariant-loop-pat : goal.invariant-loop-pat
invariant-loop-pat l =
    list_any (has_form others) (map pattern_at (drop l.pat-index l.pats))
    ≡ list_any (has_form others) (map pattern_at l.pats)
