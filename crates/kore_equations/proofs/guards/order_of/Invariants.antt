use Rattle.std.proofs.Common.{drop, length, map}
use Rattle.kore_shapes.specs.Views.{pattern_at}
use Rattle.kore_equations.proofs.OrderLaws.{AreNumbersBefore, AreMarked}
use Rattle.kore_equations.proofs.guards.order_of.Given as goal

abbrev pub invariant-loop-pat : goal.invariant-loop-pat
invariant-loop-pat l =
    AreNumbersBefore l.sig l.vars (map pattern_at l.quantified)
    (map pattern_at (drop l.pat-index l.quantified)) l.order.items
    × AreMarked (length l.vars) l.order.items l.seen.items
