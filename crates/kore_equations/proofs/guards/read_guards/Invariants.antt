use Rattle.std.proofs.Common.{drop, map}
use Rattle.rule_core.specs.ProgramView.{function_equation, guard_of}
use Rattle.kore_ast.specs.Plain.{plain_sort}
use Rattle.kore_shapes.specs.ResortViews.{plain_guard}
use Rattle.kore_equations.proofs.ReadingLoops.{AreReadBefore}
use Rattle.kore_equations.proofs.guards.read_guards.Given as goal

abbrev pub invariant-loop-guard : goal.invariant-loop-guard
invariant-loop-guard l =
    AreReadBefore l.sig l.symbol (plain_sort l.over) (map function_equation l.others)
    (map plain_guard l.guards) (map plain_guard (drop l.guard-index l.guards))
    (map guard_of l.read.items)
