use Rattle.std.proofs.Common.{◌≡◌, map, take}
use Rattle.rule_core.specs.ProgramView.{function_equations}
use Rattle.fun_eval.specs.LastResorts.{has_last_resort}
use Rattle.fun_eval.proofs.engine.last_resorts.Given as goal

abbrev pub invariant-loop-equations : goal.invariant-loop-equations
invariant-loop-equations l =
    l.found.items
    ≡ map has_last_resort (function_equations (take l.equations-index l.program.equations.items))
