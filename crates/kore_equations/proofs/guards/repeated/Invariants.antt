use Rattle.std.proofs.Common.{map}
use Rattle.rule_core.specs.ProgramView.{function_equation}
use Rattle.kore_equations.proofs.ReadingLoops.{NoneSameBefore}
use Rattle.kore_equations.proofs.guards.repeated.Given as goal

abbrev pub invariant-loop-i : goal.invariant-loop-i
invariant-loop-i l = NoneSameBefore (map function_equation l.others) l.sides l.i
