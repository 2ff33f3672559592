use Rattle.refute_body.proofs.ConditionFillings.{IsFillingFrom}
use Rattle.refute_body.proofs.EquationLaws.{equations_left}
use Rattle.refute_body.proofs.conditions.filled.Given as goal

abbrev pub invariant-loop-alloc : goal.invariant-loop-alloc
invariant-loop-alloc l = IsFillingFrom l.fn.equations l.fn.start l.left l.present

abbrev pub decreases-loop-alloc : goal.decreases-loop-alloc
decreases-loop-alloc l = equations_left l.left.conclusion
