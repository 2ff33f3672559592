use Rattle.refute_body.proofs.EquationLaws.{IsRest, equations_left}
use Rattle.refute_body.proofs.equations.equation_of.Given as goal

abbrev pub decreases-loop-present : goal.decreases-loop-present
decreases-loop-present l = equations_left l.present.conclusion

abbrev pub invariant-loop-present : goal.invariant-loop-present
invariant-loop-present l = IsRest l.x l.initial.present l.present
