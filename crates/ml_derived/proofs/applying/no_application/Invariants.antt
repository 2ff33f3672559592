use Rattle.ml_derived.proofs.ApplyingLaws.{IsCarried}
use Rattle.ml_derived.proofs.applying.no_application.Given as goal

abbrev pub invariant-loop-argument : goal.invariant-loop-argument
invariant-loop-argument l =
    IsCarried l.r l.f l.arguments l.initial.present l.argument-index l.at l.present
