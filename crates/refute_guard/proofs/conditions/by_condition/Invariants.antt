use Rattle.prove_term.specs.Contexts.{HasGrown}
use Rattle.refute_guard.proofs.GuardConditions.{IsSofarFrom}
use Rattle.refute_guard.proofs.conditions.by_condition.Given as goal

abbrev pub invariant-loop-place : goal.invariant-loop-place
invariant-loop-place l = record {
  grown : HasGrown l.initial.cx l.cx;
  sofar : IsSofarFrom l.initial.cx l.cx l.guard l.denial l.place l.present;
}
