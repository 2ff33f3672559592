use Rattle.mm_frame.proofs.names.Names.near.Given as goal

abbrev pub invariant-loop-step : goal.invariant-loop-step
invariant-loop-step l = Unit {0}
