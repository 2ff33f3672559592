use Rattle.std.specs.Prelude.{◌≡◌, [], map, drop}
use Rattle.mm_database.specs.Stack.{saving}
use Rattle.mm_verify.specs.Pairs.{AreNoted}
use Rattle.mm_verify.specs.Running.{step_of, saving_of, numbered_steps}
use Rattle.mm_verify.proofs.machine.check_steps.Given as goal

abbrev pub invariant-loop-step : goal.invariant-loop-step
invariant-loop-step g l = record {
  noted : AreNoted (g.P.Place.place l.place) l.machine.spreads.notes;
  same : numbered_steps (g.P.Place.place l.place) (map step_of (drop l.step-index l.steps))
      (saving_of l.machine)
      ≡ numbered_steps (g.P.Place.place l.place) (map step_of l.steps) (saving [] []);
}
