use Rattle.std.proofs.Common.{ap, map}
use Rattle.mm_verify.specs.Running.{step_of, numbered_steps}
use Rattle.mm_verify.proofs.machine.check_steps.Goals as goal

pub loop-step-init : goal.loop-step-init
loop-step-init g c =
    let p = g.P.Place.place c.args.place.now in
    record {
      noted = c.clear.ensures.noted p;
      same = ap (λ w. numbered_steps p (map step_of c.args.steps.now) w) c.clear.ensures.saving;
    }
