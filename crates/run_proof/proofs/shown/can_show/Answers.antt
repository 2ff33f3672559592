use Rattle.std.proofs.Common.{sym, subst}
use Rattle.run_loop.specs.RunEnds.{plain_run}
use Rattle.run_loop.specs.declared.ends.RunEnd.{RunEnd}
use Rattle.run_proof.specs.StuckRuns.{IsStuck}
use Rattle.run_proof.proofs.shown.can_show.Goals as goal

pub returns-in-Stuck : goal.returns-in-Stuck
returns-in-Stuck c = (
  λ yes. (
    subst (λ (e : RunEnd). IsStuck (plain_run e)) (sym c.in-Stuck.is) tt,
    c.ac_free.ensures.0 yes,
  ),
  λ can. c.ac_free.ensures.1 can.1,
)
