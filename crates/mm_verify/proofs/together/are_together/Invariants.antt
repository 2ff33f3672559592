use Rattle.std.specs.Prelude.{◌≤◌, length, drop}
use Rattle.mm_verify.specs.Pairs.{AreKnown}
use Rattle.mm_verify.specs.Meeting.{AreMet}
use Rattle.mm_verify.proofs.together.are_together.Given as goal

abbrev pub invariant-loop-at : goal.invariant-loop-at
invariant-loop-at g l = record {
  within : l.at ≤ length l.group;
  known : AreKnown (g.P.Place.place l.place) (drop l.base l.stack) l.spreads;
  met : AreMet (g.P.Place.place l.place) (drop l.base l.stack) l.met (drop l.at l.group);
}

abbrev pub decreases-loop-at : goal.decreases-loop-at
decreases-loop-at g l = l.at
