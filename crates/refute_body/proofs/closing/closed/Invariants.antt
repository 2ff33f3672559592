use Rattle.refute_body.proofs.Closings.{IsClosedSofar}
use Rattle.refute_body.proofs.closing.closed.Given as goal

abbrev pub invariant-loop : goal.invariant-loop
invariant-loop l = IsClosedSofar l.initial.present l.counter l.present
