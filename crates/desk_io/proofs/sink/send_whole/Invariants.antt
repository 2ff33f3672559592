use Rattle.std.proofs.Common.{◌≡◌, length, ◌-◌, ◌≤◌, take}
use Rattle.desk_io.specs.Sent.{Appends}
use Rattle.desk_io.proofs.sink.send_whole.Given as goal

abbrev pub invariant-loop-at : goal.invariant-loop-at
invariant-loop-at g l = record {
  within : l.at ≤ length l.bytes;
  appends : Appends (g.S.Sink.state l.initial.sink).bytes (g.S.Sink.state l.sink).bytes
      (take l.at l.bytes);
  counts : (g.S.Sink.state l.initial.sink).faults ≤ (g.S.Sink.state l.sink).faults;
  no_fault : (g.S.Sink.state l.sink).faults ≡ (g.S.Sink.state l.initial.sink).faults;
}

abbrev pub decreases-loop-at : goal.decreases-loop-at
decreases-loop-at g l = length l.bytes - l.at
