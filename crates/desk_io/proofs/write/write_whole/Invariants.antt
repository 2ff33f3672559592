use Rattle.std.proofs.Common.{◌≡◌, length, ◌-◌, ◌≤◌, take}
use Rattle.std.specs.Prelude.{IsTrue}
use Rattle.desk_io.specs.Changes.{Writes}
use Rattle.desk_io.proofs.write.write_whole.Given as goal

abbrev pub invariant-loop-at : goal.invariant-loop-at
invariant-loop-at g l = record {
  within : l.at ≤ length l.bytes;
  writes : Writes (g.D.Desk.state l.initial.desk).told (g.D.Desk.state l.desk).told
      (take l.at l.bytes);
  created : IsTrue (g.D.Desk.created l.desk);
  counts : (g.D.Desk.state l.initial.desk).write_faults ≤ (g.D.Desk.state l.desk).write_faults;
  reads : (g.D.Desk.state l.desk).read_faults ≡ (g.D.Desk.state l.initial.desk).read_faults;
  no_fault : (g.D.Desk.state l.desk).write_faults
      ≡ (g.D.Desk.state l.initial.desk).write_faults;
}

abbrev pub decreases-loop-at : goal.decreases-loop-at
decreases-loop-at g l = length l.bytes - l.at
