use Rattle.std.proofs.Common.{◌≡◌, ◌-◌, ◌+◌, ◌≤◌, vec_len}
use Rattle.desk_io.specs.Changes.{Passed}
use Rattle.desk_io.proofs.read.read_rest.Given as goal

abbrev pub invariant-loop-buffer : goal.invariant-loop-buffer
invariant-loop-buffer g l = record {
  within : vec_len l.bytes ≤ l.limit + 1;
  passed : Passed (g.D.Desk.state l.initial.desk).told (g.D.Desk.state l.desk).told l.bytes.items;
  counts : (g.D.Desk.state l.initial.desk).read_faults ≤ (g.D.Desk.state l.desk).read_faults;
  writes : (g.D.Desk.state l.desk).write_faults ≡ (g.D.Desk.state l.initial.desk).write_faults;
  created : g.D.Desk.created l.desk ≡ g.D.Desk.created l.initial.desk;
  no_fault : (g.D.Desk.state l.desk).read_faults ≡ (g.D.Desk.state l.initial.desk).read_faults;
}

abbrev pub decreases-loop-buffer : goal.decreases-loop-buffer
decreases-loop-buffer g l = l.limit + 1 - vec_len l.bytes
