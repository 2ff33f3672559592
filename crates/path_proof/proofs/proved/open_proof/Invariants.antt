use Rattle.std.proofs.Common.{◌≡◌, ◌≤◌, map, drop}
use Rattle.std.specs.Prelude.{IsTrue}
use Rattle.rule_core.specs.RecordView.{plain_step}
use Rattle.path_proof.specs.OpenPaths.{IsProvedTo}
use Rattle.path_proof.proofs.proved.open_proof.Given as goal

abbrev pub invariant-loop-step : goal.invariant-loop-step
invariant-loop-step g l = record {
  created : IsTrue (g.D.Desk.created l.desk);
  counts : (g.D.Desk.state l.fn.desk).write_faults ≤ (g.D.Desk.state l.desk).write_faults;
  no_fault : (g.D.Desk.state l.desk).write_faults ≡ (g.D.Desk.state l.fn.desk).write_faults;
  reads : (g.D.Desk.state l.desk).read_faults ≡ (g.D.Desk.state l.fn.desk).read_faults;
  proved : IsProvedTo (g.D.Desk.state l.fn.desk).told (g.D.Desk.state l.desk).told l.program l.path
      l.proof l.here (map plain_step (drop l.step-index l.path.steps.items));
}
