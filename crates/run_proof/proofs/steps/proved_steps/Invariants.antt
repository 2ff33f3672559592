use Rattle.std.proofs.Common.{◌≡◌, ◌≤◌, ℕ}
use Rattle.std.specs.Prelude.{IsTrue}
use Rattle.term_core.specs.Patterns.{Pattern}
use Rattle.rule_core.specs.ProgramView.{theory_of}
use Rattle.rule_core.specs.Runs.{Reaches}
use Rattle.match_tree.specs.SlotView.{HasRoom}
use Rattle.run_proof.specs.ProvedSteps.{GoesOn, IsProvedAt}
use Rattle.run_proof.proofs.LineLaws.{HasLines}
use Rattle.run_proof.proofs.steps.proved_steps.Given as goal

abbrev pub invariant-loop-made : goal.invariant-loop-made
invariant-loop-made g l = record {
  created : IsTrue (g.D.Desk.created l.desk);
  counts : (g.D.Desk.state l.initial.desk).write_faults ≤ (g.D.Desk.state l.desk).write_faults;
  no_fault : (g.D.Desk.state l.desk).write_faults ≡ (g.D.Desk.state l.initial.desk).write_faults;
  reads : (g.D.Desk.state l.desk).read_faults ≡ (g.D.Desk.state l.initial.desk).read_faults;
  room : HasRoom l.tree l.slots;
  at : IsProvedAt l.engine l.run l.proof;
  goes : GoesOn (g.D.Desk.state l.initial.desk).told (g.D.Desk.state l.desk).told l.initial.proof
      l.proof;
  steps : l.proof.steps ≡ l.made;
  reached : (start : Pattern) (calls : ℕ)
      → Reaches (theory_of l.engine) start calls 0 l.initial.run.config l.initial.run.calls
      → Reaches (theory_of l.engine) start calls l.made l.run.config l.run.calls;
  hinted : (start : Pattern) (calls : ℕ)
      → Reaches (theory_of l.engine) start calls 0 l.initial.run.config l.initial.run.calls
      → HasLines (theory_of l.engine) start calls l.made l.initial.hints l.hints l.run.config
      l.run.calls;
}
