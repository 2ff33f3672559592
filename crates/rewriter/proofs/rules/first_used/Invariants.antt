use Rattle.std.proofs.Common.{◌-◌, length}
use Rattle.rule_core.specs.ProgramView.{theory_of}
use Rattle.match_tree.specs.SlotView.{HasRoom, first_row}
use Rattle.rewriter.proofs.Walks.{HasTried}
use Rattle.rewriter.proofs.rules.first_used.Given as goal

abbrev pub invariant-loop-row : goal.invariant-loop-row
invariant-loop-row g l = record {
  done : HasTried (theory_of l.engine) l.tree l.term l.slots l.from l.calls l.left;
  room : HasRoom l.tree l.slots;
}

abbrev pub decreases-loop-row : goal.decreases-loop-row
decreases-loop-row g l = length (theory_of l.engine).rules - first_row l.slots l.from
