use Rattle.std.proofs.Common.{◌≡◌, ◌-◌, ℕ, length}
use Rattle.pat_matrix.specs.MatchTrees.{matching_rows, rows_from}
use Rattle.pat_matrix.specs.MatrixView.{rows_of, order_of}
use Rattle.match_tree.specs.TreeView.{nodes_of}
use Rattle.match_tree.specs.SlotView.{StartsFrom}
use Rattle.match_tree.specs.Passing.{Passes}
use Rattle.match_tree.proofs.compiling.Tree.descend.Given as goal

abbrev pub invariant-walk : goal.invariant-walk
invariant-walk g l = record {
  passed : Passes l.self l.subjects (g.N.Notes.tell l.initial.notes) (g.N.Notes.tell l.notes)
      l.initial.steps l.steps l.place;
  same : (from : ℕ) → StartsFrom l.self l.initial.place from
      → (k : ℕ) × StartsFrom l.self l.place k
      × (matching_rows (order_of l.self.matrix) (rows_from from (rows_of l.self.matrix)) l.subjects
      ≡ matching_rows (order_of l.self.matrix) (rows_from k (rows_of l.self.matrix)) l.subjects);
  room : g.N.Notes.have_room l.notes (length (nodes_of l.self));
}

abbrev pub decreases-walk : goal.decreases-walk
decreases-walk g l = length l.self.nodes.items - l.place
