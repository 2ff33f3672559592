use Rattle.std.proofs.Common.{◌≤◌, ◌+◌, drop, length}
use Rattle.match_tree.specs.Drafting.{most_nodes}
use Rattle.match_tree.specs.TrailView.{plain_trail}
use Rattle.match_tree.specs.WorkView.{IsDraftAt}
use Rattle.match_tree.proofs.draft.Draft.refine.Given as goal

abbrev pub invariant-loop-i : goal.invariant-loop-i
invariant-loop-i l = record {
  draft : IsDraftAt l.matrix l.self l.place l.from (drop l.i l.rows) (plain_trail l.trail.items);
  few : length l.self.nodes.items ≤ most_nodes;
  fewer : length l.self.pending.items + length l.initial.self.nodes.items
      ≤ length l.initial.self.pending.items + length l.self.nodes.items;
  longer : length l.initial.self.nodes.items ≤ length l.self.nodes.items;
}
