use Rattle.std.proofs.Common.{◌≤◌, ◌<◌, ◌+◌, ◌-◌, ◌*◌, length}
use Rattle.match_tree.specs.Drafting.{most_nodes}
use Rattle.match_tree.specs.WorkView.{IsDraftOf}
use Rattle.match_tree.proofs.compiling.compile.Given as goal

abbrev pub invariant-loop-opened : goal.invariant-loop-opened
invariant-loop-opened l = record {
  draft : IsDraftOf l.matrix l.draft;
  few : length l.draft.nodes.items ≤ most_nodes;
  some : 0 < length l.draft.nodes.items;
}

abbrev pub decreases-loop-opened : goal.decreases-loop-opened
decreases-loop-opened l =
    2 * (most_nodes - length l.draft.nodes.items) + length l.draft.pending.items
