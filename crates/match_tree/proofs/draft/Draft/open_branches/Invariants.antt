use Rattle.std.proofs.Common.{◌≡◌, ◌+◌, ◌++◌, drop, length, map, replicate}
use Rattle.pat_matrix.specs.HeadView.{head_of}
use Rattle.pat_matrix.specs.Groups.{lists_of}
use Rattle.pat_matrix.specs.Rows.{numbers_from}
use Rattle.match_tree.specs.FlatNodes.{try_node}
use Rattle.match_tree.specs.Drafting.{branch_works}
use Rattle.match_tree.specs.NodeView.{plain_nodes}
use Rattle.match_tree.specs.WorkView.{branch_trail, works_of}
use Rattle.match_tree.proofs.draft.Draft.open_branches.Given as goal

abbrev pub invariant-loop-own : goal.invariant-loop-own
invariant-loop-own l = record {
  counted : length l.branches.items + length l.own-iterator.rest.items ≡ length l.heads;
  branches : l.branches.items
      ≡ numbers_from (length l.initial.self.nodes.items) (length l.branches.items);
  nodes : plain_nodes l.self.nodes.items
      ≡ plain_nodes l.initial.self.nodes.items
      ++ replicate (length l.branches.items) (try_node l.parted.value.from);
  works : works_of l.self.pending.items
      ++ branch_works (length l.initial.self.nodes.items + length l.branches.items)
      l.parted.value.from l.parted.value.wild.items (branch_trail l.parted.value)
      l.parted.value.position.items (map head_of (drop (length l.branches.items) l.heads))
      (lists_of l.own-iterator.rest.items)
      ≡ works_of l.initial.self.pending.items
      ++ branch_works (length l.initial.self.nodes.items) l.parted.value.from
      l.parted.value.wild.items (branch_trail l.parted.value) l.parted.value.position.items
      (map head_of l.heads) (lists_of l.fn.rows.items);
}
