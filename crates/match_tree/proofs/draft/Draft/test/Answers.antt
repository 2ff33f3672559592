use Rattle.std.proofs.Common.{◌∙◌, ap, map, length, replicate, ◌++◌}
use Rattle.pat_matrix.specs.HeadView.{head_of}
use Rattle.pat_matrix.specs.Groups.{lists_of}
use Rattle.match_tree.specs.Drafting.{branch_works}
use Rattle.match_tree.specs.FlatNodes.{try_node}
use Rattle.match_tree.specs.NodeView.{plain_nodes}
use Rattle.match_tree.specs.WorkView.{branch_trail, works_of}
use Rattle.match_tree.proofs.DraftSteps.{handed, keys_apart}
use Rattle.match_tree.proofs.draft.Draft.test.Goals as goal

pub returns-clause-handed : goal.returns-clause-handed
returns-clause-handed c =
    let parted = c.in_ok-parted.parted.value in
    let like = c.in_ok-parted.ensures.ok in
    let keys = c.as_slice.ensures.keys in
    handed c.args.self.now c.open.new.self c.open_branches.new.self c.args.parted
    c.in_ok-clone.field-0.value parted c.new-2.result c.args.groups
    (c.in_ok-clone.ensures.cases ∙ like) like c.new-2.ensures.items c.in_ok-open.ensures.nodes
    c.in_ok-open.ensures.works
    (c.in_ok-branches.ensures.nodes
    ∙ ap (λ hs. plain_nodes c.open.new.self.nodes.items
    ++ replicate (length hs) (try_node parted.from)) keys)
    (c.in_ok-branches.ensures.works
    ∙ ap (λ hs. works_of c.open.new.self.pending.items
    ++ branch_works (length c.open.new.self.nodes.items) parted.from parted.wild.items
    (branch_trail parted) parted.position.items (map head_of hs)
    (lists_of c.args.groups.rows.items)) keys)

pub returns-clause-distinct : goal.returns-clause-distinct
returns-clause-distinct c = keys_apart _ c.as_slice.ensures.unique
