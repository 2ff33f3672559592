use Rattle.std.proofs.Common.{◌∙◌, ℕ, List, subst, arith, refl}
use Rattle.std.proofs.lemmas.List.{length-map, length-set}
use Rattle.pat_matrix.specs.Groups.{IsSplit}
use Rattle.match_tree.specs.NodeView.{plain_node}
use Rattle.match_tree.specs.TrailView.{plain_trail}
use Rattle.match_tree.specs.WorkView.{works_of}
use Rattle.match_tree.specs.declared.draft.Parted.{Parted}
use Rattle.match_tree.proofs.DraftSteps.{no_room, keys_apart, test_added, handed_nodes}
use Rattle.match_tree.proofs.DraftSteps.{handed_works}
use Rattle.match_tree.proofs.draft.Draft.add_test.Goals as goal

pub returns-then-len-ge-MAX_NODES-clause-draft : goal.returns-then-len-ge-MAX_NODES-clause-draft
returns-then-len-ge-MAX_NODES-clause-draft c =
    let P : List ℕ → Type 0 = λ position.
    IsSplit c.args.matrix.now position c.args.rows.now c.in_ok-groups.field-0 in
    no_room c.args.matrix.now c.args.self.now.nodes.items
    (record {
      place = c.args.place;
      from = c.args.from;
      rows = c.args.rows.now;
      trail = plain_trail c.args.trail.items;
    })
    (works_of c.args.self.now.pending.items) c.args.position.items c.in_ok-groups.field-0
    c.requires.draft (subst P c.deref.ensures.value c.in_ok-groups.ensures)
    (keys_apart _ c.len-2.ensures.unique) (omega arith)

pub index_mut-requires : goal.index_mut-requires
index_mut-requires c =
    let within = c.requires.draft.2.0 in
    omega (
      arith,
      within,
      length-map c.args.self.now.nodes.items plain_node,
      handed_nodes c.args.self.now c.test.new.self _ _ c.in_ok-node.ensures.handed,
    )

pub returns-clause-draft : goal.returns-clause-draft
returns-clause-draft c =
    let P : List ℕ → Type 0 = λ position.
    IsSplit c.args.matrix.now position c.args.rows.now c.in_ok-groups.field-0 in
    let parted : Parted = record {
      from = c.args.from;
      trail = c.args.trail;
      position = c.in_ok-to_vec.field-0;
      wild = c.in_ok-groups.field-0.wild;
    } in
    test_added c.args.matrix.now c.args.self.now c.test.new.self parted c.args.place
    c.requires.asks.0 c.args.rows.now c.requires.asks.1 c.args.position c.in_ok-node.node
    c.in_ok-groups.field-0 c.requires.draft c.requires.asks.2 c.requires.asks.3
    (subst P c.deref.ensures.value c.in_ok-groups.ensures) c.in_ok-node.ensures.distinct
    c.in_ok-node.ensures.handed
    (c.in_ok-to_vec.ensures.items_if_clones_equal (λ x y e. e) ∙ c.deref-2.ensures.value) refl
    c.in_ok-node.ensures.test

pub returns-clause-few : goal.returns-clause-few
returns-clause-few c =
    omega (
      arith,
      length-set c.test.new.self.nodes.items c.args.place,
      handed_nodes c.args.self.now c.test.new.self _ _ c.in_ok-node.ensures.handed,
    )

pub returns-clause-fewer : goal.returns-clause-fewer
returns-clause-fewer c =
    omega (
      arith,
      length-set c.test.new.self.nodes.items c.args.place,
      handed_nodes c.args.self.now c.test.new.self _ _ c.in_ok-node.ensures.handed,
      handed_works c.args.self.now c.test.new.self _ _ c.in_ok-node.ensures.handed,
    )

pub returns-clause-longer : goal.returns-clause-longer
returns-clause-longer c =
    omega (
      arith,
      length-set c.test.new.self.nodes.items c.args.place,
      handed_nodes c.args.self.now c.test.new.self _ _ c.in_ok-node.ensures.handed,
    )
