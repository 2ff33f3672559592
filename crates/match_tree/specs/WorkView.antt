-- What is left to do in a tree in the making.
use Rattle.std.specs.Prelude.{◌≡◌, ◌+◌, ℕ, List, [], ◌∷◌, ◌++◌, map, option_map, length, replicate}
use Rattle.std.specs.Prelude.{None}
use Rattle.std.specs.Global.{Vec}
use Rattle.pat_matrix.specs.HeadView.{head_of}
use Rattle.pat_matrix.specs.Rows.{numbers_from}
use Rattle.pat_matrix.specs.Groups.{lists_of}
use Rattle.pat_matrix.specs.declared.groups.Groups.{Groups}
use Rattle.pat_matrix.specs.declared.matrix.Matrix.{Matrix}
use Rattle.match_tree.specs.Trails.{Trail}
use Rattle.match_tree.specs.Joining.{joined}
use Rattle.match_tree.specs.Drafting.{Work, IsDraft, branch_works}
use Rattle.match_tree.specs.FlatNodes.{try_node}
use Rattle.match_tree.specs.TrailView.{plain_trail, sort_number}
use Rattle.match_tree.specs.NodeView.{plain_nodes}
use Rattle.match_tree.specs.declared.draft.Draft.{Draft}
use Rattle.match_tree.specs.declared.draft.Opened.{Opened}
use Rattle.match_tree.specs.declared.draft.Parted.{Parted}
use Rattle.match_tree.specs.declared.testing.Test.{Test}

-- what was tested before a branch, and at its test
abbrev pub branch_trail : Parted → Trail
branch_trail parted = plain_trail parted.trail.items

abbrev pub work_of : Opened → Work
work_of opened = record {
  place = opened.place;
  from = opened.parted.value.from;
  rows = joined opened.own.items opened.parted.value.wild.items;
  trail = branch_trail opened.parted.value
      ++ (opened.parted.value.position.items, option_map sort_number opened.source) ∷ [];
}

abbrev pub works_of : List Opened → List Work
works_of pending = map work_of pending

-- The draft is one of a tree for the matrix.
abbrev pub IsDraftOf : Matrix → Draft → Type 0
IsDraftOf m draft = IsDraft m (plain_nodes draft.nodes.items) (works_of draft.pending.items)

-- It is one when this is done at the place.
abbrev pub IsDraftAt : Matrix → Draft → ℕ → ℕ → List ℕ → Trail → Type 0
IsDraftAt m draft place from rows trail =
    IsDraft m (plain_nodes draft.nodes.items)
    (record { place = place; from = from; rows = rows; trail = trail }
    ∷ works_of draft.pending.items)

-- The places of a test were handed out: one for every other head, and one for each group, in order.
-- All of them try their rows in order, and are left to do.
pub record IsHanded (old new : Draft) (parted : Parted) (groups : Groups) : Type 0 where
  pub nodes : plain_nodes new.nodes.items
      ≡ plain_nodes old.nodes.items
      ++ (try_node parted.from ∷ replicate (length groups.heads.keys) (try_node parted.from))
  pub works : works_of new.pending.items
      ≡ works_of old.pending.items ++ record {
        place = length old.nodes.items;
        from = parted.from;
        rows = parted.wild.items;
        trail = branch_trail parted ++ (parted.position.items, None) ∷ [];
      } ∷ branch_works (length old.nodes.items + 1) parted.from parted.wild.items
      (branch_trail parted) parted.position.items (map head_of groups.heads.keys)
      (lists_of groups.rows.items)

-- The test is at the position, and its places are these, from a number on.
pub record IsTestOf (test : Test) (at : Vec ℕ) (groups : Groups) (place : ℕ) : Type 0 where
  pub position : test.position.items ≡ at.items
  pub heads : test.heads.keys ≡ groups.heads.keys
  pub branches : test.branches.items ≡ numbers_from (place + 1) (length groups.heads.keys)
  pub other : test.other ≡ place
