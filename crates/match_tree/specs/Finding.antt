-- Walks that keep nothing.
use Rattle.std.specs.Prelude.{◌≡◌, ◌+◌, ◌++◌, ℕ, true, List, [], length}
use Rattle.std.specs.List.{list_any}
use Rattle.term_core.specs.Terms as terms
use Rattle.match_tree.specs.Ways.{IsWay}
use Rattle.match_tree.specs.TreeView.{nodes_of, tries}
use Rattle.match_tree.specs.SlotView.{StartsFrom, AreNew, RowMatches, kept_positions}
use Rattle.match_tree.specs.declared.compiling.Tree.{Tree}
use Rattle.match_tree.specs.declared.slots.NodeNo.{NodeNo}
use Rattle.match_tree.specs.declared.slots.NodeNo.TheVariants as place
use Rattle.match_tree.specs.declared.slots.Hit.{Hit}
use Rattle.match_tree.specs.declared.slots.Hit.TheVariants as answer

-- A walk of these subjects may begin at the place, and finds the rows from this number on: at the
-- start; at a node to which the tree leads the subjects; or at a row, if a node tries its rows in
-- order.
abbrev pub BeginsAt : Tree → List terms.Tree → NodeNo → ℕ → Type 0
BeginsAt t ts place.Start n = 0 ≡ n
BeginsAt t ts (place.Node k) n =
    ((path : List ℕ) × IsWay (nodes_of t) ts 0 path k) × StartsFrom t k n
BeginsAt t ts (place.Rows row) n = (list_any tries (nodes_of t) ≡ true) × (row ≡ n)

-- the row that was found matches, and a walk may go on from the place that was given, at the next
-- row
abbrev pub GivesOn : Tree → List terms.Tree → Hit → Type 0
GivesOn t ts answer.None = Unit {0}
GivesOn t ts (answer.Row row resume) = RowMatches t ts row × BeginsAt t ts resume (row + 1)

-- the positions that a part of the way from the start tests were looked at, each once
pub record LooksOnce (t : Tree) (ts : List terms.Tree) (old new : ℕ) : Type 0 where
  pub path : List ℕ
  pub more : List ℕ
  pub last : ℕ
  pub way : IsWay (nodes_of t) ts 0 (path ++ more) last
  pub once : AreNew ts [] (kept_positions t (path ++ more))
  pub looks : new + length (kept_positions t path)
      ≡ old + length (kept_positions t (path ++ more))
