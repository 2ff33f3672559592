-- What the private functions that go along the nodes of a tree say.
use Rattle.std.specs.Prelude.{◌≡◌, ◌+◌, ◌++◌, ℕ, false, List, length}
use Rattle.std.specs.List.{list_any}
use Rattle.term_core.specs.Terms.{Tree}
use Rattle.match_tree.specs.Ways.{IsWay}
use Rattle.match_tree.specs.TreeView.{nodes_of, tries}
use Rattle.match_tree.specs.SlotView.{IsReachedBy, kept_positions}
use Rattle.match_tree.specs.declared.compiling.Tree as code
use Rattle.match_tree.specs.declared.slots.Hit.{Hit}

-- After the nodes that were noted before, a walk passed more, and noted them, on its way from the
-- start to the place. If no node tries its rows in order, it looked once at each position that they
-- test.
pub record Passes (t : code.Tree) (ts : List Tree) (before after : List ℕ → Type 0)
    (old new place : ℕ) : Type 0
  where
    pub path : List ℕ
    pub more : List ℕ
    pub noted : before path
    pub notes : after (path ++ more)
    pub way : IsWay (nodes_of t) ts 0 (path ++ more) place
    pub looks : list_any tries (nodes_of t) ≡ false
        → new + length (kept_positions t path) ≡ old + length (kept_positions t (path ++ more))

-- at the end of the way it found this hit, or none
abbrev pub Reaches : code.Tree → List Tree → (List ℕ → Type 0) → (List ℕ → Type 0) → ℕ → ℕ → Hit
    → Type 0
Reaches t ts before after old new hit =
    (place : ℕ) × (passed : Passes t ts before after old new place)
    × IsReachedBy t ts (passed.path ++ passed.more) hit
