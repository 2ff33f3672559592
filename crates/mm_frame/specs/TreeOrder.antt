-- What holds in a tree of hypotheses.
use Rattle.std.specs.Prelude.{◌≡◌, ◌<◌, length}
use Rattle.mm_frame.specs.PlacedOrder.{AllBelow, AllFrom, IsAscending}
use Rattle.mm_frame.specs.TreeView.{placed_in}
use Rattle.mm_frame.specs.declared.tree.Node.{Node}
use Rattle.mm_frame.specs.declared.tree.Node.TheVariants.{Leaf, Fork}
use Rattle.mm_frame.specs.declared.tree.HypTree.TheInside.{Inside}

-- the places before the split are in the first part, and the others in the second; neither part is
-- empty
abbrev pub IsSplit : Node → Type 0
IsSplit (Leaf place hyp) = Unit {0}
IsSplit (Fork split low high) =
    AllBelow split low.value × AllFrom split high.value × (0 < length low.value)
    × (0 < length high.value)

abbrev pub IsTree : Inside → Type 0
IsTree a = IsSplit a.node × (a.count ≡ length (placed_in a.node)) × IsAscending (placed_in a.node)
