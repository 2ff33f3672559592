-- What a tree of hypotheses has.
use Rattle.std.specs.Prelude.{List, [], ◌∷◌, ◌++◌}
use Rattle.mm_frame.specs.StateHypotheses.{plain_hypothesis}
use Rattle.mm_frame.specs.PlacedHypotheses.{Placed}
use Rattle.mm_frame.specs.declared.tree.Node.{Node}
use Rattle.mm_frame.specs.declared.tree.Node.TheVariants.{Leaf, Fork}
use Rattle.mm_frame.specs.declared.tree.HypTree.TheInside.{Inside}

abbrev pub placed_in : Node → List Placed
placed_in (Leaf place hyp) = (place, plain_hypothesis hyp) ∷ []
placed_in (Fork split low high) = low.value ++ high.value

abbrev pub tree_placed : Inside → List Placed
tree_placed a = placed_in a.node
