use Rattle.std.proofs.Common.{◌≡◌, take, map}
use Rattle.pat_matrix.specs.Occurrences.{row_twins}
use Rattle.pat_matrix.specs.PlaceView.{twins_of}
use Rattle.pat_matrix.specs.MatrixView.{row_of}
use Rattle.match_tree.proofs.compiling.all_twins.Given as goal

abbrev pub invariant-loop-no : goal.invariant-loop-no
invariant-loop-no l =
    map (λ v. twins_of v.items) l.twins.items
    ≡ map (λ n. row_twins (row_of l.matrix n)) (take l.no-index l.no-items)
