use Rattle.std.proofs.Common.{◌∙◌, ap, map}
use Rattle.std.proofs.lemmas.List.{take_all}
use Rattle.pat_matrix.specs.Occurrences.{row_twins}
use Rattle.pat_matrix.specs.MatrixView.{row_of}
use Rattle.match_tree.proofs.CompileLaws.{twins_by_row}
use Rattle.match_tree.proofs.compiling.all_twins.Goals as goal

pub returns : goal.returns
returns c =
    c.loop-no.invariant
    ∙ ap (map (λ n. row_twins (row_of c.args.matrix.now n)))
    (take_all c.loop-no.no-index c.left-no-items.result.now c.loop-no-test.false)
    ∙ twins_by_row c.args.matrix.now c.left-no-items.result.now c.left-no-items.ensures
