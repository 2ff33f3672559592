use Rattle.pat_matrix.specs.Rows.{collapsed_rows}
use Rattle.pat_matrix.specs.MatrixView.{lent_rows, rows_of}
use Rattle.match_tree.proofs.ProgramRows.{numbered_collapsed, numbered_whole, tree_is_of}
use Rattle.match_tree.proofs.compiling.Tree.of.Goals as goal

pub compile-requires-clause-collapsed : goal.compile-requires-clause-collapsed
compile-requires-clause-collapsed c =
    numbered_collapsed (rows_of c.in_ok-matrix.matrix) (lent_rows c.args.rows.now)
    c.in_ok-matrix.ensures.rows

pub compile-requires-clause-whole : goal.compile-requires-clause-whole
compile-requires-clause-whole c =
    numbered_whole (rows_of c.in_ok-matrix.matrix) (collapsed_rows (lent_rows c.args.rows.now))
    c.in_ok-matrix.ensures.rows

pub returns : goal.returns
returns c =
    tree_is_of c.compile.result c.in_ok-matrix.matrix c.args.subsorts.now
    (collapsed_rows (lent_rows c.args.rows.now)) c.compile.ensures.tree c.compile.ensures.nodes
    c.compile.ensures.matrix c.in_ok-matrix.ensures.order c.in_ok-matrix.ensures.rows
