use Rattle.std.proofs.Common.{length, arith}
use Rattle.pat_matrix.specs.MatrixView.{rows_of}
use Rattle.std.proofs.lemmas.List.{length-map}
use Rattle.match_tree.specs.NodeView.{plain_node, plain_nodes}
use Rattle.match_tree.proofs.CompileLaws.{first_draft, last_work, tree_of, nothing_left}
use Rattle.match_tree.proofs.compiling.compile.Goals as goal

pub refine-requires-clause-draft : goal.refine-requires-clause-draft
refine-requires-clause-draft c =
    first_draft c.args.matrix c.in_ok-draft.draft c.left.result.now c.new-2.result.items
    (length (rows_of c.args.matrix)) c.in_ok-draft.ensures.nodes c.in_ok-draft.ensures.pending
    c.left.ensures c.requires.whole c.new-2.ensures.items

pub refine_opened-requires-clause-draft : goal.refine_opened-requires-clause-draft
refine_opened-requires-clause-draft c =
    last_work c.args.matrix c.loop-opened.draft c.pop.new.self.items c.in-Some.opened
    c.loop-opened.invariant.draft c.in-Some.ensures.items

pub returns-clause-tree : goal.returns-clause-tree
returns-clause-tree c =
    tree_of c.args.matrix (plain_nodes c.loop-opened.draft.nodes.items)
    (nothing_left c.args.matrix c.loop-opened.draft c.loop-opened.invariant.draft (omega (arith, c.in_default.ensures.cases.0)))
    (omega (arith, length-map c.loop-opened.draft.nodes.items plain_node))
