use Rattle.std.proofs.Common.{◌≡◌, ℕ, List, ◌<◌, ◌-◌, Some, length, subst, sym, ap, ◌∙◌}
use Rattle.std.specs.Prelude.{slice_get}
use Rattle.proof_nodes.specs.Tables.{Table, IsOnTop, tree_of}
use Rattle.proof_nodes.specs.TableView.{table_of}
use Rattle.proof_nodes.proofs.Growing.{AllBelow-at}
use Rattle.proof_nodes.proofs.Trees.{length-mapped}
use Rattle.proof_nodes.proofs.TableLaws.{last-mapped}
use Rattle.proof_nodes.proofs.nodes.ProofNodes.last.Goals as goal

pub returns-clause-top : goal.returns-clause-top
returns-clause-top c =
    let stack = c.self.inside.stack.items in
    let is : Some c.in_ok-node.node.now
    ≡ slice_get c.self.inside.stack.items (length c.self.inside.stack.items - 1) =
    c.in_ok-node.ensures.value
    ∙ ap (λ (ns : List ℕ). slice_get ns (length ns - 1)) c.deref.ensures.value in
    subst (λ (t : Table). IsOnTop t c.in_ok-node.node.now) c.self.view_is (
      subst (λ n. c.in_ok-node.node.now < n) (sym (length-mapped _ c.self.inside.keys.keys))
          (AllBelow-at (length c.self.inside.keys.keys) stack (length stack - 1)
          c.in_ok-node.node.now c.self.invariant.stack (sym is)),
      λ token trees tree same. last-mapped (tree_of token (table_of c.self.inside)) stack
          c.in_ok-node.node.now trees tree is same,
    )
