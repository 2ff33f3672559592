use Rattle.std.proofs.Common.{◌++◌, ◌∷◌, [], refl, ap, ◌∙◌}
use Rattle.proof_nodes.specs.TableView.{nodes_of}
use Rattle.proof_nodes.specs.declared.walk.ProofStep.{ProofStep}
use Rattle.proof_nodes.proofs.Tasks.{finishes, node-at}
use Rattle.proof_nodes.proofs.walk.finish.Goals as goal

pub returns : goal.returns
returns c =
    finishes (nodes_of c.args.links.now c.args.keys.now) c.args.node _ c.args.walk.now _
    c.in_ok-saved.saved (node-at c.args.links.now c.args.keys.now c.args.node c.requires.node) refl
    c.in_ok-saved.ensures
    (c.in_ok-push.ensures.items
    ∙ ap (λ (s : ProofStep). c.args.walk.now.steps.items ++ s ∷ []) c.citing_step.ensures)
