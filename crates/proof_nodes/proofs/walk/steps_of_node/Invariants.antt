use Rattle.proof_nodes.specs.TableView.{nodes_of}
use Rattle.proof_nodes.proofs.Walks.{Keeps}
use Rattle.proof_nodes.proofs.Weights.{walk_weight}
use Rattle.proof_nodes.proofs.walk.steps_of_node.Given as goal

abbrev pub invariant-loop-task : goal.invariant-loop-task
invariant-loop-task l = Keeps (nodes_of l.links l.keys) l.root l.walk

abbrev pub decreases-loop-task : goal.decreases-loop-task
decreases-loop-task l = walk_weight (nodes_of l.links l.keys) l.walk.tasks.items
