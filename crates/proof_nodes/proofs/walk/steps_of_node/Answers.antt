use Rattle.std.proofs.Common.{◌≡◌, ◌<◌, ◌++◌, ◌∷◌, [], List, length, map, refl, subst, sym, ap}
use Rattle.std.proofs.Common.{◌∙◌, arith}
use Rattle.std.proofs.lemmas.List.{nil_from_length}
use Rattle.proof_nodes.specs.Tables.{AllBelow}
use Rattle.proof_nodes.specs.TableView.{nodes_of}
use Rattle.proof_nodes.specs.Walking.{node_of_task}
use Rattle.proof_nodes.specs.declared.walk.Task.{Task}
use Rattle.proof_nodes.specs.declared.walk.Task.TheVariants.{Visit}
use Rattle.proof_nodes.proofs.Trees.{length-mapped}
use Rattle.proof_nodes.proofs.TableLaws.{parts-below}
use Rattle.proof_nodes.proofs.Walks.{Holds, holds_last, keeps_next, left_of}
use Rattle.proof_nodes.proofs.Walks.{keeps_first, task-within}
use Rattle.proof_nodes.proofs.Weights.{smaller}
use Rattle.proof_nodes.proofs.walk.steps_of_node.Goals as goal

pub take_task-requires-clause-node : goal.take_task-requires-clause-node
take_task-requires-clause-node c =
    subst (λ n. node_of_task c.in-Some.task < n) (length-mapped _ c.args.keys.now)
    (task-within (length (nodes_of c.args.links.now c.args.keys.now)) c.pop.new.self.items
    c.in-Some.task
    (subst (λ (ts : List Task). AllBelow (length (nodes_of c.args.links.now c.args.keys.now))
    (map node_of_task ts)) c.in-Some.ensures.items c.loop-task.invariant.within)).1

pub loop-task-smaller : goal.loop-task-smaller
loop-task-smaller c =
    smaller (nodes_of c.args.links.now c.args.keys.now) c.in-Some.task
    c.loop-task.walk.tasks.items _ c.take_task.new.walk
    (λ i node is. parts-below c.args.links.now c.args.keys.now i node c.requires.keys is)
    c.in-Some.ensures.items c.in_ok-take_task.ensures

pub loop-task-preserved : goal.loop-task-preserved
loop-task-preserved c =
    keeps_next (nodes_of c.args.links.now c.args.keys.now) c.args.root
    (λ i node is. parts-below c.args.links.now c.args.keys.now i node c.requires.keys is)
    c.in-Some.task _ c.take_task.new.walk
    (left_of (nodes_of c.args.links.now c.args.keys.now) c.args.root
    (λ i node is. parts-below c.args.links.now c.args.keys.now i node c.requires.keys is)
    c.in-Some.task c.loop-task.walk _ c.in-Some.ensures.items refl refl c.loop-task.invariant)
    c.in_ok-take_task.ensures

pub loop-task-init : goal.loop-task-init
loop-task-init c =
    keeps_first (nodes_of c.args.links.now c.args.keys.now) c.args.root _
    (c.in_ok-push.ensures.items
    ∙ ap (λ (ts : List Task). ts ++ Visit c.args.root ∷ []) c.new.ensures.items)
    (nil_from_length c.new-2.result.keys (omega (arith, c.new-2.ensures.len)))
    c.new-3.ensures.items
    (subst (λ n. c.args.root < n) (sym (length-mapped _ c.args.keys.now)) c.requires.root)

pub returns-clause-builds : goal.returns-clause-builds
returns-clause-builds c token =
    let none : length c.loop-task.walk.tasks.items ≡ 0 =
    omega (arith, c.in_default.ensures.cases) in
    holds_last token (nodes_of c.args.links.now c.args.keys.now) c.args.root
    c.loop-task.walk.saved.keys c.loop-task.walk.steps.items
    (subst (λ (ts : List Task). Holds token (nodes_of c.args.links.now c.args.keys.now)
    c.args.root ts c.loop-task.walk.saved.keys c.loop-task.walk.steps.items)
    (nil_from_length c.loop-task.walk.tasks.items none) (c.loop-task.invariant.holds token))
