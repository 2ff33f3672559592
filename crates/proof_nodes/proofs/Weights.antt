-- A walk ends: its tasks weigh less with each step.
use Rattle.std.proofs.Common.{◌≡◌, ℕ, ◌+◌, ◌<◌, List, [], ◌∷◌, ◌++◌, map, Some, refl, sym, ap}
use Rattle.std.proofs.Common.{◌∙◌, arith}
use Rattle.std.specs.Prelude.{slice_get}
use Rattle.mm_text.specs.Bytes.{Token}
use Rattle.mm_database.specs.Proofs.{ProofTree, proof_node, ProofForest, no_proof, more_proofs}
use Rattle.proof_nodes.specs.Tables.{Node, tree_at, node_trees, forest_of}
use Rattle.proof_nodes.specs.Walking.{visits, Takes, repeats_node, visits_parts, cites_node}
use Rattle.proof_nodes.specs.Walking.{saves_node}
use Rattle.proof_nodes.specs.declared.walk.Task.{Task}
use Rattle.proof_nodes.specs.declared.walk.Task.TheVariants.{Visit, Finish}
use Rattle.proof_nodes.specs.declared.walk.Walk.{Walk}
use Rattle.proof_nodes.proofs.Trees.{AreOrdered, tree_of-node}

abbrev mutual
  pub tree_weight : ProofTree → ℕ
  tree_weight (proof_node label trees) = forest_weight trees + 2

  pub forest_weight : ProofForest → ℕ
  forest_weight no_proof = 0
  forest_weight (more_proofs tree trees) = tree_weight tree + forest_weight trees

some-weight : (tree : ProofTree) → 0 < tree_weight tree
some-weight (proof_node label trees) = omega arith

abbrev pub task_weight : List ProofTree → Task → ℕ
task_weight trees (Visit n) = tree_weight (tree_at trees n)
task_weight trees (Finish n) = 1

abbrev pub tasks_weight : List ProofTree → List Task → ℕ
tasks_weight trees [] = 0
tasks_weight trees (task ∷ tasks) = task_weight trees task + tasks_weight trees tasks

weight-append : (trees : List ProofTree) (xs ys : List Task)
    → tasks_weight trees (xs ++ ys) ≡ tasks_weight trees xs + tasks_weight trees ys
weight-append trees [] ys = omega arith
weight-append trees (x ∷ xs) ys = omega (arith, weight-append trees xs ys)

weight-visits : (trees : List ProofTree) (ns : List ℕ)
    → tasks_weight trees (visits ns) ≡ forest_weight (forest_of (map (tree_at trees) ns))
weight-visits trees [] = refl
weight-visits trees (n ∷ ns) =
    let e : tasks_weight trees (visits ns ++ Visit n ∷ [])
    ≡ tasks_weight trees (visits ns) + tasks_weight trees (Visit n ∷ []) =
    weight-append trees (visits ns) (Visit n ∷ []) in
    omega (arith, e, weight-visits trees ns)

abbrev pub unlabelled : ℕ → Token
unlabelled label = []

-- the weight of the tasks of a walk
abbrev pub walk_weight : List Node → List Task → ℕ
walk_weight nodes tasks = tasks_weight (node_trees unlabelled nodes) tasks

node-weight : (nodes : List Node) (n : ℕ) (node : Node) → AreOrdered nodes
    → slice_get nodes n ≡ Some node
    → tree_weight (tree_at (node_trees unlabelled nodes) n)
    ≡ tasks_weight (node_trees unlabelled nodes) (visits node.1) + 2
node-weight nodes n node ordered is =
    ap tree_weight (tree_of-node unlabelled nodes n node (ordered n node is) is)
    ∙ ap (λ w. w + 2) (sym (weight-visits (node_trees unlabelled nodes) node.1))

less : (a b w : ℕ) → 0 < w → b ≡ a + w → a < b
less a b w some is = omega (arith, some, is)

pub smaller : (nodes : List Node) (task : Task) (tasks : List Task) (old new : Walk)
    → AreOrdered nodes → tasks ≡ old.tasks.items ++ task ∷ [] → Takes nodes task old new
    → walk_weight nodes new.tasks.items < walk_weight nodes tasks
smaller nodes task tasks old new ordered top (repeats_node n i is at a b d) =
    let trees = node_trees unlabelled nodes in
    let whole : tasks_weight (node_trees unlabelled nodes) tasks
    ≡ tasks_weight (node_trees unlabelled nodes) old.tasks.items
    + tasks_weight (node_trees unlabelled nodes) (Visit n ∷ []) =
    ap (tasks_weight trees) (top ∙ ap (λ (t : Task). old.tasks.items ++ t ∷ []) is)
    ∙ weight-append trees old.tasks.items (Visit n ∷ []) in
    let same : tasks_weight (node_trees unlabelled nodes) new.tasks.items
    ≡ tasks_weight (node_trees unlabelled nodes) old.tasks.items = ap (tasks_weight trees) a in
    omega (arith, whole, same, some-weight (tree_at (node_trees unlabelled nodes) n))
smaller nodes task tasks old new ordered top (visits_parts n node is at a b d) =
    let trees = node_trees unlabelled nodes in
    let whole : tasks_weight (node_trees unlabelled nodes) tasks
    ≡ tasks_weight (node_trees unlabelled nodes) old.tasks.items
    + tasks_weight (node_trees unlabelled nodes) (Visit n ∷ []) =
    ap (tasks_weight trees) (top ∙ ap (λ (t : Task). old.tasks.items ++ t ∷ []) is)
    ∙ weight-append trees old.tasks.items (Visit n ∷ []) in
    let same : tasks_weight (node_trees unlabelled nodes) new.tasks.items
    ≡ tasks_weight (node_trees unlabelled nodes) old.tasks.items
    + tasks_weight (node_trees unlabelled nodes) (Finish n ∷ visits node.1) =
    ap (tasks_weight trees) a
    ∙ weight-append trees old.tasks.items (Finish n ∷ visits node.1) in
    omega (arith, whole, same, node-weight nodes n node ordered at)
smaller nodes task tasks old new ordered top (cites_node n node is at a b d) =
    let trees = node_trees unlabelled nodes in
    let whole : tasks_weight (node_trees unlabelled nodes) tasks
    ≡ tasks_weight (node_trees unlabelled nodes) old.tasks.items
    + tasks_weight (node_trees unlabelled nodes) (Finish n ∷ []) =
    ap (tasks_weight trees) (top ∙ ap (λ (t : Task). old.tasks.items ++ t ∷ []) is)
    ∙ weight-append trees old.tasks.items (Finish n ∷ []) in
    let same : tasks_weight (node_trees unlabelled nodes) new.tasks.items
    ≡ tasks_weight (node_trees unlabelled nodes) old.tasks.items = ap (tasks_weight trees) a in
    omega (arith, whole, same)
smaller nodes task tasks old new ordered top (saves_node n node is at a b d) =
    let trees = node_trees unlabelled nodes in
    let whole : tasks_weight (node_trees unlabelled nodes) tasks
    ≡ tasks_weight (node_trees unlabelled nodes) old.tasks.items
    + tasks_weight (node_trees unlabelled nodes) (Finish n ∷ []) =
    ap (tasks_weight trees) (top ∙ ap (λ (t : Task). old.tasks.items ++ t ∷ []) is)
    ∙ weight-append trees old.tasks.items (Finish n ∷ []) in
    let same : tasks_weight (node_trees unlabelled nodes) new.tasks.items
    ≡ tasks_weight (node_trees unlabelled nodes) old.tasks.items = ap (tasks_weight trees) a in
    omega (arith, whole, same)
