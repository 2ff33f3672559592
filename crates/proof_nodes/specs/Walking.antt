-- A walk over the nodes of a tree, with tasks on a stack, the last one on top.
use Rattle.std.specs.Prelude.{◌≡◌, ℕ, List, [], ◌∷◌, ◌++◌, map, flat_map, slice_get}
use Rattle.std.specs.Prelude.{Some}
use Rattle.mm_text.specs.Bytes.{Token}
use Rattle.mm_database.specs.Proofs.{ProofTree}
use Rattle.mm_database.specs.Steps.{Step, cites, saves, repeats, Builds}
use Rattle.proof_nodes.specs.Tables.{Node, AllBelow, tree_at, node_trees}
use Rattle.proof_nodes.specs.declared.walk.ProofStep.{ProofStep}
use Rattle.proof_nodes.specs.declared.walk.ProofStep.TheVariants.{Cites, CitesAndSaves, Repeats}
use Rattle.proof_nodes.specs.declared.walk.Task.{Task}
use Rattle.proof_nodes.specs.declared.walk.Task.TheVariants.{Visit, Finish}
use Rattle.proof_nodes.specs.declared.walk.Walk.{Walk}

-- what a step means, if labels are spelled in this way
abbrev pub step_meaning : (ℕ → Token) → ProofStep → List (Step Token)
step_meaning token (Cites label) = cites (token label) ∷ []
step_meaning token (CitesAndSaves label) = cites (token label) ∷ (saves ∷ [])
step_meaning token (Repeats n) = repeats n ∷ []

abbrev pub meanings_of : (ℕ → Token) → List ProofStep → List (Step Token)
meanings_of token steps = flat_map (step_meaning token) steps

-- the label that a step cites
abbrev pub label_of : ProofStep → List ℕ
label_of (Cites label) = label ∷ []
label_of (CitesAndSaves label) = label ∷ []
label_of (Repeats n) = []

abbrev pub labels_of : List ProofStep → List ℕ
labels_of steps = flat_map label_of steps

-- the steps build the tree of a node
abbrev pub BuildsNode : List Node → ℕ → List ProofStep → Type 0
BuildsNode nodes n steps =
    (token : ℕ → Token) → (saved : List ProofTree)
    × Builds [] (meanings_of token steps) (tree_at (node_trees token nodes) n) saved

-- the labels of steps are labels of nodes
abbrev pub CitesNodes : List Node → List ProofStep → Type 0
CitesNodes nodes steps =
    (bound : ℕ) → AllBelow bound (map (λ node. node.0) nodes) → AllBelow bound (labels_of steps)

-- visits of nodes, the first on top
abbrev pub visits : List ℕ → List Task
visits [] = []
visits (n ∷ ns) = visits ns ++ Visit n ∷ []

-- What a task does. A saved tree is repeated; the parts of a node are visited before it is
-- finished; and a finished node is cited, and may be saved.
pub data Takes (nodes : List Node) (task : Task) (old new : Walk) : Type 0 where
  repeats_node : (n i : ℕ) → task ≡ Visit n → slice_get old.saved.keys i ≡ Some n
      → new.tasks.items ≡ old.tasks.items → new.saved.keys ≡ old.saved.keys
      → new.steps.items ≡ old.steps.items ++ Repeats i ∷ [] → Takes nodes task old new
  visits_parts : (n : ℕ) (node : Node) → task ≡ Visit n → slice_get nodes n ≡ Some node
      → new.tasks.items ≡ old.tasks.items ++ (Finish n ∷ visits node.1)
      → new.saved.keys ≡ old.saved.keys → new.steps.items ≡ old.steps.items
      → Takes nodes task old new
  cites_node : (n : ℕ) (node : Node) → task ≡ Finish n → slice_get nodes n ≡ Some node
      → new.tasks.items ≡ old.tasks.items → new.saved.keys ≡ old.saved.keys
      → new.steps.items ≡ old.steps.items ++ Cites node.0 ∷ [] → Takes nodes task old new
  saves_node : (n : ℕ) (node : Node) → task ≡ Finish n → slice_get nodes n ≡ Some node
      → new.tasks.items ≡ old.tasks.items → new.saved.keys ≡ old.saved.keys ++ n ∷ []
      → new.steps.items ≡ old.steps.items ++ CitesAndSaves node.0 ∷ [] → Takes nodes task old new

-- the node of a task
abbrev pub node_of_task : Task → ℕ
node_of_task (Visit n) = n
node_of_task (Finish n) = n
