-- Proof trees under construction, as a table of distinct nodes. Each node has a label and parts,
-- which are nodes before it, by number. A label is a number, and how it is spelled is left open.
use Rattle.std.specs.Prelude.{◌≡◌, ◌<◌, ℕ, ◌-◌, List, [], ◌∷◌, ◌++◌, map, length, take, drop}
use Rattle.std.specs.Prelude.{get_or}
use Rattle.mm_text.specs.Bytes.{Token}
use Rattle.mm_database.specs.Proofs.{ProofTree, proof_node, ProofForest, no_proof, more_proofs}

-- a label, and the numbers of the parts
abbrev pub Node : Type 0
Node = ℕ × List ℕ

-- all nodes, and the nodes on the stack, the last one on top
abbrev pub Table : Type 0
Table = List Node × List ℕ

abbrev pub empty_table : Table
empty_table = ([], [])

abbrev pub depth_of : Table → ℕ
depth_of table = length table.1

abbrev pub forest_of : List ProofTree → ProofForest
forest_of [] = no_proof
forest_of (tree ∷ trees) = more_proofs tree (forest_of trees)

-- a list that grows at its end: each new element is made from the list before it
abbrev pub grown : {A X : Type 0} → (List A → X → A) → List A → List X → List A
grown step made [] = made
grown step made (x ∷ xs) = grown step (made ++ step made x ∷ []) xs

-- the tree with this number; a number without a tree stands for a tree without a label
abbrev pub tree_at : List ProofTree → ℕ → ProofTree
tree_at trees n = get_or trees n (proof_node [] no_proof)

abbrev pub node_over : (ℕ → Token) → List ProofTree → Node → ProofTree
node_over token trees node = proof_node (token node.0) (forest_of (map (tree_at trees) node.1))

-- the tree of each node, if labels are spelled in this way
abbrev pub node_trees : (ℕ → Token) → List Node → List ProofTree
node_trees token nodes = grown (node_over token) [] nodes

abbrev pub tree_of : (ℕ → Token) → Table → ℕ → ProofTree
tree_of token table n = tree_at (node_trees token table.0) n

-- the trees on the stack
abbrev pub stack_trees : (ℕ → Token) → Table → List ProofTree
stack_trees token table = map (tree_of token table) table.1

-- the trees after a label has taken the last ones
abbrev pub with_cited : Token → ℕ → List ProofTree → List ProofTree
with_cited label takes trees =
    take (length trees - takes) trees
    ++ proof_node label (forest_of (drop (length trees - takes) trees)) ∷ []

-- the number is one of a node
abbrev pub IsNodeOf : Table → ℕ → Type 0
IsNodeOf table n = n < length table.0

-- each node is still there, with its tree
abbrev pub KeepsNodes : Table → Table → Type 0
KeepsNodes old new =
    (n : ℕ) → IsNodeOf old n
    → IsNodeOf new n × ((token : ℕ → Token) → tree_of token new n ≡ tree_of token old n)

-- the node is one whose tree is on top
abbrev pub IsOnTop : Table → ℕ → Type 0
IsOnTop table n =
    IsNodeOf table n × ((token : ℕ → Token) (trees : List ProofTree) (tree : ProofTree)
    → stack_trees token table ≡ trees ++ tree ∷ [] → tree_of token table n ≡ tree)

-- all numbers of a list are below this one
abbrev pub AllBelow : ℕ → List ℕ → Type 0
AllBelow bound [] = Unit {0}
AllBelow bound (n ∷ ns) = (n < bound) × AllBelow bound ns

-- the labels of the nodes are below this number
abbrev pub LabelsBelow : ℕ → Table → Type 0
LabelsBelow bound table = AllBelow bound (map (λ node. node.0) table.0)
