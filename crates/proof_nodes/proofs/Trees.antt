-- The trees of nodes, and what a label makes of the trees on the stack.
use Rattle.std.proofs.Common.{◌≡◌, ℕ, zero, suc, ◌-◌, ◌<◌, inl, inr, List, [], ◌∷◌}
use Rattle.std.proofs.Common.{◌++◌, length, map, take, drop, Some, refl, sym, ap, ◌∙◌}
use Rattle.std.proofs.Common.{subst, arith}
use Rattle.std.specs.Prelude.{slice_get}
use Rattle.std.proofs.lemmas.List.{get_or_append_left, map-append}
use Rattle.std.proofs.lemmas.Option.{get_or_from_slice_get}
use Rattle.mm_text.specs.Bytes.{Token}
use Rattle.mm_database.specs.Proofs.{ProofTree, proof_node, no_proof}
use Rattle.proof_nodes.specs.Tables.{Node, tree_at, node_over, node_trees, forest_of}
use Rattle.proof_nodes.specs.Tables.{with_cited, AllBelow}
use Rattle.proof_nodes.specs.Links.{Gains}
use Rattle.proof_nodes.proofs.Growing.{grown-push, length-grown, grown-at}

-- the parts of each node are nodes before it
abbrev pub AreOrdered : List Node → Type 0
AreOrdered nodes = (i : ℕ) (node : Node) → slice_get nodes i ≡ Some node → AllBelow i node.1

pub length-trees : (token : ℕ → Token) (nodes : List Node)
    → length (node_trees token nodes) ≡ length nodes
length-trees token nodes = omega (arith, length-grown (node_over token) [] nodes)

pub trees-below : (trees more : List ProofTree) (ns : List ℕ) → AllBelow (length trees) ns
    → map (tree_at (trees ++ more)) ns ≡ map (tree_at trees) ns
trees-below trees more [] h = refl
trees-below trees more (n ∷ ns) h =
    let first : tree_at (trees ++ more) n ≡ tree_at trees n =
    get_or_append_left trees more (proof_node [] no_proof) n h.0 in
    ap (λ t. t ∷ map (tree_at (trees ++ more)) ns) first
    ∙ ap (λ ts. tree_at trees n ∷ ts) (trees-below trees more ns h.1)

node-stable : (token : ℕ → Token) (trees more : List ProofTree) (node : Node)
    → AllBelow (length trees) node.1
    → node_over token (trees ++ more) node ≡ node_over token trees node
node-stable token trees more node h =
    ap (λ ts. proof_node (token node.0) (forest_of ts)) (trees-below trees more node.1 h)

-- what the tree of a node is
pub tree_of-node : (token : ℕ → Token) (nodes : List Node) (n : ℕ) (node : Node)
    → AllBelow n node.1 → slice_get nodes n ≡ Some node
    → tree_at (node_trees token nodes) n ≡ node_over token (node_trees token nodes) node
tree_of-node token nodes n node fits is =
    get_or_from_slice_get (node_trees token nodes) n _ (proof_node [] no_proof)
    (grown-at (node_over token) (λ m x. AllBelow m x.1) (node-stable token) [] nodes n n node
    (omega arith) fits is)

-- the trees of nodes when a node was added, or none was
pub trees-gained : (token : ℕ → Token) (node : Node) (old new : List Node) → Gains node old new
    → (more : List ProofTree) × (node_trees token new ≡ node_trees token old ++ more)
trees-gained token node old new (inl same) =
    ([], ap (node_trees token) same ∙ sym (append-nil-of (node_trees token old)))
  where
    append-nil-of : (xs : List ProofTree) → xs ++ [] ≡ xs
    append-nil-of [] = refl
    append-nil-of (x ∷ xs) = ap (λ ys. x ∷ ys) (append-nil-of xs)
trees-gained token node old new (inr more) = (
  node_over token (node_trees token old) node ∷ [],
  ap (node_trees token) more ∙ grown-push (node_over token) [] old node,
)

pub tree-kept : (token : ℕ → Token) (node : Node) (old new : List Node) (n : ℕ)
    → Gains node old new → n < length old
    → tree_at (node_trees token new) n ≡ tree_at (node_trees token old) n
tree-kept token node old new n gains lt =
    let r : (more : List ProofTree) × (node_trees token new ≡ node_trees token old ++ more) =
    trees-gained token node old new gains in
    let below : n < length (node_trees token old) = omega (arith, lt, length-trees token old) in
    ap (λ ts. tree_at ts n) r.1
    ∙ get_or_append_left (node_trees token old) r.0 (proof_node [] no_proof) n below

pub trees-kept : (token : ℕ → Token) (node : Node) (old new : List Node) (ns : List ℕ)
    → Gains node old new → AllBelow (length old) ns
    → map (tree_at (node_trees token new)) ns ≡ map (tree_at (node_trees token old)) ns
trees-kept token node old new ns gains below =
    let r : (more : List ProofTree) × (node_trees token new ≡ node_trees token old ++ more) =
    trees-gained token node old new gains in
    ap (λ ts. map (tree_at ts) ns) r.1
    ∙ trees-below (node_trees token old) r.0 ns
    (subst (λ n. AllBelow n ns) (sym (length-trees token old)) below)

pub map-take : {A B : Type 0} (f : A → B) (n : ℕ) (xs : List A)
    → map f (take n xs) ≡ take n (map f xs)
map-take f zero xs = refl
map-take f (suc n) [] = refl
map-take f (suc n) (x ∷ xs) = ap (λ ys. f x ∷ ys) (map-take f n xs)

pub map-drop : {A B : Type 0} (f : A → B) (n : ℕ) (xs : List A)
    → map f (drop n xs) ≡ drop n (map f xs)
map-drop f zero xs = refl
map-drop f (suc n) [] = refl
map-drop f (suc n) (x ∷ xs) = map-drop f n xs

pub length-mapped : {A B : Type 0} (f : A → B) (xs : List A) → length (map f xs) ≡ length xs
length-mapped f [] = refl
length-mapped f (x ∷ xs) = ap suc (length-mapped f xs)

pub AllBelow-take : (bound n : ℕ) (xs : List ℕ) → AllBelow bound xs → AllBelow bound (take n xs)
AllBelow-take bound zero xs h = tt
AllBelow-take bound (suc n) [] h = tt
AllBelow-take bound (suc n) (x ∷ xs) h = (h.0, AllBelow-take bound n xs h.1)

pub AllBelow-drop : (bound n : ℕ) (xs : List ℕ) → AllBelow bound xs → AllBelow bound (drop n xs)
AllBelow-drop bound zero xs h = h
AllBelow-drop bound (suc n) [] h = tt
AllBelow-drop bound (suc n) (x ∷ xs) h = AllBelow-drop bound n xs h.1

-- the trees on the stack after a label
pub cited : (token : ℕ → Token) (label takes below n : ℕ) (old new : List Node) (stack : List ℕ)
    → below ≡ length stack - takes → AllBelow (length old) stack
    → Gains (label, drop below stack) old new → slice_get new n ≡ Some (label, drop below stack)
    → AllBelow n (drop below stack)
    → map (tree_at (node_trees token new)) (take below stack ++ n ∷ [])
    ≡ with_cited (token label) takes (map (tree_at (node_trees token old)) stack)
cited token label takes below n old new stack at all gains is fits =
    let trees = map (tree_at (node_trees token old)) stack in
    let len : length (map (tree_at (node_trees token old)) stack) - takes ≡ below =
    ap (λ k. k - takes) (length-mapped (tree_at (node_trees token old)) stack) ∙ sym at in
    let front : map (tree_at (node_trees token new)) (take below stack)
    ≡ take below (map (tree_at (node_trees token old)) stack) =
    trees-kept token (label, drop below stack) old new (take below stack) gains
    (AllBelow-take (length old) below stack all)
    ∙ map-take (tree_at (node_trees token old)) below stack in
    let back : map (tree_at (node_trees token new)) (drop below stack)
    ≡ drop below (map (tree_at (node_trees token old)) stack) =
    trees-kept token (label, drop below stack) old new (drop below stack) gains
    (AllBelow-drop (length old) below stack all)
    ∙ map-drop (tree_at (node_trees token old)) below stack in
    let top : tree_at (node_trees token new) n
    ≡ proof_node (token label)
    (forest_of (drop below (map (tree_at (node_trees token old)) stack))) =
    tree_of-node token new n (label, drop below stack) fits is
    ∙ ap (λ ts. proof_node (token label) (forest_of ts)) back in
    map-append (tree_at (node_trees token new)) (take below stack) (n ∷ [])
    ∙ ap (λ ts. ts ++ tree_at (node_trees token new) n ∷ []) front
    ∙ ap (λ t. take below (map (tree_at (node_trees token old)) stack) ++ t ∷ []) top
    ∙ ap (λ k. take k (map (tree_at (node_trees token old)) stack)
    ++ proof_node (token label) (forest_of (drop k (map (tree_at (node_trees token old)) stack)))
    ∷ []) (sym len)
