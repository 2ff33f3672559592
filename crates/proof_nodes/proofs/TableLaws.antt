-- Tables as they are held: links, keys of nodes, and a stack.
use Rattle.std.proofs.Common.{◌≡◌, ℕ, zero, suc, ◌+◌, ◌-◌, ◌<◌, ◌≤◌, ◌⊎◌, inl, inr, List, [], ◌∷◌}
use Rattle.std.proofs.Common.{◌++◌, length, map, take, drop, Some, refl, sym, ap, ◌∙◌, subst}
use Rattle.std.proofs.Common.{arith, Result, Ok, Err}
use Rattle.std.specs.Prelude.{slice_get, IfOk, option_map}
use Rattle.std.proofs.lemmas.List.{length-append, length-drop, map-append}
use Rattle.std.proofs.lemmas.Option.{slice_get-map}
use Rattle.proof_nodes.specs.Tables.{Node, AllBelow, KeepsNodes}
use Rattle.proof_nodes.specs.Links.{Link, parts_of, Gains, KeepsChains}
use Rattle.proof_nodes.specs.TableView.{node_of, nodes_of, AreKeys}
use Rattle.proof_nodes.proofs.Growing.{slice_get-push, slice_get-map-some, slice_get-seam}
use Rattle.proof_nodes.proofs.Growing.{AllBelow-append}
use Rattle.proof_nodes.proofs.Trees.{tree-kept, length-mapped}

pub nodes-kept : (old new : List Link) (keys : List (ℕ × ℕ)) → KeepsChains old new
    → ((i : ℕ) (key : ℕ × ℕ) → slice_get keys i ≡ Some key → key.1 ≤ length old)
    → nodes_of new keys ≡ nodes_of old keys
nodes-kept old new [] kept h = refl
nodes-kept old new (key ∷ keys) kept h =
    let first : node_of new key ≡ node_of old key =
    ap (λ (ns : List ℕ). (key.0, ns)) (kept.1 key.1 (h 0 key refl)) in
    ap (λ (n : Node). n ∷ nodes_of new keys) first
    ∙ ap (λ (ns : List Node). node_of old key ∷ ns)
    (nodes-kept old new keys kept (λ i other is. h (suc i) other is))

pub keys-kept : (old new : List Link) (keys : List (ℕ × ℕ)) → KeepsChains old new
    → AreKeys old keys → AreKeys new keys
keys-kept old new keys kept are i key is =
    let k : (key.1 ≤ length old) × AllBelow i (parts_of old key.1) = are i key is in
    let le : key.1 ≤ length old = k.0 in
    let more : length old ≤ length new = kept.0 in
    (omega (arith, le, more), subst (AllBelow i) (sym (kept.1 key.1 le)) k.1)

key_more : (links : List Link) (keys : List (ℕ × ℕ)) (key : ℕ × ℕ) (i : ℕ) (other : ℕ × ℕ)
    → AreKeys links keys → key.1 ≤ length links
    → AllBelow (length keys) (parts_of links key.1)
    → (slice_get keys i ≡ Some other) ⊎ ((i ≡ length keys) × (key ≡ other))
    → (other.1 ≤ length links) × AllBelow i (parts_of links other.1)
key_more links keys key i other are le below (inl p) = are i other p
key_more links keys key i other are le below (inr p) =
    subst (λ (k : ℕ × ℕ). (k.1 ≤ length links) × AllBelow i (parts_of links k.1)) p.1
    (le, subst (λ n. AllBelow n (parts_of links key.1)) (sym p.0) below)

pub keys-more : (links : List Link) (keys new : List (ℕ × ℕ)) (key : ℕ × ℕ)
    → AreKeys links keys → key.1 ≤ length links
    → AllBelow (length keys) (parts_of links key.1) → Gains key keys new → AreKeys links new
keys-more links keys new key are le below (inl same) = subst (AreKeys links) (sym same) are
keys-more links keys new key are le below (inr more) =
    subst (AreKeys links) (sym more)
    (λ i other is. key_more links keys key i other are le below
    (slice_get-push keys key i other is))

pub nodes-gain : (links : List Link) (keys new : List (ℕ × ℕ)) (label chain : ℕ)
    (parts : List ℕ) → Gains (label, chain) keys new → parts_of links chain ≡ parts
    → Gains (label, parts) (nodes_of links keys) (nodes_of links new)
nodes-gain links keys new label chain parts (inl same) is = inl (ap (nodes_of links) same)
nodes-gain links keys new label chain parts (inr more) is =
    inr (ap (nodes_of links) more ∙ map-append (node_of links) keys ((label, chain) ∷ [])
    ∙ ap (λ (ns : List ℕ). nodes_of links keys ++ (label, ns) ∷ []) is)

pub length-gain : {A : Type 0} (x : A) (old new : List A) → Gains x old new
    → length old ≤ length new
length-gain x old new (inl same) =
    let e : length new ≡ length old = ap length same in omega (arith, e)
length-gain x old new (inr more) =
    let e : length new ≡ length old + 1 = ap length more ∙ length-append old (x ∷ []) in
    omega (arith, e)

-- the nodes of keys have their parts before them
pub parts-below : (links : List Link) (keys : List (ℕ × ℕ)) (i : ℕ) (node : Node)
    → AreKeys links keys → slice_get (nodes_of links keys) i ≡ Some node → AllBelow i node.1
parts-below links keys i node are is =
    let k : (key : ℕ × ℕ) × (slice_get keys i ≡ Some key) × (node_of links key ≡ node) =
    slice_get-map-some (node_of links) keys i node is in
    subst (λ (n : Node). AllBelow i n.1) k.2 (are i k.0 k.1).1

pub keeps_nodes : (node : Node) (old new : List Node) (stack after : List ℕ) → Gains node old new
    → KeepsNodes (old, stack) (new, after)
keeps_nodes node old new stack after gains n lt = (
  let le : length old ≤ length new = length-gain node old new gains in
      let below : n < length old = lt in
      omega (arith, le, below),
  λ token. tree-kept token node old new n gains lt,
)

pub labels_more : (bound : ℕ) (node : Node) (old new : List Node) → Gains node old new
    → AllBelow bound (map (λ (n : Node). n.0) old) → node.0 < bound
    → AllBelow bound (map (λ (n : Node). n.0) new)
labels_more bound node old new (inl same) below lt =
    subst (λ (ns : List Node). AllBelow bound (map (λ (n : Node). n.0) ns)) (sym same) below
labels_more bound node old new (inr more) below lt =
    subst (AllBelow bound)
    (sym (ap (map (λ (n : Node). n.0)) more ∙ map-append (λ (n : Node). n.0) old (node ∷ [])))
    (AllBelow-append bound (map (λ (n : Node). n.0) old) (node.0 ∷ []) below (lt, tt))

-- what a key makes of the table
pub record Extended (links : List Link) (keys : List (ℕ × ℕ)) (parts : List ℕ) (label : ℕ)
    (more : List Link) (new : List (ℕ × ℕ)) : Type 0 where
  pub gains : Gains (label, parts) (nodes_of links keys) (nodes_of more new)
  pub are : AreKeys more new

pub extended : (links more : List Link) (keys new : List (ℕ × ℕ)) (label chain : ℕ)
    (parts : List ℕ) → AreKeys links keys → KeepsChains links more → chain ≤ length more
    → parts_of more chain ≡ parts → AllBelow (length keys) parts → Gains (label, chain) keys new
    → Extended links keys parts label more new
extended links more keys new label chain parts are kept le is below gains =
    let same : nodes_of more keys ≡ nodes_of links keys =
    nodes-kept links more keys kept (λ i key at. (are i key at).0) in
    record {
      gains =
          subst (λ (ns : List Node). Gains (label, parts) ns (nodes_of more new)) same
          (nodes-gain more keys new label chain parts gains is);
      are =
          keys-more more keys new (label, chain) (keys-kept links more keys kept are) le
          (subst (AllBelow (length keys)) (sym is) below) gains;
    }

pub links_only : (links more : List Link) (keys : List (ℕ × ℕ)) (parts : List ℕ) (label : ℕ)
    → AreKeys links keys → KeepsChains links more → Extended links keys parts label more keys
links_only links more keys parts label are kept =
    record {
      gains = inl (nodes-kept links more keys kept (λ i key at. (are i key at).0));
      are = keys-kept links more keys kept are;
    }

pub key-node : (links : List Link) (keys : List (ℕ × ℕ)) (i : ℕ) (key : ℕ × ℕ)
    → slice_get keys i ≡ Some key → slice_get (nodes_of links keys) i ≡ Some (node_of links key)
key-node links [] i key h = absurd (let z : ⊥ = cc in z)
key-node links (k ∷ keys) zero key h =
    let same : k ≡ key = cc in ap (λ (x : ℕ × ℕ). Some (node_of links x)) same
key-node links (k ∷ keys) (suc i) key h = key-node links keys i key h

take-all : {A : Type 0} (n : ℕ) (xs : List A) → length xs ≤ n → take n xs ≡ xs
take-all zero [] h = refl
take-all zero (x ∷ xs) h = absurd (omega (arith, h))
take-all (suc n) [] h = refl
take-all (suc n) (x ∷ xs) h = ap (λ ys. x ∷ ys) (take-all n xs (omega (arith, h)))

-- the last elements of a list, as a slice
pub parts_taken : (xs stack : List ℕ) (below : ℕ) → xs ≡ stack
    → take (length xs - below) (drop below xs) ≡ drop below stack
parts_taken xs stack below is =
    take-all (length xs - below) (drop below xs) (omega (arith, length-drop below xs))
    ∙ ap (drop below) is

pub if_ok : {A E : Type 0} (r : Result A E) (P Q : A → Type 0) → ((x : A) → P x → Q x)
    → IfOk r P → IfOk r Q
if_ok (Ok x) P Q f h = f x h
if_ok (Err e) P Q f h = tt

pub keys_longer : (node : Node) (links more : List Link) (keys new : List (ℕ × ℕ))
    → Gains node (nodes_of links keys) (nodes_of more new) → length keys ≤ length new
keys_longer node links more keys new gains =
    let le : length (nodes_of links keys) ≤ length (nodes_of more new) =
    length-gain node (nodes_of links keys) (nodes_of more new) gains in
    omega (arith, le, length-mapped (node_of links) keys, length-mapped (node_of more) new)

-- the tree of the last node of a stack
pub last-mapped : {A : Type 0} (f : ℕ → A) (ns : List ℕ) (n : ℕ) (xs : List A) (x : A)
    → Some n ≡ slice_get ns (length ns - 1) → map f ns ≡ xs ++ x ∷ [] → f n ≡ x
last-mapped {A} f ns n xs x is same =
    let len : length ns ≡ length xs + 1 =
    sym (length-mapped f ns) ∙ ap length same ∙ length-append xs (x ∷ []) in
    let at : length ns - 1 ≡ length xs = omega (arith, len) in
    let e : Some (f n) ≡ Some x =
    ap (option_map f) is ∙ sym (slice_get-map f ns (length ns - 1))
    ∙ ap (λ (ys : List A). slice_get ys (length ns - 1)) same
    ∙ ap (slice_get (xs ++ x ∷ [])) at ∙ slice_get-seam xs x [] in
    cc
