-- Where each node is one for its label, the nodes from each place on are those of a tree. A node
-- that tries rows in order may be replaced.
use Rattle.std.proofs.Common.{◌≡◌, ◌+◌, ◌<◌, ◌≤◌, ℕ, zero, suc, Bool}
use Rattle.std.proofs.Common.{false, List, [], ◌∷◌, ◌++◌, length, Some, slice_get}
use Rattle.std.proofs.Common.{◌⊎◌, inl, inr, set, sym, refl, ◌∙◌, ap, subst, arith}
use Rattle.std.specs.Prelude.{◌||◌}
use Rattle.std.proofs.lemmas.List.{length-append, length-set}
use Rattle.pat_matrix.specs.Heads.{PlainHead, head_eq}
use Rattle.pat_matrix.specs.Rows.{specialized}
use Rattle.pat_matrix.specs.MatchTrees.{MatchTree, end, hit, test, in_order, Branches, no_branch}
use Rattle.pat_matrix.specs.MatchTrees.{branch, has_branch}
use Rattle.pat_matrix.specs.MatchTrees.{IsMatchTree, AreBranches}
use Rattle.match_tree.specs.Labels.{Label}
use Rattle.match_tree.specs.FlatNodes.{PlainNode, end_node, hit_node, test_node, try_node}
use Rattle.match_tree.specs.FlatNodes.{has_head, AreBranchPlaces, IsNode, AllNodes, Grows}
use Rattle.match_tree.specs.FlatNodes.{BranchesGrow}
use Rattle.match_tree.specs.NodeLaws.{NodeIsReplaced}

-- a tree for a label, whose nodes are these
abbrev pub HasTree : List (ℕ × ℕ) → List PlainNode → ℕ → Label → Type 0
HasTree pairs nodes k l =
    (t : MatchTree) × Grows nodes k t × IsMatchTree pairs t l.from l.found l.rows

-- trees for the places of branches
abbrev pub HaveTrees : List (ℕ × ℕ) → List PlainNode → ℕ → List ℕ → Label → List PlainHead
    → List ℕ → Type 0
HaveTrees pairs nodes k position l hs js =
    (bs : Branches) × BranchesGrow nodes k hs js bs
    × AreBranches pairs bs position l.from l.found l.rows
    × ((g : PlainHead) → has_branch bs g ≡ has_head hs g)

moved : (pairs : List (ℕ × ℕ)) (nodes : List PlainNode) (j : ℕ) (l m : Label) → l ≡ m
    → HasTree pairs nodes j l → HasTree pairs nodes j m
moved pairs nodes j l m same h =
    let P : Label → Type 0 = HasTree pairs nodes j in subst P same h

-- one branch more
more_trees : (pairs : List (ℕ × ℕ)) (nodes : List PlainNode) (k : ℕ) (position : List ℕ)
    (l : Label) (h : PlainHead) (hs : List PlainHead) (j : ℕ) (js : List ℕ)
    → has_head hs h ≡ false → k < j
    → HasTree pairs nodes j (record {
      from = l.from;
      found = l.found ++ (position, Some h) ∷ [];
      rows = specialized pairs position h l.rows;
    })
    → HaveTrees pairs nodes k position l hs js
    → HaveTrees pairs nodes k position l (h ∷ hs) (j ∷ js)
more_trees pairs nodes k position l h hs j js once lt own (bs, grow, are, heads) = (
  branch h own.0 bs,
  (hs, js, j, refl, refl, lt, own.1, grow),
  (heads h ∙ once, own.2, are),
  λ g. ap (λ (b : Bool). head_eq h g || b) (heads g),
)

branch_trees : (pairs : List (ℕ × ℕ)) (labels : ℕ → Label) (nodes : List PlainNode) (k : ℕ)
    (position : List ℕ) (l : Label) (hs : List PlainHead) (js : List ℕ)
    → AreBranchPlaces pairs labels (length nodes) k position l hs js
    → ((j : ℕ) → k < j → j < length nodes → HasTree pairs nodes j (labels j))
    → HaveTrees pairs nodes k position l hs js
branch_trees pairs labels nodes k position l [] [] h trees =
    (no_branch, (refl, refl), tt, λ g. refl)
branch_trees pairs labels nodes k position l [] (j ∷ js) h trees = absurd h
branch_trees pairs labels nodes k position l (g ∷ hs) [] h trees = absurd h
branch_trees pairs labels nodes k position l (g ∷ hs) (j ∷ js) (once, lt, within, is, rest)
    trees =
    more_trees pairs nodes k position l g hs j js once lt
    (moved pairs nodes j (labels j) _ is (trees j lt within))
    (branch_trees pairs labels nodes k position l hs js rest trees)

node_tree : (pairs : List (ℕ × ℕ)) (labels : ℕ → Label) (nodes : List PlainNode) (k : ℕ)
    (n : PlainNode) → slice_get nodes k ≡ Some n
    → IsNode pairs labels (length nodes) k (labels k) n
    → ((j : ℕ) → k < j → j < length nodes → HasTree pairs nodes j (labels j))
    → HasTree pairs nodes k (labels k)
node_tree pairs labels nodes k end_node at h trees = (end, at, h)
node_tree pairs labels nodes k (hit_node r spots j) at
    (ps, later, is, found, own, lt, within, label) trees =
    let below = moved pairs nodes j (labels j) _ label (trees j lt within) in
    (hit r ps below.0, (spots, j, at, lt, below.1), (later, is, found, below.2))
node_tree pairs labels nodes k (test_node position hs js other) at
    (asks, reached, new, heads, places, lt, within, label) trees =
    let below = moved pairs nodes other (labels other) _ label (trees other lt within) in
    let bs = branch_trees pairs labels nodes k position (labels k) hs js places trees in (
      test position bs.0 below.0,
      (hs, js, other, at, lt, bs.1, below.1),
      (asks, reached, new, λ h. bs.3 h ∙ heads h, bs.2, below.2),
    )
node_tree pairs labels nodes k (try_node m) at same trees = (in_order m, at, same)

pub there_is : {X : Type 0} (xs : List X) (k : ℕ) → k < length xs
    → (x : X) × (slice_get xs k ≡ Some x)
there_is [] k lt = absurd (omega arith)
there_is (x ∷ xs) zero lt = (x, refl)
there_is (x ∷ xs) (suc k) lt = there_is xs k (omega arith)

-- by the number of places from there on
grown_within : (pairs : List (ℕ × ℕ)) (labels : ℕ → Label) (nodes : List PlainNode)
    → AllNodes pairs labels nodes → (fuel k : ℕ) → k < length nodes → length nodes ≤ k + fuel
    → HasTree pairs nodes k (labels k)
grown_within pairs labels nodes all zero k lt enough = absurd (omega arith)
grown_within pairs labels nodes all (suc fuel) k lt enough =
    let n = there_is nodes k lt in
    node_tree pairs labels nodes k n.0 n.1 (all k n.0 n.1)
    (λ j later within. grown_within pairs labels nodes all fuel j within (omega arith))

pub grown : (pairs : List (ℕ × ℕ)) (labels : ℕ → Label) (nodes : List PlainNode) (k : ℕ)
    → AllNodes pairs labels nodes → k < length nodes → HasTree pairs nodes k (labels k)
grown pairs labels nodes k all lt =
    grown_within pairs labels nodes all (length nodes) k lt (omega arith)

-- ---- more places, and a node in the place of another

-- the labels of the first places stay
abbrev pub SameLabels : (ℕ → Label) → (ℕ → Label) → ℕ → Type 0
SameLabels old new count = (j : ℕ) → j < count → new j ≡ old j

branch_places-more : (pairs : List (ℕ × ℕ)) (old new : ℕ → Label) (few many k : ℕ)
    (position : List ℕ) (l : Label) (hs : List PlainHead) (js : List ℕ) → few ≤ many
    → SameLabels old new few → AreBranchPlaces pairs old few k position l hs js
    → AreBranchPlaces pairs new many k position l hs js
branch_places-more pairs old new few many k position l [] [] le same h = tt
branch_places-more pairs old new few many k position l [] (j ∷ js) le same h = absurd h
branch_places-more pairs old new few many k position l (g ∷ hs) [] le same h = absurd h
branch_places-more pairs old new few many k position l (g ∷ hs) (j ∷ js) le same
    (once, lt, within, is, rest) = (
      once,
      lt,
      omega arith,
      same j within ∙ is,
      branch_places-more pairs old new few many k position l hs js le same rest,
    )

pub is_node-more : (pairs : List (ℕ × ℕ)) (old new : ℕ → Label) (few many k : ℕ) (l : Label)
    (n : PlainNode) → few ≤ many → SameLabels old new few → IsNode pairs old few k l n
    → IsNode pairs new many k l n
is_node-more pairs old new few many k l end_node le same h = h
is_node-more pairs old new few many k l (hit_node r spots j) le same
    (ps, later, is, found, own, lt, within, label) =
    (ps, later, is, found, own, lt, omega arith, same j within ∙ label)
is_node-more pairs old new few many k l (test_node position hs js other) le same
    (asks, reached, untested, heads, places, lt, within, label) = (
      asks,
      reached,
      untested,
      heads,
      branch_places-more pairs old new few many k position l hs js le same places,
      lt,
      omega arith,
      same other within ∙ label,
    )
is_node-more pairs old new few many k l (try_node m) le same h = h

-- an item of two lists is one of the first or of the second
pub append_cases : {X : Type 0} (xs ys : List X) (j : ℕ) (m : X) → slice_get (xs ++ ys) j ≡ Some m
    → ((j < length xs) × (slice_get xs j ≡ Some m))
    ⊎ ((i : ℕ) × ((j ≡ length xs + i) × (slice_get ys i ≡ Some m)))
append_cases [] ys j m e = inr (j, (omega arith, e))
append_cases (x ∷ xs) ys zero m e = inl (omega arith, e)
append_cases (x ∷ xs) ys (suc j) m e = told (append_cases xs ys j m e) where
  told : ((j < length xs) × (slice_get xs j ≡ Some m))
      ⊎ ((i : ℕ) × ((j ≡ length xs + i) × (slice_get ys i ≡ Some m)))
      → ((suc j < length (x ∷ xs)) × (slice_get (x ∷ xs) (suc j) ≡ Some m))
      ⊎ ((i : ℕ) × ((suc j ≡ length (x ∷ xs) + i) × (slice_get ys i ≡ Some m)))
  told (inl h) = inl (omega (arith, h.0), h.1)
  told (inr h) = inr (h.0, (omega (arith, h.1.0), h.1.1))

-- an item of a list in which one was replaced, with more behind: that one, another, or one of those
abbrev pub AfterSet : {X : Type 0} → List X → List X → ℕ → X → ℕ → X → Type 0
AfterSet xs ys k n j m =
    ((j ≡ k) × (n ≡ m))
    ⊎ (((j < length xs) × (slice_get xs j ≡ Some m))
    ⊎ ((i : ℕ) × ((j ≡ length xs + i) × (slice_get ys i ≡ Some m))))

pub after_set : {X : Type 0} (xs ys : List X) (k : ℕ) (n : X) (j : ℕ) (m : X) → k < length xs
    → slice_get (set xs k n ++ ys) j ≡ Some m → AfterSet xs ys k n j m
after_set [] ys k n j m lt e = absurd (omega arith)
after_set (x ∷ xs) ys zero n zero m lt e = inl (refl, cc)
after_set (x ∷ xs) ys zero n (suc j) m lt e = inr (append_cases (x ∷ xs) ys (suc j) m e)
after_set (x ∷ xs) ys (suc k) n zero m lt e = inr (inl (omega arith, e))
after_set (x ∷ xs) ys (suc k) n (suc j) m lt e = told (after_set xs ys k n j m (omega arith) e)
  where
    told : AfterSet xs ys k n j m → AfterSet (x ∷ xs) ys (suc k) n (suc j) m
    told (inl h) = inl (ap suc h.0, h.1)
    told (inr (inl h)) = inr (inl (omega (arith, h.0), h.1))
    told (inr (inr h)) = inr (inr (h.0, (omega (arith, h.1.0), h.1.1)))

pub node_is_replaced : NodeIsReplaced
node_is_replaced pairs old new nodes more k n lt all same own others j m at =
    let count : length (set nodes k n ++ more) ≡ length nodes + length more =
    length-append (set nodes k n) more
    ∙ ap (λ (c : ℕ). c + length more) (length-set nodes k n) in
    let P : ℕ → Type 0 = λ c. IsNode pairs new c j (new j) m in
    subst P (sym count) (told (after_set nodes more k n j m lt at)) where
      told : AfterSet nodes more k n j m
          → IsNode pairs new (length nodes + length more) j (new j) m
      told (inl h) =
          let Q : ℕ → PlainNode → Type 0 =
          λ i c. IsNode pairs new (length nodes + length more) i (new i) c in
          let R : Label → Type 0 =
          λ l. IsNode pairs new (length nodes + length more) k l n in
          let A : ℕ → Type 0 = λ i. Q i m in
          let B : PlainNode → Type 0 = λ c. Q k c in
          subst A (sym h.0) (subst B h.1 (subst R (sym (same k lt)) own))
      told (inr (inl h)) =
          let R : Label → Type 0 =
          λ l. IsNode pairs new (length nodes + length more) j l m in
          subst R (sym (same j h.0))
          (is_node-more pairs old new (length nodes) (length nodes + length more) j (old j) m
          (omega arith) same (all j m h.1))
      told (inr (inr h)) =
          let A : ℕ → Type 0 =
          λ i. IsNode pairs new (length nodes + length more) i (new i) m in
          subst A (sym h.1.0) (others h.0 m h.1.1)
