-- Trees of a table whose labels get more tokens, and the numbers of tokens.
use Rattle.std.proofs.Common.{◌≡◌, ℕ, ◌+◌, ◌<◌, ◌≤◌, zero, suc, List, [], ◌∷◌, ◌++◌, length, map, refl}
use Rattle.std.proofs.Common.{ap, ◌∙◌, sym, subst, append-nil, append_assoc, length-append, arith}
use Rattle.std.proofs.Common.{Some, slice_get, Bool, true, false, cond}
use Rattle.std.specs.Prelude.{get_or, bytes_eq, if◌then◌else◌, ◌-◌, min, take, drop}
use Rattle.std.specs.List.{position, position_from, IsDistinct}
use Rattle.std.proofs.lemmas.Map.Keys.{apart_from_distinct, IsDistinct-tail}
use Rattle.std.proofs.lemmas.Bool.{false≢true}
use Rattle.std.specs.Global.{Vec}
use Rattle.std.proofs.lemmas.Iterator.Adapters.{position_from-zero}
use Rattle.std.proofs.lemmas.List.{map-append}
use Rattle.std.proofs.lemmas.Slice.Eq.{bytes_eq-Decides}
use Rattle.mm_text.specs.Bytes.{Token}
use Rattle.mm_database.specs.Proofs.{ProofTree, proof_node}
use Rattle.proof_nodes.specs.Compression.{AreToldApart}
use Rattle.proof_nodes.specs.Tables.{Node, Table, grown, forest_of, tree_at, node_over}
use Rattle.proof_nodes.specs.Tables.{stack_trees, tree_of, with_cited, AllBelow, LabelsBelow}
use Rattle.mm_proof.specs.Listings.{token_at}
use Rattle.mm_proof.specs.TableView.{tokens_of, AreNumbersOf, HasGrown}

-- a token that is there stays at its number
pub token_at-grown : (tokens more : List Token) (n : ℕ) → n < length tokens
    → token_at (tokens ++ more) n ≡ token_at tokens n
token_at-grown [] more n h = absurd (omega (arith, h))
token_at-grown (t ∷ tokens) more zero h = refl
token_at-grown (t ∷ tokens) more (suc n) h = token_at-grown tokens more n (omega (arith, h))

pub token_at-found : (tokens : List Token) (n : ℕ) (t : Token) → slice_get tokens n ≡ Some t
    → token_at tokens n ≡ t
token_at-found [] n t h = absurd (let z : ⊥ = cc in z)
token_at-found (u ∷ tokens) zero t h = cc
token_at-found (u ∷ tokens) (suc n) t h = token_at-found tokens n t h

pub found-within : (tokens : List Token) (n : ℕ) (t : Token) → slice_get tokens n ≡ Some t
    → n < length tokens
found-within [] n t h = absurd (let z : ⊥ = cc in z)
found-within (u ∷ tokens) zero t h = omega arith
found-within (u ∷ tokens) (suc n) t h = omega (arith, found-within tokens n t h)

-- the trees of nodes depend only on the tokens of their labels

grown-alike : (tokens more : List Token) (made : List ProofTree) (nodes : List Node)
    → AllBelow (length tokens) (map (λ n. n.0) nodes)
    → grown (node_over (token_at (tokens ++ more))) made nodes
    ≡ grown (node_over (token_at tokens)) made nodes
grown-alike tokens more made [] h = refl
grown-alike tokens more made (node ∷ nodes) h =
    ap (λ (t : Token). grown (node_over (token_at (tokens ++ more)))
    (made ++ proof_node t (forest_of (map (tree_at made) node.1)) ∷ []) nodes)
    (token_at-grown tokens more node.0 h.0)
    ∙ grown-alike tokens more (made ++ node_over (token_at tokens) made node ∷ []) nodes h.1

all-below : (low high : ℕ) (labels : List ℕ) → low ≤ high → AllBelow low labels
    → AllBelow high labels
all-below low high [] le h = h
all-below low high (label ∷ labels) le h =
    (omega (arith, le, h.0), all-below low high labels le h.1)

pub trees-grown : (old new : List Token) (table : Table) → HasGrown old new
    → LabelsBelow (length old) table
    → stack_trees (token_at new) table ≡ stack_trees (token_at old) table
trees-grown old new table (more, is) below =
    ap (λ (tokens : List Token). stack_trees (token_at tokens) table) is
    ∙ ap (λ (trees : List ProofTree). map (tree_at trees) table.1)
    (grown-alike old more [] table.0 below)

pub tree-grown : (old new : List Token) (table : Table) (n : ℕ) → HasGrown old new
    → LabelsBelow (length old) table
    → tree_of (token_at new) table n ≡ tree_of (token_at old) table n
tree-grown old new table n (more, is) below =
    ap (λ (tokens : List Token). tree_of (token_at tokens) table n) is
    ∙ ap (λ (trees : List ProofTree). tree_at trees n) (grown-alike old more [] table.0 below)

pub labels-grown : (old new : List Token) (table : Table) → HasGrown old new
    → LabelsBelow (length old) table → LabelsBelow (length new) table
labels-grown old new table (more, is) below =
    let longer : length new ≡ length old + length more =
    ap length is ∙ length-append old more in
    all-below (length old) (length new) (map (λ n. n.0) table.0) (omega (arith, longer)) below

pub grown-none : (tokens : List Token) → HasGrown tokens tokens
grown-none tokens = ([], sym (append-nil tokens))

pub grown-again : (old mid new : List Token) → HasGrown old mid → HasGrown mid new
    → HasGrown old new
grown-again old mid new (more, is) (others, are) =
    (more ++ others, are ∙ ap (λ ts. ts ++ others) is ∙ append_assoc old more others)

-- a set of tokens

abbrev Found : Token → ℕ → ℕ → List (Vec ℕ) → Type 0
Found token from i keys =
    (d : ℕ) × (i ≡ from + d) × (slice_get (tokens_of keys) d ≡ Some token)

found_at : (token : Token) (from i : ℕ) (keys : List (Vec ℕ))
    → position_from (λ (k : Vec ℕ). bytes_eq token k.items) from keys ≡ Some i
    → Found token from i keys
found_at token from i [] h = absurd (let z : ⊥ = cc in z)
found_at token from i (k ∷ keys) h =
    go (bytes_eq token k.items) refl h (found_at token (from + 1) i keys)
  where
    go : (b : Bool) → bytes_eq token k.items ≡ b
        → cond b (Some from)
        (position_from (λ (k : Vec ℕ). bytes_eq token k.items) (from + 1) keys) ≡ Some i
        → (position_from (λ (k : Vec ℕ). bytes_eq token k.items) (from + 1) keys ≡ Some i
        → Found token (from + 1) i keys) → Found token from i (k ∷ keys)
    go true same is behind =
        let first : from ≡ i = cc in
        (0, omega (arith, first), ap Some (sym ((bytes_eq-Decides token k.items).0 same)))
    go false same is behind =
        let w : Found token (from + 1) i keys = behind is in
        (suc w.0, omega (arith, w.1), w.2)

pub found_token : (token : Token) (i : ℕ) (keys : List (Vec ℕ))
    → position (λ (k : Vec ℕ). bytes_eq token k.items) keys ≡ Some i
    → slice_get (tokens_of keys) i ≡ Some token
found_token token i keys h =
    let w : Found token 0 i keys =
    found_at token 0 i keys
    (sym (position_from-zero (λ (k : Vec ℕ). bytes_eq token k.items) keys) ∙ h) in
    subst (λ (n : ℕ). slice_get (tokens_of keys) n ≡ Some token) (omega (arith, w.1)) w.2

pub stored_token : (token : Token) (i : ℕ) (k : Vec ℕ) (keys : List (Vec ℕ))
    → slice_get keys i ≡ Some k → bytes_eq token k.items ≡ true
    → slice_get (tokens_of keys) i ≡ Some token
stored_token token i k [] h same = absurd (let z : ⊥ = cc in z)
stored_token token zero k (l ∷ keys) h same =
    let first : l ≡ k = cc in
    ap (λ (v : Vec ℕ). Some v.items) first ∙ ap Some (sym ((bytes_eq-Decides token k.items).0 same))
stored_token token (suc i) k (l ∷ keys) h same = stored_token token i k keys h same

pub grown_by_one : (b : Bool) (old new : List (Vec ℕ)) (k : Vec ℕ)
    → new ≡ (if b then old else old ++ k ∷ []) → HasGrown (tokens_of old) (tokens_of new)
grown_by_one true old new k is = ([], ap tokens_of is ∙ sym (append-nil (tokens_of old)))
grown_by_one false old new k is =
    (k.items ∷ [], ap tokens_of is ∙ map-append (λ (v : Vec ℕ). v.items) old (k ∷ []))

less_the_least : (n takes : ℕ) → n - min takes n ≡ n - takes
less_the_least n takes = omega arith

-- no more than all trees can be taken
pub cited_of_all : (label : Token) (takes all : ℕ) (trees : List ProofTree) → all ≡ length trees
    → with_cited label (min takes all) trees ≡ with_cited label takes trees
cited_of_all label takes all trees is =
    ap (λ (m : ℕ). take m trees ++ proof_node label (forest_of (drop m trees)) ∷ [])
    (ap (λ (n : ℕ). length trees - min takes n) is ∙ less_the_least (length trees) takes)

-- numbers of tokens

numbers-grown : (old more : List Token) (ns : List ℕ) → AllBelow (length old) ns
    → map (token_at (old ++ more)) ns ≡ map (token_at old) ns
numbers-grown old more [] h = refl
numbers-grown old more (n ∷ ns) h =
    ap (λ (t : Token). t ∷ map (token_at (old ++ more)) ns) (token_at-grown old more n h.0)
    ∙ ap (λ (ts : List Token). token_at old n ∷ ts) (numbers-grown old more ns h.1)

all-below-more : (bound : ℕ) (ns : List ℕ) (n : ℕ) → AllBelow bound ns → n < bound
    → AllBelow bound (ns ++ n ∷ [])
all-below-more bound [] n h lt = (lt, tt)
all-below-more bound (m ∷ ns) n h lt = (h.0, all-below-more bound ns n h.1 lt)

pub one_more_number : (old new sought : List Token) (ns : List ℕ) (n : ℕ) (t : Token)
    → HasGrown old new → AreNumbersOf old sought ns → slice_get new n ≡ Some t
    → AreNumbersOf new (sought ++ t ∷ []) (ns ++ n ∷ [])
one_more_number old new sought ns n t (more, is) numbers found =
    let longer : length new ≡ length old + length more =
    ap length is ∙ length-append old more in (
      map-append (token_at new) ns (n ∷ [])
          ∙ ap (λ (ts : List Token). ts ++ token_at new n ∷ [])
          (ap (λ (tokens : List Token). map (token_at tokens) ns) is
          ∙ numbers-grown old more ns numbers.1 ∙ numbers.0)
          ∙ ap (λ (u : Token). sought ++ u ∷ []) (token_at-found new n t found),
      all-below-more (length new) ns n
          (all-below (length old) (length new) ns (omega (arith, longer)) numbers.1)
          (found-within new n t found),
    )

next_suc : {X : Type 0} (f : X → Token) (xs : List X) (i : ℕ) (d : X) → i < length xs
    → map f (take (suc i) xs) ≡ map f (take i xs) ++ f (get_or xs i d) ∷ []
next_suc f [] i d lt = absurd (omega (arith, lt))
next_suc f (x ∷ xs) zero d lt = refl
next_suc f (x ∷ xs) (suc i) d lt =
    ap (λ (ts : List Token). f x ∷ ts) (next_suc f xs i d (omega (arith, lt)))

pub next_token : {X : Type 0} (f : X → Token) (xs : List X) (i : ℕ) (d : X) → i < length xs
    → map f (take (i + 1) xs) ≡ map f (take i xs) ++ f (get_or xs i d) ∷ []
next_token f xs i d lt =
    let same : i + 1 ≡ suc i = omega arith in
    ap (λ (n : ℕ). map f (take n xs)) same ∙ next_suc f xs i d lt

-- the tokens of a set are told apart

never_same : (t u : Token) → bytes_eq t u ≡ false → t ≡ u → ⊥
never_same t u differ same = false≢true (sym differ ∙ (bytes_eq-Decides t u).1 same)

token_at-key : (d : Vec ℕ) (keys : List (Vec ℕ)) (n : ℕ) → n < length (tokens_of keys)
    → token_at (tokens_of keys) n ≡ (get_or keys n d).items
token_at-key d [] n lt = absurd (omega (arith, lt))
token_at-key d (k ∷ keys) zero lt = refl
token_at-key d (k ∷ keys) (suc n) lt = token_at-key d keys n (omega (arith, lt))

length-tokens : (keys : List (Vec ℕ)) → length (tokens_of keys) ≡ length keys
length-tokens [] = refl
length-tokens (k ∷ keys) = ap suc (length-tokens keys)

-- the tokens at two places differ, the first one first
apart : (k : Vec ℕ) (keys : List (Vec ℕ))
    → IsDistinct (λ (k l : Vec ℕ). bytes_eq k.items l.items) keys → (a b : ℕ) → a < b
    → b < length (tokens_of keys)
    → token_at (tokens_of keys) a ≡ token_at (tokens_of keys) b → ⊥
apart k keys h a b less lt same =
    let here : bytes_eq (get_or keys a k).items (get_or keys b k).items ≡ false =
    apart_from_distinct (λ (k l : Vec ℕ). bytes_eq k.items l.items) keys a b k h less
    (omega (arith, lt, length-tokens keys)) in
    never_same (get_or keys a k).items (get_or keys b k).items here
    (sym (token_at-key k keys a (omega (arith, less, lt))) ∙ same ∙ token_at-key k keys b lt)

pub told_apart : (keys : List (Vec ℕ))
    → IsDistinct (λ (k l : Vec ℕ). bytes_eq k.items l.items) keys
    → AreToldApart (length (tokens_of keys)) (token_at (tokens_of keys))
told_apart [] h a b lt lt' same = absurd (omega (arith, lt))
told_apart (k ∷ keys) h zero zero lt lt' same = refl
told_apart (k ∷ keys) h zero (suc b) lt lt' same =
    absurd (apart k (k ∷ keys) h zero (suc b) (omega arith) lt' same)
told_apart (k ∷ keys) h (suc a) zero lt lt' same =
    absurd (apart k (k ∷ keys) h zero (suc a) (omega arith) lt (sym same))
told_apart (k ∷ keys) h (suc a) (suc b) lt lt' same =
    ap suc (told_apart keys
    (IsDistinct-tail (λ (k l : Vec ℕ). bytes_eq k.items l.items) k keys h) a b
    (omega (arith, lt)) (omega (arith, lt')) same)
