-- Forests and lists of trees correspond one to one; heights and normal forms of a forest's trees.
use Rattle.std.proofs.Common.{◌≡◌, ℕ, ◌+◌, ◌<◌, ◌≤◌, zero, suc, max, List, [], ◌∷◌, ◌++◌, length}
use Rattle.std.proofs.Common.{slice_get, ◌↔◌, Some, get_or, take, drop, refl, sym, ◌∙◌, ap, arith}
use Rattle.std.proofs.lemmas.Option.{slice_get_read, slice_get_within, get_or_from_slice_get}
use Rattle.std.proofs.lemmas.List.{take_more}
use Rattle.term_core.specs.Terms.{Tree, leaf, node, inj, Forest, no_tree, more_trees}
use Rattle.term_core.specs.Forests.{forest, trees, children, size, sizes}
use Rattle.term_core.specs.Terms.{height, heights, IsNoInjection, IsNormal, AreNormal, injected}
use Rattle.term_core.specs.NormalForms.{norm, norms}

pub trees-forest : (ts : List Tree) → trees (forest ts) ≡ ts
trees-forest [] = refl
trees-forest (t ∷ ts) = ap (λ us. t ∷ us) (trees-forest ts)

pub forest-trees : (ts : Forest) → forest (trees ts) ≡ ts
forest-trees no_tree = refl
forest-trees (more_trees t ts) = ap (more_trees t) (forest-trees ts)

-- lists with the same forest are equal
pub forest_injective : (ts us : List Tree) → forest ts ≡ forest us → ts ≡ us
forest_injective ts us e = sym (trees-forest ts) ∙ ap trees e ∙ trees-forest us

-- constructors with the same symbol are equal if and only if their lists of arguments are equal
pub same_node : (P : Type 0) (t u : Tree) (f g : ℕ) (ts us : List Tree) → t ≡ node f (forest ts)
    → u ≡ node g (forest us) → f ≡ g → P ↔ (ts ≡ us) → P ↔ (t ≡ u)
same_node P t u f g ts us e h fg same = (
  λ p. let q : ts ≡ us = same.0 p in cc,
  λ tu. let q : forest ts ≡ forest us = cc in same.1 (forest_injective ts us q),
)

-- the children of a constructor over a list
pub children-node : (t : Tree) (f : ℕ) (ts : List Tree) → t ≡ node f (forest ts) → children t ≡ ts
children-node t f ts e = ap children e ∙ trees-forest ts

-- child i of a constructor over a list
pub child_at : (t u : Tree) (f : ℕ) (ts : List Tree) (n i : ℕ) → t ≡ node f (forest ts)
    → n ≡ length ts → i < n → u ≡ get_or ts i u → slice_get (children t) i ≡ Some u
child_at t u f ts n i e len lt item =
    ap (λ us. slice_get us i) (children-node t f ts e) ∙ slice_get_read ts n i u len lt item

-- Every tree has a height of at least 1.
pub height_positive : (t : Tree) → 0 < height t
height_positive (leaf s v) = omega arith
height_positive (node f ts) = omega arith
height_positive (inj a b t) = omega arith

-- Every tree has a size of at least 1.
pub size_positive : (t : Tree) → 0 < size t
size_positive (leaf s v) = omega arith
size_positive (node f ts) = omega arith
size_positive (inj a b t) = omega arith

-- the size of the trees from i on is the size of the tree at i plus the size of the rest
pub sizes-drop : (ts : List Tree) (i : ℕ) (t : Tree) → slice_get ts i ≡ Some t
    → sizes (forest (drop i ts)) ≡ size t + sizes (forest (drop (i + 1) ts))
sizes-drop [] i t e = let no : ⊥ = cc in absurd no
sizes-drop (u ∷ ts) zero t e =
    let same : u ≡ t = cc in ap (λ (v : Tree). size v + sizes (forest ts)) same
sizes-drop (u ∷ ts) (suc i) t e =
    let next : suc i + 1 ≡ suc (i + 1) = omega arith in rw next (sizes-drop ts i t e)

pub heights-push : (ts : List Tree) (t : Tree)
    → heights (forest (ts ++ t ∷ [])) ≡ max (heights (forest ts)) (height t)
heights-push [] t = omega arith
heights-push (u ∷ ts) t = omega (arith, heights-push ts t)

pub AreNormal-push : (ts : List Tree) (t : Tree) → AreNormal (forest ts) → IsNormal t
    → AreNormal (forest (ts ++ t ∷ []))
AreNormal-push [] t a n = (n, tt)
AreNormal-push (u ∷ ts) t a n = (a.0, AreNormal-push ts t a.1 n)

-- no tree of a list is higher than the highest
pub height_of-item : (ts : List Tree) (i : ℕ) (t : Tree) → t ≡ get_or ts i t → i < length ts
    → height t ≤ heights (forest ts)
height_of-item [] i t e lt = absurd (omega arith)
height_of-item (u ∷ ts) zero t e lt = let same : height t ≡ height u = ap height e in omega arith
height_of-item (u ∷ ts) (suc i) t e lt = omega (arith, height_of-item ts i t e (omega arith))

-- a tree of a list of normal trees is normal
pub normal_of-item : (ts : List Tree) (i : ℕ) (t : Tree) → t ≡ get_or ts i t → i < length ts
    → AreNormal (forest ts) → IsNormal t
normal_of-item [] i t e lt a = absurd (omega arith)
normal_of-item (u ∷ ts) zero t e lt a = rw e a.0
normal_of-item (u ∷ ts) (suc i) t e lt a = normal_of-item ts i t e (omega arith) a.1

-- the same for a child that was looked up
pub height_of-child : (ts : List Tree) (i : ℕ) (t : Tree) → slice_get ts i ≡ Some t
    → height t ≤ heights (forest ts)
height_of-child [] i t e = cc
height_of-child (u ∷ ts) zero t e =
    let same : u ≡ t = cc in let h : height u ≡ height t = ap height same in omega arith
height_of-child (u ∷ ts) (suc i) t e = omega (arith, height_of-child ts i t e)

pub normal_of-child : (ts : List Tree) (i : ℕ) (t : Tree) → slice_get ts i ≡ Some t
    → AreNormal (forest ts) → IsNormal t
normal_of-child [] i t e a = let no : ⊥ = cc in absurd no
normal_of-child (u ∷ ts) zero t e a = let same : t ≡ u = cc in rw same a.0
normal_of-child (u ∷ ts) (suc i) t e a = normal_of-child ts i t e a.1

-- the first trees of a list, and one more
pub take_child : (ts : List Tree) (i : ℕ) (t : Tree) → slice_get ts i ≡ Some t
    → take (i + 1) ts ≡ take i ts ++ t ∷ []
take_child ts i t e =
    take_more ts i t (slice_get_within ts i t e)
    ∙ ap (λ (u : Tree). take i ts ++ u ∷ []) (get_or_from_slice_get ts i t t e)

-- an injection of a tree that is not an injection is built unchanged
pub injected-other : (a b : ℕ) (t : Tree) → IsNoInjection t → injected a b t ≡ inj a b t
injected-other a b (leaf s v) other = refl
injected-other a b (node f ts) other = refl
injected-other a b (inj c d t) other = absurd other

-- injections in a row become one from the innermost source sort to the outermost target sort
pub injected-injected : (a b c d : ℕ) (t : Tree) → injected a b (injected c d t) ≡ injected c b t
injected-injected a b c d (leaf s v) = refl
injected-injected a b c d (node f ts) = refl
injected-injected a b c d (inj x y t) = refl

pub IsNormal-injected : (a b : ℕ) (t : Tree) → IsNormal t → IsNormal (injected a b t)
IsNormal-injected a b (leaf s v) n = (tt, n)
IsNormal-injected a b (node f ts) n = (tt, n)
IsNormal-injected a b (inj c d t) n = n

pub height-injected_le : (a b : ℕ) (t : Tree) → height t ≤ height (injected a b t)
height-injected_le a b (leaf s v) = omega arith
height-injected_le a b (node f ts) = omega arith
height-injected_le a b (inj c d t) = omega arith

-- A normal form is normal, and a normal tree is its own normal form.
mutual
  pub IsNormal-norm : (t : Tree) → IsNormal (norm t)
  IsNormal-norm (leaf s v) = tt
  IsNormal-norm (node f ts) = AreNormal-norms ts
  IsNormal-norm (inj a b t) = IsNormal-injected a b (norm t) (IsNormal-norm t)

  pub AreNormal-norms : (ts : Forest) → AreNormal (norms ts)
  AreNormal-norms no_tree = tt
  AreNormal-norms (more_trees t ts) = (IsNormal-norm t, AreNormal-norms ts)

mutual
  pub norm-normal : (t : Tree) → IsNormal t → norm t ≡ t
  norm-normal (leaf s v) n = refl
  norm-normal (node f ts) n = ap (node f) (norms-normal ts n)
  norm-normal (inj a b t) n = ap (injected a b) (norm-normal t n.1) ∙ injected-other a b t n.0

  pub norms-normal : (ts : Forest) → AreNormal ts → norms ts ≡ ts
  norms-normal no_tree n = refl
  norms-normal (more_trees t ts) n =
      ap (λ u. more_trees u (norms ts)) (norm-normal t n.0)
      ∙ ap (more_trees t) (norms-normal ts n.1)
