-- The test of trees returns true exactly when they are equal.
use Rattle.std.proofs.Common.{◌≡◌, ◌&&◌, Bool, true, false, refl, ap}
use Rattle.std.specs.Bool.{Decides}
use Rattle.std.proofs.lemmas.Bool.{false≢true}
use Rattle.std.proofs.lemmas.Bool.Decides.{Decides-eqb, Decides-int_eq}
use Rattle.std.proofs.lemmas.Slice.Eq.{bytes_eq-Decides}
use Rattle.term_core.specs.Terms.{DomainValue, integer, truth, text, Tree, leaf, node, inj, Forest}
use Rattle.term_core.specs.Terms.{no_tree, more_trees}
use Rattle.term_core.specs.TreeTest.{truth_eq, value_eq, tree_eq, forest_eq}

-- the two tests of two parts decide the whole
both_decide : (b c : Bool) (P Q R : Type 0) → Decides b P → Decides c Q → (P → Q → R) → (R → P)
    → (R → Q) → Decides (b && c) R
both_decide true true P Q R p q join left right = (λ e. join (p.0 refl) (q.0 refl), λ r. refl)
both_decide true false P Q R p q join left right = (λ e. absurd (false≢true e), λ r. q.1 (right r))
both_decide false c P Q R p q join left right = (λ e. absurd (false≢true e), λ r. p.1 (left r))

-- values of two different forms are never equal
apart : (P : Type 0) → (P → ⊥) → Decides false P
apart P no_way = (λ e. absurd (false≢true e), λ p. absurd (no_way p))

Decides-truth_eq : (a b : Bool) → Decides (truth_eq a b) (a ≡ b)
Decides-truth_eq true true = (λ e. refl, λ e. refl)
Decides-truth_eq true false = apart _ (λ e. cc)
Decides-truth_eq false true = apart _ (λ e. cc)
Decides-truth_eq false false = (λ e. refl, λ e. refl)

pub Decides-value_eq : (v w : DomainValue) → Decides (value_eq v w) (v ≡ w)
Decides-value_eq (integer n) (integer m) =
    let test = Decides-int_eq n m in (λ e. ap integer (test.0 e), λ e. test.1 cc)
Decides-value_eq (truth a) (truth b) =
    let test = Decides-truth_eq a b in (λ e. ap truth (test.0 e), λ e. test.1 cc)
Decides-value_eq (text xs) (text ys) =
    let test = bytes_eq-Decides xs ys in (λ e. ap text (test.0 e), λ e. test.1 cc)
Decides-value_eq (integer n) (truth b) = apart _ (λ e. cc)
Decides-value_eq (integer n) (text ys) = apart _ (λ e. cc)
Decides-value_eq (truth a) (integer m) = apart _ (λ e. cc)
Decides-value_eq (truth a) (text ys) = apart _ (λ e. cc)
Decides-value_eq (text xs) (integer m) = apart _ (λ e. cc)
Decides-value_eq (text xs) (truth b) = apart _ (λ e. cc)

mutual
  pub Decides-tree_eq : (t u : Tree) → Decides (tree_eq t u) (t ≡ u)
  Decides-tree_eq (leaf s v) (leaf r w) =
      both_decide _ _ (s ≡ r) (v ≡ w) (leaf s v ≡ leaf r w) (Decides-eqb s r) (Decides-value_eq v w)
      (λ p q. cc) (λ e. cc) (λ e. cc)
  Decides-tree_eq (node f ts) (node g us) =
      both_decide _ _ (f ≡ g) (ts ≡ us) (node f ts ≡ node g us) (Decides-eqb f g)
      (Decides-forest_eq ts us) (λ p q. cc) (λ e. cc) (λ e. cc)
  Decides-tree_eq (inj a b t) (inj c d u) =
      both_decide _ _ (a ≡ c) ((b ≡ d) × (t ≡ u)) (inj a b t ≡ inj c d u) (Decides-eqb a c)
      (both_decide _ _ (b ≡ d) (t ≡ u) ((b ≡ d) × (t ≡ u)) (Decides-eqb b d) (Decides-tree_eq t u)
      (λ p q. (p, q)) (λ r. r.0) (λ r. r.1))
      (λ p q. let q0 : b ≡ d = q.0 in let q1 : t ≡ u = q.1 in cc)
      (λ e. cc)
      (λ e. (cc, cc))
  Decides-tree_eq (leaf s v) (node g us) = apart _ (λ e. cc)
  Decides-tree_eq (leaf s v) (inj c d u) = apart _ (λ e. cc)
  Decides-tree_eq (node f ts) (leaf r w) = apart _ (λ e. cc)
  Decides-tree_eq (node f ts) (inj c d u) = apart _ (λ e. cc)
  Decides-tree_eq (inj a b t) (leaf r w) = apart _ (λ e. cc)
  Decides-tree_eq (inj a b t) (node g us) = apart _ (λ e. cc)

  pub Decides-forest_eq : (ts us : Forest) → Decides (forest_eq ts us) (ts ≡ us)
  Decides-forest_eq no_tree no_tree = (λ e. refl, λ e. refl)
  Decides-forest_eq no_tree (more_trees u us) = apart _ (λ e. cc)
  Decides-forest_eq (more_trees t ts) no_tree = apart _ (λ e. cc)
  Decides-forest_eq (more_trees t ts) (more_trees u us) =
      both_decide _ _ (t ≡ u) (ts ≡ us) (more_trees t ts ≡ more_trees u us) (Decides-tree_eq t u)
      (Decides-forest_eq ts us) (λ p q. cc) (λ e. cc) (λ e. cc)
