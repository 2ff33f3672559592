-- Substitution of patterns without variables, and the leaves of the result of a substitution.
use Rattle.std.proofs.Common.{◌≡◌, ◌==◌, ◌||◌, ℕ, Bool, true, false, cond, Option, Some, None}
use Rattle.std.proofs.Common.{option_map, refl, sym, ◌∙◌, ap, subst}
use Rattle.ml_pat.specs.Patterns.{Pattern, unary, binary, sorted, quantified, var}
use Rattle.ml_pat.specs.Judgements.{fresh, substituted, both_parts}
use Rattle.ml_pat.specs.Leaves.{LeafFacts, EachLeaf}
use Rattle.ml_pat.proofs.ReplacingLaws.{substituted-fresh}
use Rattle.ml_kernel.specs.Lemmas.{HasNoVariable}
use Rattle.ml_kernel.proofs.InstanceLaws.{fresh-without}
use Rattle.ml_derived.specs.Instances.{put}

two_put : (f : Pattern → Pattern → Pattern) (p q : Pattern) (a b : Option Pattern) → a ≡ Some p
    → b ≡ Some q → both_parts f a b ≡ Some (f p q)
two_put f p q a b e g = rw (e, g) refl

pub some_same : (p q : Pattern) → Some p ≡ Some q → p ≡ q
some_same p q h = cc

-- b: x is the bound variable; d: x is not free in p; e: the bound variable is not free in u
bound_put : (f : Pattern → Pattern) (b d e : Bool) (p q : Pattern) (a : Option Pattern) → e ≡ true
    → a ≡ Some q → (d ≡ true → p ≡ q)
    → cond (b || d) (Some (f p)) (cond e (option_map f a) None) ≡ Some (f (cond b p q))
bound_put f true d e p q a h g k = refl
bound_put f false true e p q a h g k = ap (λ (r : Pattern). Some (f r)) (k refl)
bound_put f false false e p q a h g k = rw (h, g) refl

unchanged : (x : ℕ) (u p q : Pattern) → substituted p x u ≡ Some q → fresh x p ≡ true → p ≡ q
unchanged x u p q h k = some_same p q (sym (substituted-fresh x u p k) ∙ h)

variable_put : (b : Bool) (u p : Pattern) → cond b (Some u) (Some p) ≡ Some (cond b u p)
variable_put true u p = refl
variable_put false u p = refl

-- a pattern without variables can be substituted for every variable
pub substituted-put : (x : ℕ) (u p : Pattern) → HasNoVariable u
    → substituted p x u ≡ Some (put x u p)
substituted-put x u (binary c p q) h =
    two_put (binary c) _ _ _ _ (substituted-put x u p h) (substituted-put x u q h)
substituted-put x u (unary c p) h = ap (option_map (unary c)) (substituted-put x u p h)
substituted-put x u (sorted c p s) h =
    ap (option_map (λ (r : Pattern). sorted c r s)) (substituted-put x u p h)
substituted-put x u (quantified c y s p) h =
    bound_put (quantified c y s) (x == y) (fresh x p) (fresh y u) p (put x u p) (substituted p x u)
    (fresh-without y u h) (substituted-put x u p h)
    (unchanged x u p (put x u p) (substituted-put x u p h))
substituted-put x u (var y) h = variable_put (x == y) u (var y)
substituted-put x u p h = refl

-- each leaf has its fact, if there is a pattern
abbrev pub EachLeafOf : LeafFacts → Option Pattern → Type 0
EachLeafOf f None = Unit {0}
EachLeafOf f (Some p) = EachLeaf f p

two_leaves : (f : LeafFacts) (g : Pattern → Pattern → Pattern) (a b : Option Pattern)
    → ((p q : Pattern) → EachLeaf f p → EachLeaf f q → EachLeaf f (g p q)) → EachLeafOf f a
    → EachLeafOf f b → EachLeafOf f (both_parts g a b)
two_leaves f g None b k h i = tt
two_leaves f g (Some p) None k h i = tt
two_leaves f g (Some p) (Some q) k h i = k p q h i

one_leaves : (f : LeafFacts) (g : Pattern → Pattern) (a : Option Pattern)
    → ((p : Pattern) → EachLeaf f p → EachLeaf f (g p)) → EachLeafOf f a
    → EachLeafOf f (option_map g a)
one_leaves f g None k h = tt
one_leaves f g (Some p) k h = k p h

bound_leaves : (f : LeafFacts) (g : Pattern → Pattern) (b d : Bool) (p : Pattern)
    (a : Option Pattern) → ((p : Pattern) → EachLeaf f p → EachLeaf f (g p)) → EachLeaf f p
    → EachLeafOf f a → EachLeafOf f (cond b (Some (g p)) (cond d (option_map g a) None))
bound_leaves f g true d p a k h i = k p h
bound_leaves f g false true p a k h i = one_leaves f g a k i
bound_leaves f g false false p a k h i = tt

variable_leaves : (f : LeafFacts) (b : Bool) (u p : Pattern) → EachLeaf f u → EachLeaf f p
    → EachLeafOf f (cond b (Some u) (Some p))
variable_leaves f true u p h i = h
variable_leaves f false u p h i = i

each_leaf : (f : LeafFacts) (x : ℕ) (u p : Pattern) → EachLeaf f u → EachLeaf f p
    → EachLeafOf f (substituted p x u)
each_leaf f x u (binary c p q) h k =
    two_leaves f (binary c) (substituted p x u) (substituted q x u) (λ (r t : Pattern) i j. (i, j))
    (each_leaf f x u p h k.0) (each_leaf f x u q h k.1)
each_leaf f x u (unary c p) h k =
    one_leaves f (unary c) (substituted p x u) (λ (r : Pattern) i. i) (each_leaf f x u p h k)
each_leaf f x u (sorted c p s) h k =
    one_leaves f (λ (r : Pattern). sorted c r s) (substituted p x u) (λ (r : Pattern) i. (i, k.1))
    (each_leaf f x u p h k.0)
each_leaf f x u (quantified c y s p) h k =
    bound_leaves f (quantified c y s) ((x == y) || fresh x p) (fresh y u) p (substituted p x u)
    (λ (r : Pattern) i. (i, k.1)) k.0 (each_leaf f x u p h k.0)
each_leaf f x u (var y) h k = variable_leaves f (x == y) u (var y) h k
each_leaf f x u p h k = k

-- the leaves of the result are leaves of the pattern or of the replacement
pub EachLeaf-substituted : (f : LeafFacts) (x : ℕ) (u p r : Pattern) → EachLeaf f u → EachLeaf f p
    → substituted p x u ≡ Some r → EachLeaf f r
EachLeaf-substituted f x u p r h k e = subst (EachLeafOf f) e (each_leaf f x u p h k)

pub EachLeaf-put : (f : LeafFacts) (x : ℕ) (u p : Pattern) → HasNoVariable u → EachLeaf f u
    → EachLeaf f p → EachLeaf f (put x u p)
EachLeaf-put f x u p closed h k =
    EachLeaf-substituted f x u p (put x u p) h k (substituted-put x u p closed)
