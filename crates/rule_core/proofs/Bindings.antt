-- The bindings of substitutions.
use Rattle.std.proofs.Common.{◌≡◌, ◌≢◌, ◌<◌, ◌⊎◌, inl, inr, ℕ, zero, suc, Bool, true, false, List}
use Rattle.std.proofs.Common.{[], ◌∷◌, length, replicate, set, Option, Some, None, refl, sym, ◌∙◌}
use Rattle.std.proofs.Common.{eq-eqb}
use Rattle.std.specs.Prelude.{◌==◌, IsSome}
use Rattle.std.proofs.lemmas.Bool.{eqb-true, false≢true}
use Rattle.std.proofs.lemmas.List.{get_or-set_same, get_or-set_other}
use Rattle.term_core.specs.Terms.{Tree}
use Rattle.term_core.specs.Patterns.{binding}

-- the first substitution has all the bindings of the second
abbrev pub Extends : List (Option Tree) → List (Option Tree) → Type 0
Extends more fewer = (x : ℕ) (t : Tree) → binding fewer x ≡ Some t → binding more x ≡ Some t

pub Extends-refl : (theta : List (Option Tree)) → Extends theta theta
Extends-refl theta x t e = e

pub Extends-trans : (most more fewer : List (Option Tree)) → Extends most more → Extends more fewer
    → Extends most fewer
Extends-trans most more fewer h k x t e = h x t (k x t e)

-- a number equals another one, or does not
pub same_or_other : (x y : ℕ) → (x ≡ y) ⊎ (x ≢ y)
same_or_other x y = told (x == y) refl where
  told : (b : Bool) → (x == y) ≡ b → (x ≡ y) ⊎ (x ≢ y)
  told true e = inl (eqb-true x y e)
  told false e = inr (λ same. false≢true (sym e ∙ eq-eqb x y same))

pub binding-set_same : (theta : List (Option Tree)) (x : ℕ) (t : Tree) → x < length theta
    → binding (set theta x (Some t)) x ≡ Some t
binding-set_same theta x t lt = get_or-set_same theta x (Some t) None lt

pub binding-set_other : (theta : List (Option Tree)) (x y : ℕ) (t : Tree) → y ≢ x
    → binding (set theta x (Some t)) y ≡ binding theta y
binding-set_other theta x y t other = get_or-set_other theta x y (Some t) None other

-- a substitution in which no variable is bound
pub binding-replicate : (n x : ℕ) → binding (replicate n None) x ≡ None
binding-replicate zero x = refl
binding-replicate (suc n) zero = refl
binding-replicate (suc n) (suc x) = binding-replicate n x

-- substitutions with the same bindings are equal
pub same_bindings : (xs ys : List (Option Tree)) → length xs ≡ length ys
    → ((x : ℕ) → binding xs x ≡ binding ys x) → xs ≡ ys
same_bindings [] [] len same = refl
same_bindings [] (y ∷ ys) len same = absurd (cc)
same_bindings (x ∷ xs) [] len same = absurd (cc)
same_bindings (x ∷ xs) (y ∷ ys) len same =
    let first : x ≡ y = same 0 in
    let rest : xs ≡ ys = same_bindings xs ys (cc) (λ i. same (suc i)) in
    cc

-- if there is a binding, it is some tree
pub given : (o : Option Tree) → IsSome o → (t : Tree) × (o ≡ Some t)
given None h = absurd (false≢true h)
given (Some t) h = (t, refl)

pub IsSome-of : (o : Option Tree) (t : Tree) → o ≡ Some t → IsSome o
IsSome-of o t e = rw e refl
