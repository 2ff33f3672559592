-- A variable with two different terms, found by going through the variables.
use Rattle.std.proofs.Common.{◌≡◌, ◌⊎◌, inl, inr, ◌<◌, ◌≤◌, ◌+◌, ℕ, zero, suc, List, [], ◌∷◌, drop}
use Rattle.std.proofs.Common.{length, get_or, Option, Some, None, refl, sym, ◌∙◌, ap, subst, arith}
use Rattle.std.specs.Prelude.{Contains}
use Rattle.std.proofs.lemmas.List.{drop_more}
use Rattle.term_core.specs.Terms.{Tree}
use Rattle.term_core.specs.Patterns.{Pattern}
use Rattle.refute.specs.Bindings.{FindsBinding, HasTwo}

-- one of the variables from this place on has two different terms
abbrev pub Remains : List (ℕ × ℕ) → Pattern → Tree → List ℕ → ℕ → Type 0
Remains pairs p t xs i = (x : ℕ) × Contains (drop i xs) x × HasTwo pairs x p t

cons_cases : (x y : ℕ) (xs : List ℕ) → Contains (x ∷ xs) y → (x ≡ y) ⊎ Contains xs y
cons_cases x y xs (zero, low, is) = inl is
cons_cases x y xs (suc k, low, is) = inr (k, omega (arith, low), is)

pub next_remains : (pairs : List (ℕ × ℕ)) (p : Pattern) (t : Tree) (xs : List ℕ) (i x : ℕ)
    → i < length xs → x ≡ get_or xs i x → (HasTwo pairs x p t → ⊥)
    → Remains pairs p t xs i → Remains pairs p t xs (i + 1)
next_remains pairs p t xs i x low is none (y, there, two) =
    go (cons_cases x y (drop (i + 1) xs)
    (subst (λ (ys : List ℕ). Contains ys y)
    (drop_more xs i x low ∙ ap (λ (z : ℕ). z ∷ drop (i + 1) xs) (sym is)) there))
  where
    go : (x ≡ y) ⊎ Contains (drop (i + 1) xs) y → Remains pairs p t xs (i + 1)
    go (inl same) =
        absurd (none (subst (λ (z : ℕ). HasTwo pairs z p t) (sym same) two))
    go (inr later) = (y, later, two)

all_dropped : (xs : List ℕ) (i : ℕ) → length xs ≤ i → drop i xs ≡ []
all_dropped [] zero h = refl
all_dropped [] (suc i) h = refl
all_dropped (x ∷ xs) zero h = absurd (omega (arith, h))
all_dropped (x ∷ xs) (suc i) h = all_dropped xs i (omega (arith, h))

nothing : (x : ℕ) → Contains [] x → ⊥
nothing x (k, low, is) = omega (arith, low)

pub none_remains : (pairs : List (ℕ × ℕ)) (p : Pattern) (t : Tree) (xs : List ℕ) (i : ℕ)
    → length xs ≤ i → Remains pairs p t xs i → ⊥
none_remains pairs p t xs i high (x, there, two) =
    nothing x (subst (λ (ys : List ℕ). Contains ys x) (all_dropped xs i high) there)

pub no_first : (pairs : List (ℕ × ℕ)) (x : ℕ) (p : Pattern) (t : Tree) (o : Option Tree)
    → o ≡ None → FindsBinding pairs x None p t o → HasTwo pairs x p t → ⊥
no_first pairs x p t o is found two =
    let none : FindsBinding pairs x None p t None =
    subst (FindsBinding pairs x None p t) is found in
    none two.first two.comes_first tt

pub no_second : (pairs : List (ℕ × ℕ)) (x : ℕ) (first : Tree) (p : Pattern) (t : Tree)
    (o : Option Tree) → o ≡ None → FindsBinding pairs x (Some first) p t o → HasTwo pairs x p t
    → ⊥
no_second pairs x first p t o is found two =
    let none : FindsBinding pairs x (Some first) p t None =
    subst (FindsBinding pairs x (Some first) p t) is found in
    none two.first two.comes_first
    (λ one. none two.second two.comes_second (λ other. two.differ (one ∙ sym other)))
