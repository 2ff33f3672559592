-- Variables that a substitution binds, and that are not free in a condition.
use Rattle.std.proofs.Common.{◌≡◌, ◌⊎◌, inl, inr, ◌<◌, ◌≤◌, ◌+◌, ℕ, zero, suc, false, List, []}
use Rattle.std.proofs.Common.{◌∷◌, length, Option, Some, refl, sym, ◌∙◌, ap, subst, arith}
use Rattle.std.specs.Prelude.{option_copied}
use Rattle.std.specs.Borrow.{Bor}
use Rattle.std.specs.Option.{is_some}
use Rattle.std.proofs.lemmas.Bool.{false≢true}
use Rattle.ml_pat.specs.Patterns.{Pattern}
use Rattle.ml_pat.specs.Judgements.{IsFresh}
use Rattle.term_core.specs.Terms.{Tree}
use Rattle.term_core.specs.Patterns.{binding}
use Rattle.prove_term.proofs.ImageShapes.{map_some}

-- only numbers of the substitution are bound
pub all_below : (theta : List (Option Tree)) (n x : ℕ) (t : Tree) → length theta ≤ n
    → binding theta x ≡ Some t → x < n
all_below [] n x t all bound = absurd (let no : ⊥ = cc in no)
all_below (o ∷ theta) n zero t all bound = omega (arith, all)
all_below (o ∷ theta) zero (suc x) t all bound = absurd (omega (arith, all))
all_below (o ∷ theta) (suc n) (suc x) t all bound =
    let low : x < n = all_below theta n x t (omega (arith, all)) bound in omega (arith, low)

-- the bound variables below n are not free
abbrev pub AreFresh : List (Option Tree) → ℕ → Pattern → Type 0
AreFresh theta n c = (x : ℕ) (t : Tree) → x < n → binding theta x ≡ Some t → IsFresh x c

last_or_before : (x n : ℕ) → x < n + 1 → (x < n) ⊎ (x ≡ n)
last_or_before zero zero low = inr refl
last_or_before zero (suc n) low = inl (omega arith)
last_or_before (suc x) zero low = absurd (omega (arith, low))
last_or_before (suc x) (suc n) low = go (last_or_before x n (omega (arith, low)))
  where
    go : (x < n) ⊎ (x ≡ n) → (suc x < suc n) ⊎ (suc x ≡ suc n)
    go (inl less) = inl (omega (arith, less))
    go (inr same) = inr (ap (λ (k : ℕ). suc k) same)

pub one_more_fresh : (theta : List (Option Tree)) (n : ℕ) (c : Pattern) → AreFresh theta n c
    → ((t : Tree) → binding theta n ≡ Some t → IsFresh n c) → AreFresh theta (n + 1) c
one_more_fresh theta n c before here x t low bound = go (last_or_before x n low)
  where
    go : (x < n) ⊎ (x ≡ n) → IsFresh x c
    go (inl less) = before x t less bound
    go (inr same) =
        subst (λ (y : ℕ). IsFresh y c) (sym same)
        (here t (subst (λ (y : ℕ). binding theta y ≡ Some t) same bound))

-- nothing was read
pub copied_none : {T : Type 0} (o : Option (Bor T)) (t : T) → is_some o ≡ false
    → option_copied o ≡ Some t → ⊥
copied_none {T} o t without is =
    let w : (b : Bor T) × (o ≡ Some b) × (t ≡ b.now) = map_some (λ (b : Bor T). b.now) o t is in
    false≢true (sym without ∙ ap is_some w.1)
