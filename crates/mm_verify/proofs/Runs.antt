-- Laws on the runs of spots of one symbol.
use Rattle.std.proofs.Common.{◌≡◌, ℕ, zero, suc, ◌<◌, ◌≤◌, Bool, true, false, List}
use Rattle.std.proofs.Common.{[], ◌∷◌, length, get_or, leb}
use Rattle.std.proofs.Common.{leb-true, refl, ap, ◌∙◌, sym, subst, arith}
use Rattle.std.specs.Prelude.{nat_lt}
use Rattle.std.specs.List.Sorted.{IsNonDecreasingBy, IsPartitionedBy, IsPartitionPoint}
use Rattle.std.proofs.lemmas.List.Sorted.{IsPartitionedBy-leb}
use Rattle.mm_frame.specs.Spots.{symbol_at}

pub any-default : {X : Type 0} (xs : List X) (i : ℕ) (d e : X) → i < length xs
    → get_or xs i d ≡ get_or xs i e
any-default [] i d e lt = absurd (omega (arith, lt))
any-default (x ∷ xs) zero d e lt = refl
any-default (x ∷ xs) (suc i) d e lt = any-default xs i d e (omega (arith, lt))

pub run-point : (xs ys : List ℕ) (n : ℕ) → ys ≡ xs → IsNonDecreasingBy symbol_at xs
    → IsPartitionedBy (λ m. leb (symbol_at m) n) ys
run-point xs ys n same ordered =
    IsPartitionedBy-leb symbol_at ys n
    (subst (λ (l : List ℕ). IsNonDecreasingBy symbol_at l) (sym same) ordered)

module _ (xs ys : List ℕ) (at end v : ℕ) (same : ys ≡ xs) (is : v ≡ get_or xs at v)
    (lt : at < length xs) (point : IsPartitionPoint (λ m. leb (symbol_at m) (symbol_at v) ≡ true)
    (λ m. leb (symbol_at m) (symbol_at v) ≡ false) ys end) where
  here : v ≡ get_or xs at 0
  here = is ∙ any-default xs at v 0 lt

  pub run-more : at < end
  run-more = go (nat_lt at end) refl
    where
      go : (b : Bool) → nat_lt at end ≡ b → at < end
      go true h = grind (arith, h)
      go false h =
          let le : end ≤ at = grind (arith, h) in
          let far : leb (symbol_at (get_or ys at v)) (symbol_at v) ≡ false =
          point.1 at v le (omega (arith, lt, ap length same)) in
          let itself : leb (symbol_at v) (symbol_at v) ≡ true = grind arith in
          absurd (let wrong : true ≡ false =
          sym itself
          ∙ ap (λ (n : ℕ). leb (symbol_at n) (symbol_at v))
          (is ∙ ap (λ (l : List ℕ). get_or l at v) (sym same)) ∙ far in
          let z : ⊥ = cc in z)

  pub run-same : IsNonDecreasingBy symbol_at xs → end ≤ length ys → (k : ℕ) → at ≤ k → k < end
      → symbol_at (get_or xs k 0) ≡ symbol_at (get_or xs at 0)
  run-same ordered room k from below =
      let low : symbol_at (get_or xs at 0) ≤ symbol_at (get_or xs k 0) =
      ordered at k 0 from (omega (arith, below, room, ap length same)) in
      let test : leb (symbol_at (get_or ys k 0)) (symbol_at v) ≡ true =
      point.0 k 0 (omega arith) below in
      let high : symbol_at (get_or ys k 0) ≤ symbol_at v = leb-true _ _ test in
      omega (
        arith,
        low,
        high,
        ap (λ (l : List ℕ). symbol_at (get_or l k 0)) same,
        ap symbol_at here,
      )
