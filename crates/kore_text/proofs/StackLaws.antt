-- A stack whose next symbol is the last in the vector.
use Rattle.std.proofs.Common.{◌≡◌, ◌<◌, ℕ, zero, suc, ◌+◌, List, [], ◌∷◌, ◌++◌, reverse, refl, ap}
use Rattle.std.proofs.Common.{arith}
use Rattle.std.proofs.lemmas.List.{reverse-append}
use Rattle.kore_text.specs.declared.symbols.Symbol.{Symbol}
use Rattle.kore_text.specs.declared.symbols.Symbol.TheVariants as symbol
use Rattle.kore_text.specs.declared.symbols.Close.{Close}
use Rattle.kore_text.specs.Table.{exactly, more_exactly}

pub pushed : (xs : List Symbol) (f : Symbol) → reverse (xs ++ (f ∷ [])) ≡ f ∷ reverse xs
pushed xs f = reverse-append xs (f ∷ [])

-- one more item in front of the others
pub exactly_first : (f : Symbol) (c : Close) (i : ℕ) (k : List Symbol) → (0 < i → ⊥)
    → exactly f c (i + 1) k ≡ f ∷ exactly f c i k
exactly_first f c zero k h = refl
exactly_first f c (suc i) k h = absurd (h (omega arith))

pub exactly_more : (f : Symbol) (c : Close) (i : ℕ) (k : List Symbol) → 0 < i
    → exactly f c (i + 1) k ≡ f ∷ symbol.Mark 44 ∷ exactly f c i k
exactly_more f c zero k h = absurd (omega (arith, h))
exactly_more f c (suc i) k h = let e : suc i + 1 ≡ suc (suc i) = omega arith in rw e refl

more-append : (f : Symbol) (c : Close) (i : ℕ) (m k : List Symbol)
    → more_exactly f c i m ++ k ≡ more_exactly f c i (m ++ k)
more-append f c zero m k = refl
more-append f c (suc i) m k = ap (λ l. symbol.Mark 44 ∷ f ∷ l) (more-append f c i m k)

pub exactly_append : (f : Symbol) (c : Close) (i : ℕ) (m k : List Symbol)
    → exactly f c i m ++ k ≡ exactly f c i (m ++ k)
exactly_append f c zero m k = refl
exactly_append f c (suc i) m k = ap (λ l. f ∷ l) (more-append f c i m k)
