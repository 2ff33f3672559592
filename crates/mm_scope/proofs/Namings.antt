-- A naming that gives each symbol its token, and what is at a place in a list.
use Rattle.std.proofs.Common.{◌≡◌, ℕ, ◌+◌, ◌≤◌, zero, suc, length, Bool, true, false, List, [], ◌∷◌}
use Rattle.std.proofs.Common.{◌++◌, take, refl, ap, arith}
use Rattle.std.specs.Prelude.{slice_get, Option, Some, None}
use Rattle.std.specs.List.{list_any}
use Rattle.std.proofs.lemmas.Bool.{eqb-true, eq-eqb}
use Rattle.std.proofs.lemmas.Bool.Decides.{same_from_decides}
use Rattle.std.proofs.lemmas.Slice.Eq.{bytes_eq-Decides}
use Rattle.mm_text.specs.Bytes.{Token}
use Rattle.mm_frame.specs.Numbered.{IsNaming}
use Rattle.mm_scope.specs.ScopeState.{ScopeSymbol}
use Rattle.mm_scope.specs.Standing.{NamesSymbols}

-- Tokens longer than those of the symbols.

zeros : ℕ → Token
zeros zero = []
zeros (suc n) = 0 ∷ zeros n

length-zeros : (n : ℕ) → length (zeros n) ≡ n
unfolding zeros
length-zeros zero = refl
length-zeros (suc n) = ap suc (length-zeros n)

total : List ScopeSymbol → ℕ
total [] = 0
total (s ∷ ss) = length s.token + total ss

within-total : (ss : List ScopeSymbol) (n : ℕ) (s : ScopeSymbol) → slice_get ss n ≡ Some s
    → length s.token ≤ total ss
unfolding total
within-total [] n s is = absurd (cc)
within-total (r ∷ ss) zero s is =
    let same : r ≡ s = cc in omega (arith, ap (λ (x : ScopeSymbol). length x.token) same)
within-total (r ∷ ss) (suc n) s is = omega (arith, within-total ss n s is)

token_or : Token → Option ScopeSymbol → Token
token_or spare None = spare
token_or spare (Some s) = s.token

-- each symbol's number has its token; every other number has a token of its own, longer than these
pub naming_of : List ScopeSymbol → ℕ → Token
naming_of ss n = token_or (zeros (total ss + suc n)) (slice_get ss n)

-- no two symbols have the same token
abbrev pub AreDistinct : List ScopeSymbol → Type 0
AreDistinct ss = (n m : ℕ) (s r : ScopeSymbol) → slice_get ss n ≡ Some s → slice_get ss m ≡ Some r
    → s.token ≡ r.token → n ≡ m

injective : (ss : List ScopeSymbol) → AreDistinct ss → (n m : ℕ) (o p : Option ScopeSymbol)
    → slice_get ss n ≡ o → slice_get ss m ≡ p
    → token_or (zeros (total ss + suc n)) o ≡ token_or (zeros (total ss + suc m)) p → n ≡ m
unfolding token_or
injective ss distinct n m None None e f same =
    omega (
      arith,
      length-zeros (total ss + suc n),
      length-zeros (total ss + suc m),
      ap (λ (t : Token). length t) same,
    )
injective ss distinct n m None (Some r) e f same =
    absurd (omega (
      arith,
      length-zeros (total ss + suc n),
      within-total ss m r f,
      ap (λ (t : Token). length t) same,
    ))
injective ss distinct n m (Some s) None e f same =
    absurd (omega (
      arith,
      length-zeros (total ss + suc m),
      within-total ss n s e,
      ap (λ (t : Token). length t) same,
    ))
injective ss distinct n m (Some s) (Some r) e f same = distinct n m s r e f same

pub naming_of-IsNaming : (ss : List ScopeSymbol) → AreDistinct ss → IsNaming (naming_of ss)
unfolding naming_of
naming_of-IsNaming ss distinct n m =
    same_from_decides _ _ (bytes_eq-Decides (naming_of ss n) (naming_of ss m)) (
      λ e. ap
          (naming_of ss) (eqb-true n m e),
      λ p. eq-eqb n m (injective ss distinct n m (slice_get ss n) (slice_get ss m) refl refl p),
    )

pub naming_of-NamesSymbols : (ss : List ScopeSymbol) → NamesSymbols (naming_of ss) ss
unfolding naming_of token_or
naming_of-NamesSymbols ss n s is = ap (token_or (zeros (total ss + suc n))) is

-- What is at a place.

abbrev pub tested : {X : Type 0} → (X → Bool) → Option X → Bool
tested f None = false
tested f (Some x) = f x

none-found : {X : Type 0} (f : X → Bool) (xs : List X)
    → ((i : ℕ) (x : X) → slice_get xs i ≡ Some x → f x ≡ true → ⊥) → list_any f xs ≡ false
none-found f [] h = refl
none-found f (x ∷ xs) h = go (f x) refl (none-found f xs (λ i y e t. h (suc i) y e t))
  where
    go : (b : Bool) → f x ≡ b → list_any f xs ≡ false → list_any f (x ∷ xs) ≡ false
    go true is rest = absurd (h 0 x refl is)
    go false is rest = rw is rest

-- if what is looked for can only be at one place, it is found by a look at that place
pub found-at : {X : Type 0} (f : X → Bool) (xs : List X) (k : ℕ)
    → ((i : ℕ) (x : X) → slice_get xs i ≡ Some x → f x ≡ true → k ≡ i)
    → list_any f xs ≡ tested f (slice_get xs k)
found-at f [] k h = refl
found-at f (x ∷ xs) zero h = go (f x) refl
  where
    go : (b : Bool) → f x ≡ b → list_any f (x ∷ xs) ≡ f x
    go true is = rw is refl
    go false is = rw is (none-found f xs (λ i y e t. absurd (omega (arith, h (suc i) y e t))))
found-at f (x ∷ xs) (suc k) h =
    go (f x) refl (found-at f xs k (λ i y e t. omega (arith, h (suc i) y e t)))
  where
    go : (b : Bool) → f x ≡ b → list_any f xs ≡ tested f (slice_get xs k)
        → list_any f (x ∷ xs) ≡ tested f (slice_get xs k)
    go true is rest = absurd (omega (arith, h 0 x refl is))
    go false is rest = rw is rest

pub slice_get-take : {X : Type 0} (xs : List X) (n i : ℕ) (x : X) → slice_get (take n xs) i ≡ Some x
    → slice_get xs i ≡ Some x
slice_get-take [] zero i x is = absurd (cc)
slice_get-take [] (suc n) i x is = absurd (cc)
slice_get-take (y ∷ xs) zero i x is = absurd (cc)
slice_get-take (y ∷ xs) (suc n) zero x is = is
slice_get-take (y ∷ xs) (suc n) (suc i) x is = slice_get-take xs n i x is

pub slice_get-last : {X : Type 0} (xs : List X) (y : X)
    → slice_get (xs ++ y ∷ []) (length xs) ≡ Some y
slice_get-last [] y = refl
slice_get-last (x ∷ xs) y = slice_get-last xs y

pub slice_get-front : {X : Type 0} (xs : List X) (y : X) (i : ℕ) (x : X) → slice_get xs i ≡ Some x
    → slice_get (xs ++ y ∷ []) i ≡ Some x
slice_get-front [] y i x is = absurd (cc)
slice_get-front (z ∷ xs) y zero x is = is
slice_get-front (z ∷ xs) y (suc i) x is = slice_get-front xs y i x is

-- an item of a list with one more item is one of the list, or the last
pub slice_get-cases : {X : Type 0} {P : Type 0} (xs : List X) (y : X) (i : ℕ) (x : X)
    → slice_get (xs ++ y ∷ []) i ≡ Some x → (slice_get xs i ≡ Some x → P)
    → (i ≡ length xs → y ≡ x → P) → P
slice_get-cases [] y zero x is front last = last refl cc
slice_get-cases [] y (suc i) x is front last = absurd (cc)
slice_get-cases (z ∷ xs) y zero x is front last = front is
slice_get-cases (z ∷ xs) y (suc i) x is front last =
    slice_get-cases xs y i x is front (λ e. last (ap suc e))
