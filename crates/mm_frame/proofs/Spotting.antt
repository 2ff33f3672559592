-- Laws on the spots of symbols.
use Rattle.std.proofs.Common.{◌≡◌, ℕ, zero, suc, ◌+◌, ◌*◌, ◌/◌, ◌<◌, ◌≤◌, Bool, true, false, List}
use Rattle.std.proofs.Common.{[], ◌∷◌, ◌++◌, length, get_or, map, nat_eq, Some}
use Rattle.std.proofs.Common.{refl, ap, ◌∙◌, sym, arith}
use Rattle.std.specs.Prelude.{◌||◌, All, slice_get}
use Rattle.std.specs.List.Sorted.{IsPermutation, IsSortedByKey}
use Rattle.std.specs.Ordering.{nat_cmp}
use Rattle.std.proofs.lemmas.Bool.{or_left, or_right}
use Rattle.std.proofs.lemmas.Bool.{eq-eqb}
use Rattle.std.proofs.lemmas.List.{map-append}
use Rattle.std.proofs.lemmas.List.Folds.{list_any-append}
use Rattle.std.proofs.lemmas.List.Sorted.{list_any-IsPermutation, IsPermutation-map}
use Rattle.std.proofs.lemmas.List.Sorted.{All-permutation, IsNonDecreasingBy-from_sort}
use Rattle.std.proofs.lemmas.Nat.{div-mul-add, mod-mul-add}
use Rattle.mm_frame.specs.PlainFrames.{has_number}
use Rattle.mm_frame.specs.Spots.{position_at, IsSpot, AreSpots}

-- what stands at a position that there is
pub get-is : {X : Type 0} (xs : List X) (i : ℕ) (d : X) → i < length xs
    → slice_get xs i ≡ Some (get_or xs i d)
get-is [] i d lt = absurd (omega (arith, lt))
get-is (x ∷ xs) zero d lt = refl
get-is (x ∷ xs) (suc i) d lt = get-is xs i d (omega (arith, lt))

pub get-within : {X : Type 0} (xs : List X) (i : ℕ) (x : X) → slice_get xs i ≡ Some x
    → i < length xs
get-within [] i x is = absurd (cc)
get-within (y ∷ ys) zero x is = omega arith
get-within (y ∷ ys) (suc i) x is = omega (arith, get-within ys i x is)

-- the spot of a symbol
pub spot-is : (symbols : List ℕ) (i d : ℕ) → i < length symbols → i < 4294967296
    → IsSpot symbols (get_or symbols i d * 4294967296 + i)
spot-is symbols i d lt small =
    let n : ℕ = get_or symbols i d in
    ap (λ (k : ℕ). slice_get symbols k) (mod-mul-add n 4294967296 i small)
    ∙ get-is symbols i d lt
    ∙ ap (λ (m : ℕ). Some m) (sym (div-mul-add n 4294967296 i small))

-- the positions of one spot more
pub positions-more : (spots : List ℕ) (spot n : ℕ) → position_at spot ≡ n
    → ((i : ℕ) → i < n → has_number (map position_at spots) i ≡ true) → (i : ℕ) → i < n + 1
    → has_number (map position_at (spots ++ spot ∷ [])) i ≡ true
positions-more spots spot n at before i lt =
    ap (λ (ns : List ℕ). has_number ns i) (map-append position_at spots (spot ∷ []))
    ∙ list_any-append (λ m. nat_eq m i) (map position_at spots) (position_at spot ∷ [])
    ∙ go (nat_eq (position_at spot) i) refl
  where
    go : (b : Bool) → nat_eq (position_at spot) i ≡ b
        → (has_number (map position_at spots) i || (b || false)) ≡ true
    go true is = or_right (has_number (map position_at spots) i) true refl
    go false is =
        let other : (n ≡ i) → ⊥ =
        λ e. (let same : nat_eq (position_at spot) i ≡ true =
        eq-eqb (position_at spot) i (at ∙ e) in
        let wrong : true ≡ false = sym same ∙ is in let z : ⊥ = cc in z) in
        or_left (has_number (map position_at spots) i) false (before i (omega (arith, lt, other)))

-- sorted spots
div-up : (a b w : ℕ) → 0 < w → a ≤ b → a / w ≤ b / w
div-up a b w some le = grind arith

module _ (symbols : List ℕ) (spots sorted : List ℕ) (each : All (IsSpot symbols) spots)
    (all : (i : ℕ) → i < length symbols → has_number (map position_at spots) i ≡ true)
    (moved : IsPermutation spots sorted) (up : IsSortedByKey (λ n. n) nat_cmp sorted) where
  pub spots-sorted : AreSpots symbols sorted
  spots-sorted = record {
    each = All-permutation (IsSpot symbols) spots sorted moved each;
    all =
        λ i lt. sym (list_any-IsPermutation (λ m. nat_eq m
        i) (map position_at spots) (map position_at sorted) (IsPermutation-map position_at spots
        sorted moved))
        ∙ all i lt;
    ordered =
        λ i j d le lt. div-up (get_or sorted i d) (get_or sorted j d) 4294967296 (omega arith)
        (IsNonDecreasingBy-from_sort (λ n. n) sorted up i j d le lt);
  }
