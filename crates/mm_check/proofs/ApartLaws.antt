-- Numbers each two of which are apart.
use Rattle.std.proofs.Common.{◌≡◌, ℕ, zero, suc, Bool, true, false, List, [], ◌∷◌, nat_eq, refl, ap}
use Rattle.std.proofs.Common.{sym}
use Rattle.std.specs.Prelude.{◌||◌, slice_get, Some}
use Rattle.std.proofs.lemmas.Bool.{eq-eqb, eqb-true, both_ways, false≢true}
use Rattle.mm_frame.specs.PlainFrames.{has_number, in_group}
use Rattle.mm_check.specs.AxiomTests.{all_apart, is_apart_from}
use Rattle.mm_check.proofs.RowLaws.{all_from}
use Rattle.mm_check.proofs.HeaderTexts.{all_at}

pub has_number-at : (ns : List ℕ) (k n : ℕ) → slice_get ns k ≡ Some n → has_number ns n ≡ true
has_number-at [] k n there = let never : ⊥ = cc in absurd never
has_number-at (m ∷ ns) zero n there =
    let same : m ≡ n = cc in
    let here : nat_eq m n ≡ true = eq-eqb m n same in rw here refl
has_number-at (m ∷ ns) (suc k) n there = go (nat_eq m n) (has_number-at ns k n there)
  where
    go : (b : Bool) → has_number ns n ≡ true → (b || has_number ns n) ≡ true
    go true h = refl
    go false h = h

-- a group that is together is apart
pub group_apart : (pairs : ℕ → ℕ → Bool) (ns : List ℕ)
    → ((a b : ℕ) → in_group a b ns ≡ true → pairs a b ≡ true) → all_apart pairs ns ≡ true
group_apart pairs ns each = all_from (is_apart_from pairs ns) ns (λ k n there.
    all_from (λ (m : ℕ). nat_eq m n || pairs n m) ns
    (λ j m other. go n m k j there other (nat_eq m n) refl))
  where
    go : (n m k j : ℕ) → slice_get ns k ≡ Some n → slice_get ns j ≡ Some m → (b : Bool)
        → nat_eq m n ≡ b → (nat_eq m n || pairs n m) ≡ true
    go n m k j there other true same = rw same refl
    go n m k j there other false differ =
        let turned : nat_eq n m ≡ false = not_same (nat_eq n m) refl in
        let one : has_number ns n ≡ true = has_number-at ns k n there in
        let two : has_number ns m ≡ true = has_number-at ns j m other in
        let both : in_group n m ns ≡ true = rw (turned, one, two) refl in
        rw differ (each n m both)
      where
        not_same : (b : Bool) → nat_eq n m ≡ b → b ≡ false
        not_same false e = refl
        not_same true e =
            let same : m ≡ n = sym (eqb-true n m e) in
            absurd (both_ways (nat_eq m n) differ (eq-eqb m n same))

pub number_at : (ns : List ℕ) (n : ℕ) → has_number ns n ≡ true → (k : ℕ) × (slice_get ns k ≡ Some n)
number_at [] n has = absurd (false≢true has)
number_at (m ∷ ns) n has = go (nat_eq m n) refl (number_at ns n)
  where
    go : (b : Bool) → nat_eq m n ≡ b
        → (has_number ns n ≡ true → (k : ℕ) × (slice_get ns k ≡ Some n))
        → (k : ℕ) × (slice_get (m ∷ ns) k ≡ Some n)
    go true same rest = (0, ap Some (eqb-true m n same))
    go false other rest =
        let later : has_number ns n ≡ true = rw other at has in
        let found = rest later in (suc found.0, found.1)

-- and the other way round
pub apart_group : (pairs : ℕ → ℕ → Bool) (ns : List ℕ) → all_apart pairs ns ≡ true → (a b : ℕ)
    → has_number ns a ≡ true → has_number ns b ≡ true → nat_eq b a ≡ false → pairs a b ≡ true
apart_group pairs ns all a b one other differ =
    let k = number_at ns a one in
    let j = number_at ns b other in
    let here : is_apart_from pairs ns a ≡ true =
    all_at (is_apart_from pairs ns) ns k.0 a all k.1 in
    let pair : (nat_eq b a || pairs a b) ≡ true =
    all_at (λ (m : ℕ). nat_eq m a || pairs a m) ns j.0 b here j.1 in
    rw differ at pair
