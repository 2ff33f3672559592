-- The test of the order of sorts returns true exactly when there is a chain.
use Rattle.std.proofs.Common.{◌≡◌, ℕ, zero, suc, ◌⊎◌, ◌↔◌, inl, inr, eq-eqb, Bool, true, false}
use Rattle.std.proofs.Common.{List, [], ◌∷◌, ◌++◌, Contains, refl, sym, ◌∙◌, ap, subst, arith}
use Rattle.std.specs.Prelude.{◌&&◌, ◌||◌, ◌==◌, IsTrue}
use Rattle.std.proofs.lemmas.Bool.{eqb-true, false≢true}
use Rattle.rule_core.specs.Subsorts.{IsBelow, by_pair, by_chain, HasNoCycle, is_below}
use Rattle.rule_core.specs.SubsortLaws.{BelowIsTested}

-- if one of two tests or both hold, the first or the second holds
pub either_true : (a b : Bool) → (a || b) ≡ true → (a ≡ true) ⊎ (b ≡ true)
either_true true b h = inl refl
either_true false b h = inr h

pub both_true : (a b : Bool) → (a && b) ≡ true → (a ≡ true) × (b ≡ true)
both_true true b h = (refl, h)
both_true false b h = absurd (cc)

pub true_left : (a b : Bool) → a ≡ true → (a || b) ≡ true
true_left a b h = rw h refl

pub true_right : (a b : Bool) → b ≡ true → (a || b) ≡ true
true_right true b h = refl
true_right false b h = h

pub true_both : (a b : Bool) → a ≡ true → b ≡ true → (a && b) ≡ true
true_both a b h k = rw h k

-- the order is transitive
pub IsBelow-trans : (pairs : List (ℕ × ℕ)) (a b c : ℕ) → IsBelow pairs a b → IsBelow pairs b c
    → IsBelow pairs a c
IsBelow-trans pairs a b c (by_pair first) h = by_chain first h
IsBelow-trans pairs a b c (by_chain {b = m} first rest) h =
    by_chain first (IsBelow-trans pairs m b c rest h)

-- a pair is also a pair of a longer list
pub contains_later : (pairs : List (ℕ × ℕ)) (first pair : ℕ × ℕ) → Contains pairs pair
    → Contains (first ∷ pairs) pair
contains_later pairs first pair known = (suc known.0, omega (arith, known.1), known.2)

pub contains_cases : (pairs : List (ℕ × ℕ)) (first pair : ℕ × ℕ) → Contains (first ∷ pairs) pair
    → (first ≡ pair) ⊎ Contains pairs pair
contains_cases pairs first pair (zero, lt, is) = inl is
contains_cases pairs first pair (suc k, lt, is) = inr (k, omega arith, is)

more_pairs : (pairs : List (ℕ × ℕ)) (first : ℕ × ℕ) (a b : ℕ) → IsBelow pairs a b
    → IsBelow (first ∷ pairs) a b
more_pairs pairs first a b (by_pair known) = by_pair (contains_later pairs first (a, b) known)
more_pairs pairs first a b (by_chain {b = m} known rest) =
    by_chain (contains_later pairs first (a, m) known) (more_pairs pairs first m b rest)

-- a chain that may have no pair at all
abbrev Reaches : List (ℕ × ℕ) → ℕ → ℕ → Type 0
Reaches pairs a b = (a ≡ b) ⊎ IsBelow pairs a b

-- a chain over a longer list does not need the first pair, or needs it once
chain_cases : (pairs : List (ℕ × ℕ)) (first : ℕ × ℕ) (a b : ℕ) → IsBelow (first ∷ pairs) a b
    → IsBelow pairs a b ⊎ (Reaches pairs a first.0 × Reaches pairs first.1 b)
chain_cases pairs first a b (by_pair known) = one (contains_cases pairs first (a, b) known) where
  one : (first ≡ (a, b)) ⊎ Contains pairs (a, b)
      → IsBelow pairs a b ⊎ (Reaches pairs a first.0 × Reaches pairs first.1 b)
  one (inl is) = inr (inl (sym (ap (λ (p : ℕ × ℕ). p.0) is)), inl (ap (λ (p : ℕ × ℕ). p.1) is))
  one (inr later) = inl (by_pair later)
chain_cases pairs first a b (by_chain {b = m} known rest) =
    joined (contains_cases pairs first (a, m) known) (chain_cases pairs first m b rest)
  where
    to_first : Contains pairs (a, m) → Reaches pairs m first.0 → Reaches pairs a first.0
    to_first there (inl same) =
        let P : ℕ → Type 0 = λ x. Contains pairs (a, x) in inr (by_pair (subst P same there))
    to_first there (inr below) = inr (by_chain there below)

    joined : (first ≡ (a, m)) ⊎ Contains pairs (a, m)
        → IsBelow pairs m b ⊎ (Reaches pairs m first.0 × Reaches pairs first.1 b)
        → IsBelow pairs a b ⊎ (Reaches pairs a first.0 × Reaches pairs first.1 b)
    joined (inl is) (inl below) =
        let P : ℕ → Type 0 = λ x. IsBelow pairs x b in
        inr (
          inl (sym (ap (λ (p : ℕ × ℕ). p.0) is)),
          inr (subst P (sym (ap (λ (p : ℕ × ℕ). p.1) is)) below),
        )
    joined (inl is) (inr halves) = inr (inl (sym (ap (λ (p : ℕ × ℕ). p.0) is)), halves.1)
    joined (inr there) (inl below) = inl (by_chain there below)
    joined (inr there) (inr halves) = inr (to_first there halves.0, halves.1)

reached : (pairs : List (ℕ × ℕ)) (a b : ℕ)
    → ((x y : ℕ) → is_below pairs x y ≡ true → IsBelow pairs x y)
    → (a == b || is_below pairs a b) ≡ true → Reaches pairs a b
reached pairs a b fewer h = known (either_true _ _ h) where
  known : ((a == b) ≡ true) ⊎ (is_below pairs a b ≡ true) → Reaches pairs a b
  known (inl t) = inl (eqb-true a b t)
  known (inr t) = inr (fewer a b t)

-- a chain through the first pair
over_first : (pairs : List (ℕ × ℕ)) (pair : ℕ × ℕ) (a b : ℕ) → Reaches pairs a pair.0
    → Reaches pairs pair.1 b → IsBelow (pair ∷ pairs) a b
over_first pairs pair a b front back = after (before front) back where
  before : (a ≡ pair.0) ⊎ IsBelow pairs a pair.0 → IsBelow (pair ∷ pairs) a pair.1
  before (inl same) = by_pair (0, omega arith, ap (λ (x : ℕ). (x, pair.1)) (sym same))
  before (inr below) =
      IsBelow-trans (pair ∷ pairs) a pair.0 pair.1 (more_pairs pairs pair a pair.0 below)
      (by_pair (0, omega arith, refl))

  after : IsBelow (pair ∷ pairs) a pair.1 → (pair.1 ≡ b) ⊎ IsBelow pairs pair.1 b
      → IsBelow (pair ∷ pairs) a b
  after so_far (inl same) =
      let P : ℕ → Type 0 = λ x. IsBelow (pair ∷ pairs) a x in subst P same so_far
  after so_far (inr below) =
      IsBelow-trans (pair ∷ pairs) a pair.1 b so_far (more_pairs pairs pair pair.1 b below)

from_test : (pairs : List (ℕ × ℕ)) (pair : ℕ × ℕ) (a b : ℕ)
    → ((x y : ℕ) → is_below pairs x y ≡ true → IsBelow pairs x y)
    → is_below (pair ∷ pairs) a b ≡ true → IsBelow (pair ∷ pairs) a b
from_test pairs pair a b fewer h = known (either_true _ _ h) where
  known : (is_below pairs a b ≡ true)
      ⊎ (((a == pair.0 || is_below pairs a pair.0) && (pair.1 == b || is_below pairs pair.1 b))
      ≡ true) → IsBelow (pair ∷ pairs) a b
  known (inl t) = more_pairs pairs pair a b (fewer a b t)
  known (inr t) =
      let halves = both_true _ _ t in
      over_first pairs pair a b (reached pairs a pair.0 fewer halves.0)
      (reached pairs pair.1 b fewer halves.1)

to_reached : (pairs : List (ℕ × ℕ)) (a b : ℕ)
    → ((x y : ℕ) → IsBelow pairs x y → is_below pairs x y ≡ true) → Reaches pairs a b
    → (a == b || is_below pairs a b) ≡ true
to_reached pairs a b fewer (inl same) = true_left _ _ (eq-eqb a b same)
to_reached pairs a b fewer (inr below) = true_right _ _ (fewer a b below)

to_test : (pairs : List (ℕ × ℕ)) (pair : ℕ × ℕ) (a b : ℕ)
    → ((x y : ℕ) → IsBelow pairs x y → is_below pairs x y ≡ true)
    → IsBelow pairs a b ⊎ (Reaches pairs a pair.0 × Reaches pairs pair.1 b)
    → is_below (pair ∷ pairs) a b ≡ true
to_test pairs pair a b fewer (inl below) = true_left _ _ (fewer a b below)
to_test pairs pair a b fewer (inr halves) =
    true_right (is_below pairs a b) _ (true_both _ _ (to_reached pairs a pair.0 fewer halves.0)
    (to_reached pairs pair.1 b fewer halves.1))

nothing_below : (a b : ℕ) → IsBelow [] a b → ⊥
nothing_below a b (by_pair known) = omega (arith, known.1)
nothing_below a b (by_chain known rest) = omega (arith, known.1)

-- if the test holds, the sort is below the other
pub is_below-true : (pairs : List (ℕ × ℕ)) (a b : ℕ) → is_below pairs a b ≡ true → IsBelow pairs a b
is_below-true [] a b h = absurd (cc)
is_below-true (pair ∷ pairs) a b h = from_test pairs pair a b (λ x y t. is_below-true pairs x y t) h

pub true-is_below : (pairs : List (ℕ × ℕ)) (a b : ℕ) → IsBelow pairs a b → is_below pairs a b ≡ true
true-is_below [] a b h = absurd (nothing_below a b h)
true-is_below (pair ∷ pairs) a b h =
    to_test pairs pair a b (λ x y t. true-is_below pairs x y t) (chain_cases pairs pair a b h)

-- the answer of a call that decides the order is that of the test
pub below_answer : (pairs : List (ℕ × ℕ)) (a b : ℕ) (answer : Bool) → IsTrue answer
    ↔ IsBelow pairs a b → answer ≡ is_below pairs a b
below_answer pairs a b true h = sym (true-is_below pairs a b (h.0 refl))
below_answer pairs a b false h = unless (is_below pairs a b) refl where
  unless : (t : Bool) → is_below pairs a b ≡ t → false ≡ is_below pairs a b
  unless false e = sym e
  unless true e = absurd (false≢true (h.1 (is_below-true pairs a b e)))

-- a chain over some of the pairs is one over all of them
pub fewer_pairs : (pairs all : List (ℕ × ℕ)) (a b : ℕ)
    → ((p : ℕ × ℕ) → Contains pairs p → Contains all p) → IsBelow pairs a b → IsBelow all a b
fewer_pairs pairs all a b among (by_pair known) = by_pair (among _ known)
fewer_pairs pairs all a b among (by_chain {b = m} known rest) =
    by_chain (among _ known) (fewer_pairs pairs all m b among rest)

-- the pairs of a list that ends in one more pair
pub last_first : (pairs : List (ℕ × ℕ)) (last p : ℕ × ℕ) → Contains (pairs ++ last ∷ []) p
    → Contains (last ∷ pairs) p
last_first [] last p known = known
last_first (pair ∷ pairs) last p known =
    one (λ later. last_first pairs last p later)
    (contains_cases (pairs ++ last ∷ []) pair p known) where
      two : (last ≡ p) ⊎ Contains pairs p → Contains (last ∷ pair ∷ pairs) p
      two (inl is) = (0, omega arith, is)
      two (inr known') = contains_later (pair ∷ pairs) last p (contains_later pairs pair p known')

      one : (Contains (pairs ++ last ∷ []) p → Contains (last ∷ pairs) p)
          → (pair ≡ p) ⊎ Contains (pairs ++ last ∷ []) p → Contains (last ∷ pair ∷ pairs) p
      one fewer (inl is) = (1, omega arith, is)
      one fewer (inr later) = two (contains_cases pairs last p (fewer later))

pub first_last : (pairs : List (ℕ × ℕ)) (last p : ℕ × ℕ) → Contains (last ∷ pairs) p
    → Contains (pairs ++ last ∷ []) p
first_last [] last p known = known
first_last (pair ∷ pairs) last p known =
    one (λ there. first_last pairs last p there) (contains_cases (pair ∷ pairs) last p known) where
      two : (Contains (last ∷ pairs) p → Contains (pairs ++ last ∷ []) p)
          → (pair ≡ p) ⊎ Contains pairs p → Contains (pair ∷ (pairs ++ last ∷ [])) p
      two fewer (inl is) = (0, omega arith, is)
      two fewer (inr later) = contains_later _ pair p (fewer (contains_later pairs last p later))

      one : (Contains (last ∷ pairs) p → Contains (pairs ++ last ∷ []) p)
          → (last ≡ p) ⊎ Contains (pair ∷ pairs) p → Contains (pair ∷ (pairs ++ last ∷ [])) p
      one fewer (inl is) = contains_later _ pair p (fewer (0, omega arith, is))
      one fewer (inr known') = two fewer (contains_cases pairs pair p known')

-- the test over a list that has one more pair at its end
pub below_last : (pairs : List (ℕ × ℕ)) (last : ℕ × ℕ) (a b : ℕ)
    → is_below (pairs ++ last ∷ []) a b ≡ is_below (last ∷ pairs) a b
below_last pairs last a b =
    sym (below_answer (pairs ++ last ∷ []) a b (is_below (last ∷ pairs) a b) (
      λ t. fewer_pairs _ _ a b (first_last pairs last) (is_below-true (last ∷ pairs) a b t),
      λ below. true-is_below (last ∷ pairs) a b (fewer_pairs _ _ a b (last_first pairs last) below),
    ))

-- one more pair makes no cycle, unless it leads from a sort to itself or to a sort below it
pub no_cycle_more : (pairs : List (ℕ × ℕ)) (a b : ℕ) → HasNoCycle pairs → (a ≡ b → ⊥)
    → (IsBelow pairs b a → ⊥) → HasNoCycle (pairs ++ (a, b) ∷ [])
no_cycle_more pairs a b none other back x round =
    by_case (chain_cases pairs (a, b) x x (fewer_pairs _ _ x x (last_first pairs (a, b)) round))
  where
    by_case : IsBelow pairs x x ⊎ (Reaches pairs x a × Reaches pairs b x) → ⊥
    by_case (inl old) = none x old
    by_case (inr halves) = ends halves.0 halves.1 where
      ends : Reaches pairs x a → Reaches pairs b x → ⊥
      ends (inl e) (inl f) = other (sym (f ∙ e))
      ends (inl e) (inr g) = let P : ℕ → Type 0 = λ n. IsBelow pairs b n in back (subst P e g)
      ends (inr g) (inl f) = let P : ℕ → Type 0 = λ n. IsBelow pairs n a in back (subst P (sym f) g)
      ends (inr g) (inr h) = back (IsBelow-trans pairs b x a h g)

pub cycle_same : (pairs : List (ℕ × ℕ)) (a b : ℕ) → a ≡ b → HasNoCycle (pairs ++ (a, b) ∷ []) → ⊥
cycle_same pairs a b same none =
    let P : ℕ → Type 0 = λ n. IsBelow (pairs ++ (a, b) ∷ []) a n in
    none a (subst P (sym same) (by_pair (first_last pairs (a, b) (a, b) (0, omega arith, refl))))

pub cycle_back : (pairs : List (ℕ × ℕ)) (a b : ℕ) → IsBelow pairs b a
    → HasNoCycle (pairs ++ (a, b) ∷ []) → ⊥
cycle_back pairs a b back none =
    none a (by_chain (first_last pairs (a, b) (a, b) (0, omega arith, refl))
    (fewer_pairs _ _ b a
    (λ p known. first_last pairs (a, b) p (contains_later pairs (a, b) p known)) back))

-- a sort is not equal to a sort above it
pub no_loop : (pairs : List (ℕ × ℕ)) (a b : ℕ) → HasNoCycle pairs → IsBelow pairs a b
    → (a == b) ≡ false
no_loop pairs a b none below = unless (a == b) refl where
  unless : (t : Bool) → (a == b) ≡ t → (a == b) ≡ false
  unless false e = e
  unless true e =
      let P : ℕ → Type 0 = λ x. IsBelow pairs x b in
      absurd (none b (subst P (eqb-true a b e) below))

pub below_is_tested : BelowIsTested
below_is_tested pairs a b = (is_below-true pairs a b, true-is_below pairs a b)
