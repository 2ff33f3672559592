-- Things that are sorted by priority and place are in the order of trial, if no two are at the same
-- place.
use Rattle.std.proofs.Common.{◌≡◌, ◌<◌, ◌≤◌, ℕ, zero, suc, ◌+◌, Bool, true, false, cond, List, []}
use Rattle.std.proofs.Common.{◌∷◌, length, map, All, get_or, refl, sym, ap, ◌∙◌, subst, arith, ◌⊎◌}
use Rattle.std.proofs.Common.{inl, inr, eq-eqb, add-one}
use Rattle.std.specs.Prelude.{count_by, ◌==◌, nat_lt}
use Rattle.std.specs.List.Sorted.{IsPermutation, IsSortedByKey}
use Rattle.std.specs.Ordering.{nat_cmp, ordering_then, is_lt}
use Rattle.std.proofs.lemmas.Bool.{eqb-true, false≢true}
use Rattle.std.proofs.lemmas.Bool.Decides.{Decides-ltb}
use Rattle.std.proofs.lemmas.List.Elements.{All-nil, All-cons}
use Rattle.std.proofs.lemmas.List.Sums.{sum_by-cons}
use Rattle.std.proofs.lemmas.List.Sorted.{sum_by-IsPermutation, IsPermutation-map}
use Rattle.rule_core.specs.Rules.{ComesBefore, AreInOrder}
use Rattle.kore_rules.specs.AxiomsRead.{AreApart}

-- the first is not after the second
abbrev Leads : ℕ × ℕ → ℕ × ℕ → Type 0
Leads x y = (x.0 < y.0) ⊎ ((x.0 ≡ y.0) × (x.1 ≤ y.1))

abbrev pub compared : ℕ × ℕ → ℕ × ℕ → Bool
compared y x = is_lt (ordering_then (nat_cmp y.0 x.0) (nat_cmp y.1 x.1))

not_less : (a b : ℕ) → nat_lt b a ≡ false → a ≤ b
not_less a b e = omega (arith, λ (lt : b < a). false≢true (sym e ∙ (Decides-ltb b a).1 lt))

leads_by : (a b c d : ℕ) (t u v : Bool) → nat_lt c a ≡ t → (c == a) ≡ u → nat_lt d b ≡ v
    → is_lt (ordering_then (nat_cmp c a) (nat_cmp d b)) ≡ false → Leads (a, b) (c, d)
leads_by a b c d true u v e f g h =
    absurd (let wrong : true ≡ false = rw e at h in let never : ⊥ = cc in never)
leads_by a b c d false true true e f g h =
    absurd (let wrong : true ≡ false = rw (e, f, g) at h in let never : ⊥ = cc in never)
leads_by a b c d false true false e f g h = inr (sym (eqb-true c a f), not_less b d g)
leads_by a b c d false false v e f g h =
    let le = not_less a c e in
    let other : c ≡ a → ⊥ = λ same. false≢true (sym f ∙ eq-eqb c a same) in
    inl (omega (arith, le, other))

leads_from : (x y : ℕ × ℕ) → compared y x ≡ false → Leads x y
leads_from x y h =
    leads_by x.0 x.1 y.0 y.1 (nat_lt y.0 x.0) (y.0 == x.0) (nat_lt y.1 x.1) refl refl refl h

-- each leads the next
abbrev Chain : List (ℕ × ℕ) → Type 0
Chain [] = Unit {0}
Chain (x ∷ []) = Unit {0}
Chain (x ∷ (y ∷ ys)) = Leads x y × Chain (y ∷ ys)

chain_from : {X : Type 0} (key : X → ℕ × ℕ) (xs : List X)
    → ((k : ℕ) (d : X) → suc k < length xs
    → compared (key (get_or xs (suc k) d)) (key (get_or xs k d)) ≡ false) → Chain (map key xs)
chain_from key [] h = tt
chain_from key (x ∷ []) h = tt
chain_from key (x ∷ (y ∷ ys)) h = (
  leads_from (key x) (key y) (h 0 x (omega arith)),
  chain_from key (y ∷ ys) (λ k d lt. h (suc k) d (omega (arith, lt))),
)

-- it leads all of them
abbrev LeadsAll : ℕ × ℕ → List (ℕ × ℕ) → Type 0
LeadsAll x [] = Unit {0}
LeadsAll x (y ∷ ys) = Leads x y × LeadsAll x ys

leads_on : (x y z : ℕ × ℕ) → Leads x y → Leads y z → Leads x z
leads_on x y z (inl a) (inl b) = inl (omega (arith, a, b))
leads_on x y z (inl a) (inr b) = inl (let e = b.0 in omega (arith, a, e))
leads_on x y z (inr a) (inl b) = inl (let e = a.0 in omega (arith, b, e))
leads_on x y z (inr a) (inr b) =
    inr (a.0 ∙ b.0, (let d = a.1 in let e = b.1 in omega (arith, d, e)))

stretched : (x y : ℕ × ℕ) (ys : List (ℕ × ℕ)) → Leads x y → LeadsAll y ys → LeadsAll x ys
stretched x y [] l h = tt
stretched x y (z ∷ zs) l h = (leads_on x y z l h.0, stretched x y zs l h.1)

leads_all : (x : ℕ × ℕ) (ys : List (ℕ × ℕ)) → Chain (x ∷ ys) → LeadsAll x ys
leads_all x [] c = tt
leads_all x (y ∷ ys) c = (c.0, stretched x y ys c.0 (leads_all y ys c.1))

rest_of : (x : ℕ × ℕ) (ys : List (ℕ × ℕ)) → Chain (x ∷ ys) → Chain ys
rest_of x [] c = tt
rest_of x (y ∷ ys) c = c.1

-- ---- places

abbrev one_if : Bool → ℕ
one_if b = cond b 1 0

abbrev is_at : ℕ → ℕ × ℕ → Bool
is_at p k = k.1 == p

count_cons : (p : ℕ) (k : ℕ × ℕ) (ks : List (ℕ × ℕ))
    → count_by (is_at p) (k ∷ ks) ≡ one_if (k.1 == p) + count_by (is_at p) ks
count_cons p k ks = sum_by-cons (λ (x : ℕ × ℕ). one_if (is_at p x)) k ks

apart_rest : (k : ℕ × ℕ) (ks : List (ℕ × ℕ)) → AreApart (k ∷ ks) → AreApart ks
apart_rest k ks h p = let is = count_cons p k ks in let le = h p in omega (arith, is, le)

none_there : (k : ℕ × ℕ) (ks : List (ℕ × ℕ)) → AreApart (k ∷ ks) → count_by (is_at k.1) ks ≡ 0
none_there k ks h =
    let is = count_cons k.1 k ks in
    let le = h k.1 in
    let here : one_if (k.1 == k.1) ≡ 1 = rw (eq-eqb k.1 k.1 refl) refl in
    omega (arith, is, le, here)

first_elsewhere : (p : ℕ) (t : Bool) (y : ℕ × ℕ) (ys : List (ℕ × ℕ)) → (y.1 == p) ≡ t
    → count_by (is_at p) (y ∷ ys) ≡ 0 → y.1 ≡ p → ⊥
first_elsewhere p true y ys e none same =
    let is = count_cons p y ys in
    let here : one_if (y.1 == p) ≡ 1 = rw e refl in omega (arith, is, none, here)
first_elsewhere p false y ys e none same = false≢true (sym e ∙ eq-eqb y.1 p same)

none_rest : (p : ℕ) (y : ℕ × ℕ) (ys : List (ℕ × ℕ)) → count_by (is_at p) (y ∷ ys) ≡ 0
    → count_by (is_at p) ys ≡ 0
none_rest p y ys none = let is = count_cons p y ys in omega (arith, is, none)

strictly : (x y : ℕ × ℕ) → Leads x y → (y.1 ≡ x.1 → ⊥) → ComesBefore x y
strictly x y (inl a) other = inl a
strictly x y (inr a) other = inr (a.0, (let le = a.1 in omega (arith, le, other)))

before_all : (x : ℕ × ℕ) (ys : List (ℕ × ℕ)) → LeadsAll x ys → count_by (is_at x.1) ys ≡ 0
    → All (ComesBefore x) ys
before_all x [] l none = All-nil (ComesBefore x)
before_all x (y ∷ ys) l none =
    All-cons (ComesBefore x) y ys
    (strictly x y l.0 (first_elsewhere x.1 (y.1 == x.1) y ys refl none))
    (before_all x ys l.1 (none_rest x.1 y ys none))

chain_in_order : (ks : List (ℕ × ℕ)) → Chain ks → AreApart ks → AreInOrder ks
chain_in_order [] c apart = tt
chain_in_order (k ∷ ks) c apart = (
  before_all k ks (leads_all k ks c) (none_there k ks apart),
  chain_in_order ks (rest_of k ks c) (apart_rest k ks apart),
)

moved_apart : (ks ms : List (ℕ × ℕ)) → IsPermutation ks ms → AreApart ks → AreApart ms
moved_apart ks ms moved apart p =
    let same = sum_by-IsPermutation (λ (x : ℕ × ℕ). one_if (is_at p x)) ks ms moved in
    let le = apart p in omega (arith, same, le)

-- sorting by these keys gives the order of trial
pub sorted_in_order : {X : Type 0} (key : X → ℕ × ℕ) (xs ys : List X) → IsPermutation xs ys
    → IsSortedByKey key (λ x y. ordering_then (nat_cmp x.0 y.0) (nat_cmp x.1 y.1)) ys
    → AreApart (map key xs) → AreInOrder (map key ys)
sorted_in_order key xs ys moved sorted apart =
    chain_in_order (map key ys) (chain_from key ys
    (λ k d lt. rw (sym (add-one k)) (sorted k d (omega arith) (omega (arith, lt)))))
    (moved_apart (map key xs) (map key ys) (IsPermutation-map key xs ys moved) apart)
