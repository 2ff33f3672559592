-- Two lists in the order of trial that have the same members are the same list.
use Rattle.std.proofs.Common.{◌≡◌, ℕ, List, [], ◌∷◌, map, refl, sym, ap, ◌∙◌, subst, arith, inl}
use Rattle.std.proofs.Common.{inr}
use Rattle.std.specs.Prelude.{All, Contains}
use Rattle.std.proofs.lemmas.List.Elements.{All-head, All-tail}
use Rattle.rule_core.specs.Rules.{ComesBefore, AreInOrder}
use Rattle.kore_sig.proofs.FirstLaws.{contains_here, contains_there, contains_cases, contains_none}

pub each_key : {X : Type 0} (key : X → ℕ × ℕ) (P : ℕ × ℕ → Type 0) (xs : List X) (x : X)
    → All P (map key xs) → Contains xs x → P (key x)
each_key key P [] x all has = absurd (contains_none x has)
each_key key P (y ∷ ys) x all has = elim (contains_cases y x ys has) [
  | inl same ↦ subst (λ z. P (key z)) same (All-head P (key y) (map key ys) all)
  | inr later ↦ each_key key P ys x (All-tail P (key y) (map key ys) all) later
]

not_both : (x y : ℕ × ℕ) → ComesBefore x y → ComesBefore y x → ⊥
not_both x y (inl h) (inl k) = omega (arith, h, k)
not_both x y (inl h) (inr k) = omega (arith, h, k.0)
not_both x y (inr h) (inl k) = omega (arith, h.0, k)
not_both x y (inr h) (inr k) = omega (arith, h.1, k.1)

firsts_same : {X : Type 0} (key : X → ℕ × ℕ) (x y : X) (xs ys : List X)
    → AreInOrder (map key (x ∷ xs)) → AreInOrder (map key (y ∷ ys)) → Contains (y ∷ ys) x
    → Contains (x ∷ xs) y → x ≡ y
firsts_same key x y xs ys a b h k = elim (contains_cases y x ys h) [
  | inl same ↦ sym same
  | inr below ↦ elim (contains_cases x y xs k) [
    | inl same ↦ same
    | inr behind ↦ absurd (not_both (key x) (key y)
        (each_key key (ComesBefore (key x)) xs y a.0 behind)
        (each_key key (ComesBefore (key y)) ys x b.0 below))
  ]
]

-- what is behind the first member of a list is not this member
rest_within : {X : Type 0} (key : X → ℕ × ℕ) (x : X) (xs ys : List X)
    → AreInOrder (map key (x ∷ xs)) → ((z : X) → Contains (x ∷ xs) z → Contains (x ∷ ys) z)
    → (z : X) → Contains xs z → Contains ys z
rest_within key x xs ys order into z has =
    let later : ComesBefore (key x) (key z) =
    each_key key (ComesBefore (key x)) xs z order.0 has in
    elim (contains_cases x z ys (into z (contains_there x z xs has))) [
      | inl same ↦ absurd (let twice : ComesBefore (key x) (key x) =
          subst (λ w. ComesBefore (key x) (key w)) (sym same) later in
          not_both (key x) (key x) twice twice)
      | inr behind ↦ behind
    ]

pub one_list : {X : Type 0} (key : X → ℕ × ℕ) (xs ys : List X) → AreInOrder (map key xs)
    → AreInOrder (map key ys) → ((z : X) → Contains xs z → Contains ys z)
    → ((z : X) → Contains ys z → Contains xs z) → xs ≡ ys
one_list key [] [] a b into from = refl
one_list key [] (y ∷ ys) a b into from = absurd (contains_none y (from y (contains_here y ys)))
one_list key (x ∷ xs) [] a b into from = absurd (contains_none x (into x (contains_here x xs)))
one_list {X} key (x ∷ xs) (y ∷ ys) a b into from =
    let first : x ≡ y =
    firsts_same key x y xs ys a b (into x (contains_here x xs)) (from y (contains_here y ys)) in
    let there : (z : X) → Contains (x ∷ xs) z → Contains (x ∷ ys) z =
    λ z h. subst (λ (w : X). Contains (w ∷ ys) z) (sym first) (into z h) in
    let back : (z : X) → Contains (x ∷ ys) z → Contains (x ∷ xs) z =
    λ z h. from z (subst (λ (w : X). Contains (w ∷ ys) z) first h) in
    let order : AreInOrder (map key (x ∷ ys)) =
    subst (λ (w : X). AreInOrder (map key (w ∷ ys))) (sym first) b in
    ap (λ (w : X). w ∷ xs) first
    ∙ ap (λ (zs : List X). y ∷ zs) (one_list key xs ys a.1 b.1
    (rest_within key x xs ys a there) (rest_within key x ys xs order back))
