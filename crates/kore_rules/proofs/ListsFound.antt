-- The things that axioms are, collected and put into the order of trial.
use Rattle.std.proofs.Common.{◌≡◌, ◌<◌, ◌≤◌, ℕ, Bool, true, false, cond, List, [], ◌∷◌, ◌++◌, map}
use Rattle.std.proofs.Common.{append_assoc, append-nil, refl, sym, ap, ◌∙◌, subst, arith, inl, inr}
use Rattle.std.proofs.Common.{eq-eqb}
use Rattle.std.specs.Prelude.{◌⊎◌, ◌↔◌, ◌==◌, All, Contains, count_by, nat_lt}
use Rattle.std.proofs.lemmas.Bool.{false≢true}
use Rattle.std.proofs.lemmas.Bool.Decides.{Decides-ltb}
use Rattle.std.proofs.lemmas.List.Elements.{All-nil, All-cons}
use Rattle.std.proofs.lemmas.List.Sums.{sum_by-cons}
use Rattle.kore_text.specs.Trees.{AxiomDeclaration}
use Rattle.rule_core.specs.Rules.{ComesBefore, AreInOrder}
use Rattle.kore_sig.proofs.FirstLaws.{contains_here, contains_there, contains_cases, contains_none}
use Rattle.kore_rules.specs.AxiomsRead.{AreRead, AreApart, AreFew}
use Rattle.kore_rules.proofs.AxiomSteps.{read_more, read_same}
use Rattle.kore_rules.proofs.OneOrder.{each_key}
use Rattle.kore_rules.proofs.ProgramLaws.{read_apart}
use Rattle.kore_rules.proofs.RulesFound.{Decided}

-- ---- the things

-- an axiom is at most one of these things, at the axiom's place
pub record AreOne {X : Type 0} (Is : AxiomDeclaration → X → Type 0) (place : X → ℕ) : Type 0 where
  pub one : (a : AxiomDeclaration) (x y : X) → Is a x → Is a y → x ≡ y
  pub there : (a : AxiomDeclaration) (x : X) → Is a x → place x ≡ a.at

read_none : {X : Type 0} (Is : AxiomDeclaration → X → Type 0) (place : X → ℕ)
    → AreRead Is place [] []
read_none Is place = record {
  just = λ x. (λ has. absurd (contains_none x has), λ some. absurd (contains_none some.0 some.1));
  short = omega arith;
  few = λ at. omega arith;
}

collect : {X : Type 0} (Is : AxiomDeclaration → X → Type 0) (place : X → ℕ) → AreOne Is place
    → (front rest : List AxiomDeclaration)
    → ((a : AxiomDeclaration) → Contains rest a → Decided (Is a)) → (xs : List X)
    → AreRead Is place front xs → (ys : List X) × AreRead Is place (front ++ rest) ys
collect Is place are front [] each xs read = (
  xs,
  subst (λ (axioms : List AxiomDeclaration). AreRead Is place axioms xs)
      (sym (append-nil front)) read,
)
collect {X} Is place are front (a ∷ rest) each xs read =
    by_case (λ ys so_far. collect Is place are (front ++ a ∷ []) rest
    (λ b has. each b (contains_there a b rest has)) ys so_far)
    (each a (contains_here a rest))
  where
    moved : (ys : List X) × AreRead Is place ((front ++ a ∷ []) ++ rest) ys
        → (ys : List X) × AreRead Is place (front ++ a ∷ rest) ys
    moved (ys, found) = (
      ys,
      subst (λ (axioms : List AxiomDeclaration). AreRead Is place axioms ys)
          (append_assoc front (a ∷ []) rest) found,
    )

    by_case : ((ys : List X) → AreRead Is place (front ++ a ∷ []) ys
        → (zs : List X) × AreRead Is place ((front ++ a ∷ []) ++ rest) zs) → Decided (Is a)
        → (zs : List X) × AreRead Is place (front ++ a ∷ rest) zs
    by_case behind (inl (x, is)) =
        moved (behind (xs ++ x ∷ []) (read_more Is place front xs a x is
        (λ y other. are.one a x y is other) (are.there a x is) read))
    by_case behind (inr none) = moved (behind xs (read_same Is place front xs a none read))

-- ---- their order

before : (x y : ℕ × ℕ) → (x.1 ≡ y.1 → ⊥) → ComesBefore x y ⊎ ComesBefore y x
before x y apart = by_case (nat_lt x.0 y.0) (nat_lt y.0 x.0) (nat_lt x.1 y.1) refl refl refl where
  not_less : (m n : ℕ) → nat_lt m n ≡ false → m < n → ⊥
  not_less m n e lt = false≢true (sym e ∙ (Decides-ltb m n).1 lt)

  by_case : (a b c : Bool) → nat_lt x.0 y.0 ≡ a → nat_lt y.0 x.0 ≡ b → nat_lt x.1 y.1 ≡ c
      → ComesBefore x y ⊎ ComesBefore y x
  by_case true b c e f g = inl (inl ((Decides-ltb x.0 y.0).0 e))
  by_case false true c e f g = inr (inl ((Decides-ltb y.0 x.0).0 f))
  by_case false false true e f g =
      let same : x.0 ≡ y.0 = omega (arith, not_less x.0 y.0 e, not_less y.0 x.0 f) in
      inl (inr (same, (Decides-ltb x.1 y.1).0 g))
  by_case false false false e f g =
      let same : y.0 ≡ x.0 = omega (arith, not_less x.0 y.0 e, not_less y.0 x.0 f) in
      inr (inr (same, omega (arith, not_less x.1 y.1 g, apart)))

before_trans : (x y z : ℕ × ℕ) → ComesBefore x y → ComesBefore y z → ComesBefore x z
before_trans x y z (inl h) (inl k) = inl (omega (arith, h, k))
before_trans x y z (inl h) (inr k) = inl (omega (arith, h, k.0))
before_trans x y z (inr h) (inl k) = inl (omega (arith, h.0, k))
before_trans x y z (inr h) (inr k) = inr (h.0 ∙ k.0, omega (arith, h.1, k.1))

all_keys : {X : Type 0} (key : X → ℕ × ℕ) (P : ℕ × ℕ → Type 0) (xs : List X)
    → ((x : X) → Contains xs x → P (key x)) → All P (map key xs)
all_keys key P [] each = All-nil P
all_keys key P (x ∷ xs) each =
    All-cons P (key x) (map key xs) (each x (contains_here x xs))
    (all_keys key P xs (λ y has. each y (contains_there x y xs has)))

-- the same things in order, with this one among them
record Inserted {X : Type 0} (key : X → ℕ × ℕ) (x : X) (xs : List X) : Type 0 where
  pub items : List X
  pub in_order : AreInOrder (map key items)
  pub into : (y : X) → Contains items y → (x ≡ y) ⊎ Contains xs y
  pub from : (y : X) → (x ≡ y) ⊎ Contains xs y → Contains items y

insert : {X : Type 0} (key : X → ℕ × ℕ) (x : X) (xs : List X) → AreInOrder (map key xs)
    → ((y : X) → Contains xs y → (key x).1 ≡ (key y).1 → ⊥) → Inserted key x xs
insert key x [] in_order apart = record {
  items = x ∷ [];
  in_order = (All-nil (ComesBefore (key x)), tt);
  into = λ y has. contains_cases x y [] has;
  from =
      λ y h. elim h [
        | inl same ↦ subst (Contains (x ∷ [])) same (contains_here x [])
        | inr none ↦ absurd (contains_none y none)
      ];
}
insert {X} key x (z ∷ zs) in_order apart =
    by_case (insert key x zs in_order.1 (λ y has. apart y (contains_there z y zs has)))
    (before (key x) (key z) (apart z (contains_here z zs)))
  where
    first : ComesBefore (key x) (key z) → Inserted key x (z ∷ zs)
    first lt = record {
      items = x ∷ (z ∷ zs);
      in_order = (
        all_keys key (ComesBefore (key x)) (z ∷ zs) (λ y has. elim (contains_cases z y zs has) [
          | inl same ↦ subst (λ w. ComesBefore (key x) (key w)) same lt
          | inr later ↦ before_trans (key x) (key z) (key y) lt
              (each_key key (ComesBefore (key z)) zs y in_order.0 later)
        ]),
        in_order,
      );
      into = λ y has. contains_cases x y (z ∷ zs) has;
      from =
          λ y h. elim h [
            | inl same ↦ subst (Contains (x ∷ (z ∷ zs))) same (contains_here x (z ∷ zs))
            | inr old ↦ contains_there x y (z ∷ zs) old
          ];
    }

    later : ComesBefore (key z) (key x) → Inserted key x zs → Inserted key x (z ∷ zs)
    later lt rest = record {
      items = z ∷ rest.items;
      in_order = (
        all_keys key (ComesBefore (key z)) rest.items (λ y has. elim (rest.into y has) [
          | inl same ↦ subst (λ w. ComesBefore (key z) (key w)) same lt
          | inr old ↦ each_key key (ComesBefore (key z)) zs y in_order.0 old
        ]),
        rest.in_order,
      );
      into = λ y has. elim (contains_cases z y rest.items has) [
        | inl same ↦ inr (subst (Contains (z ∷ zs)) same (contains_here z zs))
        | inr some ↦ elim (rest.into y some)
            [ inl same ↦ inl same | inr old ↦ inr (contains_there z y zs old) ]
      ];
      from = λ y h. elim h [
        | inl same ↦ contains_there z y rest.items (rest.from y (inl same))
        | inr old ↦ elim (contains_cases z y zs old) [
          | inl same ↦ subst (Contains (z ∷ rest.items)) same (contains_here z rest.items)
          | inr some ↦ contains_there z y rest.items (rest.from y (inr some))
        ]
      ];
    }

    by_case : Inserted key x zs → ComesBefore (key x) (key z) ⊎ ComesBefore (key z) (key x)
        → Inserted key x (z ∷ zs)
    by_case rest (inl lt) = first lt
    by_case rest (inr lt) = later lt rest

abbrev one_if : Bool → ℕ
one_if b = cond b 1 0

abbrev is_at : ℕ → ℕ × ℕ → Bool
is_at at k = k.1 == at

counted : {X : Type 0} (key : X → ℕ × ℕ) (xs : List X) (x : X) (at : ℕ) → Contains xs x
    → (key x).1 ≡ at → 1 ≤ count_by (is_at at) (map key xs)
counted key [] x at has e = absurd (contains_none x has)
counted key (y ∷ ys) x at has e =
    let split = sum_by-cons (λ k. one_if (is_at at k)) (key y) (map key ys) in
    elim (contains_cases y x ys has) [
      | inl same ↦ (
          let here : one_if (is_at at (key y)) ≡ 1 =
          ap one_if (eq-eqb (key y).1 at (ap (λ z. (key z).1) same ∙ e)) in
          omega (arith, split, here)
          )
      | inr later ↦ (let rest = counted key ys x at later e in omega (arith, split, rest))
    ]

apart_first : {X : Type 0} (key : X → ℕ × ℕ) (x : X) (xs : List X) → AreApart (map key (x ∷ xs))
    → (y : X) → Contains xs y → (key x).1 ≡ (key y).1 → ⊥
apart_first key x xs apart y has e =
    let most = apart (key y).1 in
    let split = sum_by-cons (λ k. one_if (is_at (key y).1 k)) (key x) (map key xs) in
    let here : one_if (is_at (key y).1 (key x)) ≡ 1 = ap one_if (eq-eqb (key x).1 (key y).1 e) in
    let more = counted key xs y (key y).1 has refl in
    omega (arith, most, split, here, more)

apart_rest : {X : Type 0} (key : X → ℕ × ℕ) (x : X) (xs : List X) → AreApart (map key (x ∷ xs))
    → AreApart (map key xs)
apart_rest key x xs apart at =
    let most = apart at in
    let split = sum_by-cons (λ k. one_if (is_at at k)) (key x) (map key xs) in
    omega (arith, most, split)

-- things at different places can be put in order
in_order : {X : Type 0} (key : X → ℕ × ℕ) (xs : List X) → AreApart (map key xs)
    → (ys : List X) × AreInOrder (map key ys) × ((y : X) → Contains ys y ↔ Contains xs y)
in_order key [] apart = ([], tt, λ y. (λ has. has, λ has. has))
in_order key (x ∷ xs) apart =
    let rest = in_order key xs (apart_rest key x xs apart) in
    let made =
    insert key x rest.0 rest.1 (λ y has. apart_first key x xs apart y ((rest.2 y).0 has)) in (
      made.items,
      made.in_order,
      λ y. (
        λ has. elim (made.into y has) [
          | inl same ↦ subst (Contains (x ∷ xs)) same (contains_here x xs)
          | inr old ↦ contains_there x y xs ((rest.2 y).0 old)
        ],
        λ has. elim (contains_cases x y xs has) [
          | inl same ↦ made.from y (inl same)
          | inr later ↦ made.from y (inr ((rest.2 y).1 later))
        ],
      ),
    )

map_same : {X : Type 0} (xs : List X) → map (λ (x : X). x) xs ≡ xs
map_same [] = refl
map_same {X} (x ∷ xs) = ap (λ (ys : List X). x ∷ ys) (map_same xs)

-- the list has exactly the things that the axioms are, in the order of trial
pub record AreListed {X : Type 0} (Is : AxiomDeclaration → X → Type 0) (key : X → ℕ × ℕ)
    (axioms : List AxiomDeclaration) : Type 0 where
  pub items : List X
  pub just : (x : X) → Contains items x ↔ ((a : AxiomDeclaration) × Contains axioms a × Is a x)
  pub in_order : AreInOrder (map key items)

pub listed : {X : Type 0} (Is : AxiomDeclaration → X → Type 0) (key : X → ℕ × ℕ)
    → AreOne Is (λ (x : X). (key x).1) → (axioms : List AxiomDeclaration) → AreFew axioms
    → ((a : AxiomDeclaration) → Contains axioms a → Decided (Is a)) → AreListed Is key axioms
listed {X} Is key are axioms few each =
    let place : X → ℕ = λ (x : X). (key x).1 in
    let found = collect Is place are [] axioms each [] (read_none Is place) in
    let read : AreRead Is place axioms (map (λ (x : X). x) found.0) =
    subst (AreRead Is place axioms) (sym (map_same found.0)) found.1 in
    let apart = read_apart Is place (λ (x : X). x) key axioms found.0 (λ x. refl) few read in
    let ordered = in_order key found.0 apart in record {
      items = ordered.0;
      just =
          λ x. (
            λ has. (found.1.just x).0 ((ordered.2 x).0 has),
            λ some. (ordered.2 x).1 ((found.1.just x).1 some),
          );
      in_order = ordered.1;
    }
