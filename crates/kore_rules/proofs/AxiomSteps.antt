-- What is read of some axioms and of one more.
use Rattle.std.proofs.Common.{◌≡◌, ◌≤◌, ℕ, ◌+◌, Bool, true, false, cond, List, [], ◌∷◌, ◌++◌}
use Rattle.std.proofs.Common.{Contains, sym, ap, subst, arith, ◌⊎◌, inl, inr}
use Rattle.std.proofs.Common.{length-append}
use Rattle.std.specs.Prelude.{count_by, ◌==◌}
use Rattle.std.proofs.lemmas.List.Elements.{Contains-append_left, Contains-push}
use Rattle.std.proofs.lemmas.List.Elements.{Contains-push_cases}
use Rattle.std.proofs.lemmas.List.Sums.{sum_by_push}
use Rattle.kore_text.specs.Trees.{AxiomDeclaration}
use Rattle.kore_rules.specs.AxiomsRead.{AreRead}
use Rattle.kore_rules.specs.KeptNames.{AreOf}

-- P holds for some axiom
abbrev pub Some_is : (AxiomDeclaration → Type 0) → List AxiomDeclaration → Type 0
Some_is P axioms = (a : AxiomDeclaration) × Contains axioms a × P a

pub some_more : (P : AxiomDeclaration → Type 0) (axioms : List AxiomDeclaration)
    (a : AxiomDeclaration) → Some_is P axioms → Some_is P (axioms ++ a ∷ [])
some_more P axioms a (b, there, is) = (b, Contains-append_left axioms (a ∷ []) b there, is)

pub some_last : (P : AxiomDeclaration → Type 0) (axioms : List AxiomDeclaration)
    (a : AxiomDeclaration) → P a → Some_is P (axioms ++ a ∷ [])
some_last P axioms a is = (a, Contains-push axioms a, is)

pub some_cases : (P : AxiomDeclaration → Type 0) (axioms : List AxiomDeclaration)
    (a : AxiomDeclaration) → Some_is P (axioms ++ a ∷ []) → Some_is P axioms ⊎ P a
some_cases P axioms a (b, there, is) = elim (Contains-push_cases axioms a b there) [
  | inl before ↦ inl (b, before, is)
  | inr same ↦ inr (subst P (sym same) is)
]

abbrev one_if : Bool → ℕ
one_if b = cond b 1 0

count_push : {X : Type 0} (test : X → Bool) (xs : List X) (x : X)
    → count_by test (xs ++ x ∷ []) ≡ count_by test xs + one_if (test x)
count_push test xs x = sum_by_push (λ y. one_if (test y)) xs x

-- the new axiom is one more of the things
pub read_more : {X : Type 0} (Is : AxiomDeclaration → X → Type 0) (place : X → ℕ)
    (axioms : List AxiomDeclaration) (xs : List X) (a : AxiomDeclaration) (x : X) → Is a x
    → ((y : X) → Is a y → x ≡ y) → place x ≡ a.at → AreRead Is place axioms xs
    → AreRead Is place (axioms ++ a ∷ []) (xs ++ x ∷ [])
read_more {X} Is place axioms xs a x is one there before = record {
  just = λ y. (
    λ has. elim (Contains-push_cases xs x y has) [
      | inl old ↦ some_more (λ b. Is b y) axioms a ((before.just y).0 old)
      | inr same ↦ some_last (λ b. Is b y) axioms a (subst (Is a) same is)
    ],
    λ some. elim (some_cases (λ b. Is b y) axioms a some) [
      | inl old ↦ Contains-append_left xs (x ∷ []) y ((before.just y).1 old)
      | inr new ↦ subst (Contains (xs ++ x ∷ [])) (one y new) (Contains-push xs x)
    ],
  );
  short =
      let le = before.short in
      let l = length-append xs (x ∷ []) in
      let m = length-append axioms (a ∷ []) in omega (arith, le, l, m);
  few = λ p.
      let le = before.few p in
      let l = count_push (λ y. place y == p) xs x in
      let m = count_push (λ (b : AxiomDeclaration). b.at == p) axioms a in
      let same : one_if (place x == p) ≡ one_if (a.at == p) = ap (λ n. one_if (n == p)) there in
      omega (arith, le, l, m, same);
}

-- the new axiom is none of the things
pub read_same : {X : Type 0} (Is : AxiomDeclaration → X → Type 0) (place : X → ℕ)
    (axioms : List AxiomDeclaration) (xs : List X) (a : AxiomDeclaration)
    → ((y : X) → Is a y → ⊥) → AreRead Is place axioms xs → AreRead Is place (axioms ++ a ∷ []) xs
read_same {X} Is place axioms xs a none before = record {
  just = λ y. (
    λ has. some_more (λ b. Is b y) axioms a ((before.just y).0 has),
    λ some. elim (some_cases (λ b. Is b y) axioms a some) [
      | inl old ↦ (before.just y).1 old
      | inr new ↦ absurd (none y new)
    ],
  );
  short = let le = before.short in let m = length-append axioms (a ∷ []) in omega (arith, le, m);
  few = λ p.
      let le = before.few p in
      let m = count_push (λ (b : AxiomDeclaration). b.at == p) axioms a in
      omega (arith, le, m);
}

-- the new axiom is the last thing
pub of_more : {X : Type 0} (Is : AxiomDeclaration → X → Type 0) (axioms : List AxiomDeclaration)
    (xs : List X) (a : AxiomDeclaration) (x : X) → Is a x → AreOf Is axioms xs
    → AreOf Is (axioms ++ a ∷ []) (xs ++ x ∷ [])
of_more {X} Is axioms xs a x is before = λ y has. elim (Contains-push_cases xs x y has) [
  | inl old ↦ some_more (λ b. Is b y) axioms a (before y old)
  | inr same ↦ some_last (λ b. Is b y) axioms a (subst (Is a) same is)
]

-- there is one more axiom, and nothing more
pub of_same : {X : Type 0} (Is : AxiomDeclaration → X → Type 0) (axioms : List AxiomDeclaration)
    (xs : List X) (a : AxiomDeclaration) → AreOf Is axioms xs → AreOf Is (axioms ++ a ∷ []) xs
of_same {X} Is axioms xs a before = λ y has. some_more (λ b. Is b y) axioms a (before y has)

-- ---- how many axioms pass a test

pub within_same : (test : AxiomDeclaration → Bool) (axioms : List AxiomDeclaration)
    (a : AxiomDeclaration) (n : ℕ) → n ≤ count_by test axioms
    → n ≤ count_by test (axioms ++ a ∷ [])
within_same test axioms a n le = let m = count_push test axioms a in omega (arith, le, m)

pub within_more : (test : AxiomDeclaration → Bool) (axioms : List AxiomDeclaration)
    (a : AxiomDeclaration) (n : ℕ) → test a ≡ true → n ≤ count_by test axioms
    → n + 1 ≤ count_by test (axioms ++ a ∷ [])
within_more test axioms a n is le =
    let m = count_push test axioms a in
    let one : one_if (test a) ≡ 1 = ap one_if is in omega (arith, le, m, one)

pub count_more : (test : AxiomDeclaration → Bool) (axioms : List AxiomDeclaration)
    (a : AxiomDeclaration) → test a ≡ true
    → count_by test (axioms ++ a ∷ []) ≡ count_by test axioms + 1
count_more test axioms a is =
    let m = count_push test axioms a in
    let one : one_if (test a) ≡ 1 = ap one_if is in omega (arith, m, one)

pub count_same : (test : AxiomDeclaration → Bool) (axioms : List AxiomDeclaration)
    (a : AxiomDeclaration) → test a ≡ false
    → count_by test (axioms ++ a ∷ []) ≡ count_by test axioms
count_same test axioms a isnt =
    let m = count_push test axioms a in
    let none : one_if (test a) ≡ 0 = ap one_if isnt in omega (arith, m, none)
