-- Decisions: of two patterns it is decided whether they are the same, and so on.
use Rattle.std.proofs.Common.{◌≡◌, ◌<◌, ℕ, ℤ, Bool, true, false, List, [], ◌∷◌, Option, Some, None, refl}
use Rattle.std.proofs.Common.{sym, ap, ◌⊎◌, inl, inr, eq-eqb, All, nat_eq}
use Rattle.std.specs.Prelude.{nat_lt}
use Rattle.std.specs.Str.{bytes_eq}
use Rattle.std.proofs.Math.IntN.{ℤ_discrete}
use Rattle.std.proofs.Math.Logic.{by_cases}
use Rattle.std.proofs.lemmas.Bool.{false≢true, eqb-true}
use Rattle.std.proofs.lemmas.Bool.Decides.{Decides-ltb}
use Rattle.std.proofs.lemmas.List.Elements.{All-nil, All-cons, All-head, All-tail}
use Rattle.std.proofs.lemmas.Slice.Eq.{bytes_eq-Decides}
use Rattle.term_core.specs.Patterns.{Pattern, Patterns, variable, domain_value, application}
use Rattle.term_core.specs.Patterns.{injection, call, no_pattern, more_patterns}
use Rattle.term_core.specs.Terms.{DomainValue, integer, truth, text}
use Rattle.rule_core.specs.NamedParts.{Name}
use Rattle.rule_core.specs.Rules.{ComesBefore}
use Rattle.rule_core.specs.WellSorted.{AreDifferent}

-- it holds, or it does not
abbrev pub Holds : Type 0 → Type 0
Holds P = P ⊎ (P → ⊥)

pub by_test : {P : Type 0} (b : Bool) → (b ≡ true → P) → (P → b ≡ true) → Holds P
by_test true into from = inl (into refl)
by_test false into from = inr (λ p. false≢true (from p))

pub is_true : (b : Bool) → Holds (b ≡ true)
is_true b = by_test b (λ h. h) (λ h. h)

pub as_much : {P Q : Type 0} → (P → Q) → (Q → P) → Holds P → Holds Q
as_much into from (inl p) = inl (into p)
as_much into from (inr never) = inr (λ q. never (from q))

pub both : {P Q : Type 0} → Holds P → Holds Q → Holds (P × Q)
both (inl p) (inl q) = inl (p, q)
both (inl p) (inr never) = inr (λ h. never h.1)
both (inr never) q = inr (λ h. never h.0)

pub either : {P Q : Type 0} → Holds P → Holds Q → Holds (P ⊎ Q)
either (inl p) q = inl (inl p)
either (inr never) (inl q) = inl (inr q)
either {P} {Q} (inr never) (inr none) = inr neither where
  neither : P ⊎ Q → ⊥
  neither (inl p) = never p
  neither (inr q) = none q

pub each : {X : Type 0} (P : X → Type 0) → ((x : X) → Holds (P x)) → (xs : List X)
    → Holds (All P xs)
each P one [] = inl (All-nil P)
each P one (x ∷ xs) =
    as_much (λ (h : P x × All P xs). All-cons P x xs h.0 h.1)
    (λ (all : All P (x ∷ xs)). (All-head P x xs all, All-tail P x xs all))
    (both (one x) (each P one xs))

-- ---- the same

abbrev pub Same : Type 0 → Type 0
Same X = (x y : X) → Holds (x ≡ y)

pub same_number : Same ℕ
same_number m n = by_test (nat_eq m n) (eqb-true m n) (eq-eqb m n)

pub same_text : Same (List ℕ)
same_text xs ys = by_test (bytes_eq xs ys) (bytes_eq-Decides xs ys).0 (bytes_eq-Decides xs ys).1

same_bool : Same Bool
same_bool true true = inl refl
same_bool true false = inr (λ e. false≢true (sym e))
same_bool false true = inr false≢true
same_bool false false = inl refl

same_integer : Same ℤ
same_integer x y = by_cases (ℤ_discrete x y) inl inr

pub same_list : {X : Type 0} → Same X → Same (List X)
same_list one [] [] = inl refl
same_list one [] (y ∷ ys) = inr (λ e. let never : ⊥ = cc in never)
same_list one (x ∷ xs) [] = inr (λ e. let never : ⊥ = cc in never)
same_list one (x ∷ xs) (y ∷ ys) =
    as_much (λ (h : (x ≡ y) × (xs ≡ ys)). let a = h.0 in let b = h.1 in cc)
    (λ (e : (x ∷ xs) ≡ (y ∷ ys)).
    ((let a : x ≡ y = cc in a), (let b : xs ≡ ys = cc in b)))
    (both (one x y) (same_list one xs ys))

pub same_option : {X : Type 0} → Same X → Same (Option X)
same_option one None None = inl refl
same_option one None (Some y) = inr (λ e. let never : ⊥ = cc in never)
same_option one (Some x) None = inr (λ e. let never : ⊥ = cc in never)
same_option {X} one (Some x) (Some y) =
    as_much (λ (h : x ≡ y). ap (λ (z : X). Some z) h)
    (λ (e : Some x ≡ Some y). let a : x ≡ y = cc in a) (one x y)

same_value : Same DomainValue
same_value (integer m) (integer n) =
    as_much (λ (h : m ≡ n). ap integer h)
    (λ (e : integer m ≡ integer n). let a : m ≡ n = cc in a) (same_integer m n)
same_value (truth b) (truth c) =
    as_much (λ (h : b ≡ c). ap truth h) (λ (e : truth b ≡ truth c). let a : b ≡ c = cc in a)
    (same_bool b c)
same_value (text s) (text t) =
    as_much (λ (h : s ≡ t). ap text h) (λ (e : text s ≡ text t). let a : s ≡ t = cc in a)
    (same_text s t)
same_value (integer m) (truth c) = inr (λ e. let never : ⊥ = cc in never)
same_value (integer m) (text t) = inr (λ e. let never : ⊥ = cc in never)
same_value (truth b) (integer n) = inr (λ e. let never : ⊥ = cc in never)
same_value (truth b) (text t) = inr (λ e. let never : ⊥ = cc in never)
same_value (text s) (integer n) = inr (λ e. let never : ⊥ = cc in never)
same_value (text s) (truth c) = inr (λ e. let never : ⊥ = cc in never)

mutual
  pub same_pattern : Same Pattern
  same_pattern (variable x) (variable y) =
      as_much (λ (h : x ≡ y). ap variable h)
      (λ (e : variable x ≡ variable y). let a : x ≡ y = cc in a) (same_number x y)
  same_pattern (domain_value s v) (domain_value t w) =
      as_much (λ (h : (s ≡ t) × (v ≡ w)). let a = h.0 in let b = h.1 in cc)
      (λ (e : domain_value s v ≡ domain_value t w).
      ((let a : s ≡ t = cc in a), (let b : v ≡ w = cc in b)))
      (both (same_number s t) (same_value v w))
  same_pattern (application f ps) (application g qs) =
      as_much (λ (h : (f ≡ g) × (ps ≡ qs)). let a = h.0 in let b = h.1 in cc)
      (λ (e : application f ps ≡ application g qs).
      ((let a : f ≡ g = cc in a), (let b : ps ≡ qs = cc in b)))
      (both (same_number f g) (same_patterns ps qs))
  same_pattern (injection a b p) (injection c d q) =
      as_much (λ (h : (a ≡ c) × ((b ≡ d) × (p ≡ q))).
      let x = h.0 in let y = h.1.0 in let z = h.1.1 in cc)
      (λ (e : injection a b p ≡ injection c d q).
      ((let x : a ≡ c = cc in x), ((let y : b ≡ d = cc in y), (let z : p ≡ q = cc in z))))
      (both (same_number a c) (both (same_number b d) (same_pattern p q)))
  same_pattern (call f ss ps) (call g ts qs) =
      as_much (λ (h : (f ≡ g) × ((ss ≡ ts) × (ps ≡ qs))).
      let x = h.0 in let y = h.1.0 in let z = h.1.1 in cc)
      (λ (e : call f ss ps ≡ call g ts qs).
      ((let x : f ≡ g = cc in x), ((let y : ss ≡ ts = cc in y), (let z : ps ≡ qs = cc in z))))
      (both (same_number f g) (both (same_text ss ts) (same_patterns ps qs)))
  same_pattern (variable x) (domain_value t w) = inr (λ e. let never : ⊥ = cc in never)
  same_pattern (variable x) (application g qs) = inr (λ e. let never : ⊥ = cc in never)
  same_pattern (variable x) (injection c d q) = inr (λ e. let never : ⊥ = cc in never)
  same_pattern (variable x) (call g ts qs) = inr (λ e. let never : ⊥ = cc in never)
  same_pattern (domain_value s v) (variable y) = inr (λ e. let never : ⊥ = cc in never)
  same_pattern (domain_value s v) (application g qs) = inr (λ e. let never : ⊥ = cc in never)
  same_pattern (domain_value s v) (injection c d q) = inr (λ e. let never : ⊥ = cc in never)
  same_pattern (domain_value s v) (call g ts qs) = inr (λ e. let never : ⊥ = cc in never)
  same_pattern (application f ps) (variable y) = inr (λ e. let never : ⊥ = cc in never)
  same_pattern (application f ps) (domain_value t w) = inr (λ e. let never : ⊥ = cc in never)
  same_pattern (application f ps) (injection c d q) = inr (λ e. let never : ⊥ = cc in never)
  same_pattern (application f ps) (call g ts qs) = inr (λ e. let never : ⊥ = cc in never)
  same_pattern (injection a b p) (variable y) = inr (λ e. let never : ⊥ = cc in never)
  same_pattern (injection a b p) (domain_value t w) = inr (λ e. let never : ⊥ = cc in never)
  same_pattern (injection a b p) (application g qs) = inr (λ e. let never : ⊥ = cc in never)
  same_pattern (injection a b p) (call g ts qs) = inr (λ e. let never : ⊥ = cc in never)
  same_pattern (call f ss ps) (variable y) = inr (λ e. let never : ⊥ = cc in never)
  same_pattern (call f ss ps) (domain_value t w) = inr (λ e. let never : ⊥ = cc in never)
  same_pattern (call f ss ps) (application g qs) = inr (λ e. let never : ⊥ = cc in never)
  same_pattern (call f ss ps) (injection c d q) = inr (λ e. let never : ⊥ = cc in never)

  pub same_patterns : Same Patterns
  same_patterns no_pattern no_pattern = inl refl
  same_patterns no_pattern (more_patterns q qs) = inr (λ e. let never : ⊥ = cc in never)
  same_patterns (more_patterns p ps) no_pattern = inr (λ e. let never : ⊥ = cc in never)
  same_patterns (more_patterns p ps) (more_patterns q qs) =
      as_much (λ (h : (p ≡ q) × (ps ≡ qs)). let a = h.0 in let b = h.1 in cc)
      (λ (e : more_patterns p ps ≡ more_patterns q qs).
      ((let a : p ≡ q = cc in a), (let b : ps ≡ qs = cc in b)))
      (both (same_pattern p q) (same_patterns ps qs))

abbrev name_with : ℕ → List ℕ → Bool → Name
name_with x place first = record { variable = x; place = place; first = first }

pub same_name : Same Name
same_name n m =
    as_much (λ (h : (n.variable ≡ m.variable) × ((n.place ≡ m.place) × (n.first ≡ m.first))).
    let whole : n ≡ m = λ i. name_with (h.0 i) (h.1.0 i) (h.1.1 i) in whole)
    (λ (e : n ≡ m). (
      ap (λ (x : Name). x.variable) e,
      (ap (λ (x : Name). x.place) e, ap (λ (x : Name). x.first) e),
    ))
    (both (same_number n.variable m.variable)
    (both (same_text n.place m.place) (same_bool n.first m.first)))

-- ---- orders

pub is_before : (x y : ℕ × ℕ) → Holds (ComesBefore x y)
is_before x y =
    either (less x.0 y.0) (both (same_number x.0 y.0) (less x.1 y.1))
  where
    less : (m n : ℕ) → Holds (m < n)
    less m n = by_test (nat_lt m n) (Decides-ltb m n).0 (Decides-ltb m n).1

pub are_different : (xs : List ℕ) → Holds (AreDifferent xs)
are_different [] = inl tt
are_different (x ∷ xs) = both (each (λ (y : ℕ). x ≡ y → ⊥) (other x) xs) (are_different xs) where
  other : (x y : ℕ) → Holds (x ≡ y → ⊥)
  other x y = by_same (same_number x y) where
    by_same : Holds (x ≡ y) → Holds (x ≡ y → ⊥)
    by_same (inl same) = inr (λ differ. differ same)
    by_same (inr differ) = inl differ
