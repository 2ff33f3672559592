-- Patterns under quantifiers, one quantifier after another.
use Rattle.std.proofs.Common.{◌≡◌, ◌≢◌, ◌↔◌, ◌<◌, ◌≤◌, ℕ, ◌+◌, List, [], ◌∷◌, ◌++◌, length, drop}
use Rattle.std.proofs.Common.{get_or, Option, Some, None, MatchOption, Bool, is_some, refl, sym}
use Rattle.std.proofs.Common.{◌∙◌, ap, subst, arith}
use Rattle.std.specs.Prelude.{IsTrue}
use Rattle.std.proofs.lemmas.Bool.{false≢true}
use Rattle.std.proofs.lemmas.List.{drop_more, get_or-map, drop_all, length-map}
use Rattle.ml_pat.specs.Patterns.{Pattern, all, not, nullary, unary, binary, sorted, quantified}
use Rattle.ml_pat.specs.Patterns.{var, meta, constant, Ex, All}
use Rattle.term_core.specs.RulePatterns.{sort_numbers}
use Rattle.term_core.specs.declared.ids.SortId.{SortId}
use Rattle.rule_core.specs.declared.signature.Signature.{Signature}
use Rattle.true_facts.specs.Closing.{unquantified, IsUnder, IsClosed}

pub one_under : (sig : Signature) (names : List (List ℕ)) (k s : ℕ) (p q r : Pattern)
    → IsUnder sig names k s p q → IsUnder sig names k s p r → q ≡ r
one_under sig names k s p q r (n, there, is) (m, also, was) =
    let same : all k n q ≡ all k m r = sym is ∙ was in cc

sorts-drop : (ss : List SortId) (i : ℕ) (d : SortId) → i < length ss
    → drop i (sort_numbers ss) ≡ (get_or ss i d).0 ∷ drop (i + 1) (sort_numbers ss)
sorts-drop ss i d low =
    let within : i < length (sort_numbers ss) =
    omega (arith, length-map ss (λ (s : SortId). s.0)) in
    drop_more (sort_numbers ss) i 0 within
    ∙ ap (λ (n : ℕ). n ∷ drop (i + 1) (sort_numbers ss))
    (get_or-map (λ (s : SortId). s.0) ss i d 0 low)

-- one quantifier further
pub closed-next : (sig : Signature) (names : List (List ℕ)) (k i : ℕ) (ss : List SortId)
    (d : SortId) (p q r : Pattern) → i < length ss
    → IsUnder sig names (k + i) (get_or ss i d).0 p r
    → IsClosed sig names (k + i) (drop i (sort_numbers ss)) p q
    ↔ IsClosed sig names (k + (i + 1)) (drop (i + 1) (sort_numbers ss)) r q
closed-next sig names k i ss d p q r low is =
    let s : ℕ = (get_or ss i d).0 in
    let rest : List ℕ = drop (i + 1) (sort_numbers ss) in
    let front : drop i (sort_numbers ss) ≡ s ∷ rest = sorts-drop ss i d low in
    let further : k + i + 1 ≡ k + (i + 1) = omega arith in (
      λ h.
          let parts : IsClosed sig names (k + i) (s ∷ rest) p q =
          subst (λ (ns : List ℕ). IsClosed sig names (k + i) ns p q) front h in
          let same : parts.0 ≡ r = one_under sig names (k + i) s p parts.0 r parts.1 is in
          subst (λ (j : ℕ). IsClosed sig names j rest r q) further
          (subst (λ (b : Pattern). IsClosed sig names (k + i + 1) rest b q) same parts.2),
      λ h.
          subst (λ (ns : List ℕ). IsClosed sig names (k + i) ns p q) (sym front)
          (r, is, subst (λ (j : ℕ). IsClosed sig names j rest r q) (sym further) h),
    )

-- without a quantifier there, it is not closed over the next sort
pub not_closed : (sig : Signature) (names : List (List ℕ)) (k i : ℕ) (ss : List SortId)
    (d : SortId) (p q : Pattern) → i < length ss
    → ((r : Pattern) → IsUnder sig names (k + i) (get_or ss i d).0 p r → ⊥)
    → IsClosed sig names (k + i) (drop i (sort_numbers ss)) p q → ⊥
not_closed sig names k i ss d p q low none h =
    let parts : IsClosed sig names (k + i)
    ((get_or ss i d).0 ∷ drop (i + 1) (sort_numbers ss)) p q =
    subst (λ (ns : List ℕ). IsClosed sig names (k + i) ns p q) (sorts-drop ss i d low) h in
    none parts.0 parts.1

-- at the end
pub closed-all : (sig : Signature) (names : List (List ℕ)) (k i : ℕ) (ss : List SortId)
    (p q : Pattern) → length ss ≤ i → p ≡ q → IsClosed sig names k (drop i (sort_numbers ss)) p q
closed-all sig names k i ss p q past same =
    let none : drop i (sort_numbers ss) ≡ [] =
    drop_all i (sort_numbers ss) (omega (arith, length-map ss (λ (s : SortId). s.0))) in
    subst (λ (ns : List ℕ). IsClosed sig names k ns p q) (sym none) same

-- what is no quantifier has none in front of it
pub unquantified-same : (p : Pattern) → ((x s : ℕ) (q : Pattern) → p ≢ all x s q)
    → unquantified p ≡ p
unquantified-same (quantified All x s p) none = absurd (none x s p refl)
unquantified-same (quantified Ex x s p) none = refl
unquantified-same (nullary c) none = refl
unquantified-same (unary c p) none = refl
unquantified-same (binary c p q) none = refl
unquantified-same (sorted c p s) none = refl
unquantified-same (var x) none = refl
unquantified-same (meta i) none = refl
unquantified-same (constant c) none = refl

-- the pattern under quantifiers, without quantifiers in front of it
pub unquantified-closed : (sig : Signature) (names : List (List ℕ)) (k : ℕ) (ss : List ℕ)
    (p q : Pattern) → IsClosed sig names k ss p q → unquantified p ≡ unquantified q
unquantified-closed sig names k [] p q h = ap unquantified h
unquantified-closed sig names k (s ∷ ss) p q (r, (n, there, is), closed) =
    ap unquantified is ∙ unquantified-closed sig names (k + 1) ss r q closed

-- ---- quantifiers in two parts

pub closed-same : (sig : Signature) (names : List (List ℕ)) (k : ℕ) (ss : List ℕ) (p q r : Pattern)
    → IsClosed sig names k ss p q → IsClosed sig names k ss p r → q ≡ r
closed-same sig names k [] p q r first second = sym first ∙ second
closed-same sig names k (s ∷ ss) p q r (u, is, closed) (v, also, further) =
    let same : u ≡ v = one_under sig names k s p u v is also in
    closed-same sig names (k + 1) ss v q r
    (subst (λ (b : Pattern). IsClosed sig names (k + 1) ss b q) same closed) further

pub closed-join : (sig : Signature) (names : List (List ℕ)) (k n : ℕ) (xs ys : List ℕ)
    (p q r : Pattern) → n ≡ k + length xs → IsClosed sig names k xs p q
    → IsClosed sig names n ys q r → IsClosed sig names k (xs ++ ys) p r
closed-join sig names k n [] ys p q r is first second =
    let same : n ≡ k = omega arith in
    subst (λ (b : Pattern). IsClosed sig names k ys b r) (sym first)
    (subst (λ (j : ℕ). IsClosed sig names j ys q r) same second)
closed-join sig names k n (x ∷ xs) ys p q r is (u, under, closed) second =
    (u, under, closed-join sig names (k + 1) n xs ys u q r (omega arith) closed second)

pub closed-split : (sig : Signature) (names : List (List ℕ)) (k n : ℕ) (xs ys : List ℕ)
    (p r : Pattern) → n ≡ k + length xs → IsClosed sig names k (xs ++ ys) p r
    → (q : Pattern) × IsClosed sig names k xs p q × IsClosed sig names n ys q r
closed-split sig names k n [] ys p r is h =
    let same : k ≡ n = omega arith in
    (p, refl, subst (λ (j : ℕ). IsClosed sig names j ys p r) same h)
closed-split sig names k n (x ∷ xs) ys p r is (u, under, closed) =
    let rest = closed-split sig names (k + 1) n xs ys u r (omega arith) closed in
    (rest.0, (u, under, rest.1), rest.2)

-- whether the pattern is a negation
pub negation_test : {A : Type 0} (of : A → Pattern) (o : Option A) (q : Pattern) (b : Bool)
    → MatchOption o ((p : Pattern) → q ≢ not p) (λ a. q ≡ not (of a)) → b ≡ is_some o
    → IsTrue b ↔ ((p : Pattern) × (q ≡ not p))
negation_test of None q b is test =
    (λ t. absurd (false≢true (sym test ∙ t)), λ h. absurd (is h.0 h.1))
negation_test of (Some a) q b is test = (λ t. (of a, is), λ h. test)
