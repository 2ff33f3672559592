-- The patterns that state that two patterns without a common instance are not equal.
use Rattle.std.proofs.Common.{◌≡◌, ◌↔◌, ◌⊎◌, ℕ, ◌+◌, List, [], ◌∷◌, ◌++◌, length, Option, Some}
use Rattle.std.proofs.Common.{None, option_map, Bool, refl, sym, ◌∙◌, ap, subst}
use Rattle.std.specs.Prelude.{IsTrue}
use Rattle.ml_pat.specs.Patterns.{Pattern, not, equal, all}
use Rattle.term_core.specs.Patterns.{Pattern as RulePattern}
use Rattle.rule_core.specs.declared.signature.Signature.{Signature}
use Rattle.ml_image.specs.Images.{both, image_of, sort_image}
use Rattle.ml_image.specs.Sentences.{Sentence, term, equals, for_all, sentence_image, IsImageOf}
use Rattle.ml_image.specs.Sentences.{not as deny}
use Rattle.ml_image.specs.Sides.{Side, Differ, side_sorts, side_pattern, AreApart}
use Rattle.ml_image.specs.TrueFacts.{SaysUnequal}
use Rattle.ml_image.proofs.ImageLaws.{none_some, some_same}
use Rattle.true_facts.specs.Closing.{unquantified, IsClosed}
use Rattle.true_facts.specs.Only.{IsOnly}
use Rattle.true_facts.specs.Sides.{IsSideAt, AreApartSides}
use Rattle.true_facts.proofs.BothLaws.{both_parts, both_made, map_parts}
use Rattle.true_facts.proofs.ClosingLaws.{unquantified-closed}

abbrev pub IsUnequalFact : Signature → List (List ℕ) → Pattern → Type 0
IsUnequalFact sig names p =
    (l : RulePattern) × (r : RulePattern) × IsImageOf sig names (SaysUnequal sig l r) p

pub record HasUnequalShape (sig : Signature) (names : List (List ℕ)) (p : Pattern) : Type 0 where
  pub left : Pattern
  pub right : Pattern
  pub one : ℕ × Side
  pub other : ℕ × Side
  pub is_left : IsSideAt sig names left 0 one
  pub is_right : IsSideAt sig names right (length (side_sorts one.1)) other
  pub are_apart : AreApartSides sig one other
  pub closed : IsClosed sig names 0 (side_sorts one.1 ++ side_sorts other.1) p
      (not (equal left right))

-- ---- quantified sentences

closed_parts : (sig : Signature) (names : List (List ℕ)) (k : ℕ) (ss : List ℕ) (s : Sentence)
    (p : Pattern) → sentence_image sig names (for_all k ss s) ≡ Some p
    → (q : Pattern) × (sentence_image sig names s ≡ Some q) × IsClosed sig names k ss p q
closed_parts sig names k [] s p h = (p, h, refl)
closed_parts sig names k (t ∷ ss) s p h =
    let parts = both_parts (all k) (sort_image sig names t)
    (sentence_image sig names (for_all (k + 1) ss s)) p h in
    let rest = closed_parts sig names (k + 1) ss s parts.1 parts.3 in
    (rest.0, rest.1, (parts.1, (parts.0, parts.2, parts.4), rest.2))

closed_image : (sig : Signature) (names : List (List ℕ)) (k : ℕ) (ss : List ℕ) (s : Sentence)
    (p q : Pattern) → sentence_image sig names s ≡ Some q → IsClosed sig names k ss p q
    → sentence_image sig names (for_all k ss s) ≡ Some p
closed_image sig names k [] s p q h same = h ∙ ap (λ (r : Pattern). Some r) (sym same)
closed_image sig names k (t ∷ ss) s p q h (r, (n, there, is), closed) =
    both_made (all k) (sort_image sig names t) (sentence_image sig names (for_all (k + 1) ss s)) n r
    there (closed_image sig names (k + 1) ss s r q h closed)
    ∙ ap (λ (x : Pattern). Some x) (sym is)

-- ---- facts

moved : (sig : Signature) (names : List (List ℕ)) (p : Pattern) (ss ts : List ℕ) (q r : Pattern)
    → ss ≡ ts → q ≡ r → IsClosed sig names 0 ss p q → IsClosed sig names 0 ts p r
moved sig names p ss ts q r sorts body closed =
    subst (λ (us : List ℕ). IsClosed sig names 0 us p r) sorts
    (subst (λ (b : Pattern). IsClosed sig names 0 ss p b) body closed)

negated : (q r s : Pattern) → q ≡ not r → r ≡ s → q ≡ not s
negated q r s is same = is ∙ ap (λ (x : Pattern). not x) same

pub unequal_shape : (sig : Signature) (names : List (List ℕ)) (p : Pattern)
    → IsUnequalFact sig names p → HasUnequalShape sig names p
unequal_shape sig names p (l, r, (s, h, image)) =
    let a : AreApart sig l r h.sorts = h.apart in
    let c = closed_parts sig names 0 h.sorts (deny (equals (term l) (term r))) p
    (ap (sentence_image sig names) (sym h.says) ∙ image) in
    let denied = map_parts not (both equal (image_of sig names l) (image_of sig names r)) c.0 c.1 in
    let sides = both_parts equal (image_of sig names l) (image_of sig names r) denied.0 denied.1 in
    let body : c.0 ≡ not (equal sides.0 sides.1) =
    negated c.0 denied.0 (equal sides.0 sides.1) denied.2 sides.4 in
    record {
      left = sides.0;
      right = sides.1;
      one = (a.sort, a.one);
      other = (a.sort, a.other);
      is_left = (a.is_one, ap (image_of sig names) (sym a.first) ∙ sides.2);
      is_right = (a.is_other, ap (image_of sig names) (sym a.second) ∙ sides.3);
      are_apart = (refl, a.differ);
      closed = moved sig names p h.sorts (side_sorts a.one ++ side_sorts a.other) c.0
          (not (equal sides.0 sides.1)) a.sorts_are body c.2;
    }

unequal_by : (sig : Signature) (names : List (List ℕ)) (p left right : Pattern) (sort : ℕ)
    (one other : Side) → IsSideAt sig names left 0 (sort, one)
    → IsSideAt sig names right (length (side_sorts one)) (sort, other)
    → Differ sig one other ⊎ Differ sig other one
    → IsClosed sig names 0 (side_sorts one ++ side_sorts other) p (not (equal left right))
    → IsUnequalFact sig names p
unequal_by sig names p left right sort one other is_left is_right differ closed =
    let l : RulePattern = side_pattern sort 0 one in
    let r : RulePattern = side_pattern sort (length (side_sorts one)) other in
    let sorts : List ℕ = side_sorts one ++ side_sorts other in (
      l,
      r,
      (
        for_all 0 sorts (deny (equals (term l) (term r))),
        record {
          sorts = sorts;
          apart = record {
            sort = sort;
            one = one;
            other = other;
            is_one = is_left.0;
            is_other = is_right.0;
            differ = differ;
            first = refl;
            second = refl;
            sorts_are = refl;
          };
          says = refl;
        },
        closed_image sig names 0 sorts (deny (equals (term l) (term r))) p
            (not (equal left right))
            (ap (option_map not) (both_made equal (image_of sig names l) (image_of sig names r) left
            right is_left.1 is_right.1)) closed,
      ),
    )

pub unequal_fact : (sig : Signature) (names : List (List ℕ)) (p left right : Pattern)
    (one other : ℕ × Side) → IsSideAt sig names left 0 one
    → IsSideAt sig names right (length (side_sorts one.1)) other → AreApartSides sig one other
    → IsClosed sig names 0 (side_sorts one.1 ++ side_sorts other.1) p (not (equal left right))
    → IsUnequalFact sig names p
unequal_fact sig names p left right one other is_left is_right (same, differ) closed =
    unequal_by sig names p left right one.0 one.1 other.1 is_left
    (subst (λ (s : ℕ). IsSideAt sig names right (length (side_sorts one.1)) (s, other.1)) (sym same)
    is_right) differ closed

-- ---- the parts of such a pattern

pub negation_there : (sig : Signature) (names : List (List ℕ)) (p : Pattern)
    (h : HasUnequalShape sig names p) → unquantified p ≡ not (equal h.left h.right)
negation_there sig names p h =
    unquantified-closed sig names 0 (side_sorts h.one.1 ++ side_sorts h.other.1) p
    (not (equal h.left h.right)) h.closed

pub equality_there : (sig : Signature) (names : List (List ℕ)) (p denied : Pattern)
    → unquantified p ≡ not denied → (h : HasUnequalShape sig names p)
    → denied ≡ equal h.left h.right
equality_there sig names p denied is h =
    let same : not denied ≡ not (equal h.left h.right) = sym is ∙ negation_there sig names p h in cc

-- the sides, from those that were read
pub record HasSides (sig : Signature) (names : List (List ℕ)) (p left right : Pattern)
    (one : ℕ × Side) : Type 0 where
  pub other : ℕ × Side
  pub is_left : IsSideAt sig names left 0 one
  pub is_right : IsSideAt sig names right (length (side_sorts one.1)) other
  pub are_apart : AreApartSides sig one other
  pub closed : IsClosed sig names 0 (side_sorts one.1 ++ side_sorts other.1) p
      (not (equal left right))

pub left_there : (sig : Signature) (names : List (List ℕ)) (p denied left right : Pattern)
    → unquantified p ≡ not denied → denied ≡ equal left right → IsUnequalFact sig names p
    → (one : ℕ × Side) × HasSides sig names p left right one
left_there sig names p denied left right is equality fact =
    let h : HasUnequalShape sig names p = unequal_shape sig names p fact in
    let same : equal left right ≡ equal h.left h.right =
    sym equality ∙ equality_there sig names p denied is h in
    let lefts : h.left ≡ left = cc in
    let rights : h.right ≡ right = cc in (
      h.one,
      record {
        other = h.other;
        is_left = subst (λ (q : Pattern). IsSideAt sig names q 0 h.one) lefts h.is_left;
        is_right = subst (λ (q : Pattern).
            IsSideAt sig names q (length (side_sorts h.one.1)) h.other) rights h.is_right;
        are_apart = h.are_apart;
        closed =
            subst (λ (q : Pattern). IsClosed sig names 0
            (side_sorts h.one.1 ++ side_sorts h.other.1) p (not (equal q right))) lefts
            (subst (λ (q : Pattern). IsClosed sig names 0
            (side_sorts h.one.1 ++ side_sorts h.other.1) p (not (equal h.left q))) rights
            h.closed);
      },
    )

-- with this first side, if it is the one that was read
pub sides_there : (sig : Signature) (names : List (List ℕ)) (p denied left right : Pattern)
    (one : ℕ × Side) → unquantified p ≡ not denied → denied ≡ equal left right
    → IsOnly (IsSideAt sig names left 0) (Some one) → IsUnequalFact sig names p
    → HasSides sig names p left right one
sides_there sig names p denied left right one is equality only fact =
    let h = left_there sig names p denied left right is equality fact in
    subst (λ (s : ℕ × Side). HasSides sig names p left right s)
    (sym (some_same one h.0 ((only h.0).0 h.1.is_left))) h.1

-- ---- the second side

-- the other side is the one that was read
other_there : (sig : Signature) (names : List (List ℕ)) (p left right : Pattern)
    (one : ℕ × Side) (n : ℕ) (o : Option (ℕ × Side)) → n ≡ length (side_sorts one.1)
    → IsOnly (IsSideAt sig names right n) o → (h : HasSides sig names p left right one)
    → o ≡ Some h.other
other_there sig names p left right one n o is only h =
    (only h.other).0
    (subst (λ (k : ℕ). IsSideAt sig names right k h.other) (sym is) h.is_right)

pub no_right : (sig : Signature) (names : List (List ℕ)) (p left right : Pattern)
    (one : ℕ × Side) (n : ℕ) → n ≡ length (side_sorts one.1)
    → IsOnly (IsSideAt sig names right n) None → HasSides sig names p left right one → ⊥
no_right sig names p left right one n is none h =
    none_some h.other (other_there sig names p left right one n None is none h)

pub apart_there : (sig : Signature) (names : List (List ℕ)) (p left right : Pattern)
    (one other : ℕ × Side) (n : ℕ) → n ≡ length (side_sorts one.1)
    → IsOnly (IsSideAt sig names right n) (Some other) → HasSides sig names p left right one
    → AreApartSides sig one other
    × IsClosed sig names 0 (side_sorts one.1 ++ side_sorts other.1) p (not (equal left right))
apart_there sig names p left right one other n is only h =
    let same : other ≡ h.other =
    some_same other h.other (other_there sig names p left right one n (Some other) is only h) in
    subst (λ (s : ℕ × Side). AreApartSides sig one s
    × IsClosed sig names 0 (side_sorts one.1 ++ side_sorts s.1) p (not (equal left right)))
    (sym same) (h.are_apart, h.closed)

-- whether it is such a pattern, if it has two sides without a common instance
pub unequal_test : (sig : Signature) (names : List (List ℕ)) (p denied left right : Pattern)
    (one other : ℕ × Side) (n : ℕ) (sorts : List ℕ) (b : Bool) → unquantified p ≡ not denied
    → denied ≡ equal left right → IsOnly (IsSideAt sig names left 0) (Some one)
    → n ≡ length (side_sorts one.1) → IsOnly (IsSideAt sig names right n) (Some other)
    → AreApartSides sig one other → sorts ≡ side_sorts one.1 ++ side_sorts other.1
    → IsTrue b ↔ ((x : Pattern) × IsClosed sig names 0 sorts p (not x))
    → IsTrue b ↔ IsUnequalFact sig names p
unequal_test sig names p denied left right one other n sorts b is equality first many second apart
    are test = (
      λ t.
          let x = test.0 t in
          let same : not x.0 ≡ not denied =
          sym (unquantified-closed sig names 0 sorts p (not x.0) x.1) ∙ is in
          let bodies : x.0 ≡ equal left right = let e : x.0 ≡ denied = cc in e ∙ equality in
          unequal_fact sig names p left right one other ((first one).1 refl)
          (subst (λ (k : ℕ). IsSideAt sig names right k other) many ((second other).1 refl)) apart
          (subst (λ (ss : List ℕ). IsClosed sig names 0 ss p (not (equal left right))) are
          (subst (λ (q : Pattern). IsClosed sig names 0 sorts p (not q)) bodies x.1)),
      λ fact.
          let h : HasSides sig names p left right one =
          sides_there sig names p denied left right one is equality first fact in
          test.1 (
            equal left right,
            subst (λ (ss : List ℕ). IsClosed sig names 0 ss p (not (equal left right))) (sym are)
                (apart_there sig names p left right one other n many second h).1,
          ),
    )
