-- Instances at one pattern after another.
use Rattle.std.proofs.Common.{◌≡◌, ◌<◌, ◌≤◌, ◌+◌, ℕ, zero, suc, List, [], ◌∷◌, length, drop, get_or}
use Rattle.std.proofs.Common.{refl, sym, ◌∙◌, ap, subst, add-one, drop-cons, arith}
use Rattle.std.proofs.lemmas.List.{drop_all}
use Rattle.ml_pat.specs.Patterns.{Pattern, fun, all}
use Rattle.ml_kernel.specs.Theorems.{Theorem, conclusions}
use Rattle.ml_derived.specs.Instances.{put, IsInstance, HasInstance}
use Rattle.ml_derived.specs.Parts.{FitsBinder, IsPutIn}
use Rattle.ml_derived.specs.Scopes.{Scope, IsWithin, AreWithin, StaysWithin}

body_same : (x y s v : ℕ) (p q : Pattern) → all x s p ≡ all y v q → p ≡ q
body_same x y s v p q h = cc

variable_same : (x y s v : ℕ) (p q : Pattern) → all x s p ≡ all y v q → x ≡ y
variable_same x y s v p q h = cc

element_same : (p q : Pattern) (s v : ℕ) → fun p s ≡ fun q v → p ≡ q
element_same p q s v h = cc

same_put : (x y : ℕ) (p q a b : Pattern) → x ≡ y → p ≡ q → a ≡ b → put x p a ≡ put y q b
same_put x y p q a b e g h = cc

-- a sentence has only one instance at these facts
pub IsInstance-unique : (p : Pattern) (facts : List Pattern) (r t : Pattern) → IsInstance p facts r
    → IsInstance p facts t → r ≡ t
IsInstance-unique p [] r t h k = h ∙ sym k
IsInstance-unique p (fact ∷ facts) r t h k =
    let sentences : all h.0 h.1.0 h.1.1.1.0 ≡ all k.0 k.1.0 k.1.1.1.0 =
    sym h.1.1.1.1.0 ∙ k.1.1.1.1.0 in
    let elements : fun h.1.1.0 h.1.0 ≡ fun k.1.1.0 k.1.0 = sym h.1.1.1.1.1.0 ∙ k.1.1.1.1.1.0 in
    let same : put h.0 h.1.1.0 h.1.1.1.0 ≡ put k.0 k.1.1.0 k.1.1.1.0 =
    same_put h.0 k.0 h.1.1.0 k.1.1.0 h.1.1.1.0 k.1.1.1.0
    (variable_same h.0 k.0 h.1.0 k.1.0 h.1.1.1.0 k.1.1.1.0 sentences)
    (element_same h.1.1.0 k.1.1.0 h.1.0 k.1.0 elements)
    (body_same h.0 k.0 h.1.0 k.1.0 h.1.1.1.0 k.1.1.1.0 sentences) in
    IsInstance-unique (put k.0 k.1.1.0 k.1.1.1.0) facts r t
    (subst (λ (q : Pattern). IsInstance q facts r) same h.1.1.1.1.1.1.1) k.1.1.1.1.1.1.1

-- if there is an instance, the sentence takes the first fact
taken : (p fact : Pattern) (facts : List Pattern) → HasInstance p (fact ∷ facts) → FitsBinder p fact
taken p fact facts (r, (x, (s, (q, (body, (is, (element, (closed, rest)))))))) =
    (x, (s, (q, (body, (is, (element, closed))))))

next_has : (p fact new : Pattern) (facts : List Pattern) → HasInstance p (fact ∷ facts)
    → IsPutIn p fact new → HasInstance new facts
next_has p fact new facts (r, (x, (s, (q, (body, (is, (element, (closed, rest)))))))) made =
    (r, subst (λ (t : Pattern). IsInstance t facts r) (sym (made x s q body is element)) rest)

next_is : (p fact new r : Pattern) (facts : List Pattern) → HasInstance p (fact ∷ facts)
    → IsPutIn p fact new → IsInstance new facts r → IsInstance p (fact ∷ facts) r
next_is p fact new r facts (t, (x, (s, (q, (body, (is, (element, (closed, rest)))))))) made h = (
  x,
  (
    s,
    (
      q,
      (
        body,
        (
          is,
          (
            element,
            (closed, subst (λ (t : Pattern). IsInstance t facts r) (made x s q body is element) h),
          ),
        ),
      ),
    ),
  ),
)

-- The invariant of the loop: the present theorem has an instance at the remaining facts, and that
-- is the instance of the sentence at all facts.
pub record IsPresent (sentence : Theorem) (facts : List Theorem) (i : ℕ) (present : Theorem) :
    Type 0 where
  pub has : HasInstance present.conclusion (conclusions (drop i facts))
  pub whole : (r : Pattern) → IsInstance present.conclusion (conclusions (drop i facts)) r
      → IsInstance sentence.conclusion (conclusions facts) r
  pub stays : StaysWithin [] (sentence ∷ facts) present

pub at_start : (sentence : Theorem) (facts : List Theorem)
    → HasInstance sentence.conclusion (conclusions facts) → IsPresent sentence facts 0 sentence
at_start sentence facts h = record {
  has = h;
  whole = λ r k. k;
  stays = λ s hp ht. ht.0;
}

pub next_fact : (facts : List Theorem) (i : ℕ) (fact : Theorem) → i < length facts
    → fact ≡ get_or facts i fact → drop i facts ≡ fact ∷ drop (i + 1) facts
next_fact facts i fact lt is =
    rw (add-one, drop-cons facts i fact) (ap (λ (t : Theorem). t ∷ drop (suc i) facts) (sym is))

pub within_at : (s : Scope) (ts : List Theorem) (i : ℕ) (t : Theorem) → AreWithin s ts → i < length ts
    → t ≡ get_or ts i t → IsWithin s t
within_at s [] i t h lt is = absurd (omega (arith, lt))
within_at s (u ∷ ts) zero t h lt is = subst (IsWithin s) (sym is) h.0
within_at s (u ∷ ts) (suc i) t h lt is = within_at s ts i t h.1 (omega (arith, lt)) is

left_at : (sentence : Theorem) (facts : List Theorem) (i : ℕ) (present fact : Theorem)
    → IsPresent sentence facts i present → i < length facts → fact ≡ get_or facts i fact
    → HasInstance present.conclusion (fact.conclusion ∷ conclusions (drop (i + 1) facts))
left_at sentence facts i present fact h lt is =
    subst (λ (ts : List Theorem). HasInstance present.conclusion (conclusions ts))
    (next_fact facts i fact lt is) h.has

-- the present theorem takes the next fact
pub at_fact : (sentence : Theorem) (facts : List Theorem) (i : ℕ) (present fact : Theorem)
    → IsPresent sentence facts i present → i < length facts → fact ≡ get_or facts i fact
    → FitsBinder present.conclusion fact.conclusion
at_fact sentence facts i present fact h lt is =
    taken present.conclusion fact.conclusion (conclusions (drop (i + 1) facts))
    (left_at sentence facts i present fact h lt is)

-- the invariant holds again after the next fact
pub after_fact : (sentence : Theorem) (facts : List Theorem) (i : ℕ) (present fact new : Theorem)
    → IsPresent sentence facts i present → i < length facts → fact ≡ get_or facts i fact
    → IsPutIn present.conclusion fact.conclusion new.conclusion
    → StaysWithin [] (present ∷ fact ∷ []) new → IsPresent sentence facts (i + 1) new
after_fact sentence facts i present fact new h lt is made stays =
    let left : HasInstance present.conclusion (fact.conclusion ∷ conclusions (drop (i + 1) facts)) =
    left_at sentence facts i present fact h lt is in
    record {
      has =
          next_has present.conclusion fact.conclusion new.conclusion
          (conclusions (drop (i + 1) facts)) left made;
      whole =
          λ r k. h.whole r (subst
          (λ (ts : List Theorem). IsInstance present.conclusion (conclusions ts) r)
          (sym (next_fact facts i fact lt is))
          (next_is present.conclusion fact.conclusion new.conclusion r
          (conclusions (drop (i + 1) facts)) left made k));
      stays = λ s hp ht. stays s tt (h.stays s tt ht, (within_at s facts i fact ht.1 lt is, tt));
    }

-- after the last fact, the present theorem is the instance
pub at_end : (sentence : Theorem) (facts : List Theorem) (i : ℕ) (present : Theorem)
    → IsPresent sentence facts i present → length facts ≤ i
    → IsInstance sentence.conclusion (conclusions facts) present.conclusion
at_end sentence facts i present h le =
    h.whole present.conclusion (subst
    (λ (ts : List Theorem). IsInstance present.conclusion (conclusions ts) present.conclusion)
    (sym (drop_all i facts le)) refl)
