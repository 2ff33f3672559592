-- Injections and what states that they are injective, as patterns of the logic.
use Rattle.std.proofs.Common.{◌≡◌, ℕ, List, [], ◌∷◌, Option, Some, None}
use Rattle.std.proofs.Common.{refl, sym, ◌∙◌, ap, subst}
use Rattle.ml_pat.specs.Patterns.{Pattern, imp, equal, app, all, var, at_sort}
use Rattle.term_core.specs.Patterns.{variable, injection}
use Rattle.rule_core.specs.Subsorts.{IsBelow}
use Rattle.rule_core.specs.declared.signature.Signature.{Signature}
use Rattle.ml_image.specs.Images.{both, sort_image, some_symbol_image}
use Rattle.ml_image.specs.Images.{injection_symbol, injection_image}
use Rattle.ml_image.specs.Sentences.{term, implies, equals, for_all, sentence_image}
use Rattle.ml_image.specs.Sentences.{IsImageOf}
use Rattle.ml_image.specs.TrueFacts.{SaysInjective}
use Rattle.ml_image.proofs.ImageLaws.{none_some, some_same}
use Rattle.true_facts.specs.Only.{IsOnly}
use Rattle.true_facts.specs.Injections.{injective}
use Rattle.true_facts.proofs.BothLaws.{both_parts, both_made}

abbrev pub IsInjectionAt : Signature → List (List ℕ) → Pattern → ℕ × ℕ → Type 0
IsInjectionAt sig names p x = injection_image sig names x.0 x.1 ≡ Some p

abbrev pub head_image : Signature → List (List ℕ) → Option Pattern
head_image sig names = some_symbol_image sig names (injection_symbol sig)

-- the parts of the image of an injection
pub record HasInjection (sig : Signature) (names : List (List ℕ)) (p : Pattern) (x : ℕ × ℕ)
    : Type 0 where
  pub head : Pattern
  pub lower : ℕ
  pub upper : ℕ
  pub is_head : head_image sig names ≡ Some head
  pub is_lower : sort_image sig names x.0 ≡ Some lower
  pub is_upper : sort_image sig names x.1 ≡ Some upper
  pub shape : p ≡ at_sort (at_sort head lower) upper

pub injection_parts : (sig : Signature) (names : List (List ℕ)) (p : Pattern) (x : ℕ × ℕ)
    → IsInjectionAt sig names p x → HasInjection sig names p x
injection_parts sig names p x h =
    let outer = both_parts at_sort (both at_sort (head_image sig names) (sort_image sig names x.0))
    (sort_image sig names x.1) p h in
    let inner = both_parts at_sort (head_image sig names) (sort_image sig names x.0) outer.0
    outer.2 in
    record {
      head = inner.0;
      lower = inner.1;
      upper = outer.1;
      is_head = inner.2;
      is_lower = inner.3;
      is_upper = outer.3;
      shape = outer.4 ∙ ap (λ (q : Pattern). at_sort q outer.1) inner.4;
    }

pub injection_made : (sig : Signature) (names : List (List ℕ)) (head : Pattern) (a b n m : ℕ)
    → head_image sig names ≡ Some head → sort_image sig names a ≡ Some n
    → sort_image sig names b ≡ Some m
    → IsInjectionAt sig names (at_sort (at_sort head n) m) (a, b)
injection_made sig names head a b n m is first second =
    both_made at_sort (both at_sort (head_image sig names) (sort_image sig names a))
    (sort_image sig names b) (at_sort head n) m
    (both_made at_sort (head_image sig names) (sort_image sig names a) head n is first) second

-- ---- facts

abbrev pub IsInjectiveFact : Signature → List (List ℕ) → Pattern → Type 0
IsInjectiveFact sig names p =
    (a : ℕ) × (b : ℕ) × IsImageOf sig names (SaysInjective sig a b) p

-- the fact about this injection
pub record IsAbout (sig : Signature) (names : List (List ℕ)) (p : Pattern) (n : ℕ) (head : Pattern)
    (x : ℕ × ℕ) : Type 0 where
  pub below : IsBelow sig.subsorts x.0 x.1
  pub is_sort : sort_image sig names x.0 ≡ Some n
  pub is_injection : IsInjectionAt sig names head x
  pub shape : p ≡ injective n head

abbrev body_image : Option Pattern → Option Pattern
body_image i =
    both imp (both equal (both app i (Some (var 0))) (both app i (Some (var 1))))
    (both equal (Some (var 0)) (Some (var 1)))

-- the parts of the body
body_parts : (i : Option Pattern) (p : Pattern) → body_image i ≡ Some p
    → (h : Pattern) × (i ≡ Some h)
    × (p ≡ imp (equal (app h (var 0)) (app h (var 1))) (equal (var 0) (var 1)))
body_parts None p h = absurd (none_some p h)
body_parts (Some i) p h = (i, refl, some_same p _ (sym h))

pub injective_shape : (sig : Signature) (names : List (List ℕ)) (p : Pattern)
    → IsInjectiveFact sig names p
    → (n : ℕ) × (head : Pattern) × (x : ℕ × ℕ) × IsAbout sig names p n head x
injective_shape sig names p (a, b, (s, h, image)) =
    let i : Option Pattern = injection_image sig names a b in
    let whole : both (all 0) (sort_image sig names a)
    (both (all 1) (sort_image sig names a) (body_image i)) ≡ Some p =
    ap (sentence_image sig names) (sym h.says) ∙ image in
    let outer = both_parts (all 0) (sort_image sig names a)
    (both (all 1) (sort_image sig names a) (body_image i)) p whole in
    let inner = both_parts (all 1) (sort_image sig names a) (body_image i) outer.1 outer.3 in
    let body = body_parts i inner.1 inner.3 in
    let same : inner.0 ≡ outer.0 = some_same inner.0 outer.0 (sym inner.2 ∙ outer.2) in (
      outer.0,
      body.0,
      (a, b),
      record {
        below = h.lower;
        is_sort = outer.2;
        is_injection = body.1;
        shape =
            outer.4
            ∙ ap (λ (r : Pattern). all 0 outer.0 r) inner.4
            ∙ ap (λ (m : ℕ). all 0 outer.0 (all 1 m inner.1)) same
            ∙ ap (λ (r : Pattern). all 0 outer.0 (all 1 outer.0 r)) body.2;
      },
    )

pub injective_fact : (sig : Signature) (names : List (List ℕ)) (p : Pattern) (n : ℕ)
    (head : Pattern) (x : ℕ × ℕ) → IsAbout sig names p n head x → IsInjectiveFact sig names p
injective_fact sig names p n head x h =
    let i : Option Pattern = injection_image sig names x.0 x.1 in (
      x.0,
      x.1,
      (
        for_all 0 (x.0 ∷ x.0 ∷ [])
            (implies (equals (term (injection x.0 x.1 (variable 0)))
            (term (injection x.0 x.1 (variable 1))))
            (equals (term (variable 0)) (term (variable 1)))),
        record { lower = h.below; says = refl },
        both_made (all 0) (sort_image sig names x.0)
            (both (all 1) (sort_image sig names x.0) (body_image i)) n
            (all 1 n (imp (equal (app head (var 0)) (app head (var 1))) (equal (var 0) (var 1))))
            h.is_sort
            (both_made (all 1) (sort_image sig names x.0) (body_image i) n
            (imp (equal (app head (var 0)) (app head (var 1))) (equal (var 0) (var 1))) h.is_sort
            (ap body_image h.is_injection))
            ∙ ap (λ (q : Pattern). Some q) (sym h.shape),
      ),
    )

-- the parts of such a pattern
pub about_there : (sig : Signature) (names : List (List ℕ)) (p rest body head q r t : Pattern)
    (k n j m : ℕ) → p ≡ all k n rest → rest ≡ all j m body → body ≡ imp (equal (app head q) r) t
    → IsInjectiveFact sig names p → (x : ℕ × ℕ) × IsAbout sig names p n head x
about_there sig names p rest body head q r t k n j m outer inner last fact =
    let h = injective_shape sig names p fact in
    let same : all k n (all j m (imp (equal (app head q) r) t)) ≡ injective h.0 h.1 =
    ap (λ (b : Pattern). all k n (all j m b)) (sym last)
    ∙ ap (λ (b : Pattern). all k n b) (sym inner) ∙ sym outer ∙ h.3.shape in
    let numbers : n ≡ h.0 = cc in
    let heads : head ≡ h.1 = cc in (
      h.2,
      subst (λ (g : Pattern). IsAbout sig names p n g h.2) (sym heads)
          (subst (λ (i : ℕ). IsAbout sig names p i h.1 h.2) (sym numbers) h.3),
    )

-- and the fact is about this injection, if it is the one of that pattern
pub about_this : (sig : Signature) (names : List (List ℕ)) (p rest body head q r t : Pattern)
    (k n j m : ℕ) (x : ℕ × ℕ) → p ≡ all k n rest → rest ≡ all j m body
    → body ≡ imp (equal (app head q) r) t → IsOnly (IsInjectionAt sig names head) (Some x)
    → IsInjectiveFact sig names p → IsAbout sig names p n head x
about_this sig names p rest body head q r t k n j m x outer inner last one fact =
    let h = about_there sig names p rest body head q r t k n j m outer inner last fact in
    subst (λ (y : ℕ × ℕ). IsAbout sig names p n head y)
    (sym (some_same x h.0 ((one h.0).0 h.1.is_injection))) h.1
