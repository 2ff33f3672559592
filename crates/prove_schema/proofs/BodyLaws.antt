-- Sentences with existential quantifiers over other variables: what occurs in their images.
use Rattle.std.proofs.Common.{◌≡◌, ◌≤◌, ◌+◌, ℕ, List, [], ◌∷◌, Option, Some, None, option_map, sym}
use Rattle.std.proofs.Common.{subst, arith}
use Rattle.ml_pat.specs.Patterns.{Pattern}
use Rattle.ml_pat.specs.Patterns as logic
use Rattle.term_core.specs.Patterns.{Pattern as RulePattern, Patterns as RulePatterns, variable}
use Rattle.term_core.specs.Patterns.{domain_value, application, injection, call, no_pattern}
use Rattle.term_core.specs.Patterns.{more_patterns}
use Rattle.rule_core.specs.declared.signature.Signature.{Signature}
use Rattle.ml_image.specs.Tokens.{token_of_symbol, token_of_value, number_in_names}
use Rattle.ml_image.specs.Images.{both, symbol_image, sort_image, at_sorts, image_of, applied}
use Rattle.ml_image.specs.Images.{some_symbol_image, injection_symbol, injection_image}
use Rattle.ml_image.specs.Sentences.{Sentence, sentence_image, term, symbol, inject, apply, top}
use Rattle.ml_image.specs.Sentences.{bottom, not, and, or, implies, equals, is_in, functional}
use Rattle.ml_image.specs.Sentences.{exists, forall, next, for_some}
use Rattle.ml_image.proofs.ImageLaws.{none_some, some_same}
use Rattle.prove_term.proofs.ImageShapes.{both_some, map_some}
use Rattle.prove_schema.specs.Schemas.{IsBodyFrom}

-- the quantifiers of the sentence are existential, and bind variables numbered from n on
abbrev pub QuantifiesFrom : ℕ → Sentence → Type 0
QuantifiesFrom n (term p) = Unit {0}
QuantifiesFrom n (symbol f) = Unit {0}
QuantifiesFrom n (inject a b) = Unit {0}
QuantifiesFrom n (apply p q) = QuantifiesFrom n p × QuantifiesFrom n q
QuantifiesFrom n top = Unit {0}
QuantifiesFrom n bottom = Unit {0}
QuantifiesFrom n (not p) = QuantifiesFrom n p
QuantifiesFrom n (and p q) = QuantifiesFrom n p × QuantifiesFrom n q
QuantifiesFrom n (or p q) = QuantifiesFrom n p × QuantifiesFrom n q
QuantifiesFrom n (implies p q) = QuantifiesFrom n p × QuantifiesFrom n q
QuantifiesFrom n (equals p q) = QuantifiesFrom n p × QuantifiesFrom n q
QuantifiesFrom n (is_in p q) = QuantifiesFrom n p × QuantifiesFrom n q
QuantifiesFrom n (functional p s) = QuantifiesFrom n p
QuantifiesFrom n (exists x s p) = (n ≤ x) × QuantifiesFrom n p
QuantifiesFrom n (forall x s p) = ⊥
QuantifiesFrom n (next p) = QuantifiesFrom n p

pub for_some_quantifies : (n k : ℕ) (ss : List ℕ) (p : Sentence) → n ≤ k → QuantifiesFrom n p
    → QuantifiesFrom n (for_some k ss p)
for_some_quantifies n k [] p low h = h
for_some_quantifies n k (s ∷ ss) p low h =
    (low, for_some_quantifies n (k + 1) ss p (omega (arith, low)) h)

-- ---- parts

abbrev HasBody : ℕ → Option Pattern → Type 0
HasBody n o = (p : Pattern) → o ≡ Some p → IsBodyFrom 0 n p

body_both : (n : ℕ) (f : Pattern → Pattern → Pattern) (a b : Option Pattern)
    → ((p q : Pattern) → IsBodyFrom 0 n p → IsBodyFrom 0 n q → IsBodyFrom 0 n (f p q))
    → HasBody n a → HasBody n b → HasBody n (both f a b)
body_both n f a b joins ha hb r h =
    let w : (x : Pattern) × (y : Pattern) × (a ≡ Some x) × (b ≡ Some y) × (r ≡ f x y) =
    both_some f a b r h in
    subst (IsBodyFrom 0 n) (sym w.4) (joins w.0 w.1 (ha w.0 w.2) (hb w.1 w.3))

body_map : (n : ℕ) (f : Pattern → Pattern) (a : Option Pattern)
    → ((p : Pattern) → IsBodyFrom 0 n p → IsBodyFrom 0 n (f p)) → HasBody n a
    → HasBody n (option_map f a)
body_map n f a keeps ha r h =
    let w : (x : Pattern) × (a ≡ Some x) × (r ≡ f x) = map_some f a r h in
    subst (IsBodyFrom 0 n) (sym w.2) (keeps w.0 (ha w.0 w.1))

body_number : (n : ℕ) (o : Option ℕ) → HasBody n (option_map logic.constant o)
body_number n o r h =
    let w : (x : ℕ) × (o ≡ Some x) × (r ≡ logic.constant x) = map_some logic.constant o r h in
    subst (IsBodyFrom 0 n) (sym w.2) tt

body_sorted : (n : ℕ) (f : Pattern → ℕ → Pattern) (a : Option Pattern) (o : Option ℕ)
    → ((p : Pattern) (s : ℕ) → IsBodyFrom 0 n p → IsBodyFrom 0 n (f p s)) → HasBody n a
    → HasBody n (both f a o)
body_sorted n f a o keeps ha r h =
    let w : (x : Pattern) × (s : ℕ) × (a ≡ Some x) × (o ≡ Some s) × (r ≡ f x s) =
    both_some f a o r h in
    subst (IsBodyFrom 0 n) (sym w.4) (keeps w.0 w.1 (ha w.0 w.2))

body_bound : (n x : ℕ) (o : Option ℕ) (a : Option Pattern) → n ≤ x → HasBody n a
    → HasBody n (both (logic.ex x) o a)
body_bound n x o a high ha r h =
    let w : (s : ℕ) × (y : Pattern) × (o ≡ Some s) × (a ≡ Some y) × (r ≡ logic.ex x s y) =
    both_some (logic.ex x) o a r h in
    subst (IsBodyFrom 0 n) (sym w.4) (high, ha w.1 w.3)

body_sorts : (sig : Signature) (names : List (List ℕ)) (n : ℕ) (ss : List ℕ)
    (head : Option Pattern) → HasBody n head → HasBody n (at_sorts sig names head ss)
body_sorts sig names n [] head h = h
body_sorts sig names n (s ∷ ss) head h =
    body_sorts sig names n ss (both logic.at_sort head (sort_image sig names s))
    (body_sorted n logic.at_sort head (sort_image sig names s) (λ p s' k. k) h)

body_symbol : (sig : Signature) (names : List (List ℕ)) (n : ℕ) (o : Option ℕ)
    → HasBody n (some_symbol_image sig names o)
body_symbol sig names n None = λ r h. absurd (none_some r h)
body_symbol sig names n (Some f) = body_number n (number_in_names names (token_of_symbol sig f))

body_injection : (sig : Signature) (names : List (List ℕ)) (n a b : ℕ)
    → HasBody n (injection_image sig names a b)
body_injection sig names n a b =
    body_sorts sig names n (a ∷ b ∷ []) (some_symbol_image sig names (injection_symbol sig))
    (body_symbol sig names n (injection_symbol sig))

-- ---- images

mutual
  image_is_body : (sig : Signature) (names : List (List ℕ)) (n : ℕ) (p : RulePattern)
      → HasBody n (image_of sig names p)
  image_is_body sig names n (variable x) =
      λ r h. subst (IsBodyFrom 0 n) (some_same (logic.var x) r h) (omega arith)
  image_is_body sig names n (domain_value s v) =
      body_number n (number_in_names names (token_of_value sig s v))
  image_is_body sig names n (application f ps) =
      applied_is_body sig names n ps (symbol_image sig names f)
      (body_number n (number_in_names names (token_of_symbol sig f)))
  image_is_body sig names n (injection a b p) =
      body_both n logic.app (injection_image sig names a b) (image_of sig names p)
      (λ p q h k. (h, k)) (body_injection sig names n a b) (image_is_body sig names n p)
  image_is_body sig names n (call f ss ps) =
      applied_is_body sig names n ps (at_sorts sig names (symbol_image sig names f) ss)
      (body_sorts sig names n ss (symbol_image sig names f)
      (body_number n (number_in_names names (token_of_symbol sig f))))

  applied_is_body : (sig : Signature) (names : List (List ℕ)) (n : ℕ) (ps : RulePatterns)
      (head : Option Pattern) → HasBody n head → HasBody n (applied sig names head ps)
  applied_is_body sig names n no_pattern head h = h
  applied_is_body sig names n (more_patterns p ps) head h =
      applied_is_body sig names n ps (both logic.app head (image_of sig names p))
      (body_both n logic.app head (image_of sig names p) (λ p q h k. (h, k)) h
      (image_is_body sig names n p))

-- the image of such a sentence is the body of a schema
pub sentence_is_body : (sig : Signature) (names : List (List ℕ)) (n : ℕ) (s : Sentence)
    → QuantifiesFrom n s → HasBody n (sentence_image sig names s)
sentence_is_body sig names n (term p) h = image_is_body sig names n p
sentence_is_body sig names n (symbol f) h =
    body_number n (number_in_names names (token_of_symbol sig f))
sentence_is_body sig names n (inject a b) h = body_injection sig names n a b
sentence_is_body sig names n (apply p q) h =
    body_both n logic.app (sentence_image sig names p) (sentence_image sig names q)
    (λ a b x y. (x, y)) (sentence_is_body sig names n p h.0) (sentence_is_body sig names n q h.1)
sentence_is_body sig names n top h = λ r is. subst (IsBodyFrom 0 n) (some_same logic.top r is) tt
sentence_is_body sig names n bottom h =
    λ r is. subst (IsBodyFrom 0 n) (some_same logic.bot r is) tt
sentence_is_body sig names n (not p) h =
    body_map n logic.not (sentence_image sig names p) (λ a x. x) (sentence_is_body sig names n p h)
sentence_is_body sig names n (and p q) h =
    body_both n logic.and (sentence_image sig names p) (sentence_image sig names q)
    (λ a b x y. (x, y)) (sentence_is_body sig names n p h.0) (sentence_is_body sig names n q h.1)
sentence_is_body sig names n (or p q) h =
    body_both n logic.or (sentence_image sig names p) (sentence_image sig names q)
    (λ a b x y. (x, y)) (sentence_is_body sig names n p h.0) (sentence_is_body sig names n q h.1)
sentence_is_body sig names n (implies p q) h =
    body_both n logic.imp (sentence_image sig names p) (sentence_image sig names q)
    (λ a b x y. (x, y)) (sentence_is_body sig names n p h.0) (sentence_is_body sig names n q h.1)
sentence_is_body sig names n (equals p q) h =
    body_both n logic.equal (sentence_image sig names p) (sentence_image sig names q)
    (λ a b x y. (x, y)) (sentence_is_body sig names n p h.0) (sentence_is_body sig names n q h.1)
sentence_is_body sig names n (is_in p q) h =
    body_both n logic.member (sentence_image sig names p) (sentence_image sig names q)
    (λ a b x y. (x, y)) (sentence_is_body sig names n p h.0) (sentence_is_body sig names n q h.1)
sentence_is_body sig names n (functional p s) h =
    body_sorted n logic.fun (sentence_image sig names p) (sort_image sig names s) (λ a t x. x)
    (sentence_is_body sig names n p h)
sentence_is_body sig names n (exists x s p) h =
    body_bound n x (sort_image sig names s) (sentence_image sig names p) h.0
    (sentence_is_body sig names n p h.1)
sentence_is_body sig names n (forall x s p) h = absurd h
sentence_is_body sig names n (next p) h =
    body_map n logic.next (sentence_image sig names p) (λ a x. x) (sentence_is_body sig names n p h)
