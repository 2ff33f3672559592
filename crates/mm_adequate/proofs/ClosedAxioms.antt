-- What a well-sorted program may assume has closed images.
use Rattle.std.proofs.Common.{◌≡◌, ℕ, ◌<◌, ◌^◌, ◌⊎◌, inl, inr, Bool, true, false, List}
use Rattle.std.proofs.Common.{Option, Some, None, option_map, refl, sym, subst, arith}
use Rattle.std.specs.Prelude.{◌==◌, ◌&&◌, ◌||◌, Contains, IfSome}
use Rattle.std.specs.Prelude as std
use Rattle.std.proofs.lemmas.Bool.Decides.{nat_tests}
use Rattle.mm_text.specs.Bytes.{Token}
use Rattle.ml_pat.specs.Patterns.{Pattern, Unary, Binary, Sorted, Quantifier, nullary, unary}
use Rattle.ml_pat.specs.Patterns.{binary}
use Rattle.ml_pat.specs.Patterns.{sorted, quantified, var, meta, constant}
use Rattle.ml_pat.specs.Patterns as logic
use Rattle.ml_pat.specs.Judgements.{fresh}
use Rattle.ml_pat.specs.Leaves.{LeafFacts, EachLeaf}
use Rattle.term_core.specs.Patterns.{application, no_pattern}
use Rattle.rule_core.specs.Matching.{OccursIn}
use Rattle.rule_core.specs.declared.signature.Signature.{Signature}
use Rattle.ml_image.specs.Images.{both, sort_image}
use Rattle.ml_image.specs.Sentences.{Sentence, term, symbol, inject, apply, top, bottom, not}
use Rattle.ml_image.specs.Sentences.{and, or, implies, equals}
use Rattle.ml_image.specs.Sentences.{is_in, functional, exists, forall, next, sentence_image}
use Rattle.ml_image.proofs.ImageLaws.{none_some, some_same}
use Rattle.mm_justify.proofs.ImageLeaves.{term_leaves, inject_leaves}
use Rattle.mm_adequate.specs.Assuming.{few_variables}

-- ---- sentences

-- The free variables have the property. What a quantifier binds has a number below 2^64.
abbrev pub HasFree : (ℕ → Type 0) → Sentence → Type 0
HasFree P (term a) = (x : ℕ) → OccursIn x a → P x
HasFree P (symbol f) = Unit {0}
HasFree P (inject a b) = Unit {0}
HasFree P (apply p q) = HasFree P p × HasFree P q
HasFree P top = Unit {0}
HasFree P bottom = Unit {0}
HasFree P (not p) = HasFree P p
HasFree P (and p q) = HasFree P p × HasFree P q
HasFree P (or p q) = HasFree P p × HasFree P q
HasFree P (implies p q) = HasFree P p × HasFree P q
HasFree P (equals p q) = HasFree P p × HasFree P q
HasFree P (is_in p q) = HasFree P p × HasFree P q
HasFree P (functional p s) = HasFree P p
HasFree P (exists x s p) = (x < 2 ^ 64) × HasFree (λ y. P y ⊎ (y ≡ x)) p
HasFree P (forall x s p) = (x < 2 ^ 64) × HasFree (λ y. P y ⊎ (y ≡ x)) p
HasFree P (next p) = HasFree P p

-- the free variables have numbers below k
abbrev pub IsBelow : ℕ → Sentence → Type 0
IsBelow k = HasFree (λ x. x < k)

bound_too : (P Q : ℕ → Type 0) (x : ℕ) → ((y : ℕ) → P y → Q y) → (y : ℕ) → P y ⊎ (y ≡ x)
    → Q y ⊎ (y ≡ x)
bound_too P Q x weaker y (inl h) = inl (weaker y h)
bound_too P Q x weaker y (inr h) = inr h

-- a property that follows
pub free_weaker : (P Q : ℕ → Type 0) → ((x : ℕ) → P x → Q x) → (s : Sentence) → HasFree P s
    → HasFree Q s
free_weaker P Q weaker (term a) h = λ x i. weaker x (h x i)
free_weaker P Q weaker (symbol f) h = tt
free_weaker P Q weaker (inject a b) h = tt
free_weaker P Q weaker (apply p q) h =
    (free_weaker P Q weaker p h.0, free_weaker P Q weaker q h.1)
free_weaker P Q weaker top h = tt
free_weaker P Q weaker bottom h = tt
free_weaker P Q weaker (not p) h = free_weaker P Q weaker p h
free_weaker P Q weaker (and p q) h =
    (free_weaker P Q weaker p h.0, free_weaker P Q weaker q h.1)
free_weaker P Q weaker (or p q) h =
    (free_weaker P Q weaker p h.0, free_weaker P Q weaker q h.1)
free_weaker P Q weaker (implies p q) h =
    (free_weaker P Q weaker p h.0, free_weaker P Q weaker q h.1)
free_weaker P Q weaker (equals p q) h =
    (free_weaker P Q weaker p h.0, free_weaker P Q weaker q h.1)
free_weaker P Q weaker (is_in p q) h =
    (free_weaker P Q weaker p h.0, free_weaker P Q weaker q h.1)
free_weaker P Q weaker (functional p s) h = free_weaker P Q weaker p h
free_weaker P Q weaker (exists x s p) h =
    (h.0, free_weaker (λ y. P y ⊎ (y ≡ x)) (λ y. Q y ⊎ (y ≡ x)) (bound_too P Q x weaker) p h.1)
free_weaker P Q weaker (forall x s p) h =
    (h.0, free_weaker (λ y. P y ⊎ (y ≡ x)) (λ y. Q y ⊎ (y ≡ x)) (bound_too P Q x weaker) p h.1)
free_weaker P Q weaker (next p) h = free_weaker P Q weaker p h

-- ---- their images

abbrev HasOnly : (ℕ → Type 0) → Pattern → Type 0
HasOnly P p = ((x : ℕ) → fresh x p ≡ false → P x) × EachLeaf few_variables p

abbrev Each : (ℕ → Type 0) → Option Pattern → Type 0
Each P o = (p : Pattern) → o ≡ Some p → HasOnly P p

either_false : (a b : Bool) {C : Type 0} → (a && b) ≡ false → (a ≡ false → C) → (b ≡ false → C) → C
either_false false b h first second = first refl
either_false true b h first second = second h

two_below : (P : ℕ → Type 0) (c : Binary) (a b : Option Pattern) → Each P a → Each P b
    → Each P (both (binary c) a b)
two_below P c None b ka kb p h = absurd (none_some p h)
two_below P c (Some x) None ka kb p h = absurd (none_some p h)
two_below P c (Some x) (Some y) ka kb p h =
    let hx : HasOnly P x = ka x refl in
    let hy : HasOnly P y = kb y refl in
    subst (HasOnly P) (some_same (binary c x y) p h) (
      λ z e. either_false (fresh z x) (fresh z y) e (hx.0 z) (hy.0 z),
      (hx.1, hy.1),
    )

one_below : (P : ℕ → Type 0) (c : Unary) (a : Option Pattern) → Each P a → Each P (option_map (unary
    c) a)
one_below P c None ka p h = absurd (none_some p h)
one_below P c (Some x) ka p h = subst (HasOnly P) (some_same (unary c x) p h) (ka x refl)

sorted_below : (P : ℕ → Type 0) (c : Sorted) (a : Option Pattern) (s : Option ℕ) → Each P a
    → Each P (both (sorted c) a s)
sorted_below P c None s ka p h = absurd (none_some p h)
sorted_below P c (Some x) None ka p h = absurd (none_some p h)
sorted_below P c (Some x) (Some n) ka p h =
    subst (HasOnly P) (some_same (sorted c x n) p h) ((ka x refl).0, ((ka x refl).1, tt))

bound_below : (P : ℕ → Type 0) (c : Quantifier) (y : ℕ) (s : Option ℕ) (a : Option Pattern)
    → y < 2 ^ 64 → Each (λ z. P z ⊎ (z ≡ y)) a → Each P (both (quantified c y) s a)
bound_below P c y None a small ka p h = absurd (none_some p h)
bound_below P c y (Some n) None small ka p h = absurd (none_some p h)
bound_below P c y (Some n) (Some x) small ka p h =
    let hx : HasOnly (λ z. P z ⊎ (z ≡ y)) x = ka x refl in
    subst (HasOnly P) (some_same (quantified c y n x) p h) (
      λ z e. free z (z == y) refl (fresh z x) refl (hx.0 z) e,
      (hx.1, (small, tt)),
    )
  where
    other : (z : ℕ) → (z == y) ≡ false → P z ⊎ (z ≡ y) → P z
    other z e (inl h) = h
    other z e (inr h) = absurd (grind (arith, nat_tests))

    free : (z : ℕ) (b : Bool) → (z == y) ≡ b → (d : Bool) → fresh z x ≡ d
        → (fresh z x ≡ false → P z ⊎ (z ≡ y)) → (b || d) ≡ false → P z
    free z true eb d ed low e = absurd (cc)
    free z false eb true ed low e = absurd (cc)
    free z false eb false ed low e = other z eb (low ed)

-- variables with the property
abbrev objects_with : (ℕ → Type 0) → LeafFacts
objects_with P = record {
  sort = λ i. Unit {0};
  constant = λ i. Unit {0};
  object = P;
  meta = λ i. Unit {0};
}

free_with : (P : ℕ → Type 0) (p : Pattern) → EachLeaf (objects_with P) p → (x : ℕ)
    → fresh x p ≡ false → P x
free_with P (nullary c) h x e = absurd (cc)
free_with P (unary c p) h x e = free_with P p h x e
free_with P (binary c p q) h x e =
    either_false (fresh x p) (fresh x q) e (free_with P p h.0 x) (free_with P q h.1 x)
free_with P (sorted c p s) h x e = free_with P p h.0 x e
free_with P (quantified c y s p) h x e = go (x == y) e (free_with P p h.0 x)
  where
    go : (b : Bool) → (b || fresh x p) ≡ false → (fresh x p ≡ false → P x) → P x
    go true i rest = absurd (cc)
    go false i rest = rest i
free_with P (var y) h x e = go (x == y) refl e
  where
    go : (b : Bool) → (x == y) ≡ b → std.not b ≡ false → P x
    go true is i =
        let one : x ≡ y = grind (arith, nat_tests) in
        subst P (sym one) h
    go false is i = absurd (cc)
free_with P (meta i) h x e = absurd (cc)
free_with P (constant c) h x e = absurd (cc)

few_with : (P : ℕ → Type 0) → ((x : ℕ) → P x → x < 2 ^ 64) → (p : Pattern)
    → EachLeaf (objects_with P) p → EachLeaf few_variables p
few_with P few (nullary c) h = tt
few_with P few (unary c p) h = few_with P few p h
few_with P few (binary c p q) h = (few_with P few p h.0, few_with P few q h.1)
few_with P few (sorted c p s) h = (few_with P few p h.0, tt)
few_with P few (quantified c y s p) h = (few_with P few p h.0, (few y h.1.0, tt))
few_with P few (var y) h = few y h
few_with P few (meta i) h = tt
few_with P few (constant c) h = tt

-- what is bound is few as well
few_bound : (P : ℕ → Type 0) (x : ℕ) → ((y : ℕ) → P y → y < 2 ^ 64) → x < 2 ^ 64 → (y : ℕ)
    → P y ⊎ (y ≡ x) → y < 2 ^ 64
few_bound P x few small y (inl h) = few y h
few_bound P x few small y (inr h) = omega (arith, small, h)

both_truths : true ≡ false → ⊥
both_truths i = cc

pub image_below : (sig : Signature) (names : List Token) (P : ℕ → Type 0)
    → ((x : ℕ) → P x → x < 2 ^ 64) → (s : Sentence) → HasFree P s → (p : Pattern) → sentence_image
    sig names s ≡ Some p → HasOnly P p
image_below sig names P few (term a) h p e =
    let leaves : EachLeaf (objects_with P) p =
    term_leaves sig names (objects_with P)
    (record { sorts = λ n w t. tt; constants = λ n w t. tt }) a h p e in
    (free_with P p leaves, few_with P few p leaves)
image_below sig names P few (symbol f) h p e =
    let leaves : EachLeaf (objects_with P) p =
    term_leaves sig names (objects_with P)
    (record { sorts = λ n w t. tt; constants = λ n w t. tt }) (application f no_pattern)
    (λ x i. absurd i) p e in
    (free_with P p leaves, few_with P few p leaves)
image_below sig names P few (inject a b) h p e =
    let leaves : EachLeaf (objects_with P) p =
    inject_leaves sig names (objects_with P)
    (record { sorts = λ n w t. tt; constants = λ n w t. tt }) a b p e in
    (free_with P p leaves, few_with P few p leaves)
image_below sig names P few (apply p q) h r e =
    two_below P logic.App (sentence_image sig names p) (sentence_image sig names q)
    (image_below sig names P few p h.0) (image_below sig names P few q h.1) r e
image_below sig names P few top h p e =
    subst (HasOnly P) (some_same logic.top p e) ((λ x i. absurd (both_truths i)), tt)
image_below sig names P few bottom h p e =
    subst (HasOnly P) (some_same logic.bot p e) ((λ x i. absurd (both_truths i)), tt)
image_below sig names P few (not p) h r e =
    one_below P logic.Not (sentence_image sig names p) (image_below sig names P few p h) r e
image_below sig names P few (and p q) h r e =
    two_below P logic.And (sentence_image sig names p) (sentence_image sig names q)
    (image_below sig names P few p h.0) (image_below sig names P few q h.1) r e
image_below sig names P few (or p q) h r e =
    two_below P logic.Or (sentence_image sig names p) (sentence_image sig names q)
    (image_below sig names P few p h.0) (image_below sig names P few q h.1) r e
image_below sig names P few (implies p q) h r e =
    two_below P logic.Imp (sentence_image sig names p) (sentence_image sig names q)
    (image_below sig names P few p h.0) (image_below sig names P few q h.1) r e
image_below sig names P few (equals p q) h r e =
    two_below P logic.Equal (sentence_image sig names p) (sentence_image sig names q)
    (image_below sig names P few p h.0) (image_below sig names P few q h.1) r e
image_below sig names P few (is_in p q) h r e =
    two_below P logic.Member (sentence_image sig names p) (sentence_image sig names q)
    (image_below sig names P few p h.0) (image_below sig names P few q h.1) r e
image_below sig names P few (functional p s) h r e =
    sorted_below P logic.Fun (sentence_image sig names p) (sort_image sig names s)
    (image_below sig names P few p h) r e
image_below sig names P few (exists x s p) h r e =
    bound_below P logic.Ex x (sort_image sig names s) (sentence_image sig names p) h.0
    (image_below sig names (λ y. P y ⊎ (y ≡ x)) (few_bound P x few h.0) p h.1) r e
image_below sig names P few (forall x s p) h r e =
    bound_below P logic.All x (sort_image sig names s) (sentence_image sig names p) h.0
    (image_below sig names (λ y. P y ⊎ (y ≡ x)) (few_bound P x few h.0) p h.1) r e
image_below sig names P few (next p) h r e =
    one_below P logic.Next (sentence_image sig names p) (image_below sig names P few p h) r e
