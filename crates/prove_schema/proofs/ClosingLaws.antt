-- A pattern under quantifiers, and the schema, which is its instance at pattern variables.
use Rattle.std.proofs.Common.{◌≡◌, ◌≢◌, ◌<◌, ◌≤◌, ◌+◌, ℕ, Bool, true, false, zero, suc, List, []}
use Rattle.std.proofs.Common.{◌∷◌, Option, Some, None, length, slice_get, inl, inr, refl, sym, ◌∙◌}
use Rattle.std.proofs.Common.{ap, subst, arith}
use Rattle.std.specs.Prelude.{◌==◌, ◌⊎◌, cond}
use Rattle.std.specs.List.{AllZip}
use Rattle.std.proofs.lemmas.Bool.Decides.{eqb_tells}
use Rattle.ml_pat.specs.Patterns.{Pattern, Quantifier, nullary, unary, binary, sorted, quantified}
use Rattle.ml_pat.specs.Patterns.{all, var, meta, constant, Ex, All}
use Rattle.rule_core.specs.declared.signature.Signature.{Signature}
use Rattle.ml_image.specs.Images.{both, sort_image}
use Rattle.ml_image.specs.Sentences.{Sentence, sentence_image, for_all}
use Rattle.ml_image.proofs.ImageLaws.{none_some, some_same}
use Rattle.ml_derived.specs.Instances.{put, IsInstance}
use Rattle.prove_schema.specs.Schemas.{with_metas, IsBodyFrom, closed, meta_facts}
use Rattle.prove_schema.proofs.OpenLaws.{body_closed, meta_below}

-- ---- a pattern variable in place of the first object variable

put_bound : (k : ℕ) (u : Pattern) (c : Quantifier) (y s : ℕ) (p : Pattern) → k ≢ y
    → put k u (quantified c y s p) ≡ quantified c y s (put k u p)
put_bound k u c y s p other = go (eqb_tells k y)
  where
    go : (((k == y) ≡ true) × (k ≡ y)) ⊎ (((k == y) ≡ false) × (k ≢ y))
        → put k u (quantified c y s p) ≡ quantified c y s (put k u p)
    go (inl same) = absurd (other same.1)
    go (inr differ) =
        ap (λ (b : Bool). quantified c y s (cond b p (put k u p))) differ.0

put_closed : (k j : ℕ) (u : Pattern) (ss : List ℕ) (p : Pattern) → k < j
    → put k u (closed j ss p) ≡ closed j ss (put k u p)
put_closed k j u [] p low = refl
put_closed k j u (s ∷ ss) p low =
    let other : k ≢ j = λ (e : k ≡ j). omega (arith, low, e) in
    put_bound k u All j s (closed (j + 1) ss p) other
    ∙ ap (all j s) (put_closed k (j + 1) u ss p (omega (arith, low)))

-- what a variable becomes
put_var : (k n x : ℕ) → k ≤ x → k < n
    → IsBodyFrom (k + 1) n (put k (meta k) (var x))
    × (with_metas n (put k (meta k) (var x)) ≡ with_metas n (var x))
put_var k n x from below = go (eqb_tells k x)
  where
    go : (((k == x) ≡ true) × (k ≡ x)) ⊎ (((k == x) ≡ false) × (k ≢ x))
        → IsBodyFrom (k + 1) n (put k (meta k) (var x))
        × (with_metas n (put k (meta k) (var x)) ≡ with_metas n (var x))
    go (inl same) =
        let is : put k (meta k) (var x) ≡ meta k =
        ap (λ (b : Bool). cond b (meta k) (var x)) same.0 in (
          subst (IsBodyFrom (k + 1) n) (sym is) below,
          ap (with_metas n) is
              ∙ sym (meta_below n k below)
              ∙ ap (λ (y : ℕ). with_metas n (var y)) same.1,
        )
    go (inr differ) =
        let is : put k (meta k) (var x) ≡ var x =
        ap (λ (b : Bool). cond b (meta k) (var x)) differ.0 in
        let above : k + 1 ≤ x = omega (arith, from, differ.1) in
        (subst (IsBodyFrom (k + 1) n) (sym is) above, ap (with_metas n) is)

apart : (k n x : ℕ) → k < n → n ≤ x → k ≢ x
apart k n x low high e = omega (arith, low, high, e)

-- the pattern is the body from the next variable on
put_body : (k n : ℕ) (p : Pattern) → k < n → IsBodyFrom k n p
    → IsBodyFrom (k + 1) n (put k (meta k) p)
put_body k n (binary c p q) low h = (put_body k n p low h.0, put_body k n q low h.1)
put_body k n (unary c p) low h = put_body k n p low h
put_body k n (sorted c p s) low h = put_body k n p low h
put_body k n (quantified Ex x s p) low h =
    subst (IsBodyFrom (k + 1) n)
    (sym (put_bound k (meta k) Ex x s p (apart k n x low h.0)))
    (h.0, put_body k n p low h.1)
put_body k n (quantified All x s p) low h = absurd h
put_body k n (var x) low h = (put_var k n x h low).0
put_body k n (nullary c) low h = tt
put_body k n (meta i) low h = h
put_body k n (constant c) low h = tt

-- the result has the same schema
put_schema : (k n : ℕ) (p : Pattern) → k < n → IsBodyFrom k n p
    → with_metas n (put k (meta k) p) ≡ with_metas n p
put_schema k n (binary c p q) low h =
    rw (put_schema k n p low h.0, put_schema k n q low h.1) refl
put_schema k n (unary c p) low h = ap (unary c) (put_schema k n p low h)
put_schema k n (sorted c p s) low h =
    ap (λ (r : Pattern). sorted c r s) (put_schema k n p low h)
put_schema k n (quantified Ex x s p) low h =
    ap (with_metas n) (put_bound k (meta k) Ex x s p (apart k n x low h.0))
    ∙ ap (quantified Ex x s) (put_schema k n p low h.1)
put_schema k n (quantified All x s p) low h = absurd h
put_schema k n (var x) low h = (put_var k n x h low).1
put_schema k n (nullary c) low h = refl
put_schema k n (meta i) low h = refl
put_schema k n (constant c) low h = refl

-- The instance of a closed pattern at pattern variables is its schema.
pub schema_instance : (k n : ℕ) (ss : List ℕ) (p : Pattern) → k + length ss ≡ n → IsBodyFrom k n p
    → IsInstance (closed k ss p) (meta_facts k ss) (with_metas n p)
schema_instance k n [] p all_there is_body =
    let same : k ≡ n = omega (arith, all_there) in
    body_closed n p (subst (λ (j : ℕ). IsBodyFrom j n p) same is_body)
schema_instance k n (s ∷ ss) p all_there is_body =
    let next_one : ℕ = k + 1 in
    let low : k < n = omega (arith, all_there) in
    let rest : next_one + length ss ≡ n = omega (arith, all_there) in
    let inside : put k (meta k) (closed (k + 1) ss p) ≡ closed (k + 1) ss (put k (meta k) p) =
    put_closed k (k + 1) (meta k) ss p (omega arith) in
    let further : IsInstance (closed (k + 1) ss (put k (meta k) p)) (meta_facts (k + 1) ss)
    (with_metas n (put k (meta k) p)) =
    schema_instance (k + 1) n ss (put k (meta k) p) rest (put_body k n p low is_body) in
    let there : IsInstance (put k (meta k) (closed (k + 1) ss p)) (meta_facts (k + 1) ss)
    (with_metas n (put k (meta k) p)) =
    subst (λ (r : Pattern).
    IsInstance r (meta_facts (k + 1) ss) (with_metas n (put k (meta k) p)))
    (sym inside) further in
    let as_schema : IsInstance (put k (meta k) (closed (k + 1) ss p)) (meta_facts (k + 1) ss)
    (with_metas n p) =
    subst (λ (r : Pattern).
    IsInstance (put k (meta k) (closed (k + 1) ss p)) (meta_facts (k + 1) ss) r)
    (put_schema k n p low is_body) there in
    (k, (s, (meta k, (closed (k + 1) ss p, (refl, (refl, (tt, as_schema)))))))

-- ---- the image of a closed sentence

-- the numbers of these sorts, in order
abbrev pub AreNumbers : Signature → List (List ℕ) → List ℕ → List ℕ → Type 0
AreNumbers sig names ss ns = AllZip (λ (s n : ℕ). sort_image sig names s ≡ Some n) ss ns

-- The image of a sentence for all variables of some sorts is the image of the sentence, closed over
-- the sorts' numbers.
pub record IsClosed (sig : Signature) (names : List (List ℕ)) (k : ℕ) (ss : List ℕ) (s : Sentence)
    (p : Pattern) : Type 0 where
  pub numbers : List ℕ
  pub are : AreNumbers sig names ss numbers
  pub body : Pattern
  pub is_body : sentence_image sig names s ≡ Some body
  pub says : p ≡ closed k numbers body

one_more : (sig : Signature) (names : List (List ℕ)) (k s : ℕ) (ss : List ℕ) (body : Sentence)
    (p : Pattern) (o : Option ℕ) (q : Option Pattern) → sort_image sig names s ≡ o
    → ((r : Pattern) → q ≡ Some r → IsClosed sig names (k + 1) ss body r)
    → both (all k) o q ≡ Some p → IsClosed sig names k (s ∷ ss) body p
one_more sig names k s ss body p None q sort below e = absurd (none_some p e)
one_more sig names k s ss body p (Some n) None sort below e = absurd (none_some p e)
one_more sig names k s ss body p (Some n) (Some r) sort below e =
    let inside : IsClosed sig names (k + 1) ss body r = below r refl in
    record {
      numbers = n ∷ inside.numbers;
      are = (sort, inside.are);
      body = inside.body;
      is_body = inside.is_body;
      says = sym (some_same (all k n r) p e) ∙ ap (all k n) inside.says;
    }

pub closed_image : (sig : Signature) (names : List (List ℕ)) (k : ℕ) (ss : List ℕ) (s : Sentence)
    (p : Pattern) → sentence_image sig names (for_all k ss s) ≡ Some p
    → IsClosed sig names k ss s p
closed_image sig names k [] s p e = record {
  numbers = [];
  are = tt;
  body = p;
  is_body = e;
  says = refl;
}
closed_image sig names k (sort ∷ ss) s p e =
    one_more sig names k sort ss s p (sort_image sig names sort)
    (sentence_image sig names (for_all (k + 1) ss s)) refl
    (λ r. closed_image sig names (k + 1) ss s r) e

-- there are as many numbers as sorts
pub numbers_length : (sig : Signature) (names : List (List ℕ)) (ss ns : List ℕ)
    → AreNumbers sig names ss ns → length ns ≡ length ss
numbers_length sig names [] [] h = refl
numbers_length sig names [] (n ∷ ns) h = absurd h
numbers_length sig names (s ∷ ss) [] h = absurd h
numbers_length sig names (s ∷ ss) (n ∷ ns) h = ap suc (numbers_length sig names ss ns h.1)

-- the number of one of the sorts
pub number_at : (sig : Signature) (names : List (List ℕ)) (ss ns : List ℕ) (x s n : ℕ)
    → AreNumbers sig names ss ns → slice_get ss x ≡ Some s → slice_get ns x ≡ Some n
    → sort_image sig names s ≡ Some n
number_at sig names [] ns x s n h sort number = absurd (none_some s sort)
number_at sig names (r ∷ ss) [] x s n h sort number = absurd h
number_at sig names (r ∷ ss) (m ∷ ns) zero s n h sort number =
    ap (sort_image sig names) (sym (some_same r s sort)) ∙ h.0 ∙ number
number_at sig names (r ∷ ss) (m ∷ ns) (suc x) s n h sort number =
    number_at sig names ss ns x s n h.1 sort number
