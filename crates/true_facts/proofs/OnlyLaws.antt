-- What is the only thing with a property.
use Rattle.std.proofs.Common.{◌≡◌, ◌≢◌, ◌↔◌, ℕ, Bool, true, false, Option, Some, None, refl, sym}
use Rattle.std.proofs.Common.{ap, subst, ◌∙◌, eq-eqb}
use Rattle.std.specs.Prelude.{IsTrue, not, ◌==◌}
use Rattle.std.proofs.lemmas.Bool.{false≢true, eqb-true}
use Rattle.ml_image.proofs.ImageLaws.{none_some, some_same}
use Rattle.true_facts.specs.Only.{IsOnly}

pub only_none : {A : Type 0} (P : A → Type 0) → ((a : A) → P a → ⊥) → IsOnly P None
only_none P none a = (λ p. absurd (none a p), λ e. absurd (none_some a e))

pub only_some : {A : Type 0} (P : A → Type 0) (x : A) → P x → ((a : A) → P a → x ≡ a)
    → IsOnly P (Some x)
only_some {A} P x has one a =
    (λ p. ap (λ (y : A). Some y) (one a p), λ e. subst P (some_same x a e) has)

pub pair_same : {A B : Type 0} (a x : A) (b y : B) → a ≡ x → b ≡ y
    → ◌≡◌ {A = A × B} (a, b) (x, y)
pair_same {A} {B} a x b y first second =
    let left : A → A × B = λ z. (z, b) in
    let right : B → A × B = λ z. (x, z) in
    ap left first ∙ ap right second

-- of what was found
pub only_at : {A X : Type 0} (P : A → Type 0) (seen : Option X → Option A) (o p : Option X)
    → o ≡ p → IsOnly P (seen o) → IsOnly P (seen p)
only_at P seen o p same one = subst (λ q. IsOnly P (seen q)) same one

-- what does not hold is answered by false
pub is_false : (P : Type 0) → (P → ⊥) → IsTrue false ↔ P
is_false P none = (λ t. absurd (false≢true t), λ h. absurd (none h))

-- ---- numbers that were compared

pub unlike : (x y : ℕ) (b : Bool) → b ≡ not (x == y) → b ≡ true → x ≢ y
unlike x y b is t e =
    let same : (x == y) ≡ true = eq-eqb x y e in
    false≢true (ap not (sym same) ∙ sym is ∙ t)

pub alike : (x y : ℕ) (b : Bool) → b ≡ not (x == y) → b ≡ false → x ≡ y
alike x y b is f = eqb-true x y (by_test (x == y) (sym is ∙ f))
  where
    by_test : (t : Bool) → not t ≡ false → t ≡ true
    by_test true e = refl
    by_test false e = absurd (false≢true (sym e))
