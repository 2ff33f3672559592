-- The arguments and the values of hooks: one or two whole numbers or truth values.
use Rattle.std.proofs.Common.{◌≡◌, ℕ, List, [], ◌∷◌, Option, Some, None, Result, Ok, Err}
use Rattle.std.proofs.Common.{Bool, slice_get, refl, sym}
use Rattle.std.specs.Prelude.{ℤ}
use Rattle.term_core.specs.Terms.{DomainValue, integer, truth, text}
use Rattle.term_core.specs.Values.{scalar_value}
use Rattle.term_core.specs.HookValues.{Operation, on_integer, on_integers, compares, on_truth}
use Rattle.term_core.specs.HookValues.{on_truths, Hook, hooks, operation_value, value_by}
use Rattle.term_core.specs.HookValues.{hook_value}
use Rattle.term_core.specs.HookValues.{outcome}
use Rattle.term_core.specs.declared.values.NoValue.{NoValue}
use Rattle.term_core.specs.declared.values.Scalar.{Scalar}
use Rattle.term_core.specs.declared.values.Scalar.TheVariants.{Int, Bool as Truth}

-- one argument or two
pub data AreFew (vs : List DomainValue) : Type 0 where
  one_argument : (a : Scalar) → vs ≡ scalar_value a ∷ [] → AreFew vs
  two_arguments : (a b : Scalar) → vs ≡ scalar_value a ∷ (scalar_value b ∷ []) → AreFew vs

pub record IsCalled (vs : List DomainValue) (v : DomainValue) : Type 0 where
  pub arguments : AreFew vs
  pub made : Scalar
  pub is_made : v ≡ scalar_value made

abbrev Answer : Type 0
Answer = Result DomainValue NoValue

abbrev good : DomainValue → Option Answer
good v = Some (Ok v)

one_integer : (x : ℤ) → AreFew (integer x ∷ [])
one_integer x = one_argument (Int x) refl

two_integers : (x y : ℤ) → AreFew (integer x ∷ (integer y ∷ []))
two_integers x y = two_arguments (Int x) (Int y) refl

one_truth : (a : Bool) → AreFew (truth a ∷ [])
one_truth a = one_argument (Truth a) refl

two_truths : (a b : Bool) → AreFew (truth a ∷ (truth b ∷ []))
two_truths a b = two_arguments (Truth a) (Truth b) refl

-- the value of a hook whose values are whole numbers, and of one whose values are truth values
whole : (vs : List DomainValue) (v : DomainValue) (r : Result ℤ NoValue) → AreFew vs
    → Some (outcome integer r) ≡ good v → IsCalled vs v
whole vs v (Ok z) few h =
    let same : good (integer z) ≡ good v = h in
    let values : integer z ≡ v = cc in
    record { arguments = few; made = Int z; is_made = sym values }
whole vs v (Err e) few h = absurd (cc)

logical : (vs : List DomainValue) (v : DomainValue) (b : Bool) → AreFew vs
    → good (truth b) ≡ good v → IsCalled vs v
logical vs v b few h =
    let values : truth b ≡ v = cc in
    record { arguments = few; made = Truth b; is_made = sym values }

by_operation : (op : Operation) (vs : List DomainValue) (v : DomainValue)
    → operation_value op vs ≡ good v → IsCalled vs v
by_operation (on_integer f) [] v h = absurd (cc)
by_operation (on_integer f) (integer x ∷ []) v h = whole _ v (f x) (one_integer x) h
by_operation (on_integer f) (truth a ∷ []) v h = absurd (cc)
by_operation (on_integer f) (text t ∷ []) v h = absurd (cc)
by_operation (on_integer f) (integer x ∷ (w ∷ ws)) v h = absurd (cc)
by_operation (on_integer f) (truth a ∷ (w ∷ ws)) v h = absurd (cc)
by_operation (on_integer f) (text t ∷ (w ∷ ws)) v h = absurd (cc)
by_operation (on_integers f) [] v h = absurd (cc)
by_operation (on_integers f) (integer x ∷ []) v h = absurd (cc)
by_operation (on_integers f) (truth a ∷ []) v h = absurd (cc)
by_operation (on_integers f) (text t ∷ []) v h = absurd (cc)
by_operation (on_integers f) (integer x ∷ (integer y ∷ [])) v h =
    whole _ v (f x y) (two_integers x y) h
by_operation (on_integers f) (integer x ∷ (integer y ∷ (z ∷ zs))) v h = absurd (cc)
by_operation (on_integers f) (integer x ∷ (truth b ∷ [])) v h = absurd (cc)
by_operation (on_integers f) (integer x ∷ (truth b ∷ (z ∷ zs))) v h = absurd (cc)
by_operation (on_integers f) (integer x ∷ (text t ∷ [])) v h = absurd (cc)
by_operation (on_integers f) (integer x ∷ (text t ∷ (z ∷ zs))) v h = absurd (cc)
by_operation (on_integers f) (truth a ∷ (w ∷ ws)) v h = absurd (cc)
by_operation (on_integers f) (text t ∷ (w ∷ ws)) v h = absurd (cc)
by_operation (compares f) [] v h = absurd (cc)
by_operation (compares f) (integer x ∷ []) v h = absurd (cc)
by_operation (compares f) (truth a ∷ []) v h = absurd (cc)
by_operation (compares f) (text t ∷ []) v h = absurd (cc)
by_operation (compares f) (integer x ∷ (integer y ∷ [])) v h =
    logical _ v (f x y) (two_integers x y) h
by_operation (compares f) (integer x ∷ (integer y ∷ (z ∷ zs))) v h = absurd (cc)
by_operation (compares f) (integer x ∷ (truth b ∷ [])) v h = absurd (cc)
by_operation (compares f) (integer x ∷ (truth b ∷ (z ∷ zs))) v h = absurd (cc)
by_operation (compares f) (integer x ∷ (text t ∷ [])) v h = absurd (cc)
by_operation (compares f) (integer x ∷ (text t ∷ (z ∷ zs))) v h = absurd (cc)
by_operation (compares f) (truth a ∷ (w ∷ ws)) v h = absurd (cc)
by_operation (compares f) (text t ∷ (w ∷ ws)) v h = absurd (cc)
by_operation (on_truth f) [] v h = absurd (cc)
by_operation (on_truth f) (truth a ∷ []) v h = logical _ v (f a) (one_truth a) h
by_operation (on_truth f) (integer x ∷ []) v h = absurd (cc)
by_operation (on_truth f) (text t ∷ []) v h = absurd (cc)
by_operation (on_truth f) (integer x ∷ (w ∷ ws)) v h = absurd (cc)
by_operation (on_truth f) (truth a ∷ (w ∷ ws)) v h = absurd (cc)
by_operation (on_truth f) (text t ∷ (w ∷ ws)) v h = absurd (cc)
by_operation (on_truths f) [] v h = absurd (cc)
by_operation (on_truths f) (integer x ∷ []) v h = absurd (cc)
by_operation (on_truths f) (truth a ∷ []) v h = absurd (cc)
by_operation (on_truths f) (text t ∷ []) v h = absurd (cc)
by_operation (on_truths f) (truth a ∷ (truth b ∷ [])) v h =
    logical _ v (f a b) (two_truths a b) h
by_operation (on_truths f) (truth a ∷ (truth b ∷ (z ∷ zs))) v h = absurd (cc)
by_operation (on_truths f) (truth a ∷ (integer y ∷ [])) v h = absurd (cc)
by_operation (on_truths f) (truth a ∷ (integer y ∷ (z ∷ zs))) v h = absurd (cc)
by_operation (on_truths f) (truth a ∷ (text t ∷ [])) v h = absurd (cc)
by_operation (on_truths f) (truth a ∷ (text t ∷ (z ∷ zs))) v h = absurd (cc)
by_operation (on_truths f) (integer x ∷ (w ∷ ws)) v h = absurd (cc)
by_operation (on_truths f) (text t ∷ (w ∷ ws)) v h = absurd (cc)

by_hook : (o : Option Hook) (vs : List DomainValue) (v : DomainValue) → value_by o vs ≡ good v
    → IsCalled vs v
by_hook None vs v h = absurd (cc)
by_hook (Some k) vs v h = by_operation k.operation vs v h

pub called : (row : ℕ) (vs : List DomainValue) (v : DomainValue) → hook_value row vs ≡ Some (Ok v)
    → IsCalled vs v
called row vs v h = by_hook (slice_get hooks row) vs v h
