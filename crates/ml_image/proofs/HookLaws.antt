-- The arguments at which hooks have values: one or two, of the hook's kinds.
use Rattle.std.proofs.Common.{◌≡◌, ◌≢◌, ℕ, ◌⊎◌, get_or, arith, List, [], ◌∷◌, Option, Some, None}
use Rattle.std.proofs.Common.{Result, Ok, option_map, length, map, slice_get, inl, inr, refl}
use Rattle.std.proofs.Common.{sym, ◌∙◌, ap, suc}
use Rattle.term_core.specs.Terms.{DomainValue}
use Rattle.term_core.specs.Values.{scalar_value}
use Rattle.term_core.specs.HookValues.{Kind, Operation, on_integer, on_integers, compares, on_truth}
use Rattle.term_core.specs.HookValues.{on_truths, Hook, hooks, argument_kinds, operation_value}
use Rattle.term_core.specs.HookValues.{value_by, hook_value}
use Rattle.term_core.specs.HookSignatures.{hook_arguments}
use Rattle.term_core.specs.declared.values.NoValue.{NoValue}
use Rattle.term_core.specs.declared.values.Scalar.{Scalar}
use Rattle.term_core.specs.declared.values.Scalar.TheVariants.{Int, Bool}
use Rattle.term_core.specs.declared.ids.HookNo.{HookNo}
use Rattle.rule_core.specs.declared.signature.SymKind.{SymKind}
use Rattle.rule_core.specs.declared.signature.SymKind.TheVariants.{Hooked, Injection, Ctor}
use Rattle.rule_core.specs.declared.signature.SymKind.TheVariants.{Equations, Closed, NoKind}
use Rattle.hook_table.specs.Scalars.{kind_of}
use Rattle.ml_image.proofs.ImageLaws.{none_some}

abbrev pub Answer : Type 0
Answer = Result DomainValue NoValue

fits : (op : Operation) (args : List Scalar) (r : Answer)
    → operation_value op (map scalar_value args) ≡ Some r → argument_kinds op ≡ map kind_of args
fits (on_integer f) [] r is = absurd (none_some r is)
fits (on_integer f) (Int x ∷ []) r is = refl
fits (on_integer f) (Bool x ∷ []) r is = absurd (none_some r is)
fits (on_integer f) (Int x ∷ (y ∷ ys)) r is = absurd (none_some r is)
fits (on_integer f) (Bool x ∷ (y ∷ ys)) r is = absurd (none_some r is)
fits (on_integers f) [] r is = absurd (none_some r is)
fits (on_integers f) (Int x ∷ []) r is = absurd (none_some r is)
fits (on_integers f) (Bool x ∷ []) r is = absurd (none_some r is)
fits (on_integers f) (Int x ∷ (Int y ∷ [])) r is = refl
fits (on_integers f) (Int x ∷ (Bool y ∷ [])) r is = absurd (none_some r is)
fits (on_integers f) (Bool x ∷ (y ∷ [])) r is = absurd (none_some r is)
fits (on_integers f) (Int x ∷ (Int y ∷ (z ∷ zs))) r is = absurd (none_some r is)
fits (on_integers f) (Int x ∷ (Bool y ∷ (z ∷ zs))) r is = absurd (none_some r is)
fits (on_integers f) (Bool x ∷ (y ∷ (z ∷ zs))) r is = absurd (none_some r is)
fits (compares f) [] r is = absurd (none_some r is)
fits (compares f) (Int x ∷ []) r is = absurd (none_some r is)
fits (compares f) (Bool x ∷ []) r is = absurd (none_some r is)
fits (compares f) (Int x ∷ (Int y ∷ [])) r is = refl
fits (compares f) (Int x ∷ (Bool y ∷ [])) r is = absurd (none_some r is)
fits (compares f) (Bool x ∷ (y ∷ [])) r is = absurd (none_some r is)
fits (compares f) (Int x ∷ (Int y ∷ (z ∷ zs))) r is = absurd (none_some r is)
fits (compares f) (Int x ∷ (Bool y ∷ (z ∷ zs))) r is = absurd (none_some r is)
fits (compares f) (Bool x ∷ (y ∷ (z ∷ zs))) r is = absurd (none_some r is)
fits (on_truth f) [] r is = absurd (none_some r is)
fits (on_truth f) (Bool x ∷ []) r is = refl
fits (on_truth f) (Int x ∷ []) r is = absurd (none_some r is)
fits (on_truth f) (Bool x ∷ (y ∷ ys)) r is = absurd (none_some r is)
fits (on_truth f) (Int x ∷ (y ∷ ys)) r is = absurd (none_some r is)
fits (on_truths f) [] r is = absurd (none_some r is)
fits (on_truths f) (Bool x ∷ []) r is = absurd (none_some r is)
fits (on_truths f) (Int x ∷ []) r is = absurd (none_some r is)
fits (on_truths f) (Bool x ∷ (Bool y ∷ [])) r is = refl
fits (on_truths f) (Bool x ∷ (Int y ∷ [])) r is = absurd (none_some r is)
fits (on_truths f) (Int x ∷ (y ∷ [])) r is = absurd (none_some r is)
fits (on_truths f) (Bool x ∷ (Bool y ∷ (z ∷ zs))) r is = absurd (none_some r is)
fits (on_truths f) (Bool x ∷ (Int y ∷ (z ∷ zs))) r is = absurd (none_some r is)
fits (on_truths f) (Int x ∷ (y ∷ (z ∷ zs))) r is = absurd (none_some r is)

by_hook : (o : Option Hook) (args : List Scalar) (r : Answer)
    → value_by o (map scalar_value args) ≡ Some r
    → option_map (λ (h : Hook). argument_kinds h.operation) o ≡ Some (map kind_of args)
by_hook None args r is = absurd (none_some r is)
by_hook (Some h) args r is = ap (λ (ks : List Kind). Some ks) (fits h.operation args r is)

-- a hook that has a value has arguments of its kinds
pub answer_fits : (row : ℕ) (args : List Scalar) (r : Answer)
    → hook_value row (map scalar_value args) ≡ Some r → hook_arguments row ≡ Some (map kind_of args)
answer_fits row args r is = by_hook (slice_get hooks row) args r is

few_kinds : (op : Operation) → (length (argument_kinds op) ≡ 1) ⊎ (length (argument_kinds op) ≡ 2)
few_kinds (on_integer f) = inl refl
few_kinds (on_integers f) = inr refl
few_kinds (compares f) = inr refl
few_kinds (on_truth f) = inl refl
few_kinds (on_truths f) = inr refl

few_by : (o : Option Hook) (args : List Scalar) (r : Answer)
    → value_by o (map scalar_value args) ≡ Some r → (length args ≡ 1) ⊎ (length args ≡ 2)
few_by None args r is = absurd (none_some r is)
few_by (Some h) args r is = go (few_kinds h.operation)
  where
    count : length (argument_kinds h.operation) ≡ length args
    count = ap length (fits h.operation args r is) ∙ as_many args
      where
        as_many : (xs : List Scalar) → length (map kind_of xs) ≡ length xs
        as_many [] = refl
        as_many (x ∷ xs) = ap suc (as_many xs)

    go : (length (argument_kinds h.operation) ≡ 1) ⊎ (length (argument_kinds h.operation) ≡ 2)
        → (length args ≡ 1) ⊎ (length args ≡ 2)
    go (inl one) = inl (sym count ∙ one)
    go (inr two) = inr (sym count ∙ two)

-- and it has one or two arguments
pub answer_few : (row : ℕ) (args : List Scalar) (r : Answer)
    → hook_value row (map scalar_value args) ≡ Some r → (length args ≡ 1) ⊎ (length args ≡ 2)
answer_few row args r is = few_by (slice_get hooks row) args r is

pub one_item : (xs : List Scalar) (d : Scalar) → length xs ≡ 1 → get_or xs 0 d ∷ [] ≡ xs
one_item [] d n = absurd (omega (arith, n))
one_item (x ∷ []) d n = refl
one_item (x ∷ (y ∷ xs)) d n = absurd (omega (arith, n))

pub two_items : (xs : List Scalar) (d e : Scalar) → length xs ≡ 2
    → get_or xs 0 d ∷ (get_or xs 1 e ∷ []) ≡ xs
two_items [] d e n = absurd (omega (arith, n))
two_items (x ∷ []) d e n = absurd (omega (arith, n))
two_items (x ∷ (y ∷ [])) d e n = refl
two_items (x ∷ (y ∷ (z ∷ xs))) d e n = absurd (omega (arith, n))

pub two_of : (n : ℕ) → (n ≡ 1) ⊎ (n ≡ 2) → n ≢ 1 → n ≡ 2
two_of n (inl one) not = absurd (not one)
two_of n (inr two) not = two

pub same_row : (row : ℕ) (hook : HookNo) (kind : SymKind) → kind ≡ Hooked (record { 0 = row })
    → kind ≡ Hooked hook → row ≡ hook.0
same_row row hook kind first second = hook_row (record { 0 = row }) hook (sym first ∙ second)
  where
    hook_row : (a b : HookNo) → Hooked a ≡ Hooked b → a.0 ≡ b.0
    hook_row a b is = ap number is
      where
        number : SymKind → ℕ
        number Injection = a.0
        number Ctor = a.0
        number Equations = a.0
        number (Hooked h) = h.0
        number Closed = a.0
        number NoKind = a.0

pub ok_same : (v w : DomainValue) → (let a : Answer = Ok v in Some a) ≡ Some (Ok w) → v ≡ w
ok_same v w is = cc
