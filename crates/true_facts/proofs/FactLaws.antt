-- The true facts are facts of four kinds.
use Rattle.std.proofs.Common.{◌↔◌, ℕ, List, Bool, true, refl}
use Rattle.std.specs.Prelude.{IsTrue}
use Rattle.ml_pat.specs.Patterns.{Pattern}
use Rattle.rule_core.specs.declared.signature.Signature.{Signature}
use Rattle.ml_image.specs.Sentences.{IsImageOf}
use Rattle.ml_image.specs.TrueFacts.{IsTrueFact, of_value, of_hook, of_unequal, of_injective}
use Rattle.true_facts.proofs.HookShapes.{IsHookFact}
use Rattle.true_facts.proofs.InjectionLaws.{IsInjectiveFact}
use Rattle.true_facts.proofs.UnequalLaws.{IsUnequalFact}
use Rattle.true_facts.proofs.ValueFactLaws.{IsValueFact}

abbrev pub IsFact : Signature → List (List ℕ) → Pattern → Type 0
IsFact sig names p = IsImageOf sig names (IsTrueFact sig) p

value_fact : (sig : Signature) (names : List (List ℕ)) (p : Pattern) → IsValueFact sig names p
    → IsFact sig names p
value_fact sig names p (s, v, (q, h, image)) = (q, of_value s v h, image)

hook_fact : (sig : Signature) (names : List (List ℕ)) (p : Pattern) → IsHookFact sig names p
    → IsFact sig names p
hook_fact sig names p (f, vs, (q, h, image)) = (q, of_hook f vs h, image)

unequal_fact : (sig : Signature) (names : List (List ℕ)) (p : Pattern) → IsUnequalFact sig names p
    → IsFact sig names p
unequal_fact sig names p (l, r, (q, h, image)) = (q, of_unequal l r h, image)

injective_fact : (sig : Signature) (names : List (List ℕ)) (p : Pattern)
    → IsInjectiveFact sig names p → IsFact sig names p
injective_fact sig names p (a, b, (q, h, image)) = (q, of_injective a b h, image)

pub by_value : (sig : Signature) (names : List (List ℕ)) (p : Pattern) → IsValueFact sig names p
    → IsTrue true ↔ IsFact sig names p
by_value sig names p h = (λ t. value_fact sig names p h, λ f. refl)

pub by_hook : (sig : Signature) (names : List (List ℕ)) (p : Pattern) → IsHookFact sig names p
    → IsTrue true ↔ IsFact sig names p
by_hook sig names p h = (λ t. hook_fact sig names p h, λ f. refl)

pub by_unequal : (sig : Signature) (names : List (List ℕ)) (p : Pattern)
    → IsUnequalFact sig names p → IsTrue true ↔ IsFact sig names p
by_unequal sig names p h = (λ t. unequal_fact sig names p h, λ f. refl)

-- a fact that is of none of the first three kinds is of the last
pub by_injection : (sig : Signature) (names : List (List ℕ)) (p : Pattern) (b : Bool)
    → (IsValueFact sig names p → ⊥) → (IsHookFact sig names p → ⊥)
    → (IsUnequalFact sig names p → ⊥) → IsTrue b ↔ IsInjectiveFact sig names p
    → IsTrue b ↔ IsFact sig names p
by_injection sig names p b no_value no_hook no_unequal test =
    (λ t. injective_fact sig names p (test.0 t), last)
  where
    last : IsFact sig names p → IsTrue b
    last (q, of_value s v h, image) = absurd (no_value (s, v, (q, h, image)))
    last (q, of_hook f vs h, image) = absurd (no_hook (f, vs, (q, h, image)))
    last (q, of_unequal l r h, image) = absurd (no_unequal (l, r, (q, h, image)))
    last (q, of_injective a b' h, image) = test.1 (a, b', (q, h, image))
