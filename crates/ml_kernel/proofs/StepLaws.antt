use Rattle.std.proofs.Common.{◌≡◌, ◌≤◌, ◌<◌, ◌*◌, Bool, true, false, if◌then◌else◌, ◌+◌, List, []}
use Rattle.std.proofs.Common.{◌∷◌, ◌++◌, ap, ◌∙◌, arith}
use Rattle.ml_kernel.specs.Theorems.{Derivation, hypothesis, own_axiom, by_rule, cited, derivations}
use denote.Param.Weighed.{most, w_this}
use Rattle.ml_kernel.specs.declared.derivations.Deriv.{Deriv}
use Rattle.ml_kernel.specs.declared.derivations.Deriv.TheDeep.{size-Deriv}
use Rattle.ml_kernel.specs.StepsIn.{steps_in, all_steps}

pub steps_in-positive : (d : Derivation) → 0 < steps_in d
steps_in-positive (hypothesis p) = omega arith
steps_in-positive (own_axiom n p new) = omega arith
steps_in-positive (by_rule r is ds) = omega arith
steps_in-positive (cited hyps q d ms ds) = omega arith

-- the steps of two lists of derivations
pub all_steps-append : (ds es : List Derivation)
    → all_steps (derivations (ds ++ es)) ≡ all_steps (derivations ds) + all_steps (derivations es)
all_steps-append [] es = omega arith
all_steps-append (d ∷ ds) es = omega (arith, all_steps-append ds es)

-- the steps of a list with one more derivation at its end
pub all_steps-push : (all ds : List Derivation) (d : Derivation) → all ≡ ds ++ d ∷ []
    → all_steps (derivations all) ≡ all_steps (derivations ds) + steps_in d
all_steps-push all ds d same = ap (λ (es : List Derivation). all_steps (derivations es)) same
    ∙ all_steps-append ds (d ∷ []) ∙ omega arith

-- the steps of a list that may have more derivations at its end
pub all_steps-grown : (b : Bool) (all ds es : List Derivation) → all ≡ (if b then ds ++ es else ds)
    → all_steps (derivations all) ≤ all_steps (derivations ds) + all_steps (derivations es)
all_steps-grown true all ds es same =
    let joined : all_steps (derivations all) ≡ all_steps (derivations (ds ++ es)) =
    ap (λ (fs : List Derivation). all_steps (derivations fs)) same in
    omega (arith, joined, all_steps-append ds es)
all_steps-grown false all ds es same =
    let kept : all_steps (derivations all) ≡ all_steps (derivations ds) =
    ap (λ (fs : List Derivation). all_steps (derivations fs)) same in
    omega (arith, kept)

-- the rest of a list that may have been moved has no more steps than the list
pub all_steps-left : (b : Bool) (all ds : List Derivation) → all ≡ (if b then [] else ds)
    → all_steps (derivations all) ≤ all_steps (derivations ds)
all_steps-left true all ds same =
    let none : all_steps (derivations all) ≡ 0 =
    ap (λ (fs : List Derivation). all_steps (derivations fs)) same in
    omega (arith, none)
all_steps-left false all ds same =
    let kept : all_steps (derivations all) ≡ all_steps (derivations ds) =
    ap (λ (fs : List Derivation). all_steps (derivations fs)) same in
    omega (arith, kept)

-- the measure that decreases when a list is dropped
pub most-weights : (ds : List Derivation)
    → most (w_this.weight Deriv size-Deriv) ds ≤ all_steps (derivations ds) * 2 + 2
most-weights [] = omega arith
most-weights (d ∷ ds) = omega (arith, most-weights ds)
