-- Texts that are appended one after another.
use Rattle.std.proofs.Common.{◌≡◌, ℕ, List, ◌++◌, ◌∙◌, ap, append_assoc}
use Rattle.std.specs.Prelude.{Result, Ok, Err, OnOk}

pub appended_twice : {E : Type 0} (r : Result (Unit {0}) E) (old mid new p t d : List ℕ)
    → mid ≡ old ++ p → p ++ t ≡ d → OnOk r (new ≡ mid ++ t) → OnOk r (new ≡ old ++ d)
appended_twice (Ok v) old mid new p t d first whole second =
    second ∙ ap (λ xs. xs ++ t) first ∙ append_assoc old p t ∙ ap (λ xs. old ++ xs) whole
appended_twice (Err e) old mid new p t d first whole second = second
