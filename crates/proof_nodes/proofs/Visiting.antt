-- Tasks on the stack of a walk.
use Rattle.std.proofs.Common.{◌≡◌, ℕ, List, [], ◌∷◌, ◌++◌, refl, ap}
use Rattle.proof_nodes.specs.Walking.{visits}
use Rattle.proof_nodes.specs.declared.walk.Task.{Task}
use Rattle.proof_nodes.specs.declared.walk.Task.TheVariants.{Visit}

pub visits-push : (ns : List ℕ) (n : ℕ) → visits (ns ++ n ∷ []) ≡ Visit n ∷ visits ns
visits-push [] n = refl
visits-push (m ∷ ns) n = ap (λ (ts : List Task). ts ++ Visit m ∷ []) (visits-push ns n)
