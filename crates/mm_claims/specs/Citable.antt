-- What a derivation may cite of what was claimed before, in the form that the laws use.
use Rattle.std.specs.Prelude.{ℕ, List, []}
use Rattle.ml_pat.specs.Patterns.{Pattern}
use Rattle.ml_pat.specs.Leaves.{LeafFacts}
use Rattle.ml_kernel.specs.MayCite.{MayCite}
use Rattle.mm_claims.specs.Blocks.{Claim}
use Rattle.mm_claims.specs.CitedAt.{IsCitable}

abbrev pub citable : LeafFacts → List Claim → (List Pattern → Pattern → ℕ) → MayCite
citable known claims place = record {
  fact = λ p new. IsCitable known claims place [] p new [];
  lemma = λ own q ms. IsCitable known claims place own q [] ms;
}
