-- Leaves that tests show to be known.
use Rattle.std.specs.Prelude.{ℕ, Bool, IsTrue}
use Rattle.ml_pat.specs.Leaves.{LeafFacts}

-- which leaves are known
pub record Known : Type 0 where
  pub sort : ℕ → Bool
  pub constant : ℕ → Bool
  pub object : ℕ → Bool
  pub meta : ℕ → Bool

abbrev pub are_known : Known → LeafFacts
are_known k = record {
  sort = λ i. IsTrue (k.sort i);
  constant = λ i. IsTrue (k.constant i);
  object = λ i. IsTrue (k.object i);
  meta = λ i. IsTrue (k.meta i);
}
