-- Rises of a count that never falls.
use Rattle.std.proofs.Common.{◌≡◌, ℕ, ◌<◌, ◌≤◌, ◌⊎◌, inl, inr, arith}
use Rattle.std.proofs.Math.Nat.{eq-or-lt_of_le}
use Rattle.desk_io.specs.Counts.{CountRose}

-- a rise after calls in which the count did not fall
pub CountRose-later : (a b c : ℕ) → a ≤ b → CountRose b c → CountRose a c
CountRose-later a b c h (inl less) = inl (omega arith)
CountRose-later a b c h (inr last) = inr last

-- a rise before calls in which the count did not fall
pub CountRose-before : (a b c : ℕ) → a ≤ b → CountRose a b → b ≤ c → CountRose a c
CountRose-before a b c fell (inl less) h = inl (omega arith)
CountRose-before a b c fell (inr last) h = by_cases (eq-or-lt_of_le h)
  where
    by_cases : (b ≡ c) ⊎ (b < c) → CountRose a c
    by_cases (inl same) = inr (omega arith)
    by_cases (inr more) = inl (omega arith)
