-- Halving two numbers while their halves differ.
use Rattle.std.proofs.Common.{ℕ, ◌≡◌, ◌<◌, ◌≤◌, ◌+◌, ◌*◌, ◌/◌, arith}
use Rattle.std.proofs.Math.Nat.{mul-le-mul_left}

pub less-halves : (low high : ℕ) → low < high → (low / 2 ≡ high / 2 → ⊥) → low / 2 < high / 2
less-halves low high less differ = omega (arith, differ)

pub halves-after : (before low unit : ℕ) → before < (low + 1) * unit
    → before < (low / 2 + 1) * (unit * 2)
halves-after before low unit lt =
    let half : low + 1 ≤ (low / 2 + 1) * 2 = omega arith in
    omega (arith, lt, mul-le-mul_left unit half)

pub halves-within : (high unit from : ℕ) → high * unit ≤ from → high / 2 * (unit * 2) ≤ from
halves-within high unit from le =
    let half : (high / 2) * 2 ≤ high = omega arith in
    omega (arith, le, mul-le-mul_left unit half)
