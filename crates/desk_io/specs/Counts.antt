-- Counts of faults. A count stops at its last value, 2^64 - 1.
use Rattle.std.specs.Prelude.{◌≡◌, ℕ, ◌-◌, ◌^◌, ◌<◌, ◌⊎◌}

-- a count rose from old to new, or is at its last value
abbrev pub CountRose : ℕ → ℕ → Type 0
CountRose old new = (old < new) ⊎ (new ≡ 2 ^ 64 - 1)
