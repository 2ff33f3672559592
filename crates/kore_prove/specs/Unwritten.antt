-- Which calls write no file.
use Rattle.std.specs.Prelude.{◌≢◌, ℕ}

-- the exit codes with which no file is written
abbrev pub IsUnwritten : ℕ → Type 0
IsUnwritten code = (code ≢ 0) × (code ≢ 1) × (code ≢ 4) × (code ≢ 10) × (code ≢ 11)
