-- Heights, cut to 501. The greatest height that is allowed is 500.
use Rattle.std.specs.Prelude.{ℕ, min}

abbrev pub cut : ℕ → ℕ
cut h = min h 501
