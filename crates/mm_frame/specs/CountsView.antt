-- What the counts of symbols say.
use Rattle.std.specs.Prelude.{ℕ, slice_index}
use Rattle.mm_frame.specs.declared.counts.Counts.{Counts}

abbrev pub times_counted : Counts → ℕ → ℕ
times_counted counts n = slice_index counts.counts.items n
