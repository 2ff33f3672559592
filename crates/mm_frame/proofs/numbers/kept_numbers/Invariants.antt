use Rattle.std.proofs.Common.{◌≡◌, ◌++◌, drop}
use Rattle.std.specs.Prelude.{filter}
use Rattle.mm_frame.specs.PlainFrames.{has_number}
use Rattle.mm_frame.proofs.numbers.kept_numbers.Given as goal

abbrev pub invariant-loop-n : goal.invariant-loop-n
invariant-loop-n l = l.kept.items ++ filter (has_number l.numbers) (drop l.n-index l.group)
    ≡ filter (has_number l.numbers) l.group
