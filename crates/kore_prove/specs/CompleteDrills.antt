-- Which calls make a drill, unless a fault is counted or memory runs out.
use Rattle.std.specs.Prelude.{◌≡◌, ◌⊎◌, ℕ}
use Rattle.kore_prove.specs.DrillWords.{DrillRequest, IsDrill}
use Rattle.kore_prove.specs.Courses.{Call}
use Rattle.kore_prove.specs.CountedFaults.{CountsWriteFault, CountsOutputFault}

-- with the words of a drill the call makes the drill, or memory ran out, or a fault was counted as
-- its file or the output was written
abbrev pub CompletesDrill : Call → ℕ → Type 0
CompletesDrill c code =
    (asked : DrillRequest) → IsDrill c.words asked →
    (code ≡ 0) ⊎ (code ≡ 1)
    ⊎ ((code ≡ 4) × (CountsOutputFault c.course ⊎ CountsWriteFault c.course))
