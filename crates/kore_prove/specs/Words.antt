-- Words that name a file to be written.
use Rattle.std.specs.Prelude.{◌≡◌, ℕ, ◌⊎◌, List}
use Rattle.kore_prove.specs.ProvedRun.{IsProofRun}
use Rattle.kore_prove.specs.HintedRun.{IsHintedRun}
use Rattle.kore_prove.specs.ProveWords.{ProveRequest, IsProve}
use Rattle.kore_prove.specs.DrillWords.{DrillRequest, IsDrill}

-- the words are good, and name this file for the proof or the hints of a run, for the proof of a
-- path, or for that of a drill
abbrev pub IsWrittenFile : List (List ℕ) → List ℕ → Type 0
IsWrittenFile words file =
    IsProofRun words file ⊎ IsHintedRun words file
    ⊎ ((asked : ProveRequest) × IsProve words asked × (asked.proof ≡ file))
    ⊎ ((asked : DrillRequest) × IsDrill words asked × (asked.file ≡ file))
