-- What the proof of a path leaves of the created file, which was written and closed.
use Rattle.std.specs.Prelude.{◌≡◌, ◌⊎◌, ℕ, List, [], Option}
use Rattle.desk_io.specs.Told.{Told}
use Rattle.term_core.specs.Terms.{Tree}
use Rattle.term_core.specs.Patterns.{Pattern, ground_pattern}
use Rattle.rule_core.specs.Records.{StepRecord}
use Rattle.rule_core.specs.Theories.{RewriteTheory}
use Rattle.mm_justify.specs.Justifying.{IsProofOfRun, IsFrontOfProof}
use Rattle.run_proof.specs.ClosedProofs.{PutsCreated}
use Rattle.path_proof.specs.RecordedPaths.{last_of, IsOnPath}

-- the bytes are the front of a proof of the path from the initial term, cut after one of its
-- configurations
abbrev pub IsFrontOfPath : RewriteTheory → Pattern → Tree → List StepRecord → List ℕ → Type 0
IsFrontOfPath theory start first steps bytes =
    (t : Tree) × IsOnPath first steps t × IsFrontOfProof theory start (ground_pattern t) bytes

-- the created file grew by a proof of the path, from the initial term to the last configuration,
-- and is no longer created
abbrev pub PutsPathProof : Option Told → Option Told → RewriteTheory → Pattern → Tree
    → List StepRecord → Type 0
PutsPathProof old new theory start first steps =
    (text : List ℕ) × PutsCreated old new text
    × IsProofOfRun text theory start (ground_pattern (last_of first steps))

-- the created file grew by the front of a proof of the path, or by nothing, and is no longer created
abbrev pub PutsPathFront : Option Told → Option Told → RewriteTheory → Pattern → Tree
    → List StepRecord → Type 0
PutsPathFront old new theory start first steps =
    (bytes : List ℕ) × PutsCreated old new bytes
    × ((bytes ≡ []) ⊎ IsFrontOfPath theory start first steps bytes)
