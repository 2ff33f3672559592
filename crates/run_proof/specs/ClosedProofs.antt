-- What a proved run leaves of the created file, which was written and closed.
use Rattle.std.specs.Prelude.{◌≡◌, ◌≢◌, ℕ, ◌⊎◌, List, [], ◌++◌, Option, Some, None}
use Rattle.desk_io.specs.Told.{Told, file_of}
use Rattle.desk_io.specs.Changes.{PutsFile}
use Rattle.term_core.specs.Patterns.{Pattern}
use Rattle.rule_core.specs.Theories.{RewriteTheory}
use Rattle.rule_core.specs.Runs.{Run, stuck, limited, stopped, unstarted, kept_by}
use Rattle.mm_justify.specs.Justifying.{IsProofOfRun, IsFrontOfRun}
use Rattle.prove_run.specs.Summaries.{IsSummaryOf}
use Rattle.prove_run.specs.declared.summaries.Summary.{Summary}
use Rattle.run_proof.specs.ShownRules.{Shows}

-- how many steps a run has
abbrev pub steps_of : Run → ℕ
steps_of (stuck n t) = n
steps_of (limited n t) = n
steps_of (stopped n cause t) = n
steps_of (unstarted cause) = 0

-- the created file grew by these bytes and is no longer created, and the others are as before
abbrev pub PutsCreated : Option Told → Option Told → List ℕ → Type 0
PutsCreated None new bytes = Unit {0}
PutsCreated (Some old) new bytes =
    (now : Told) × (new ≡ Some now)
    × ((name content : List ℕ) → old.created ≡ Some name → file_of old.files name ≡ Some content →
    PutsFile old.files now.files name (content ++ bytes))

-- each file except the created one is as before
abbrev pub KeepsOthersNow : Option Told → Option Told → Type 0
KeepsOthersNow None new = Unit {0}
KeepsOthersNow (Some old) new =
    (now : Told) × (new ≡ Some now)
    × ((name other : List ℕ) → old.created ≡ Some name → other ≢ name →
    file_of now.files other ≡ file_of old.files other)

-- the created file grew by a proof of the run, from the initial term to what the run keeps, and is
-- no longer created; the proof has these counts, and shows so many rules unmet
abbrev pub PutsProof : Option Told → Option Told → RewriteTheory → Pattern → Run → Summary
    → Option ℕ → Type 0
PutsProof old new theory start run summary shown =
    (text : List ℕ) × PutsCreated old new text × IsProofOfRun text theory start (kept_by start run)
    × IsSummaryOf text summary
    × (summary.steps ≡ steps_of run)
    × Shows text theory run shown

-- the created file grew by the front of a proof of the run, or by nothing, and is no longer created
abbrev pub PutsFront : Option Told → Option Told → RewriteTheory → ℕ → ℕ → Pattern → Type 0
PutsFront old new theory limit calls start =
    (bytes : List ℕ) × PutsCreated old new bytes
    × ((bytes ≡ []) ⊎ IsFrontOfRun theory limit calls start bytes)
