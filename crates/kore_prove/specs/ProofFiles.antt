-- The files of a proof and of hints, after they were written and closed.
use Rattle.std.specs.Prelude.{ℕ, ◌⊎◌, List, Option, Some, None}
use Rattle.desk_io.specs.Told.{Told}
use Rattle.desk_io.specs.KeptFiles.{KeepsFile}
use Rattle.term_core.specs.Patterns.{Pattern}
use Rattle.rule_core.specs.Theories.{RewriteTheory}
use Rattle.rule_core.specs.Runs.{Run}
use Rattle.prove_run.specs.Summaries.{IsSummaryOf}
use Rattle.prove_run.specs.declared.summaries.Summary.{Summary}
use Rattle.run_proof.specs.ShownRules.{Shows}
use Rattle.kore_prove.specs.ProvedRun.{HoldsProof}
use Rattle.kore_prove.specs.RunFronts.{HoldsFront}
use Rattle.kore_prove.specs.HintFronts.{HoldsHintFront}

-- the file holds a proof of the run that has these counts, and shows so many rules unmet
pub record HoldsCounted (told told' : Option Told) (file : List ℕ) (theory : RewriteTheory)
    (start : Pattern) (run : Run) (shown : Option ℕ) (summary : Summary) : Type 0 where
  pub proof : HoldsProof told told' file theory start run
  pub counted : IsSummaryOf proof.bytes summary
  pub shows : Shows proof.bytes theory run shown

-- the file is as before, or it was created and holds the front of a proof
abbrev pub MayHoldFront : Option Told → Option Told → List ℕ → RewriteTheory → ℕ → ℕ → Pattern
    → Type 0
MayHoldFront told told' file theory limit calls start =
    KeepsFile told told' file ⊎ HoldsFront told told' file theory limit calls start

-- the same, if a proof is wanted
abbrev pub HasWantedFront : Option (List ℕ) → Option Told → Option Told → RewriteTheory → ℕ → ℕ
    → Pattern → Type 0
HasWantedFront None told told' theory limit calls start = Unit {0}
HasWantedFront (Some file) told told' theory limit calls start =
    MayHoldFront told told' file theory limit calls start

-- the file of the hints, if they are wanted, is as before, or it was created and holds the front of
-- them
abbrev pub HasWantedHintFront : Option (List ℕ) → Option Told → Option Told → RewriteTheory → ℕ → ℕ
    → Pattern → Type 0
HasWantedHintFront None told told' theory limit calls start = Unit {0}
HasWantedHintFront (Some file) told told' theory limit calls start =
    KeepsFile told told' file ⊎ HoldsHintFront told told' file theory limit calls start
