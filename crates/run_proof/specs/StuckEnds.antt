-- The end of a stuck run and of its proof. Only clauses of private functions cite it.
use Rattle.std.specs.Prelude.{◌≡◌, ℕ, false, List, ◌++◌, Option}
use Rattle.desk_io.specs.Told.{Told}
use Rattle.desk_io.specs.Changes.{Writes}
use Rattle.rule_core.specs.ProgramView.{theory_of}
use Rattle.rule_core.specs.Runs.{Run, stuck, limited, stopped, unstarted, Steps, stays}
use Rattle.rule_core.specs.declared.rules.Program.{Program}
use Rattle.rewriter.specs.Configurations.{RunState}
use Rattle.prove_run.specs.RunProof.{RunProof}
use Rattle.prove_run.specs.Proving.{FitsProof}

-- if the run is stuck, it is at its last configuration, to which no rule applies
abbrev pub IsStuckAt : Program → RunState → Run → Type 0
IsStuckAt program run (stuck n t) =
    Steps (theory_of program) run.config run.calls stays × (t ≡ run.config)
IsStuckAt program run (limited n t) = Unit {0}
IsStuckAt program run (stopped n cause t) = Unit {0}
IsStuckAt program run (unstarted cause) = Unit {0}

-- The created file grew by some bytes, and the proof has reached the same in as many steps. Each
-- text that fitted the proof, followed by these bytes, fits it, and says this too.
pub record AddsSaying (says : List ℕ → Type 0) (old new : Option Told) (before after : RunProof)
    : Type 0 where
  pub same_program : after.program ≡ before.program
  pub same_start : after.start ≡ before.start
  pub same_made : after.made ≡ before.made
  pub same_steps : after.steps ≡ before.steps
  pub sound : after.failed ≡ false
  pub text : (added : List ℕ) × Writes old new added
      × ((text : List ℕ) → FitsProof before text
      → FitsProof after (text ++ added) × says (text ++ added))
