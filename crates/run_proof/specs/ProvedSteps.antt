-- A run and its proof, step by step. Only clauses of private functions cite it.
use Rattle.std.specs.Prelude.{◌≡◌, ℕ, ◌+◌, false, ◌⊎◌, List, ◌++◌, Option}
use Rattle.desk_io.specs.Told.{Told}
use Rattle.desk_io.specs.Changes.{Writes}
use Rattle.term_core.specs.Terms.{Tree}
use Rattle.term_core.specs.Patterns.{Pattern, ground_pattern}
use Rattle.rule_core.specs.ProgramView.{theory_of}
use Rattle.rule_core.specs.RunView.{cause_of}
use Rattle.rule_core.specs.Runs.{Steps, steps_on, stays, stops}
use Rattle.rule_core.specs.declared.rules.Program.{Program}
use Rattle.mm_justify.specs.Counting.{capped}
use Rattle.rewriter.specs.Configurations.{RunState, IsConfiguration}
use Rattle.prove_run.specs.RunProof.{RunProof, reached}
use Rattle.prove_run.specs.Proving.{FitsProof}
use Rattle.run_proof.specs.declared.steps.Progress.{Progress}
use Rattle.run_proof.specs.declared.steps.Progress.TheVariants.{Made, Stuck, Blocked}

-- the proof has not failed, and has reached the configuration of the run
pub record IsProvedAt (program : Program) (run : RunState) (proof : RunProof) : Type 0 where
  pub same_program : proof.program ≡ program
  pub is_reached : reached proof ≡ ground_pattern run.config
  pub sound : proof.failed ≡ false
  pub sorted : IsConfiguration (theory_of program) run.config

-- the proof went on, and the created file grew by the text of its steps
pub record GoesOn (old new : Option Told) (before after : RunProof) : Type 0 where
  pub same_program : after.program ≡ before.program
  pub same_start : after.start ≡ before.start
  pub text : (added : List ℕ) × Writes old new added
      × ((text : List ℕ) → FitsProof before text → FitsProof after (text ++ added))

-- the run and its proof have made a step, which is the step of the definition; or no step can be
-- made, and they are as before
abbrev pub Progresses : Program → RunState → RunState → RunProof → RunProof → Progress → Type 0
Progresses program run run' proof proof' Made =
    Steps (theory_of program) run.config run.calls (steps_on run'.config run'.calls)
    × (proof'.steps ≡ capped (proof.steps + 1))
Progresses program run run' proof proof' (Stuck last) =
    Steps (theory_of program) run.config run.calls stays × (last ≡ run.config) × (run' ≡ run)
    × (proof' ≡ proof)
Progresses program run run' proof proof' (Blocked why last) =
    Steps (theory_of program) run.config run.calls (stops (cause_of why)) × (last ≡ run.config)
    × (run' ≡ run)
    × (proof' ≡ proof)

-- the configuration of the run, or the one to which its next step leads
abbrev pub EndsNext : Program → RunState → Pattern → Type 0
EndsNext program run end =
    (end ≡ ground_pattern run.config)
    ⊎ ((u : Tree) × (d : ℕ) × Steps (theory_of program) run.config run.calls (steps_on u d)
    × (end ≡ ground_pattern u))
