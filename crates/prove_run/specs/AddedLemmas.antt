-- What lemmas add to a proof of a run, and to the created file of a desk.
use Rattle.std.specs.Prelude.{◌≡◌, ℕ, false, List, ◌++◌, All, Option}
use Rattle.desk_io.specs.Told.{Told}
use Rattle.desk_io.specs.Changes.{Writes}
use Rattle.term_core.specs.Patterns.{Pattern as RulePattern}
use Rattle.ml_kernel.specs.Theorems.{Theorem}
use Rattle.prove_term.specs.Contexts.{Context}
use Rattle.proof_writer.specs.StatedTheorems.{IsTheoremOf}
use Rattle.prove_run.specs.RunProof.{RunProof, proof_context, reached}
use Rattle.prove_run.specs.Proving.{FitsProof}

-- the context with more lemmas
abbrev pub with_lemmas : Context → List Theorem → Context
with_lemmas cx ts = record cx { lemmas = cx.lemmas ++ ts }

-- The new proof has the theorems as its last lemmas. It has reached the same in as many steps. Each
-- text that fits the old proof, followed by these bytes, fits the new proof, which has not failed,
-- and has each of the theorems.
pub record AddsLemmas (old new : RunProof) (ts : List Theorem) (added : List ℕ) : Type 0 where
  pub context : proof_context new ≡ with_lemmas (proof_context old) ts
  pub same_start : new.start ≡ old.start
  pub same_made : new.made ≡ old.made
  pub same_steps : new.steps ≡ old.steps
  pub sound : new.failed ≡ false
  pub fits : (text : List ℕ) → FitsProof old text → FitsProof new (text ++ added)
  pub proves : (text : List ℕ) → FitsProof old text → All (IsTheoremOf new.names (text ++ added)) ts

-- the created file grew by the texts of the lemmas
abbrev pub WritesLemmas : Option Told → Option Told → RunProof → RunProof → List Theorem → Type 0
WritesLemmas old new before after ts =
    (added : List ℕ) × Writes old new added × AddsLemmas before after ts added

-- the present configuration of the proof
abbrev pub EndsHere : RunProof → RulePattern → Type 0
EndsHere proof end = end ≡ reached proof
