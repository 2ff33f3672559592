-- What one call writes of a context.
use Rattle.std.specs.Prelude.{◌≡◌, ℕ, ◌<◌, ◌≤◌, List, ◌++◌, length, slice_get, Some}
use Rattle.ml_kernel.specs.Theorems.{Theorem}
use Rattle.prove_term.specs.Contexts.{Context}
use Rattle.proof_writer.specs.declared.writer.Writer.{Writer}
use Rattle.proof_writer.specs.Writing.{HasWritten, IsTextOf, Keeps, Adds}
use Rattle.proof_writer.specs.StatedTheorems.{IsTheoremOf}

-- What was written is of the context, and all names of the context are declared. All that could be
-- cited can still be cited. The appended bytes continue each text of what was written before.
pub record WritesOn (cx : Context) (old new : Writer) (before after : List ℕ) : Type 0 where
  pub written : HasWritten new cx
  pub named : new.renderer.named ≡ length cx.names
  pub keeps : Keeps old.renderer new.renderer
  pub text : Adds cx old new before after

-- Bytes were appended to a buffer. Each text of what the old writer has written, followed by these
-- bytes, has this theorem.
abbrev pub StatesTheorem : Context → Writer → Theorem → List ℕ → List ℕ → Type 0
StatesTheorem cx old t before after =
    (added text : List ℕ) → after ≡ before ++ added → IsTextOf cx old text
    → IsTheoremOf cx.names (text ++ added) t

-- it has the lemma at this place of the context
abbrev pub StatesLemmaAt : ℕ → Context → Writer → List ℕ → List ℕ → Type 0
StatesLemmaAt place cx old before after =
    (t : Theorem) → slice_get cx.lemmas place ≡ Some t → StatesTheorem cx old t before after

-- it has each lemma before this place that the old writer has not written
abbrev pub StatesLemmasBefore : ℕ → Context → Writer → List ℕ → List ℕ → Type 0
StatesLemmasBefore end cx old before after =
    (place : ℕ) → old.lemmas ≤ place → place < end → StatesLemmaAt place cx old before after
