-- What the calls of a proof write to the created file of a desk.
use Rattle.std.specs.Prelude.{◌≡◌, ℕ, ◌⊎◌, List, [], ◌++◌, Option}
use Rattle.desk_io.specs.Told.{Told}
use Rattle.desk_io.specs.Changes.{Writes}
use Rattle.desk_io.specs.CreatedFiles.{CreatedBecomes}
use Rattle.term_core.specs.Terms.{Tree}
use Rattle.term_core.specs.Patterns.{Pattern, ground_pattern}
use Rattle.term_core.specs.RulePatterns.{plain_pattern}
use Rattle.term_core.specs.declared.rule_patterns.RulePat.{RulePat}
use Rattle.rule_core.specs.ProgramView.{theory_of}
use Rattle.rule_core.specs.Theories.{RewriteTheory}
use Rattle.rule_core.specs.declared.rules.Program.{Program}
use Rattle.mm_justify.specs.Justifying.{IsFrontOfProof}
use Rattle.prove_run.specs.RunProof.{RunProof, reached}
use Rattle.prove_run.specs.Proving.{FitsProof, Begins, StepsTo}

-- if the created file was empty before, it now holds a text that fits the proof, so it justifies the
-- run from the start up to the present configuration
abbrev pub JustifiesFirst : Option Told → Option Told → RunProof → Type 0
JustifiesFirst old new proof = CreatedBecomes (λ text. text ≡ []) (FitsProof proof) old new

-- the same after a step, if the created file held a text that fitted the proof before the step
abbrev pub JustifiesFurther : Option Told → Option Told → RunProof → RunProof → Type 0
JustifiesFurther old new before after =
    CreatedBecomes (FitsProof before) (FitsProof after) old new

-- the created file grew by the text with which the proof begins
abbrev pub WritesBeginning : Option Told → Option Told → Program → RulePat → Option Tree → RunProof
    → Type 0
WritesBeginning old new program start value proof =
    (text : List ℕ) × Writes old new text × Begins program start value proof text

-- the created file grew by the text of a step to the term u
abbrev pub WritesStep : Option Told → Option Told → RunProof → RunProof → Tree → Type 0
WritesStep old new before after u =
    (added : List ℕ) × Writes old new added × StepsTo before after u added

-- the created file grew by the front of a proof of a run from the start to this end, or by nothing
abbrev pub WritesFrontOfProof : Option Told → Option Told → RewriteTheory → Pattern → Pattern
    → Type 0
WritesFrontOfProof old new theory start end =
    (bytes : List ℕ) × Writes old new bytes × ((bytes ≡ []) ⊎ IsFrontOfProof theory start end bytes)

-- the created file grew by some bytes; each text that fits the proof, followed by these bytes, is
-- the front of a proof of a run from the same start to one of these patterns
abbrev pub WritesFrontAfter : Option Told → Option Told → RunProof → (Pattern → Type 0) → Type 0
WritesFrontAfter old new proof ends =
    (added : List ℕ) × Writes old new added
    × ((text : List ℕ) → FitsProof proof text → (end : Pattern) × ends end
    × IsFrontOfProof (theory_of proof.program) (plain_pattern proof.start) end (text ++ added))

-- the present configuration of the proof, or the term u to which it was to go on
abbrev pub EndsStep : RunProof → Tree → Pattern → Type 0
EndsStep proof u end = (end ≡ reached proof) ⊎ (end ≡ ground_pattern u)
