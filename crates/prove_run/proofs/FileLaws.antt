-- What the calls of a proof write to the created file.
use Rattle.std.proofs.Common.{◌≡◌, ℕ, true, List, [], ◌++◌, Option, Some, None, inl, inr, refl, sym}
use Rattle.std.proofs.Common.{◌∙◌, ap, subst}
use Rattle.std.specs.Prelude.{Result, Ok, Err, OnErr}
use Rattle.std.proofs.lemmas.List.{append_assoc, append-nil}
use Rattle.desk_io.specs.Told.{Told}
use Rattle.desk_io.specs.Changes.{TellsCreated, WritesFront}
use Rattle.desk_io.proofs.Told.{Writes-nil, Writes-becomes}
use Rattle.term_core.specs.Terms.{Tree}
use Rattle.term_core.specs.Patterns.{Pattern}
use Rattle.term_core.specs.RulePatterns.{plain_pattern}
use Rattle.term_core.specs.declared.rule_patterns.RulePat.{RulePat}
use Rattle.rule_core.specs.ProgramView.{theory_of}
use Rattle.rule_core.specs.Theories.{RewriteTheory}
use Rattle.rule_core.specs.declared.rules.Program.{Program}
use Rattle.mm_justify.specs.Justifying.{IsProofOfRun, IsFrontOfProof}
use Rattle.prove_run.specs.RunProof.{RunProof, configuration, reached}
use Rattle.prove_run.specs.Proving.{FitsProof, Begins, StepsTo}
use Rattle.prove_run.specs.WrittenProofs.{JustifiesFirst, JustifiesFurther, WritesBeginning}
use Rattle.prove_run.specs.WrittenProofs.{WritesStep, WritesFrontOfProof, WritesFrontAfter}
use Rattle.prove_run.specs.WrittenProofs.{EndsStep}

pub on_err : {T E : Type 0} (r : Result T E) (P : Type 0) → P → OnErr r P
on_err (Ok t) P h = tt
on_err (Err e) P h = h

-- ---- the file justifies the run so far

pub first_justified : (old new : Option Told) (program : Program) (start : RulePat)
    (value : Option Tree) (proof : RunProof) → WritesBeginning old new program start value proof
    → JustifiesFirst old new proof
first_justified old new program start value proof (text, writes, begins) =
    Writes-becomes (λ (l : List ℕ). l ≡ []) (FitsProof proof) old new text writes
    (λ l none. subst (λ (m : List ℕ). FitsProof proof (m ++ text)) (sym none) begins.fits)

pub further_justified : (old new : Option Told) (before after : RunProof) (u : Tree)
    → WritesStep old new before after u → JustifiesFurther old new before after
further_justified old new before after u (added, writes, steps) =
    Writes-becomes (FitsProof before) (FitsProof after) old new added writes steps.fits

-- ---- the front that is left after a fault

-- the text is a proof of a run of this program from this start
proves_for : (program : Program) (start : RulePat) (proof : RunProof) (text : List ℕ)
    → proof.program ≡ program → proof.start ≡ start → FitsProof proof text
    → IsProofOfRun text (theory_of program) (plain_pattern start) (reached proof)
proves_for program start proof text same starts fits =
    subst (λ (s : RulePat). IsProofOfRun text (theory_of program) (plain_pattern s) (reached proof))
    starts
    (subst (λ (p : Program). IsProofOfRun text (theory_of p) (plain_pattern proof.start)
    (reached proof)) same fits.proves)

-- nothing was written
pub none_begun : (told : Option Told) (theory : RewriteTheory) (start end : Pattern)
    → TellsCreated true told → WritesFrontOfProof told told theory start end
none_begun told theory start end h = ([], Writes-nil told h, inl refl)

-- the front of a proof that reaches the value of its start
begun_front : (program : Program) (start : RulePat) (value : Option Tree) (proof : RunProof)
    (text front rest : List ℕ) → text ≡ front ++ rest → Begins program start value proof text
    → IsFrontOfProof (theory_of program) (plain_pattern start)
    (configuration (plain_pattern start) value) front
begun_front program start value proof text front rest is begins =
    let proves : IsProofOfRun text (theory_of program) (plain_pattern start) (reached proof) =
    proves_for program start proof text begins.same_program begins.starts begins.fits in
    let ends : reached proof ≡ configuration (plain_pattern start) value =
    ap (λ (s : RulePat). configuration (plain_pattern s) proof.made) begins.starts
    ∙ ap (configuration (plain_pattern start)) begins.made in (
      rest,
      subst (λ (l : List ℕ). IsProofOfRun l (theory_of program) (plain_pattern start)
          (configuration (plain_pattern start) value)) is
          (subst (IsProofOfRun text (theory_of program) (plain_pattern start)) ends proves),
    )

pub front_begun : (old new : Option Told) (program : Program) (start : RulePat)
    (value : Option Tree) (proof : RunProof) (text : List ℕ) → WritesFront old new text
    → Begins program start value proof text
    → WritesFrontOfProof old new (theory_of program) (plain_pattern start)
    (configuration (plain_pattern start) value)
front_begun None new program start value proof text front begins = ([], tt, inl refl)
front_begun (Some old) new program start value proof text (front, rest, is, writes) begins =
    (front, writes, inr (begun_front program start value proof text front rest is begins))

-- a text that fits the proof is a front of itself
front_of_itself : (proof : RunProof) (text : List ℕ) → FitsProof proof text
    → IsFrontOfProof (theory_of proof.program) (plain_pattern proof.start) (reached proof)
    (text ++ [])
front_of_itself proof text fits =
    let whole : text ≡ (text ++ []) ++ [] =
    sym (append-nil (text ++ []) ∙ append-nil text) in (
      [],
      subst (λ (l : List ℕ). IsProofOfRun l (theory_of proof.program) (plain_pattern proof.start)
          (reached proof)) whole fits.proves,
    )

-- nothing was added to it
pub none_added : (told : Option Told) (proof : RunProof) (ends : Pattern → Type 0)
    → ends (reached proof) → TellsCreated true told → WritesFrontAfter told told proof ends
none_added told proof ends here h =
    ([], Writes-nil told h, λ text fits. (reached proof, here, front_of_itself proof text fits))

pub front_added : (old new : Option Told) (before after : RunProof) (u : Tree) (added : List ℕ)
    → WritesFront old new added → StepsTo before after u added
    → WritesFrontAfter old new before (EndsStep before u)
front_added None new before after u added front steps =
    ([], tt, λ text fits. (reached before, inl refl, front_of_itself before text fits))
front_added (Some old) new before after u added (front, rest, is, writes) steps = (
  front,
  writes,
  λ text fits. (
    reached after,
    inr (ap (configuration (plain_pattern after.start)) steps.made),
    (
      rest,
      subst (λ (l : List ℕ). IsProofOfRun l (theory_of before.program)
          (plain_pattern before.start) (reached after))
          (ap (λ (l : List ℕ). text ++ l) is ∙ sym (append_assoc text front rest))
          (proves_for before.program before.start after (text ++ added) steps.same_program
          steps.same_start (steps.fits text fits)),
    ),
  ),
)
