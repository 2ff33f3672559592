-- A path is proved step by step.
use Rattle.std.proofs.Common.{◌≡◌, ◌≤◌, ◌<◌, ◌+◌, ℕ, true, List, [], ◌∷◌, ◌++◌, Option, Some, None}
use Rattle.std.proofs.Common.{inl, inr, refl, sym, ◌∙◌, ap, subst, add-one, drop, length, map}
use Rattle.std.proofs.Math.ListN.{drop_of_length-le, get_or}
use Rattle.std.proofs.Math.Seq.{drop-cons}
use Rattle.std.proofs.lemmas.List.{append-nil}
use Rattle.desk_io.specs.Told.{Told}
use Rattle.desk_io.specs.Changes.{TellsCreated, Closes, Writes}
use Rattle.desk_io.proofs.Told.{Writes-then}
use Rattle.term_core.specs.Terms.{Tree, height}
use Rattle.term_core.specs.Patterns.{Pattern, ground_pattern}
use Rattle.term_core.specs.RulePatterns.{plain_pattern}
use Rattle.term_core.specs.declared.rule_patterns.RulePat.{RulePat}
use Rattle.rule_core.specs.Evaluation.{most_height}
use Rattle.rule_core.specs.ProgramView.{theory_of}
use Rattle.rule_core.specs.Records.{StepRecord, result_of}
use Rattle.rule_core.specs.RecordView.{plain_step}
use Rattle.rule_core.specs.Theories.{RewriteTheory}
use Rattle.rule_core.specs.declared.records.StepRecord as code
use Rattle.rule_core.specs.declared.rules.Program.{Program}
use Rattle.hint_file.specs.declared.reading.HintPath.{HintPath}
use Rattle.mm_justify.specs.Justifying.{IsProofOfRun, IsFrontOfProof}
use Rattle.prove_step.specs.Steps.{IsStepFrom}
use Rattle.prove_run.specs.RunProof.{RunProof, configuration, reached}
use Rattle.prove_run.specs.Proving.{FitsProof, CanStep}
use Rattle.prove_run.specs.WrittenProofs.{WritesBeginning, WritesFrontAfter, WritesFrontOfProof}
use Rattle.prove_run.specs.WrittenProofs.{WritesStep, EndsStep}
use Rattle.run_proof.specs.ClosedProofs.{KeepsOthersNow}
use Rattle.run_proof.proofs.ClosedLaws.{puts_others, written_closed}
use Rattle.path_proof.specs.OpenPaths.{IsProvedTo, WritesFrontOfPath, WritesPath}
use Rattle.path_proof.specs.PathProofs.{PutsPathFront, PutsPathProof}
use Rattle.path_proof.specs.RecordedPaths.{CanProvePath, first_of, IsOnPath, last_of, steps_of}

-- ---- the configurations of a path

on_first : (t : Tree) (steps : List StepRecord) → IsOnPath t steps t
on_first t [] = refl
on_first t (step ∷ steps) = inl refl

on_last : (t : Tree) (steps : List StepRecord) → IsOnPath t steps (last_of t steps)
on_last t [] = refl
on_last t (step ∷ steps) = inr (on_last (result_of step.right) steps)

-- ---- the steps that are left

-- the next one is the first of them
pub next_step : (items seen : List code.StepRecord) (i : ℕ) (step : code.StepRecord)
    → seen ≡ items → step ≡ get_or seen i step → i < length seen
    → map plain_step (drop i items) ≡ plain_step step ∷ map plain_step (drop (i + 1) items)
next_step items seen i step all is less =
    let there : step ≡ get_or items i step =
    subst (λ (xs : List code.StepRecord). step ≡ get_or xs i step) all is in
    let within : i < length items =
    subst (λ (xs : List code.StepRecord). i < length xs) all less in
    ap (map plain_step)
    (drop-cons items i step within
    ∙ (ap (λ (k : ℕ). get_or items i step ∷ drop k items) (sym (add-one i))
    ∙ ap (λ (s : code.StepRecord). s ∷ drop (i + 1) items) (sym there)))

-- none is left
pub no_step_left : (items : List code.StepRecord) (i : ℕ) → length items ≤ i
    → map plain_step (drop i items) ≡ []
no_step_left items i all = ap (map plain_step) (drop_of_length-le items all)

-- ---- a step

-- the text is a proof from the path's start
proves_path : (program : Program) (path : HintPath) (proof : RunProof) (t : Tree) (text : List ℕ)
    → proof.program ≡ program → proof.start ≡ path.start → reached proof ≡ ground_pattern t
    → FitsProof proof text
    → IsProofOfRun text (theory_of program) (plain_pattern path.start) (ground_pattern t)
proves_path program path proof t text same starts at fits =
    subst (λ (s : RulePat). IsProofOfRun text (theory_of program) (plain_pattern s) (ground_pattern t))
    starts
    (subst (λ (p : Program). IsProofOfRun text (theory_of p) (plain_pattern proof.start)
    (ground_pattern t)) same
    (subst (IsProofOfRun text (theory_of proof.program) (plain_pattern proof.start)) at fits.proves))

pub proved_to_first : (old new : Option Told) (program : Program) (path : HintPath)
    (proof : RunProof) → CanProvePath program path
    → WritesBeginning old new program path.start (Some (first_of path)) proof
    → IsProvedTo old new program path proof (first_of path) (steps_of path)
proved_to_first old new program path proof can (text, writes, begins) = record {
  same_program = begins.same_program;
  starts = begins.starts;
  is_reached = ap (configuration (plain_pattern proof.start)) begins.made;
  sound = begins.sound;
  text = (text, writes, begins.fits);
  recorded = can.steps;
  same_last = refl;
  further = λ t on. on;
}

pub can_step : (old new : Option Told) (program : Program) (path : HintPath) (proof : RunProof)
    (here : Tree) (step : StepRecord) (left : List StepRecord)
    → IsProvedTo old new program path proof here (step ∷ left) → height here ≤ most_height
    → CanStep proof step
can_step old new program path proof here step left proved low =
    let by = proved.recorded.0 in record {
      term = here;
      at = proved.is_reached;
      follows =
          subst (λ (p : Program). IsStepFrom (theory_of p) here step) (sym proved.same_program)
          (record {
            rule = by.0;
            there = by.1;
            low = low;
            matches = by.2.matches;
            condition = by.2.condition;
            right = by.2.right;
          });
    }

pub proved_further : (old mid new : Option Told) (program : Program) (path : HintPath)
    (before after : RunProof) (here : Tree) (step : StepRecord) (left : List StepRecord)
    → IsProvedTo old mid program path before here (step ∷ left)
    → WritesStep mid new before after (result_of step.right)
    → IsProvedTo old new program path after (result_of step.right) left
proved_further old mid new program path before after here step left proved (added, writes, steps) =
    record {
      same_program = steps.same_program ∙ proved.same_program;
      starts = steps.same_start ∙ proved.starts;
      is_reached = ap (configuration (plain_pattern after.start)) steps.made;
      sound = steps.sound;
      text = (
        proved.text.0 ++ added,
        Writes-then old mid new proved.text.0 added proved.text.1 writes,
        steps.fits proved.text.0 proved.text.2,
      );
      recorded = proved.recorded.1;
      same_last = proved.same_last;
      further = λ t on. proved.further t (inr on);
    }

pub path_written : (old new : Option Told) (program : Program) (path : HintPath) (proof : RunProof)
    (here : Tree) → IsProvedTo old new program path proof here []
    → WritesPath old new (theory_of program) (plain_pattern path.start) (first_of path)
    (steps_of path)
path_written old new program path proof here proved = (
  proved.text.0,
  proved.text.1,
  subst (λ (t : Tree). IsProofOfRun proved.text.0 (theory_of program) (plain_pattern path.start)
      (ground_pattern t)) proved.same_last
      (proves_path program path proof here proved.text.0 proved.same_program proved.starts
      proved.is_reached proved.text.2),
)

-- ---- the front that is left after an error

pub front_of_first : (old new : Option Told) (theory : RewriteTheory) (path : HintPath)
    → WritesFrontOfProof old new theory (plain_pattern path.start) (ground_pattern (first_of path))
    → WritesFrontOfPath old new theory (plain_pattern path.start) (first_of path) (steps_of path)
front_of_first old new theory path (bytes, writes, inl none) = (bytes, writes, inl none)
front_of_first old new theory path (bytes, writes, inr front) =
    (bytes, writes, inr (first_of path, on_first (first_of path) (steps_of path), front))

-- where the proof ends is a configuration of the path
end_on_path : (old new : Option Told) (program : Program) (path : HintPath) (proof : RunProof)
    (here : Tree) (step : StepRecord) (left : List StepRecord) (end : Pattern)
    → IsProvedTo old new program path proof here (step ∷ left)
    → EndsStep proof (result_of step.right) end
    → (t : Tree) × IsOnPath (first_of path) (steps_of path) t × (end ≡ ground_pattern t)
end_on_path old new program path proof here step left end proved (inl is) =
    (here, proved.further here (inl refl), is ∙ proved.is_reached)
end_on_path old new program path proof here step left end proved (inr is) = (
  result_of step.right,
  proved.further (result_of step.right) (inr (on_first (result_of step.right) left)),
  is,
)

pub front_of_step : (old mid new : Option Told) (program : Program) (path : HintPath)
    (proof : RunProof) (here : Tree) (step : StepRecord) (left : List StepRecord)
    → IsProvedTo old mid program path proof here (step ∷ left)
    → WritesFrontAfter mid new proof (EndsStep proof (result_of step.right))
    → WritesFrontOfPath old new (theory_of program) (plain_pattern path.start) (first_of path)
    (steps_of path)
front_of_step old mid new program path proof here step left proved (added, writes, fronts) =
    let front = fronts proved.text.0 proved.text.2 in
    let end = end_on_path old mid program path proof here step left front.0 proved front.1 in
    let bytes = proved.text.0 ++ added in (
      bytes,
      Writes-then old mid new proved.text.0 added proved.text.1 writes,
      inr (
        end.0,
        end.1,
        subst (λ (s : RulePat). IsFrontOfProof (theory_of program) (plain_pattern s)
            (ground_pattern end.0) bytes) proved.starts
            (subst (λ (p : Program). IsFrontOfProof (theory_of p) (plain_pattern proof.start)
            (ground_pattern end.0) bytes) proved.same_program
            (subst (λ (q : Pattern). IsFrontOfProof (theory_of proof.program)
            (plain_pattern proof.start) q bytes) end.2 front.2)),
      ),
    )

-- ---- the closed file

pub path_closed : (old mid new : Option Told) (theory : RewriteTheory) (start : Pattern)
    (first : Tree) (steps : List StepRecord) → WritesPath old mid theory start first steps
    → Closes mid new → PutsPathProof old new theory start first steps
path_closed old mid new theory start first steps h closes =
    (h.0, written_closed old mid new h.0 h.1 closes, h.2)

pub path_front_closed : (old mid new : Option Told) (theory : RewriteTheory) (start : Pattern)
    (first : Tree) (steps : List StepRecord) → WritesFrontOfPath old mid theory start first steps
    → Closes mid new → PutsPathFront old new theory start first steps
path_front_closed old mid new theory start first steps h closes =
    (h.0, written_closed old mid new h.0 h.1 closes, h.2)

-- a proof that was written whole is the front of one
pub path_front : (old new : Option Told) (theory : RewriteTheory) (start : Pattern) (first : Tree)
    (steps : List StepRecord) → WritesPath old new theory start first steps
    → WritesFrontOfPath old new theory start first steps
path_front old new theory start first steps (text, writes, proves) = (
  text,
  writes,
  inr (
    last_of first steps,
    on_last first steps,
    (
      [],
      subst (λ (l : List ℕ). IsProofOfRun l theory start (ground_pattern (last_of first steps)))
          (sym (append-nil text)) proves,
    ),
  ),
)

-- the other files are kept
pub others_kept : (old mid new : Option Told) (bytes : List ℕ) → Writes old mid bytes
    → Closes mid new → TellsCreated true old → KeepsOthersNow old new
others_kept None mid new bytes writes closes told = tt
others_kept (Some old) mid new bytes writes closes told =
    puts_others (Some old) new told.0 bytes told (written_closed (Some old) mid new bytes writes closes)
