-- Steps of a proof one after another.
use Rattle.std.specs.Prelude.{ℕ, if◌then◌else◌, List, [], ◌∷◌, map, Option, Some, None}
use Rattle.std.specs.Global.{Vec}
use Rattle.std.specs.Cmp.Lexicographic.{pointwise}
use Rattle.mm_database.specs.Frames.{statement_of}
use Rattle.mm_database.specs.Steps.{cites, saves, repeats}
use Rattle.mm_database.specs.Steps as steps
use Rattle.mm_database.specs.Stack.{Saving, saving, saving_after_step, saving_after}
use Rattle.mm_frame.specs.PlainFrames.{plain_hypothesis}
use Rattle.mm_frame.specs.NumberedSteps.{NumberedPlace, same_numbers, gives, applies}
use Rattle.mm_frame.specs.NumberedSteps.{stack_after_citation}
use Rattle.mm_frame.specs.NumberedSteps as numbered
use Rattle.mm_verify.specs.declared.machine.Machine.{Machine}
use Rattle.mm_verify.specs.declared.machine.Citation.{Citation}
use Rattle.mm_verify.specs.declared.machine.Citation.TheVariants as citation
use Rattle.mm_verify.specs.declared.machine.Step.{Step}
use Rattle.mm_verify.specs.declared.machine.Step.TheVariants as step
use Rattle.mm_verify.specs.declared.machine.ProofFault.{ProofFault}
use Rattle.mm_verify.specs.declared.machine.ProofFault.TheVariants as fault
use Rattle.mm_verify.specs.StoredView.{stored_frame}

abbrev pub citation_of : Citation → numbered.Citation
citation_of (citation.Gives hyp) = gives (statement_of (plain_hypothesis hyp.now))
citation_of (citation.Applies assertion) = applies (stored_frame assertion.now)

abbrev pub step_of : Step → steps.Step numbered.Citation
step_of (step.Cites x) = cites (citation_of x)
step_of step.Saves = saves
step_of (step.Repeats number) = repeats number

abbrev pub steps_in : Vec Step → List (steps.Step numbered.Citation)
steps_in v = map step_of v.items

abbrev pub saving_of : Machine → Saving (List ℕ)
saving_of m = m.entries

-- what a step leaves, if it fits
abbrev pub numbered_step : NumberedPlace → steps.Step numbered.Citation → Saving (List ℕ)
    → Option (Saving (List ℕ))
numbered_step p s w = saving_after_step (stack_after_citation p) s w

-- what some steps leave, if each fits
abbrev pub numbered_steps : NumberedPlace → List (steps.Step numbered.Citation) → Saving (List ℕ)
    → Option (Saving (List ℕ))
numbered_steps p ss w = saving_after (stack_after_citation p) ss w

-- the fault of what is left: only the conclusion may be left on the stack
abbrev pub left_fault : List ℕ → Option (Saving (List ℕ)) → Option ProofFault
left_fault conclusion None = Some fault.Step
left_fault conclusion (Some w) = if pointwise same_numbers w.stack (conclusion ∷ []) then None
    else Some fault.Conclusion

abbrev pub steps_fault : NumberedPlace → List (steps.Step numbered.Citation) → List ℕ
    → Option ProofFault
steps_fault p ss conclusion = left_fault conclusion (numbered_steps p ss (saving [] []))
