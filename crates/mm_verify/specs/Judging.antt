-- The fault of a proof, over numbers.
use Rattle.std.specs.Prelude.{ℕ, List, Option, Some, None}
use Rattle.mm_text.specs.FaultKinds.{bad_proof_text, bad_step, bad_conclusion}
use Rattle.mm_frame.specs.NumberedSteps.{NumberedPlace, Citation}
use Rattle.mm_database.specs.Steps.{Step}
use Rattle.mm_verify.specs.declared.machine.ProofFault.{ProofFault}
use Rattle.mm_verify.specs.declared.machine.ProofFault.TheVariants as fault
use Rattle.mm_verify.specs.Running.{steps_fault}

abbrev pub kind_of : Option ProofFault → Option ℕ
kind_of None = None
kind_of (Some fault.Step) = Some bad_step
kind_of (Some fault.Conclusion) = Some bad_conclusion

-- the fault kind of the steps that a proof's text names, or of a text that names none
abbrev pub proof_kind : NumberedPlace → List ℕ → Option (List (Step Citation)) → Option ℕ
proof_kind p conclusion None = Some bad_proof_text
proof_kind p conclusion (Some steps) = kind_of (steps_fault p steps conclusion)
