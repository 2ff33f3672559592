use Rattle.mm_text.specs.Statements.{statements_of}
use Rattle.mm_database.specs.Database.{empty_context}
use Rattle.mm_database.proofs.Faults.{HasNoFault-statement, fine_where_active, faultless_valid}
use Rattle.mm_database.proofs.Faults.{valid_faultless, IsFirstFaultIn-computed}
use Rattle.mm_database.proofs.Faults.{computed-IsFirstFaultIn}
use Rattle.mm_database.proofs.Building.{labels_are_postorder}
use Rattle.mm_database.proofs.TypedOnce.{empty_is_orderly, orderly_after}
use Rattle.mm_database.proofs.Stacks.{stack_after-complete, stack_after-sound}
use Rattle.mm_database.proofs.laws.proof_laws.Goals as goal

pub returns-clause-stacks : goal.returns-clause-stacks
returns-clause-stacks a c steps results =
    (stack_after-sound c steps results, stack_after-complete c steps results)

pub returns-clause-valid : goal.returns-clause-valid
returns-clause-valid a bytes = (valid_faultless bytes, faultless_valid bytes)

pub returns-clause-first_fault : goal.returns-clause-first_fault
returns-clause-first_fault a bytes f = (
  computed-IsFirstFaultIn empty_context (statements_of bytes) f,
  IsFirstFaultIn-computed empty_context (statements_of bytes) f,
)

pub returns-clause-labels : goal.returns-clause-labels
returns-clause-labels a = labels_are_postorder

pub returns-clause-active : goal.returns-clause-active
returns-clause-active a = fine_where_active

pub returns-clause-empty : goal.returns-clause-empty
returns-clause-empty a = empty_is_orderly

pub returns-clause-orderly : goal.returns-clause-orderly
returns-clause-orderly a = orderly_after

pub returns-clause-fine : goal.returns-clause-fine
returns-clause-fine a = HasNoFault-statement
