-- The first fault of a Metamath text, computed with a stack.
use Rattle.std.specs.Prelude.{ℕ, if◌then◌else◌, List, [], ◌∷◌, Option, Some, None, option_map}
use Rattle.mm_text.specs.Bytes.{Token}
use Rattle.mm_text.specs.FaultKinds.{bad_keyword, bad_scope, bad_step, bad_conclusion, fault}
use Rattle.mm_text.specs.Statements.{Statements, no_statement, unended, bad_statement}
use Rattle.mm_text.specs.Statements.{next_statement, statements_of}
use Rattle.mm_text.specs.declared.fault.MmFault.{MmFault}
use Rattle.mm_database.specs.Forms.{form_of}
use Rattle.mm_database.specs.Database.{Context, empty_context, context_after}
use Rattle.mm_database.specs.Proofs.{Expression}
use Rattle.mm_database.specs.Stack.{same_expressions, stack_after}
use Rattle.mm_database.specs.Validity.{Task, task, form_fault, or_else, first_open}

abbrev pub stack_fault : Expression → Option (List Expression) → Option ℕ
stack_fault conclusion None = Some bad_step
stack_fault conclusion (Some stack) =
    if same_expressions stack (conclusion ∷ []) then None else Some bad_conclusion

abbrev pub task_fault : Context → Option Task → Option ℕ
task_fault c None = None
task_fault c (Some t) = stack_fault t.conclusion (stack_after c t.steps)

abbrev pub statement_fault : Context → List Token → Option ℕ
statement_fault c tokens =
    or_else (form_fault c (form_of tokens)) (task_fault c (task c (form_of tokens)))

abbrev pub fault_or : Option ℕ → ℕ → Option MmFault → Option MmFault
fault_or None at other = other
fault_or (Some kind) at other = Some (fault kind at)

abbrev pub first_fault_in : Context → Statements → Option MmFault
first_fault_in c no_statement = option_map (fault bad_scope) (first_open c.blocks)
first_fault_in c (unended at) = Some (fault bad_keyword at)
first_fault_in c (bad_statement f) = Some f
first_fault_in c (next_statement s statements) =
    fault_or (statement_fault c s.tokens) s.at (first_fault_in (context_after c s) statements)

abbrev pub first_fault : List ℕ → Option MmFault
first_fault bytes = first_fault_in empty_context (statements_of bytes)
