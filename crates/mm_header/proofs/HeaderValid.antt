-- The header is valid, by computation.
use Rattle.std.proofs.Common.{◌≡◌, ℕ, refl, subst, false, true}
use Rattle.std.specs.Prelude.{Option, Some, None}
use Rattle.mm_text.specs.Statements.{Statements, no_statement, unended, bad_statement}
use Rattle.mm_text.specs.Statements.{next_statement, statements_of}
use Rattle.mm_database.specs.Database.{Context, empty_context, context_after}
use Rattle.mm_database.specs.Validity.{HaveNoFault, IsValid}
use Rattle.mm_database.proofs.Faults.{faultless_valid, HasNoFault-statement}
use Rattle.mm_header.specs.Header.{header_rows}
use Rattle.mm_header.specs.HeaderText.{header_bytes}
use Rattle.mm_header.specs.HeaderContext.{header_context, header_labels}
use Rattle.mm_text.specs.Bytes.{has_repeated}
use Rattle.mm_text.specs.Written.{ends_white}
use Rattle.mm_database.specs.ComputedFault.{statement_fault, fault_or, first_fault, first_fault_in}

header_faultless : first_fault header_bytes ≡ None
unfolding header_bytes header_rows
header_faultless = refl

pub header_valid : IsValid header_bytes
header_valid = faultless_valid header_bytes header_faultless

-- the context after statements
context_past : Context → Statements → Context
context_past c no_statement = c
context_past c (unended at) = c
context_past c (bad_statement f) = c
context_past c (next_statement s statements) = context_past (context_after c s) statements

HaveNoFault-past : (c : Context) (statements : Statements) → first_fault_in c statements ≡ None
    → HaveNoFault c statements (context_past c statements)
unfolding context_past
HaveNoFault-past c no_statement none = refl
HaveNoFault-past c (unended at) none = absurd (cc)
HaveNoFault-past c (bad_statement f) none = absurd (cc)
HaveNoFault-past c (next_statement s statements) none =
    go (statement_fault c s.tokens) refl none (HaveNoFault-past (context_after c s) statements)
  where
    go : (kind : Option ℕ) → statement_fault c s.tokens ≡ kind
        → fault_or kind s.at (first_fault_in (context_after c s) statements) ≡ None
        → (first_fault_in (context_after c s) statements ≡ None
        → HaveNoFault (context_after c s) statements
        (context_past (context_after c s) statements))
        → HaveNoFault c (next_statement s statements) (context_past c (next_statement s statements))
    go None here h behind = (HasNoFault-statement c s.tokens here, behind h)
    go (Some kind) here h behind = absurd (cc)

header_past : context_past empty_context (statements_of header_bytes) ≡ header_context
unfolding context_past header_bytes header_rows header_context header_labels
header_past = refl

pub header_fine : HaveNoFault empty_context (statements_of header_bytes) header_context
header_fine =
    subst (λ (c : Context). HaveNoFault empty_context (statements_of header_bytes) c) header_past
    (HaveNoFault-past empty_context (statements_of header_bytes) header_faultless)

pub labels_differ : has_repeated header_labels ≡ false
unfolding header_labels header_rows
labels_differ = refl

pub header_ends : ends_white header_bytes ≡ true
unfolding header_bytes header_rows
header_ends = refl
