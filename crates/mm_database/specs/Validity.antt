-- The first fault of a Metamath text; a text without one is valid (Metamath book, "The Complete
-- Language Specification"). Faults are reported by statement, and within a statement by kind. A
-- block that is not closed is reported only if there is no other fault.
use Rattle.std.specs.Prelude.{◌≡◌, ℕ, Bool, true, false, not, ◌&&◌, ◌||◌, ◌⊎◌, if◌then◌else◌, List}
use Rattle.std.specs.Prelude.{[], ◌∷◌, Option, Some, None, IfSome, is_none, option_map}
use Rattle.std.specs.List.{list_any, list_all}
use Rattle.mm_text.specs.Bytes.{Token, has_repeated}
use Rattle.mm_text.specs.Labels.{is_label}
use Rattle.mm_text.specs.FaultKinds.{bad_keyword, inner_constant, redeclared, not_active}
use Rattle.mm_text.specs.FaultKinds.{bad_typecode, second_float, bad_disjoint, bad_scope, bad_label}
use Rattle.mm_text.specs.FaultKinds.{bad_proof_text, bad_step, bad_conclusion, fault}
use Rattle.mm_text.specs.Statements.{Statements, no_statement, unended, bad_statement}
use Rattle.mm_text.specs.Statements.{next_statement, statements_of}
use Rattle.mm_text.specs.declared.fault.MmFault.{MmFault}
use Rattle.mm_database.specs.Forms.{Keyword, declares_constants, declares_variables, types_variable}
use Rattle.mm_database.specs.Forms.{separates, proves, Form, block_start, block_end, plain, form_of}
use Rattle.mm_database.specs.Forms.{is_nil}
use Rattle.mm_database.specs.Frames.{types, Frame, frame_of}
use Rattle.mm_database.specs.Database.{Block, Context, empty_context, context_after, first_label}
use Rattle.mm_database.specs.Proofs.{Expression}
use Rattle.mm_database.specs.Steps.{Step, BuildsAndProves}
use Rattle.mm_database.specs.ProofText.{proof_steps}

-- an active `$f` types the symbol
abbrev pub has_type : Context → Token → Bool
has_type c symbol = list_any (types symbol) c.scope.hypotheses

abbrev pub is_active : Context → Token → Bool
is_active c symbol = c.constants symbol || c.scope.variables symbol

-- a constant, or an active variable with a type
abbrev pub is_typed : Context → Token → Bool
is_typed c symbol = c.constants symbol || (c.scope.variables symbol && has_type c symbol)

abbrev pub is_open : List Block → Bool
is_open [] = false
is_open (block ∷ blocks) = true

-- a constant is declared in a block
abbrev pub is_inner_constant : Context → Keyword → Bool
is_inner_constant c declares_constants = is_open c.blocks
is_inner_constant c keyword = false

abbrev pub declares_again : Context → Keyword → List Token → Bool
declares_again c declares_constants symbols =
    list_any (λ t. c.constants t || (c.variables t || c.labels t)) symbols || has_repeated symbols
declares_again c declares_variables symbols =
    list_any (λ t. c.constants t || (c.scope.variables t || c.labels t)) symbols
    || has_repeated symbols
declares_again c keyword symbols = false

-- a symbol is not active, or is a variable without a type although it needs one
abbrev pub names_inactive : Context → Keyword → List Token → Bool
names_inactive c declares_constants symbols = false
names_inactive c declares_variables symbols = false
names_inactive c types_variable symbols = not (list_all (is_active c) symbols)
names_inactive c separates symbols = not (list_all c.scope.variables symbols)
names_inactive c keyword symbols = not (list_all (is_typed c) symbols)

abbrev pub begins_with_constant : Context → List Token → Bool
begins_with_constant c [] = false
begins_with_constant c (symbol ∷ symbols) = c.constants symbol

-- a constant and a variable
abbrev pub is_typing : Context → List Token → Bool
is_typing c [] = false
is_typing c (typecode ∷ []) = false
is_typing c (typecode ∷ (variable ∷ [])) = c.constants typecode && c.scope.variables variable
is_typing c (typecode ∷ (variable ∷ (other ∷ symbols))) = false

abbrev pub is_mistyped : Context → Keyword → List Token → Bool
is_mistyped c declares_constants symbols = false
is_mistyped c declares_variables symbols = false
is_mistyped c separates symbols = false
is_mistyped c types_variable symbols = not (is_typing c symbols)
is_mistyped c keyword symbols = not (begins_with_constant c symbols)

-- the variable of a `$f` already has a type
abbrev pub second_has_type : Context → List Token → Bool
second_has_type c [] = false
second_has_type c (typecode ∷ []) = false
second_has_type c (typecode ∷ (variable ∷ symbols)) = has_type c variable

abbrev pub types_again : Context → Keyword → List Token → Bool
types_again c types_variable symbols = second_has_type c symbols
types_again c keyword symbols = false

abbrev pub has_two : List Token → Bool
has_two [] = false
has_two (symbol ∷ []) = false
has_two (symbol ∷ (other ∷ symbols)) = true

abbrev pub is_bad_disjoint : Keyword → List Token → Bool
is_bad_disjoint separates symbols = not (has_two symbols) || has_repeated symbols
is_bad_disjoint keyword symbols = false

-- a well-spelled label that is neither the label of an earlier statement nor a symbol
abbrev pub is_new_label : Context → Token → Bool
is_new_label c label =
    is_label label && (not (c.labels label) && (not (c.constants label) && not (c.variables label)))

abbrev pub has_one_label : Context → List Token → Bool
has_one_label c [] = false
has_one_label c (label ∷ []) = is_new_label c label
has_one_label c (label ∷ (other ∷ labels)) = false

-- a declaration or a `$d` has a label, or another statement has not exactly one new label
abbrev pub is_mislabelled : Context → Keyword → List Token → Bool
is_mislabelled c declares_constants labels = not (is_nil labels)
is_mislabelled c declares_variables labels = not (is_nil labels)
is_mislabelled c separates labels = not (is_nil labels)
is_mislabelled c keyword labels = not (has_one_label c labels)

-- what a `$p` has to prove, and the steps of its proof, if its text means steps
pub record Task : Type 0 where
  pub conclusion : Expression
  pub steps : List (Step Token)

abbrev pub task_of : Context → Frame → List Token → Option Task
task_of c f proof =
    option_map (λ ss. record { conclusion = f.statement; steps = ss }) (proof_steps c f proof)

abbrev pub theorem_task : Context → List Token → List Token → List Token → Option Task
theorem_task c labels symbols proof =
    task_of c (frame_of c.scope (first_label labels) symbols) proof

abbrev pub task : Context → Option Form → Option Task
task c (Some (plain labels proves symbols proof)) = theorem_task c labels symbols proof
task c form = None

abbrev pub has_bad_proof_text : Context → List Token → Keyword → List Token → List Token → Bool
has_bad_proof_text c labels proves symbols proof = is_none (theorem_task c labels symbols proof)
has_bad_proof_text c labels keyword symbols proof = false

-- a kind of fault, and whether it is there
pub record Tested : Type 0 where
  pub kind : ℕ
  pub found : Bool

abbrev pub tested : ℕ → Bool → Tested
tested kind found = record { kind = kind; found = found }

abbrev pub first_found : List Tested → Option ℕ
first_found [] = None
first_found (t ∷ tests) = if t.found then Some t.kind else first_found tests

-- the smallest kind of fault of a statement, without the faults of its proof
abbrev pub declaration_fault : Context → Option Form → Option ℕ
declaration_fault c None = Some bad_keyword
declaration_fault c (Some block_start) = None
declaration_fault c (Some block_end) = if is_open c.blocks then None else Some bad_scope
declaration_fault c (Some (plain labels keyword symbols proof)) = first_found (
    tested inner_constant (is_inner_constant c keyword) ∷
    tested redeclared (declares_again c keyword symbols) ∷
    tested not_active (names_inactive c keyword symbols) ∷
    tested bad_typecode (is_mistyped c keyword symbols) ∷
    tested second_float (types_again c keyword symbols) ∷
    tested bad_disjoint (is_bad_disjoint keyword symbols) ∷
    tested bad_label (is_mislabelled c keyword labels) ∷ [])

abbrev pub proof_text_fault : Context → Option Form → Option ℕ
proof_text_fault c None = None
proof_text_fault c (Some block_start) = None
proof_text_fault c (Some block_end) = None
proof_text_fault c (Some (plain labels keyword symbols proof)) =
    if has_bad_proof_text c labels keyword symbols proof then Some bad_proof_text else None

abbrev pub or_else : Option ℕ → Option ℕ → Option ℕ
or_else None other = other
or_else (Some kind) other = Some kind

-- the smallest kind of fault of a statement, without the faults of the steps of its proof
abbrev pub form_fault : Context → Option Form → Option ℕ
form_fault c form = or_else (declaration_fault c form) (proof_text_fault c form)

-- the steps build one tree, which proves the conclusion
abbrev pub IsProved : Context → Task → Type 0
IsProved c t = BuildsAndProves c t.steps (t.conclusion ∷ [])

-- the steps build no forest that proves something
abbrev pub HasBadStep : Context → Task → Type 0
HasBadStep c t = (results : List Expression) → BuildsAndProves c t.steps results → ⊥

-- the steps build a forest that proves something, but not exactly the statement
pub record HasBadConclusion (c : Context) (t : Task) : Type 0 where
  pub results : List Expression
  pub forms : BuildsAndProves c t.steps results
  pub differs : results ≡ t.conclusion ∷ [] → ⊥

-- the first fault of a statement is of this kind; faults in bytes and comments are not counted
pub data IsFaulty (c : Context) (tokens : List Token) : ℕ → Type 0 where
  by_form : (kind : ℕ) → form_fault c (form_of tokens) ≡ Some kind → IsFaulty c tokens kind
  by_step : (t : Task) → form_fault c (form_of tokens) ≡ None → task c (form_of tokens) ≡ Some t
      → HasBadStep c t → IsFaulty c tokens bad_step
  by_conclusion : (t : Task) → form_fault c (form_of tokens) ≡ None
      → task c (form_of tokens) ≡ Some t → HasBadConclusion c t → IsFaulty c tokens bad_conclusion

-- the statement has no fault
pub record HasNoFault (c : Context) (tokens : List Token) : Type 0 where
  pub form : form_fault c (form_of tokens) ≡ None
  pub proof : IfSome (task c (form_of tokens)) (IsProved c)

-- the statements have no fault from the first context on, and the second context is the one after
-- them
abbrev pub HaveNoFault : Context → Statements → Context → Type 0
HaveNoFault c no_statement left = left ≡ c
HaveNoFault c (unended at) left = ⊥
HaveNoFault c (bad_statement f) left = ⊥
HaveNoFault c (next_statement s statements) left =
    HasNoFault c s.tokens × HaveNoFault (context_after c s) statements left

-- no statement of the text has a fault, and each block is closed
pub record IsValid (bytes : List ℕ) : Type 0 where
  pub left : Context
  pub fine : HaveNoFault empty_context (statements_of bytes) left
  pub closed : left.blocks ≡ []

-- the outermost block that is open
abbrev pub first_open : List Block → Option ℕ
first_open [] = None
first_open (block ∷ []) = Some block.at
first_open (block ∷ (outer ∷ blocks)) = first_open (outer ∷ blocks)

-- the first fault of statements, from a context on
abbrev pub IsFirstFaultIn : Context → Statements → MmFault → Type 0
IsFirstFaultIn c no_statement f =
    (at : ℕ) × (first_open c.blocks ≡ Some at) × (f ≡ fault bad_scope at)
IsFirstFaultIn c (unended at) f = f ≡ fault bad_keyword at
IsFirstFaultIn c (bad_statement g) f = f ≡ g
IsFirstFaultIn c (next_statement s statements) f =
    ((kind : ℕ) × IsFaulty c s.tokens kind × (f ≡ fault kind s.at))
    ⊎ (HasNoFault c s.tokens × IsFirstFaultIn (context_after c s) statements f)

abbrev pub IsFirstFault : List ℕ → MmFault → Type 0
IsFirstFault bytes f = IsFirstFaultIn empty_context (statements_of bytes) f
