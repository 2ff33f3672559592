-- The fault of a statement, or what it declares, from what scopes hold. Only clauses of private
-- functions cite these definitions. Laws say that the fault is that of the definitions of validity.
use Rattle.std.specs.Prelude.{◌≡◌, ℕ, Bool, true, false, not, ◌||◌, if◌then◌else◌, List, [], ◌∷◌}
use Rattle.std.specs.Prelude.{Option, Some, None, is_some, Result, Ok, Err}
use Rattle.std.specs.List.{list_any, list_all}
use Rattle.mm_text.specs.Bytes.{Token, has_repeated}
use Rattle.mm_text.specs.FaultKinds.{inner_constant, redeclared, not_active, bad_typecode}
use Rattle.mm_text.specs.FaultKinds.{second_float, bad_disjoint, bad_label}
use Rattle.mm_database.specs.Forms.{is_nil}
use Rattle.mm_frame.specs.Numbered.{NumberedHypothesis}
use Rattle.mm_database.specs.Validity.{has_two}
use Rattle.mm_scope.specs.ScopeState.{ScopeState}
use Rattle.mm_scope.specs.StateTests.{is_typed_in, number_in, is_active_in, numbers_in, constant_in}
use Rattle.mm_scope.specs.StateTests.{label_in, redeclares_constant, redeclares_variable}
use Rattle.mm_scope.specs.declared.scopes.OpenBlock.{OpenBlock}
use Rattle.mm_scope.specs.declared.scopes.Need.TheVariants as need
use Rattle.mm_scope.specs.declared.judge.Refusal.{Refusal}
use Rattle.mm_scope.specs.declared.judge.Refusal.TheVariants.{Fault, Memory}
use Rattle.mm_scope.specs.declared.judge.Stated.{Stated}
use Rattle.mm_database.specs.Frames.{floating}
use Rattle.mm_scope.specs.StateFrames.{Statement}

-- the judgment is the expected one, unless memory ran out
abbrev pub Judges : {X Y : Type 0} → (X → Y) → Result X Refusal → Result Y ℕ → Type 0
Judges view (Ok x) expected = expected ≡ Ok (view x)
Judges view (Err (Fault kind)) expected = expected ≡ Err kind
Judges view (Err Memory) expected = Unit {0}

abbrev pub plain_stated : Stated → Statement
plain_stated s = record { label = s.label.now; symbols = s.statement.items }

abbrev pub statement_under : List ℕ → Option Token → Result Statement ℕ
statement_under symbols None = Err bad_label
statement_under symbols (Some label) = Ok (record { label = label; symbols = symbols })

abbrev pub floating_under : ℕ → ℕ → Option Token → Result NumberedHypothesis ℕ
floating_under typecode variable None = Err bad_label
floating_under typecode variable (Some label) = Ok (floating label typecode variable)

abbrev pub floating_of_numbers : ScopeState → List Token → Option ℕ → Option ℕ
    → Result NumberedHypothesis ℕ
floating_of_numbers h labels None variable = Err bad_typecode
floating_of_numbers h labels (Some typecode) None = Err bad_typecode
floating_of_numbers h labels (Some typecode) (Some variable) =
    if is_typed_in h variable then Err second_float
    else floating_under typecode variable (label_in h labels)

abbrev pub floating_of_symbols : ScopeState → List Token → List Token → Result NumberedHypothesis ℕ
floating_of_symbols h labels [] = Err bad_typecode
floating_of_symbols h labels (typecode ∷ []) = Err bad_typecode
floating_of_symbols h labels (typecode ∷ (variable ∷ [])) =
    floating_of_numbers h labels (constant_in h typecode) (number_in h need.Variable variable)
floating_of_symbols h labels (typecode ∷ (variable ∷ (other ∷ symbols))) = Err bad_typecode

-- the hypothesis of a `$f`
abbrev pub floating_in : ScopeState → List Token → List Token → Result NumberedHypothesis ℕ
floating_in h labels symbols =
    if list_all (is_active_in h) symbols then floating_of_symbols h labels symbols
    else Err not_active

abbrev pub begins_constant : ScopeState → List Token → Bool
begins_constant h [] = false
begins_constant h (symbol ∷ symbols) = is_some (constant_in h symbol)

abbrev pub stated_numbers : ScopeState → List Token → List Token → Option (List ℕ)
    → Result Statement ℕ
stated_numbers h labels symbols None = Err not_active
stated_numbers h labels symbols (Some numbers) =
    if begins_constant h symbols then statement_under numbers (label_in h labels)
    else Err bad_typecode

-- what an `$e`, `$a` or `$p` states
abbrev pub stated_in : ScopeState → List Token → List Token → Result Statement ℕ
stated_in h labels symbols = stated_numbers h labels symbols (numbers_in h need.Typed symbols)

abbrev pub unlabelled : List Token → Option ℕ
unlabelled labels = if is_nil labels then None else Some bad_label

abbrev pub separated_numbers : List Token → List Token → Option (List ℕ) → Result (List ℕ) ℕ
separated_numbers labels symbols None = Err not_active
separated_numbers labels symbols (Some numbers) =
    if not (has_two symbols) || has_repeated symbols then Err bad_disjoint else
    if is_nil labels then Ok numbers else Err bad_label

-- the variables of a `$d`
abbrev pub disjoint_in : ScopeState → List Token → List Token → Result (List ℕ) ℕ
disjoint_in h labels symbols = separated_numbers labels symbols (numbers_in h need.Variable symbols)

abbrev pub is_open_in : List OpenBlock → Bool
is_open_in [] = false
is_open_in (block ∷ blocks) = true

abbrev pub constants_fault : ScopeState → List Token → List Token → Option ℕ
constants_fault h labels symbols =
    if is_open_in h.blocks then Some inner_constant else
    if list_any (redeclares_constant h) symbols || has_repeated symbols then Some redeclared
    else unlabelled labels

abbrev pub variables_fault : ScopeState → List Token → List Token → Option ℕ
variables_fault h labels symbols =
    if list_any (redeclares_variable h) symbols || has_repeated symbols then Some redeclared
    else unlabelled labels
