-- Tests of tokens, from what scopes hold.
use Rattle.std.specs.Prelude.{ℕ, Bool, true, false, not, ◌&&◌, ◌||◌, nat_eq, length, if◌then◌else◌}
use Rattle.std.specs.Prelude.{List, [], ◌∷◌, ◌++◌, slice_index, slice_get, Option, Some, None}
use Rattle.std.specs.Prelude.{is_some, is_none}
use Rattle.mm_text.specs.Bytes.{Token}
use Rattle.mm_text.specs.Labels.{is_label}
use Rattle.mm_frame.specs.Numbered.{NumberedHypothesis}
use Rattle.mm_frame.specs.PlainFrames.{types_number, has_number}
use Rattle.mm_frame.specs.Listed.{group_places}
use Rattle.mm_scope.specs.ScopeState.{ScopeState}
use Rattle.mm_frame.specs.declared.names.Name.{Name}
use Rattle.mm_frame.specs.declared.names.Name.TheVariants.{Constant, Variable, Hypothesis}
use Rattle.mm_frame.specs.declared.names.Name.TheVariants.{Assertion}
use Rattle.mm_scope.specs.declared.scopes.Need.{Need}
use Rattle.mm_scope.specs.declared.scopes.Need.TheVariants as need
use Rattle.mm_scope.specs.declared.scopes.OpenBlock.{OpenBlock}

abbrev pub is_number : ℕ → Option ℕ → Bool
is_number n None = false
is_number n (Some m) = nat_eq m n

-- the variable is active: it is at its place among the active variables
abbrev pub is_active_number : ScopeState → ℕ → Bool
is_active_number h n = is_number n (slice_get h.variables (slice_index h.places n))

abbrev pub types_in : ℕ → Option NumberedHypothesis → Bool
types_in n None = false
types_in n (Some hypothesis) = types_number n hypothesis

-- the variable has an active `$f`: this is at its place among the active hypotheses
abbrev pub is_typed_in : ScopeState → ℕ → Bool
is_typed_in h n = types_in n (slice_get h.hypotheses (slice_index h.types n))

abbrev pub number_if : Bool → ℕ → Option ℕ
number_if test n = if test then Some n else None

abbrev pub variable_if : ScopeState → Need → ℕ → Option ℕ
variable_if h need.Active n = number_if (is_active_number h n) n
variable_if h need.Variable n = number_if (is_active_number h n) n
variable_if h need.Typed n = number_if (is_active_number h n && is_typed_in h n) n

abbrev pub constant_if : Need → ℕ → Option ℕ
constant_if need.Active n = Some n
constant_if need.Variable n = None
constant_if need.Typed n = Some n

abbrev pub name_number : ScopeState → Need → Option Name → Option ℕ
name_number h need None = None
name_number h need (Some (Constant n)) = constant_if need n
name_number h need (Some (Variable n)) = variable_if h need n
name_number h need (Some (Hypothesis i)) = None
name_number h need (Some (Assertion i)) = None

-- the number of a symbol, if it is what is needed
abbrev pub number_in : ScopeState → Need → Token → Option ℕ
number_in h need token = name_number h need (h.names token)

abbrev pub is_in : ScopeState → Need → Token → Bool
is_in h need token = is_some (number_in h need token)

-- a constant or an active variable
abbrev pub is_active_in : ScopeState → Token → Bool
is_active_in h token = is_in h need.Active token

abbrev pub with_number : Option ℕ → Option (List ℕ) → Option (List ℕ)
with_number None numbers = None
with_number (Some n) None = None
with_number (Some n) (Some numbers) = Some (n ∷ numbers)

-- the numbers of symbols, if each is what is needed
abbrev pub numbers_in : ScopeState → Need → List Token → Option (List ℕ)
numbers_in h need [] = Some []
numbers_in h need (token ∷ tokens) = with_number (number_in h need token) (numbers_in h need tokens)

abbrev pub constant_named : Option Name → Option ℕ
constant_named None = None
constant_named (Some (Constant n)) = Some n
constant_named (Some (Variable n)) = None
constant_named (Some (Hypothesis i)) = None
constant_named (Some (Assertion i)) = None

-- the number of a constant
abbrev pub constant_in : ScopeState → Token → Option ℕ
constant_in h token = constant_named (h.names token)

-- the only label, if it is spelled as a label and names nothing yet
abbrev pub label_in : ScopeState → List Token → Option Token
label_in h [] = None
label_in h (label ∷ []) = if is_label label && is_none (h.names label) then Some label else None
label_in h (label ∷ (other ∷ labels)) = None

abbrev pub redeclares_constant : ScopeState → Token → Bool
redeclares_constant h token = is_some (h.names token)

abbrev pub names_active : ScopeState → Option Name → Bool
names_active h None = false
names_active h (Some (Constant n)) = true
names_active h (Some (Variable n)) = is_active_number h n
names_active h (Some (Hypothesis i)) = true
names_active h (Some (Assertion i)) = true

-- the token names something other than an inactive variable
abbrev pub redeclares_variable : ScopeState → Token → Bool
redeclares_variable h token = names_active h (h.names token)

-- numbers in front of others
abbrev pub ahead : List ℕ → Option (List ℕ) → Option (List ℕ)
ahead front None = None
ahead front (Some numbers) = Some (front ++ numbers)

abbrev pub first_block : List OpenBlock → Option ℕ
first_block [] = None
first_block (block ∷ blocks) = Some block.at

-- the variable is one of the symbols, or has no `$f` and is in no group
abbrev pub is_covered : ScopeState → List ℕ → ℕ → Bool
is_covered h symbols n = has_number symbols n
    || (not (is_typed_in h n) && nat_eq (length (group_places h.disjoint n)) 0)
