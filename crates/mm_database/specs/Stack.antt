-- A proof computed on a stack, whose top is the last of the list.
use Rattle.std.specs.Prelude.{ℕ, ◌-◌, Bool, ◌&&◌, nat_le, if◌then◌else◌, List, [], ◌∷◌, ◌++◌, map}
use Rattle.std.specs.Prelude.{length, take, drop, Option, Some, None, option_map, option_and_then}
use Rattle.std.specs.Prelude.{slice_get, bytes_eq}
use Rattle.std.specs.Cmp.Lexicographic.{pointwise}
use Rattle.mm_text.specs.Bytes.{Token}
use Rattle.mm_database.specs.Frames.{HypothesisOver, Hypothesis, floating, essential, statement_of}
use Rattle.mm_database.specs.Frames.{Frame}
use Rattle.mm_database.specs.Database.{Context}
use Rattle.mm_database.specs.Proofs.{Expression, substituted, instance_of, symbols_apart}
use Rattle.mm_database.specs.Proofs.{keeps_apart, active_hypothesis}
use Rattle.mm_database.specs.Steps.{Step, cites, saves, repeats}

abbrev pub same_expression : Expression → Expression → Bool
same_expression = pointwise bytes_eq

abbrev pub same_expressions : List Expression → List Expression → Bool
same_expressions = pointwise same_expression

-- a variable and the text that is substituted for it
pub record Binding (A : Type 0) : Type 0 where
  pub variable : A
  pub text : List A

abbrev pub behind_first : {A : Type 0} → List A → List A
behind_first [] = []
behind_first (symbol ∷ symbols) = symbols

-- the bindings that entries of the stack give for the variables of hypotheses
abbrev pub bindings_of : {A : Type 0} → List (HypothesisOver A) → List (List A) → List (Binding A)
bindings_of [] entries = []
bindings_of (h ∷ hypotheses) [] = []
bindings_of (floating label typecode variable ∷ hypotheses) (entry ∷ entries) =
    record { variable = variable; text = behind_first entry } ∷ bindings_of hypotheses entries
bindings_of (essential label statement ∷ hypotheses) (entry ∷ entries) =
    bindings_of hypotheses entries

-- the text of a symbol, by a test whether two symbols are the same; a symbol that is not bound is
-- its own text
abbrev pub text_in : {A : Type 0} → (A → A → Bool) → List (Binding A) → A → List A
text_in same [] symbol = symbol ∷ []
text_in same (b ∷ bindings) symbol =
    if same b.variable symbol then b.text else text_in same bindings symbol

abbrev pub text_of : List (Binding Token) → Token → Expression
text_of bindings symbol = text_in bytes_eq bindings symbol

-- the result of an assertion from entries, under a substitution
abbrev pub applied_under : Context → Frame → (Token → Expression) → List Expression
    → Option Expression
applied_under c f sigma entries =
    if same_expressions entries (map (instance_of sigma) f.hypotheses) && keeps_apart
    (symbols_apart c) f sigma
    then Some (substituted sigma f.statement)
    else None

abbrev pub applied : Context → Frame → List Expression → Option Expression
applied c f entries = applied_under c f (text_of (bindings_of f.hypotheses entries)) entries

abbrev pub assertion_result : Context → Option Frame → List Expression → Option Expression
assertion_result c None entries = None
assertion_result c (Some f) entries = applied c f entries

-- a hypothesis takes no entries, and its result is its statement
abbrev pub hypothesis_result : Hypothesis → List Expression → Option Expression
hypothesis_result h [] = Some (statement_of h)
hypothesis_result h (entry ∷ entries) = None

abbrev pub label_result : Context → Option Hypothesis → Option Frame → List Expression
    → Option Expression
label_result c (Some h) frame entries = hypothesis_result h entries
label_result c None frame entries = assertion_result c frame entries

-- the result of a label from the entries that it takes
abbrev pub step_result : Context → Token → List Expression → Option Expression
step_result c label entries = label_result c (active_hypothesis c label) (c.frames label) entries

-- how many entries a label takes: as many as its assertion has mandatory hypotheses
abbrev pub frame_arity : Option Frame → ℕ
frame_arity None = 0
frame_arity (Some f) = length f.hypotheses

abbrev pub label_arity : Option Hypothesis → Option Frame → ℕ
label_arity None frame = frame_arity frame
label_arity (Some h) frame = 0

abbrev pub arity : Context → Token → ℕ
arity c label = label_arity (active_hypothesis c label) (c.frames label)

-- the last n entries of a stack are replaced by the result that is made from them, if there are n
abbrev pub stack_with : {E : Type 0} → (List E → Option E) → ℕ → List E → Option (List E)
stack_with result n stack =
    if nat_le n (length stack)
    then option_map (λ e. take (length stack - n) stack ++ e ∷ [])
    (result (drop (length stack - n) stack))
    else None

-- the stack after a label
abbrev pub stack_after_label : Context → Token → List Expression → Option (List Expression)
stack_after_label c label stack = stack_with (step_result c label) (arity c label) stack

-- a stack, and the entries that are saved
pub record Saving (E : Type 0) : Type 0 where
  pub stack : List E
  pub saved : List E

abbrev pub saving : {E : Type 0} → List E → List E → Saving E
saving stack saved = record { stack = stack; saved = saved }

-- A step cites something, which changes the stack. Or it saves the last entry, or puts a saved
-- entry on the stack again.
abbrev pub saving_after_step : {A E : Type 0} → (A → List E → Option (List E)) → Step A → Saving E
    → Option (Saving E)
saving_after_step cited (cites x) w = option_map (λ s. saving s w.saved) (cited x w.stack)
saving_after_step cited saves w =
    option_map (λ e. saving w.stack (w.saved ++ e ∷ [])) (slice_get w.stack (length w.stack - 1))
saving_after_step cited (repeats n) w =
    option_map (λ e. saving (w.stack ++ e ∷ []) w.saved) (slice_get w.saved n)

abbrev pub saving_after : {A E : Type 0} → (A → List E → Option (List E)) → List (Step A) → Saving E
    → Option (Saving E)
saving_after cited [] w = Some w
saving_after cited (step ∷ steps) w =
    option_and_then (saving_after cited steps) (saving_after_step cited step w)

-- the stack after steps, if each step fits
abbrev pub stack_left : {A E : Type 0} → (A → List E → Option (List E)) → List (Step A)
    → Option (List E)
stack_left cited steps = option_map (λ w. w.stack) (saving_after cited steps (saving [] []))

-- the stack after the steps of a proof
abbrev pub stack_after : Context → List (Step Token) → Option (List Expression)
stack_after c steps = stack_left (stack_after_label c) steps
