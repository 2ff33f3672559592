-- Laws on texts. A text of the language has no fault, each text has at most one first fault, and
-- none has more tokens than bytes.
use Rattle.std.specs.Prelude.{◌≡◌, ℕ, ◌≤◌, List, length, None, Some}
use Rattle.kore_text.specs.declared.faults.TextFault.{TextFault}
use Rattle.kore_text.specs.TokenStream.{token_stream}
use Rattle.kore_text.specs.Faults.{IsFirstFaultOfText, IsPattern, IsDefinition}
use Rattle.kore_text.specs.Remaining.{size}

-- a definition in which at most 500 brackets are open has no fault
abbrev pub DefinitionHasNoFault : Type 0
DefinitionHasNoFault =
    (bytes : List ℕ) (f : TextFault) → IsFirstFaultOfText IsDefinition 0 (token_stream bytes) None
    → IsFirstFaultOfText IsDefinition 0 (token_stream bytes) (Some f) → ⊥

abbrev pub PatternHasNoFault : Type 0
PatternHasNoFault =
    (bytes : List ℕ) (f : TextFault) → IsFirstFaultOfText IsPattern 0 (token_stream bytes) None
    → IsFirstFaultOfText IsPattern 0 (token_stream bytes) (Some f) → ⊥

-- the first fault of a text is unique, in its kind and its byte
abbrev pub DefinitionFaultIsUnique : Type 0
DefinitionFaultIsUnique =
    (bytes : List ℕ) (f g : TextFault)
    → IsFirstFaultOfText IsDefinition 0 (token_stream bytes) (Some f)
    → IsFirstFaultOfText IsDefinition 0 (token_stream bytes) (Some g) → f ≡ g

abbrev pub PatternFaultIsUnique : Type 0
PatternFaultIsUnique =
    (bytes : List ℕ) (f g : TextFault)
    → IsFirstFaultOfText IsPattern 0 (token_stream bytes) (Some f)
    → IsFirstFaultOfText IsPattern 0 (token_stream bytes) (Some g) → f ≡ g

-- a text has no more tokens than bytes
abbrev pub NoMoreTokensThanBytes : Type 0
NoMoreTokensThanBytes = (bytes : List ℕ) → size (token_stream bytes) ≤ length bytes
