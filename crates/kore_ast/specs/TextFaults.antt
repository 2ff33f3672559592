-- The first faults of texts of definitions and patterns.
use Rattle.std.specs.Prelude.{ℕ, List, Result, Ok, Err, Some}
use Rattle.kore_text.specs.TokenStream.{token_stream, Stream}
use Rattle.kore_text.specs.Faults.{IsFirstFaultOfText, IsPattern, IsDefinition}
use Rattle.kore_text.specs.declared.faults.TextFault.TheVariants as text_fault
use Rattle.kore_ast.specs.declared.tree.ReadFault.{ReadFault}
use Rattle.kore_ast.specs.declared.tree.ReadFault.TheVariants as read_fault

-- the reported fault is the first fault of the text; nothing is claimed if memory ran out
abbrev pub IsFault : (Stream → Type 0) → List ℕ → ReadFault → Type 0
IsFault L bytes (read_fault.Lex at) = IsFirstFaultOfText L 0 (token_stream bytes)
    (Some (text_fault.Lex at))
IsFault L bytes (read_fault.Syntax at) =
    IsFirstFaultOfText L 0 (token_stream bytes) (Some (text_fault.Syntax at))
IsFault L bytes (read_fault.Deep at) =
    IsFirstFaultOfText L 0 (token_stream bytes) (Some (text_fault.Deep at))
IsFault L bytes read_fault.Memory = Unit {0}

abbrev pub PatternFault : {X : Type 0} → List ℕ → Result X ReadFault → Type 0
PatternFault bytes (Ok x) = Unit {0}
PatternFault bytes (Err f) = IsFault IsPattern bytes f

abbrev pub DefinitionFault : {X : Type 0} → List ℕ → Result X ReadFault → Type 0
DefinitionFault bytes (Ok x) = Unit {0}
DefinitionFault bytes (Err f) = IsFault IsDefinition bytes f
