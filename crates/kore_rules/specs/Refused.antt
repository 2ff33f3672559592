-- When bytes are refused as a definition or as a term.
use Rattle.std.specs.Prelude.{◌≡◌, ◌⊎◌, ℕ, List, Option, Some}
use Rattle.kore_text.specs.Trees.{PatternTree, DefinitionTree}
use Rattle.kore_text.specs.TokenStream.{token_stream, Stream}
use Rattle.kore_text.specs.Faults.{IsFirstFaultOfText, IsPattern, IsDefinition}
use Rattle.kore_text.specs.declared.faults.TextFault.{TextFault}
use Rattle.kore_text.specs.declared.faults.TextFault.TheVariants as text_fault
use Rattle.kore_ast.specs.KoreText.{ReadsPattern, ReadsDefinition}
use Rattle.rule_core.specs.declared.signature.Signature.{Signature}
use Rattle.kore_sig.specs.FirstFault.{Fault, Then}
use Rattle.kore_rules.specs.FirstRefusal.{FirstOfTerm, FirstOfAxioms}
use Rattle.kore_sig.specs.Declarations.{axioms_of}
use Rattle.kore_sig.specs.Signatures.{IsSignatureOf}
use Rattle.kore_sig.specs.SignatureFaults.{FirstOfSignature}

-- a fault of the text: 1 for its tokens, 2 for its grammar, 3 for too many open brackets
abbrev pub fault_of_text : TextFault → Fault
fault_of_text (text_fault.Lex at) = record { number = 1; byte = at }
fault_of_text (text_fault.Syntax at) = record { number = 2; byte = at }
fault_of_text (text_fault.Deep at) = record { number = 3; byte = at }

-- this is the first fault of the text
abbrev pub HasTextFault : (Stream → Type 0) → List ℕ → Fault → Type 0
HasTextFault L bytes f = (fault : TextFault)
    × IsFirstFaultOfText L 0 (token_stream bytes) (Some fault)
    × (f ≡ fault_of_text fault)

-- The first fault of a definition: that of its declarations, or else that of its axioms.
abbrev pub FirstOfDefinition : DefinitionTree → Option Fault → Type 0
FirstOfDefinition d r =
    Then (FirstOfSignature d)
    (λ r. (sig : Signature) × IsSignatureOf d sig × FirstOfAxioms sig (axioms_of d) r) r

-- The bytes are refused as a definition for this fault.
abbrev pub IsRefused : List ℕ → Fault → Type 0
IsRefused bytes f =
    HasTextFault IsDefinition bytes f
    ⊎ ((d : DefinitionTree) × ReadsDefinition bytes d × FirstOfDefinition d (Some f))

-- The bytes are refused as a term for this fault.
abbrev pub IsRefusedTerm : Signature → Option ℕ → List ℕ → Fault → Type 0
IsRefusedTerm sig top bytes f =
    HasTextFault IsPattern bytes f
    ⊎ ((p : PatternTree) × ReadsPattern bytes p × FirstOfTerm sig top p (Some f))
