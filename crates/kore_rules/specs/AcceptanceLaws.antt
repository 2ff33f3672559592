-- Acceptance is unique. A text spells at most one definition, it has at most one first fault, and
-- no bytes are both accepted and refused.
use Rattle.std.specs.Prelude.{◌≡◌, ◌<◌, ◌^◌, ◌⊎◌, ℕ, List, length, Option}
use Rattle.kore_text.specs.Trees.{PatternTree, AxiomDeclaration, DefinitionTree}
use Rattle.kore_text.specs.Faults.{IsPattern, IsDefinition}
use Rattle.kore_ast.specs.KoreText.{ReadsPattern, ReadsDefinition}
use Rattle.term_core.specs.Patterns.{Pattern}
use Rattle.rule_core.specs.Theories.{RewriteTheory}
use Rattle.rule_core.specs.WellSorted.{IsSignature}
use Rattle.rule_core.specs.declared.signature.Signature.{Signature}
use Rattle.kore_sig.specs.FirstFault.{Fault}
use Rattle.kore_rules.specs.Acceptance.{IsAccepted, IsAcceptedTerm}
use Rattle.kore_rules.specs.Refused.{HasTextFault, IsRefused, IsRefusedTerm, FirstOfDefinition}
use Rattle.kore_rules.specs.FirstRefusal.{FirstOfAxioms, FirstOfTerm}

-- ---- bytes

-- no bytes are both accepted as a definition and refused
abbrev pub AcceptedIsNotRefused : Type 0
AcceptedIsNotRefused =
    (bytes : List ℕ) (theory : RewriteTheory) (top : Option ℕ) (f : Fault)
    → IsAccepted bytes theory top →
    IsRefused bytes f → ⊥

-- bytes are refused as a definition for one fault only
abbrev pub RefusalIsOne : Type 0
RefusalIsOne = (bytes : List ℕ) (f g : Fault) → IsRefused bytes f → IsRefused bytes g → f ≡ g

-- the same for terms of a program
abbrev pub AcceptedTermIsNotRefused : Type 0
AcceptedTermIsNotRefused =
    (sig : Signature) (top : Option ℕ) (bytes : List ℕ) (start : Pattern) (f : Fault) →
    IsAcceptedTerm sig top bytes start → IsRefusedTerm sig top bytes f → ⊥

abbrev pub TermRefusalIsOne : Type 0
TermRefusalIsOne =
    (sig : Signature) (top : Option ℕ) (bytes : List ℕ) (f g : Fault)
    → IsRefusedTerm sig top bytes f →
    IsRefusedTerm sig top bytes g → f ≡ g

-- each text of fewer than 2^32 bytes is accepted or refused as a definition
abbrev pub EachTextIsDecided : Type 0
EachTextIsDecided =
    (bytes : List ℕ) → length bytes < 2 ^ 32 →
    ((theory : RewriteTheory) × ((top : Option ℕ) × IsAccepted bytes theory top))
    ⊎ ((f : Fault) × IsRefused bytes f)

-- each text is accepted or refused as a term of a program
abbrev pub EachTermIsDecided : Type 0
EachTermIsDecided =
    (sig : Signature) (top : Option ℕ) (bytes : List ℕ) → IsSignature sig →
    ((start : Pattern) × IsAcceptedTerm sig top bytes start)
    ⊎ ((f : Fault) × IsRefusedTerm sig top bytes f)

-- a text means one start at most
abbrev pub StartIsOne : Type 0
StartIsOne =
    (sig : Signature) (top : Option ℕ) (bytes : List ℕ) (p q : Pattern)
    → IsAcceptedTerm sig top bytes p →
    IsAcceptedTerm sig top bytes q → p ≡ q

-- ---- trees

-- a text spells at most one definition and at most one pattern
abbrev pub DefinitionIsOne : Type 0
DefinitionIsOne = (bytes : List ℕ) (c d : DefinitionTree) → ReadsDefinition bytes c
    → ReadsDefinition bytes d → c ≡ d

abbrev pub PatternIsOne : Type 0
PatternIsOne =
    (bytes : List ℕ) (p q : PatternTree) → ReadsPattern bytes p → ReadsPattern bytes q → p ≡ q

-- two first faults of a definition are the same, including the case that there is none
abbrev pub DefinitionFaultIsOne : Type 0
DefinitionFaultIsOne =
    (d : DefinitionTree) (q r : Option Fault) → FirstOfDefinition d q → FirstOfDefinition d r
    → q ≡ r

-- the same for the axioms of a definition, by its signature
abbrev pub AxiomFaultIsOne : Type 0
AxiomFaultIsOne =
    (sig : Signature) (axioms : List AxiomDeclaration) (q r : Option Fault)
    → FirstOfAxioms sig axioms q →
    FirstOfAxioms sig axioms r → q ≡ r

-- the same for a term
abbrev pub TermFaultIsOne : Type 0
TermFaultIsOne =
    (sig : Signature) (top : Option ℕ) (p : PatternTree) (q r : Option Fault)
    → FirstOfTerm sig top p q →
    FirstOfTerm sig top p r → q ≡ r

-- ---- texts

-- a text that spells a definition or a pattern has no fault; another text has only one first fault
abbrev pub SpelledDefinitionIsFaultless : Type 0
SpelledDefinitionIsFaultless =
    (bytes : List ℕ) (d : DefinitionTree) (f : Fault) → ReadsDefinition bytes d
    → HasTextFault IsDefinition bytes f → ⊥

abbrev pub SpelledPatternIsFaultless : Type 0
SpelledPatternIsFaultless =
    (bytes : List ℕ) (p : PatternTree) (f : Fault) → ReadsPattern bytes p
    → HasTextFault IsPattern bytes f → ⊥

abbrev pub TextFaultIsOne : Type 0
TextFaultIsOne =
    (bytes : List ℕ) (f g : Fault) → HasTextFault IsDefinition bytes f
    → HasTextFault IsDefinition bytes g → f ≡ g

abbrev pub TermTextFaultIsOne : Type 0
TermTextFaultIsOne =
    (bytes : List ℕ) (f g : Fault) → HasTextFault IsPattern bytes f → HasTextFault IsPattern bytes g
    → f ≡ g
