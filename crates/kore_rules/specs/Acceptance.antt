-- Which bytes are accepted as a definition, and as a term of it.
use Rattle.std.specs.Prelude.{ℕ, List, [], Option, None}
use Rattle.kore_text.specs.Trees.{PatternTree, DefinitionTree}
use Rattle.kore_ast.specs.KoreText.{ReadsPattern, ReadsDefinition}
use Rattle.term_core.specs.Patterns.{Pattern}
use Rattle.rule_core.specs.Theories.{RewriteTheory}
use Rattle.rule_core.specs.declared.signature.Signature.{Signature}
use Rattle.kore_sig.specs.Declarations.{axioms_of}
use Rattle.kore_sig.specs.SignatureFaults.{FirstOfSignature}
use Rattle.kore_sig.specs.Signatures.{IsSignatureOf}
use Rattle.kore_check.specs.Folds.{unfolded}
use Rattle.kore_check.specs.PatternMeanings.{Means}
use Rattle.kore_rules.specs.FirstRefusal.{FirstOfAxioms, FirstOfTerm}
use Rattle.kore_rules.specs.Programs.{IsProgramUnder, IsTopOf}

-- The bytes are accepted as a definition that means this program, and the rules have this sort. The
-- declarations have no fault and give a signature. The axioms have no fault under this signature.
pub record IsAccepted (bytes : List ℕ) (theory : RewriteTheory) (top : Option ℕ) : Type 0 where
  pub definition : DefinitionTree
  pub spelled : ReadsDefinition bytes definition
  pub declared : Signature
  pub signature : IsSignatureOf definition declared
  pub no_fault : FirstOfSignature definition None
  pub no_axiom_fault : FirstOfAxioms declared (axioms_of definition) None
  pub program : IsProgramUnder declared (axioms_of definition) theory
  pub sort : IsTopOf theory.sig (axioms_of definition) top

-- The bytes are accepted as a term of the program and mean this pattern.
pub record IsAcceptedTerm (sig : Signature) (top : Option ℕ) (bytes : List ℕ) (start : Pattern) :
    Type 0 where
  pub term : PatternTree
  pub spelled : ReadsPattern bytes term
  pub no_fault : FirstOfTerm sig top term None
  pub means : Means sig [] (unfolded term) start
