-- The names of the variables of an accepted definition.
use Rattle.std.specs.Prelude.{ℕ, List}
use Rattle.kore_text.specs.Trees.{DefinitionTree}
use Rattle.kore_ast.specs.KoreText.{ReadsDefinition}
use Rattle.rule_core.specs.declared.rules.Program.{Program}
use Rattle.rule_core.specs.declared.signature.Signature.{Signature}
use Rattle.kore_sig.specs.Declarations.{axioms_of}
use Rattle.kore_sig.specs.Signatures.{IsSignatureOf}
use Rattle.kore_rules.specs.KeptNames.{KeepsNames}

-- The bytes spell a definition, and its axioms name the variables of the program.
pub record NamesVariables (bytes : List ℕ) (p : Program) : Type 0 where
  pub definition : DefinitionTree
  pub spelled : ReadsDefinition bytes definition
  pub declared : Signature
  pub signature : IsSignatureOf definition declared
  pub named : KeepsNames declared (axioms_of definition) p
