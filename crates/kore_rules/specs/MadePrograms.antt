-- What is known of the program of a definition after it is made.
use Rattle.std.specs.Prelude.{◌≡◌, ℕ, Option, None}
use Rattle.kore_text.specs.Trees.{DefinitionTree}
use Rattle.rule_core.specs.BoundVariables.{IsEquationAt}
use Rattle.rule_core.specs.DistinctNames.{names_of, AreDistinct}
use Rattle.rule_core.specs.Theories.{RewriteTheory}
use Rattle.rule_core.specs.WellSorted.{IsSignature}
use Rattle.rule_core.specs.declared.rules.Equation.{Equation}
use Rattle.rule_core.specs.declared.rules.Program.{Program}
use Rattle.rule_core.specs.declared.signature.Signature.{Signature}
use Rattle.kore_sig.specs.Declarations.{axioms_of}
use Rattle.kore_sig.specs.SignatureFaults.{FirstOfSignature}
use Rattle.kore_sig.specs.Signatures.{IsSignatureOf}
use Rattle.kore_rules.specs.FirstRefusal.{FirstOfAxioms}
use Rattle.kore_rules.specs.Programs.{IsProgramUnder, IsTopOf}
use Rattle.kore_rules.specs.KeptNames.{KeepsNames}

-- the definition has no fault and means this program, and the rules have this sort
pub record IsMadeOf (d : DefinitionTree) (theory : RewriteTheory) (top : Option ℕ) : Type 0 where
  pub declared : Signature
  pub signature : IsSignatureOf d declared
  pub sorted : IsSignature declared
  pub distinct : AreDistinct (names_of declared.symbols)
  pub no_fault : FirstOfSignature d None
  pub no_axiom_fault : FirstOfAxioms declared (axioms_of d) None
  pub program : IsProgramUnder declared (axioms_of d) theory
  pub sort : IsTopOf theory.sig (axioms_of d) top

-- each equation is listed for its own function
abbrev pub ListsOwnEquations : Program → Type 0
ListsOwnEquations program = (f i : ℕ) (e : Equation) → IsEquationAt program f i e → e.fun.0 ≡ f

-- the axioms of the definition name the variables of the program
abbrev pub HasNamesOf : DefinitionTree → Program → Type 0
HasNamesOf d p =
    (declared : Signature) × IsSignatureOf d declared × KeepsNames declared (axioms_of d) p
