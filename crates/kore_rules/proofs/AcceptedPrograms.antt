-- An accepted definition gives a well-sorted program, and the names of the program are identifiers.
use Rattle.std.proofs.Common.{ℕ, List, Option}
use Rattle.kore_text.specs.Identifiers.{NamesAreIdentifiers}
use Rattle.rule_core.specs.Theories.{RewriteTheory}
use Rattle.rule_core.specs.WellSorted.{IsWellSorted}
use Rattle.kore_rules.specs.Acceptance.{IsAccepted}
use Rattle.kore_rules.specs.Names.{HasIdentifierNames}
use Rattle.kore_rules.specs.RefusedTexts.{IsSortOfRules}
use Rattle.kore_rules.proofs.ProgramNames.{identifier_names}
use Rattle.kore_rules.proofs.WellSortedPrograms.{IsFaultlessProgram, faultless_program}
use Rattle.kore_rules.proofs.WellSortedPrograms.{well_sorted_program, sorted_rules}

faultless : (bytes : List ℕ) (theory : RewriteTheory) (top : Option ℕ)
    → (is : IsAccepted bytes theory top) → IsFaultlessProgram is.definition is.declared theory
faultless bytes theory top is =
    faultless_program is.definition is.declared theory is.no_fault is.signature is.no_axiom_fault
    is.program

pub accepted_well_sorted : (bytes : List ℕ) (theory : RewriteTheory) (top : Option ℕ)
    → IsAccepted bytes theory top → IsWellSorted theory
accepted_well_sorted bytes theory top is =
    well_sorted_program is.definition is.declared theory (faultless bytes theory top is)

pub accepted_rules : (bytes : List ℕ) (theory : RewriteTheory) (top : Option ℕ)
    → IsAccepted bytes theory top → IsSortOfRules theory top
accepted_rules bytes theory top is =
    sorted_rules is.definition is.declared theory top (faultless bytes theory top is) is.sort

pub accepted_names : NamesAreIdentifiers
    → (bytes : List ℕ) (theory : RewriteTheory) (top : Option ℕ) → IsAccepted bytes theory top
    → HasIdentifierNames theory.sig
accepted_names law bytes theory top is =
    identifier_names law bytes is.definition is.declared theory is.spelled is.signature is.program
