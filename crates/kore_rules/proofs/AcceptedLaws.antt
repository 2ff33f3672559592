-- What is accepted and refused, put together.
use Rattle.std.proofs.Common.{◌≡◌, ◌<◌, ◌≤◌, ◌^◌, ℕ, ◌+◌, List, [], length, Contains, Option, Some}
use Rattle.std.proofs.Common.{None, refl, sym, ap, ◌∙◌, subst, arith, ◌⊎◌, inl, inr, cond}
use Rattle.std.specs.Prelude.{◌||◌, ◌&&◌, not, codes, Bool, true, false}
use Rattle.kore_lex.specs.TokenLaws.{TokensCover}
use Rattle.kore_text.specs.Trees.{SortTree, PatternTree, AxiomDeclaration, DefinitionTree}
use Rattle.kore_text.specs.Faults.{IsPattern, IsDefinition}
use Rattle.kore_ast.specs.KoreText.{ReadsPattern, ReadsDefinition}
use Rattle.rule_core.specs.Theories.{RewriteTheory}
use Rattle.rule_core.specs.declared.signature.Signature.{Signature}
use Rattle.kore_sig.specs.FirstFault.{Fault}
use Rattle.kore_sig.specs.Declarations.{axioms_of}
use Rattle.kore_sig.specs.SignatureFaults.{FirstOfSignature}
use Rattle.kore_sig.specs.Signatures.{IsSignatureOf}
use Rattle.rule_core.specs.declared.signature.SortInfo.{SortInfo}
use Rattle.kore_sig.specs.Attributes.{has_attribute}
use Rattle.kore_sig.specs.SortReferences.{sort_number}
use Rattle.kore_check.specs.PatternSorts.{symbol_named}
use Rattle.kore_shapes.specs.Shapes.{Rewriting, rewriting}
use Rattle.kore_shapes.specs.Statements.{StatedEquation, stated_equation}
use Rattle.kore_axioms.specs.AxiomClasses.{AxiomClass, refused, orders_sorts, rewrites, equates}
use Rattle.kore_axioms.specs.AxiomClasses.{passed_over, axiom_class, class_of_pattern}
use Rattle.kore_axioms.specs.AxiomClasses.{class_of_statement, is_no_equation, takes_equations}
use Rattle.kore_axioms.specs.AxiomClasses.{states_pairs}
use Rattle.kore_rules.specs.Programs.{IsTopOf}
use Rattle.kore_rules.specs.Acceptance.{IsAccepted}
use Rattle.kore_rules.specs.Refused.{IsRefused, IsRefusedTerm, HasTextFault, FirstOfDefinition}
use Rattle.kore_rules.specs.AxiomsRead.{AreFew}
use Rattle.kore_rules.specs.FirstRefusal.{FirstOfAxioms, FirstOfTerm}
use Rattle.kore_rules.specs.MadePrograms.{IsMadeOf, ListsOwnEquations}
use Rattle.kore_text.specs.Identifiers.{NamesAreIdentifiers}
use Rattle.rule_core.specs.WellSorted.{IsWellSorted}
use Rattle.kore_rules.specs.Names.{HasIdentifierNames}
use Rattle.kore_rules.specs.RefusedTexts.{top_of, IsSortOfRules}
use Rattle.rule_core.specs.BoundVariables.{HasBoundVariables}
use Rattle.rule_core.specs.ProgramView.{theory_of}
use Rattle.rule_core.specs.declared.rules.Program.{Program}
use Rattle.kore_rules.proofs.BoundPrograms.{bound_program}
use Rattle.kore_rules.proofs.ProgramNames.{identifier_names}
use Rattle.kore_rules.proofs.WellSortedPrograms.{IsFaultlessProgram, well_sorted_program}
use Rattle.kore_rules.proofs.WellSortedPrograms.{sorted_rules}
use Rattle.kore_rules.proofs.Places.{axioms-rise, once, few, variables-few}

-- a text of fewer than 2^32 bytes has few axioms, each at its own place
pub axioms_few : TokensCover → (bytes : List ℕ) (d : DefinitionTree) → length bytes < 4294967296
    → ReadsDefinition bytes d → AreFew (axioms_of d)
axioms_few law bytes d lt reads =
    let rise = axioms-rise law bytes d reads in record {
      short =
          let le = few (λ n. Unit {0}) (length bytes) 0 (axioms_of d) (omega arith) rise in
          omega (arith, le, lt);
      apart = λ at. once (λ n. Unit {0}) (length bytes) 0 at (axioms_of d) rise;
    }

pub made_accepted : (bytes : List ℕ) (d : DefinitionTree) (theory : RewriteTheory) (top : Option ℕ)
    → ReadsDefinition bytes d → IsMadeOf d theory top → IsAccepted bytes theory top
made_accepted bytes d theory top reads made = record {
  definition = d;
  spelled = reads;
  declared = made.declared;
  signature = made.signature;
  no_fault = made.no_fault;
  no_axiom_fault = made.no_axiom_fault;
  program = made.program;
  sort = made.sort;
}

pub signature_refused : (d : DefinitionTree) (f : Fault) → FirstOfSignature d (Some f)
    → FirstOfDefinition d (Some f)
signature_refused d f is = inl is

pub axioms_refused : (d : DefinitionTree) (sig : Signature) (f : Fault) → FirstOfSignature d None
    → IsSignatureOf d sig → FirstOfAxioms sig (axioms_of d) (Some f) → FirstOfDefinition d (Some f)
axioms_refused d sig f clear is first = inr (clear, (sig, is, first))

pub text_refused : (bytes : List ℕ) (f : Fault) → HasTextFault IsDefinition bytes f
    → IsRefused bytes f
text_refused bytes f h = inl h

pub definition_refused : (bytes : List ℕ) (d : DefinitionTree) (f : Fault) → ReadsDefinition bytes d
    → FirstOfDefinition d (Some f) → IsRefused bytes f
definition_refused bytes d f reads first = inr (d, reads, first)

pub term_text_refused : (sig : Signature) (top : Option ℕ) (bytes : List ℕ) (f : Fault)
    → HasTextFault IsPattern bytes f → IsRefusedTerm sig top bytes f
term_text_refused sig top bytes f h = inl h

pub term_refused : (sig : Signature) (top : Option ℕ) (bytes : List ℕ) (p : PatternTree) (f : Fault)
    → ReadsPattern bytes p → FirstOfTerm sig top p (Some f) → IsRefusedTerm sig top bytes f
term_refused sig top bytes p f reads first = inr (p, reads, first)

-- ---- the sort of the rules

statement_no_rule : (sig : Signature) (attributes : List PatternTree) (o : Option StatedEquation)
    (w : Rewriting) → class_of_statement sig attributes o ≡ rewrites w → ⊥
statement_no_rule sig attributes None w e = let never : ⊥ = cc in never
statement_no_rule sig attributes (Some s) w e =
    by (not (is_no_equation attributes) && takes_equations (symbol_named sig s.function)) e
  where
    by : (t : Bool) → cond t (equates s) passed_over ≡ rewrites w → ⊥
    by true f = let never : ⊥ = cc in never
    by false f = let never : ⊥ = cc in never

pattern_any : (sig other : Signature) (a : AxiomDeclaration) (o : Option Rewriting) (w : Rewriting)
    → class_of_pattern sig a o ≡ rewrites w → class_of_pattern other a o ≡ rewrites w
pattern_any sig other a None w e =
    absurd (statement_no_rule sig a.attributes (stated_equation a.pattern) w e)
pattern_any sig other a (Some v) w e = e

tests_any : (b c d : Bool) (k m : AxiomClass) (w : Rewriting) → (k ≡ rewrites w → m ≡ rewrites w)
    → cond b (refused 20) (cond c (refused 21) (cond d orders_sorts k)) ≡ rewrites w
    → cond b (refused 20) (cond c (refused 21) (cond d orders_sorts m)) ≡ rewrites w
tests_any true c d k m w into e = absurd (let never : ⊥ = cc in never)
tests_any false true d k m w into e = absurd (let never : ⊥ = cc in never)
tests_any false false true k m w into e = absurd (let never : ⊥ = cc in never)
tests_any false false false k m w into e = into e

-- which axioms are rules does not depend on the kinds of symbols
rewrites_any : (sig other : Signature) (a : AxiomDeclaration) (w : Rewriting)
    → axiom_class sig a ≡ rewrites w → axiom_class other a ≡ rewrites w
rewrites_any sig other a w e =
    tests_any (has_attribute (codes "anywhere") a.attributes) (has_attribute (codes "overload")
    a.attributes || has_attribute (codes "symbol-overload") a.attributes)
    (states_pairs a.attributes)
    (class_of_pattern sig a (rewriting a.pattern)) (class_of_pattern other a (rewriting a.pattern))
    w (pattern_any sig other a (rewriting a.pattern) w) e

pub top_any : (sig other : Signature) (axioms : List AxiomDeclaration) (top : Option ℕ)
    → other.sorts ≡ sig.sorts → IsTopOf sig axioms top → IsTopOf other axioms top
top_any sig other axioms None same none =
    λ a has w class. none a has w (rewrites_any other sig a w class)
top_any sig other axioms (Some s) same (a, has, (w, class, number)) = (
  a,
  has,
  (
    w,
    rewrites_any sig other a w class,
    ap (λ (sorts : List (List ℕ × SortInfo)). sort_number sorts w.sort) same ∙ number,
  ),
)

-- ---- what follows for a program that was made

faultless : (d : DefinitionTree) (theory : RewriteTheory) (top : Option ℕ)
    (made : IsMadeOf d theory top) → IsFaultlessProgram d made.declared theory
faultless d theory top made = record {
  signature = made.signature;
  sorted = made.sorted;
  distinct = made.distinct;
  no_fault = made.no_axiom_fault;
  program = made.program;
}

pub made_sorted : (d : DefinitionTree) (theory : RewriteTheory) (top : Option ℕ)
    → IsMadeOf d theory top → IsWellSorted theory
made_sorted d theory top made =
    well_sorted_program d made.declared theory (faultless d theory top made)

pub made_top : (d : DefinitionTree) (theory : RewriteTheory) (top : Option ℕ)
    → IsMadeOf d theory top → IsSortOfRules theory top
made_top d theory top made =
    sorted_rules d made.declared theory top (faultless d theory top made) made.sort

pub made_names : NamesAreIdentifiers
    → (bytes : List ℕ) (d : DefinitionTree) (theory : RewriteTheory) (top : Option ℕ)
    → ReadsDefinition bytes d → IsMadeOf d theory top → HasIdentifierNames theory.sig
made_names law bytes d theory top reads made =
    identifier_names law bytes d made.declared theory reads made.signature made.program

pub made_bound : TokensCover → (bytes : List ℕ) (d : DefinitionTree) (p : Program)
    → length bytes < 4294967296 → ReadsDefinition bytes d → IsMadeOf d (theory_of p) (top_of p)
    → ListsOwnEquations p → HasBoundVariables p
made_bound law bytes d p lt reads made own =
    bound_program made.declared (axioms_of d) p made.program own (λ a has.
    let most =
    variables-few (λ n. Unit {0}) (length bytes) 0 (axioms_of d) a
    (axioms-rise law bytes d reads) has in
    omega (arith, most, lt))
