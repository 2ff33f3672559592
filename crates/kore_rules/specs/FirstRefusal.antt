-- The first fault of a definition and of a term.
use Rattle.std.specs.Prelude.{◌≡◌, ℕ, List, [], Option, Some, None, Contains}
use Rattle.kore_text.specs.Trees.{SortTree, PatternTree, AxiomDeclaration}
use Rattle.rule_core.specs.declared.signature.Signature.{Signature}
use Rattle.kore_sig.specs.FirstFault.{Fault, ByByte, ByNumber, IsFirstBy, Then, IsFirstOfSequence}
use Rattle.kore_sig.specs.FirstFault.{unless}
use Rattle.kore_check.specs.Folds.{Unfolded, unfolded}
use Rattle.kore_check.specs.PatternSorts.{sort_of_pattern}
use Rattle.kore_check.specs.PatternFaults.{all_faults}
use Rattle.kore_axioms.specs.AxiomClasses.{AxiomClass, refused, rewrites, axiom_class}
use Rattle.kore_axioms.specs.RuleFaults.{FirstOfRule}
use Rattle.kore_rules.specs.GroundTerms.{ground_faults}
use Rattle.kore_equations.specs.ReadableEquations.{is_one_sort}

-- the first fault of an axiom of this class, if the first rule before it has this sort
abbrev pub FirstOfClass : Signature → Option SortTree → AxiomDeclaration → AxiomClass → Option Fault
    → Type 0
FirstOfClass sig first a (refused number) r = r ≡ Some (record { number = number; byte = a.at })
FirstOfClass sig first a (rewrites w) r = FirstOfRule sig first a w r
FirstOfClass sig first a class r = r ≡ None

-- the sort of the first rule: of an earlier one, or else of this axiom if it is a rule
abbrev pub first_sort : Option SortTree → AxiomClass → Option SortTree
first_sort (Some s) class = Some s
first_sort None (rewrites w) = Some w.sort
first_sort None class = None

-- the first fault of the axioms, in their order
abbrev pub FirstOfAxioms : Signature → List AxiomDeclaration → Option Fault → Type 0
FirstOfAxioms sig axioms r =
    IsFirstOfSequence (λ first a. FirstOfClass sig first a (axiom_class sig a))
    (λ first a. first_sort first (axiom_class sig a)) None
    axioms r

-- 19 at the first byte: the term does not have the sort of the rules; no fault if there are no
-- rules
abbrev pub start_faults : Signature → Option ℕ → Unfolded → List Fault
start_faults sig None p = []
start_faults sig (Some s) p = unless (is_one_sort (sort_of_pattern sig p) (Some s)) 19 0

-- the first fault of a term, if the rules have this sort
abbrev pub FirstOfTerm : Signature → Option ℕ → PatternTree → Option Fault → Type 0
FirstOfTerm sig top p r =
    Then (IsFirstBy ByByte (Contains (ground_faults p)))
    (Then (IsFirstBy ByByte (Contains (all_faults sig (unfolded p))))
    (IsFirstBy ByNumber (Contains (start_faults sig top (unfolded p))))) r
