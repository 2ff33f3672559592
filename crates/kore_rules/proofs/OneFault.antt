-- A term has only one first fault, and so do axioms.
use Rattle.std.proofs.Common.{◌≡◌, ℕ, List, Option, Some, None, Contains, refl, sym, ap, ◌∙◌}
use Rattle.kore_text.specs.Trees.{SortTree, PatternTree, AxiomDeclaration, DefinitionTree}
use Rattle.kore_text.specs.declared.faults.TextFault.{TextFault}
use Rattle.kore_text.specs.Faults.{IsPattern, IsDefinition}
use Rattle.kore_text.specs.TextLaws.{DefinitionHasNoFault, PatternHasNoFault}
use Rattle.kore_text.specs.TextLaws.{DefinitionFaultIsUnique, PatternFaultIsUnique}
use Rattle.rule_core.specs.declared.signature.Signature.{Signature}
use Rattle.kore_sig.specs.FirstFault.{Fault, ByByte, IsFirstBy, Then, IsFirstOfSequence, ByNumber}
use Rattle.kore_sig.proofs.UniqueLaws.{byte_antisymmetric, first_same, first_one, then_one}
use Rattle.kore_sig.proofs.UniqueLaws.{in_order_one}
use Rattle.kore_check.specs.Folds.{unfolded}
use Rattle.kore_check.specs.PatternFaults.{all_faults}
use Rattle.kore_axioms.specs.AxiomClasses.{AxiomClass, refused, orders_sorts, rewrites, equates}
use Rattle.kore_axioms.specs.AxiomClasses.{passed_over, axiom_class}
use Rattle.kore_axioms.specs.RuleFaults.{FirstOfRule, sorted_faults, use_faults}
use Rattle.kore_axioms.specs.RuleForms.{form_faults}
use Rattle.kore_axioms.specs.RuleParts.{rule_parts}
use Rattle.kore_shapes.specs.Shapes.{Rewriting}
use Rattle.kore_rules.specs.AcceptanceLaws.{TermFaultIsOne, AxiomFaultIsOne}
use Rattle.kore_rules.specs.AcceptanceLaws.{SpelledDefinitionIsFaultless, SpelledPatternIsFaultless}
use Rattle.kore_rules.specs.AcceptanceLaws.{TextFaultIsOne, TermTextFaultIsOne}
use Rattle.kore_rules.specs.Refused.{HasTextFault, fault_of_text}
use Rattle.kore_rules.specs.FirstRefusal.{FirstOfClass, first_sort, start_faults}
use Rattle.kore_rules.specs.GroundTerms.{ground_faults}

one_by_byte : (P : Fault → Type 0) (q r : Option Fault) → IsFirstBy ByByte P q
    → IsFirstBy ByByte P r → q ≡ r
one_by_byte P q r a b = first_same ByByte byte_antisymmetric P P q r (λ f h. h) (λ f h. h) a b

pub term_is_one : TermFaultIsOne
term_is_one sig top p q r a b =
    then_one (IsFirstBy ByByte (Contains (ground_faults p)))
    (Then (IsFirstBy ByByte (Contains (all_faults sig (unfolded p))))
    (IsFirstBy ByNumber (Contains (start_faults sig top (unfolded p)))))
    (one_by_byte (Contains (ground_faults p)))
    (then_one (IsFirstBy ByByte (Contains (all_faults sig (unfolded p))))
    (IsFirstBy ByNumber (Contains (start_faults sig top (unfolded p))))
    (one_by_byte (Contains (all_faults sig (unfolded p))))
    (first_one (Contains (start_faults sig top (unfolded p)))))
    q r a b

rule_is_one : (sig : Signature) (first : Option SortTree) (a : AxiomDeclaration) (w : Rewriting)
    (q r : Option Fault) → FirstOfRule sig first a w q → FirstOfRule sig first a w r → q ≡ r
rule_is_one sig first a w q r x y =
    let form = Contains (form_faults a (rule_parts sig w)) in
    let sorts = Contains (sorted_faults sig w.sort (rule_parts sig w)) in
    let uses = Contains (use_faults sig first a.at w.sort (rule_parts sig w)) in
    then_one (IsFirstBy ByNumber form) (Then (IsFirstBy ByByte sorts) (IsFirstBy ByNumber uses))
    (first_one form)
    (then_one (IsFirstBy ByByte sorts) (IsFirstBy ByNumber uses) (one_by_byte sorts)
    (first_one uses)) q r x y

class_is_one : (sig : Signature) (first : Option SortTree) (a : AxiomDeclaration) (k : AxiomClass)
    (q r : Option Fault) → FirstOfClass sig first a k q → FirstOfClass sig first a k r → q ≡ r
class_is_one sig first a (refused n) q r x y = x ∙ sym y
class_is_one sig first a orders_sorts q r x y = x ∙ sym y
class_is_one sig first a (rewrites w) q r x y = rule_is_one sig first a w q r x y
class_is_one sig first a (equates e) q r x y = x ∙ sym y
class_is_one sig first a passed_over q r x y = x ∙ sym y

pub axioms_are_one : AxiomFaultIsOne
axioms_are_one sig axioms q r x y =
    in_order_one (λ (first : Option SortTree) a. FirstOfClass sig first a (axiom_class sig a))
    (λ (first : Option SortTree) a. first_sort first (axiom_class sig a))
    (λ first a. class_is_one sig first a (axiom_class sig a)) None axioms q r x y

pub spelled_faultless : DefinitionHasNoFault → SpelledDefinitionIsFaultless
spelled_faultless law bytes d f reads fault =
    law bytes fault.0 ((d, reads.1.0, reads.1.1), reads.0) fault.1

pub spelled_pattern_faultless : PatternHasNoFault → SpelledPatternIsFaultless
spelled_pattern_faultless law bytes p f reads fault =
    law bytes fault.0 ((p, reads.1.0, reads.1.1), reads.0) fault.1

pub text_one : DefinitionFaultIsUnique → TextFaultIsOne
text_one law bytes f g a b = a.2 ∙ ap fault_of_text (law bytes a.0 b.0 a.1 b.1) ∙ sym b.2

pub term_text_one : PatternFaultIsUnique → TermTextFaultIsOne
term_text_one law bytes f g a b = a.2 ∙ ap fault_of_text (law bytes a.0 b.0 a.1 b.1) ∙ sym b.2
