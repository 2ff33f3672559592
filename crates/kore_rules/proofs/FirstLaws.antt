-- The first fault of axioms, one after another, and the sort of the first rule.
use Rattle.std.proofs.Common.{◌≡◌, ℕ, List, [], ◌∷◌, ◌++◌, Contains, Option, Some, None, refl, sym}
use Rattle.std.proofs.Common.{ap, ◌∙◌, subst, ◌⊎◌, inl, inr}
use Rattle.std.specs.Prelude.{is_some}
use Rattle.std.proofs.lemmas.List.Elements.{Contains-append_left, Contains-push}
use Rattle.std.proofs.lemmas.List.Elements.{Contains-push_cases}
use Rattle.kore_text.specs.Trees.{SortTree, AxiomDeclaration}
use Rattle.rule_core.specs.declared.signature.Signature.{Signature}
use Rattle.kore_sig.specs.FirstFault.{Fault, IsFirstOfSequence, unless}
use Rattle.kore_sig.specs.SortReferences.{sort_number, sort_place}
use Rattle.kore_sig.proofs.FirstLaws.{contains_here}
use Rattle.kore_shapes.specs.Shapes.{Rewriting, found_part}
use Rattle.kore_axioms.specs.AxiomClasses.{AxiomClass, refused, orders_sorts, rewrites, equates}
use Rattle.kore_axioms.specs.AxiomClasses.{passed_over, axiom_class}
use Rattle.kore_axioms.specs.RuleFaults.{FirstOfRule, side_faults, condition_faults}
use Rattle.kore_axioms.specs.RuleFaults.{found_top_faults}
use Rattle.kore_axioms.specs.RuleParts.{rule_parts, left_of, right_of}
use Rattle.kore_axioms.specs.declared.refusals.Refusal.{Refusal}
use Rattle.kore_axioms.specs.declared.refusals.Refusal.TheVariants.{Refused, Memory}
use Rattle.kore_rules.specs.AxiomsRead.{IsFirstSort}
use Rattle.kore_rules.specs.FirstRefusal.{FirstOfClass, first_sort}
use Rattle.kore_rules.specs.RefusedTexts.{RefusesFor}

pub refuses_into : (P Q : Fault → Type 0) (refusal : Refusal) → ((f : Fault) → P f → Q f)
    → RefusesFor P refusal → RefusesFor Q refusal
refuses_into P Q (Refused number byte) into h = into (record { number = number; byte = byte }) h
refuses_into P Q Memory into h = tt

-- the first fault of axioms, if the first rule before them has this sort
abbrev pub FirstBehind : Signature → Option SortTree → List AxiomDeclaration → Option Fault → Type 0
FirstBehind sig first axioms r =
    IsFirstOfSequence (λ first a. FirstOfClass sig first a (axiom_class sig a))
    (λ first a. first_sort first (axiom_class sig a)) first axioms r

-- if the next axiom has no fault, the axioms after it decide
pub behind_clear : (sig : Signature) (first : Option SortTree) (a : AxiomDeclaration)
    (axioms : List AxiomDeclaration) (r : Option Fault)
    → FirstOfClass sig first a (axiom_class sig a) None
    → FirstBehind sig (first_sort first (axiom_class sig a)) axioms r
    → FirstBehind sig first (a ∷ axioms) r
behind_clear sig first a axioms None clear rest = (clear, rest)
behind_clear sig first a axioms (Some f) clear rest = inr (clear, rest)

-- if the next axiom has a fault, that is the first
pub behind_fault : (sig : Signature) (first : Option SortTree) (a : AxiomDeclaration)
    (axioms : List AxiomDeclaration) (f : Fault)
    → FirstOfClass sig first a (axiom_class sig a) (Some f)
    → FirstBehind sig first (a ∷ axioms) (Some f)
behind_fault sig first a axioms f is = inl is

-- ---- the sort of the first rule

-- the sort of a rule without faults is declared
declared_sort : (sig : Signature) (first : Option SortTree) (a : AxiomDeclaration) (w : Rewriting)
    → FirstOfRule sig first a w None → (n : ℕ) × (sort_number sig.sorts w.sort ≡ Some n)
declared_sort sig first a w clear = by_case (sort_number sig.sorts w.sort) refl where
  rest : List Fault
  rest =
      side_faults sig (sort_number sig.sorts w.sort) (left_of (rule_parts sig w))
      ++ (condition_faults sig (rule_parts sig w).condition
      ++ (side_faults sig (sort_number sig.sorts w.sort) (right_of (rule_parts sig w))
      ++ found_top_faults sig (sort_number sig.sorts w.sort) (found_part (rule_parts sig w).after)))

  fault : Fault
  fault = record { number = 6; byte = sort_place w.sort }

  by_case : (o : Option ℕ) → sort_number sig.sorts w.sort ≡ o
      → (n : ℕ) × (sort_number sig.sorts w.sort ≡ Some n)
  by_case (Some n) e = (n, e)
  by_case None e =
      absurd (clear.1.0 fault (subst
      (λ (o : Option ℕ). Contains (unless (is_some o) 6 (sort_place w.sort) ++ rest) fault)
      (sym e) (contains_here fault rest)))

no_rule_more : (sig : Signature) (axioms : List AxiomDeclaration) (a : AxiomDeclaration)
    → IsFirstSort sig axioms None → ((w : Rewriting) → axiom_class sig a ≡ rewrites w → ⊥)
    → IsFirstSort sig (axioms ++ a ∷ []) None
no_rule_more sig axioms a before none b there w class =
    elim (Contains-push_cases axioms a b there) [
      | inl old ↦ before b old w class
      | inr same ↦ none w
          (subst (λ (x : AxiomDeclaration). axiom_class sig x ≡ rewrites w) (sym same) class)
    ]

first_by : (sig : Signature) (axioms : List AxiomDeclaration) (a : AxiomDeclaration)
    (k : AxiomClass) → axiom_class sig a ≡ k → IsFirstSort sig axioms None
    → FirstOfClass sig None a k None → IsFirstSort sig (axioms ++ a ∷ []) (first_sort None k)
first_by sig axioms a (refused n) class before clear = absurd (let never : ⊥ = cc in never)
first_by sig axioms a orders_sorts class before clear =
    no_rule_more sig axioms a before
    (λ w f. let both : orders_sorts ≡ rewrites w = sym class ∙ f in let never : ⊥ = cc in never)
first_by sig axioms a (rewrites w) class before clear =
    (a, Contains-push axioms a, (w, class, refl), declared_sort sig None a w clear)
first_by sig axioms a (equates e) class before clear =
    no_rule_more sig axioms a before
    (λ w f. let both : equates e ≡ rewrites w = sym class ∙ f in let never : ⊥ = cc in never)
first_by sig axioms a passed_over class before clear =
    no_rule_more sig axioms a before
    (λ w f. let both : passed_over ≡ rewrites w = sym class ∙ f in let never : ⊥ = cc in never)

pub first_more : (sig : Signature) (axioms : List AxiomDeclaration) (first : Option SortTree)
    (a : AxiomDeclaration) → IsFirstSort sig axioms first
    → FirstOfClass sig first a (axiom_class sig a) None
    → IsFirstSort sig (axioms ++ a ∷ []) (first_sort first (axiom_class sig a))
first_more sig axioms None a before clear = first_by sig axioms a (axiom_class sig a) refl before
    clear
first_more sig axioms (Some s) a (b, there, is, declared) clear =
    (b, Contains-append_left axioms (a ∷ []) b there, is, declared)
