-- The first fault of a rule, from the first faults of its stages.
use Rattle.std.proofs.Common.{◌≡◌, ℕ, Bool, true, false, ◌&&◌, List, [], ◌∷◌, map, Option, Some}
use Rattle.std.proofs.Common.{None, ⊎_elim, inl, inr, refl, ap, sym, ◌∙◌, subst}
use Rattle.std.specs.Prelude.{Contains, not, option_map}
use Rattle.kore_text.specs.Trees.{SortTree, AxiomDeclaration}
use Rattle.term_core.specs.RulePatterns.{plain_pattern}
use Rattle.rule_core.specs.ProgramView.{sorts_of}
use Rattle.rule_core.specs.declared.rules.VarInfo.{VarInfo}
use Rattle.rule_core.specs.declared.signature.Signature.{Signature}
use Rattle.kore_check.specs.Folds.{unfolded}
use Rattle.kore_check.specs.PatternMeanings.{with_variables, Means}
use Rattle.kore_check.specs.PartNames.{names_in}
use Rattle.kore_check.specs.VariableNames.{named_sorts}
use Rattle.kore_shapes.specs.Shapes.{Rewriting}
use Rattle.kore_axioms.specs.AxiomClasses.{rewrites, axiom_class}
use Rattle.kore_axioms.specs.AxiomMeanings.{MeansTest}
use Rattle.kore_axioms.specs.NamedRules.{MeansNamedRule}
use Rattle.kore_axioms.specs.Conditions.{tested_pattern}
use Rattle.kore_axioms.specs.Priorities.{priority_of}
use Rattle.kore_sig.specs.FirstFault.{Fault}
use Rattle.kore_sig.specs.Noted.{first_by_number}
use Rattle.kore_sig.proofs.FirstLaws.{contains_none}
use Rattle.kore_axioms.specs.BuiltRules.{FirstOfShape, IsBuiltOf}
use Rattle.kore_axioms.specs.Refusals.{Refuses}
use Rattle.kore_axioms.specs.RuleForms.{form_faults}
use Rattle.kore_axioms.specs.RuleFaults.{sorted_faults, use_faults, listed_pattern, is_bound}
use Rattle.kore_axioms.specs.RuleFaults.{FirstOfParts}
use Rattle.kore_axioms.specs.RuleParts.{RuleParts, rule_parts, left_of, right_of}
use Rattle.kore_axioms.specs.declared.refusals.Refusal.{Refusal}
use Rattle.kore_axioms.specs.declared.refusals.Refusal.TheVariants.{Refused, Memory}
use Rattle.kore_axioms.specs.declared.rules.RulePatterns.{RulePatterns}
use Rattle.kore_axioms.proofs.FirstLaws.{by_number_first, none_by_number}
use Rattle.kore_axioms.proofs.RuleLaws.{not_raised}

-- a refusal for the shape is a refusal for the rule
pub shape_refused : (sig : Signature) (first : Option SortTree) (a : AxiomDeclaration)
    (s : SortTree) (w : RuleParts) (r : Refusal) → Refuses (FirstOfShape sig a s w) r
    → Refuses (FirstOfParts sig first a s w) r
shape_refused sig first a s w (Refused number byte) h =
    ⊎_elim (λ form. inl form) (λ later. inr (later.0, inl later.1)) h
shape_refused sig first a s w Memory h = tt

no_first : (fs : List Fault) → fs ≡ [] → (f : Fault) → Contains fs f → ⊥
no_first fs e = λ f has. contains_none f (subst (λ (gs : List Fault). Contains gs f) e has)

-- if the shape has no fault, the first fault of the uses is that of the rule
pub uses_first : (sig : Signature) (first : Option SortTree) (a : AxiomDeclaration) (s : SortTree)
    (w : RuleParts) (r : Option Fault) → form_faults a w ≡ [] → sorted_faults sig s w ≡ []
    → r ≡ first_by_number (use_faults sig first a.at s w) → FirstOfParts sig first a s w r
uses_first sig first a s w None form sorts e = (
  no_first (form_faults a w) form,
  (
    no_first (sorted_faults sig s w) sorts,
    by_number_first (use_faults sig first a.at s w) None e,
  ),
)
uses_first sig first a s w (Some f) form sorts e =
    inr (
      no_first (form_faults a w) form,
      inr (
        no_first (sorted_faults sig s w) sorts,
        by_number_first (use_faults sig first a.at s w) (Some f) e,
      ),
    )

not_false : (b : Bool) → not b ≡ false → b ≡ true
not_false true h = refl
not_false false h = sym h

-- if the uses have no fault, all variables are bound
pub all_bound : (sig : Signature) (first : Option SortTree) (at : ℕ) (s : SortTree) (w : RuleParts)
    → first_by_number (use_faults sig first at s w) ≡ None
    → (is_bound (listed_pattern (left_of w)) (tested_pattern w.condition)
    && is_bound (listed_pattern (left_of w)) (right_of w)) ≡ true
all_bound sig first at s w e =
    let one = not_raised _ 12 at _ (none_by_number (use_faults sig first at s w) e) in
    let two = not_raised _ 14 at _ one.1 in
    let three =
    not_raised (not (is_bound (listed_pattern
    (left_of w)) (tested_pattern w.condition)
    && is_bound (listed_pattern (left_of w)) (right_of w))) 18
    at _ two.1 in
    not_false _ three.0

sorts_named : (vars : List VarInfo)
    → map (λ (v : List ℕ × ℕ). v.1) (named_sorts vars) ≡ sorts_of vars
sorts_named [] = refl
sorts_named (v ∷ vars) = ap (λ (ss : List ℕ). v.sort.0 ∷ ss) (sorts_named vars)

-- the patterns that are built of bound parts are the rule that the axiom means
pub rule_meant : (sig : Signature) (a : AxiomDeclaration) (v : Rewriting) (made : RulePatterns)
    (n : ℕ) → axiom_class sig a ≡ rewrites v → IsBuiltOf sig (rule_parts sig v) made
    → made.bound ≡ true → n ≡ priority_of a.attributes
    → MeansNamedRule sig a (record {
      at = a.at;
      left = made.left;
      named = made.named;
      cond = made.cond;
      right = made.right;
      vars = made.vars;
      priority = n;
    })
rule_meant sig a v made n class b bound stated = record {
  means = record {
    shape = v;
    class = class;
    left = b.left;
    is_left = b.is_left;
    right = b.right;
    is_right = b.is_right;
    variables = with_variables sig [] (unfolded b.left);
    numbered = refl;
    means_left =
        subst (λ (vs : List (List ℕ × ℕ)). Means sig vs (unfolded b.left) (plain_pattern made.left))
        (b.numbered bound) (b.means_left bound);
    names =
        b.names bound ∙ ap (λ (vs : List (List ℕ × ℕ)). names_in sig vs (0 ∷ []) (unfolded b.left))
        (b.numbered bound);
    means_condition =
        subst (λ (vs : List (List ℕ × ℕ)).
        MeansTest sig vs (tested_pattern (rule_parts sig v).condition)
        (option_map plain_pattern made.cond)) (b.numbered bound)
        (b.means_condition bound);
    means_right =
        subst (λ (vs : List (List ℕ × ℕ)).
        Means sig vs (unfolded b.right) (plain_pattern made.right)) (b.numbered bound)
        (b.means_right bound);
    sorts =
        sym (sorts_named made.vars.items) ∙ ap (map (λ (v : List ℕ × ℕ). v.1)) (b.numbered bound);
    priority = stated;
    place = refl;
  };
  names = b.numbered bound;
}
