-- An accepted term has a sort, and no variable.
use Rattle.std.proofs.Common.{◌≡◌, ℕ, true, List, [], Option, Some, None, sym, ◌∙◌, subst}
use Rattle.std.specs.Prelude.{All}
use Rattle.std.proofs.lemmas.Bool.{false≢true, eqb-true}
use Rattle.term_core.specs.Patterns.{Pattern}
use Rattle.rule_core.specs.Sorting.{HasSort}
use Rattle.rule_core.specs.Theories.{RewriteTheory}
use Rattle.rule_core.specs.WellSorted.{IsSignature, IsStart, IsRuleOf}
use Rattle.rule_core.specs.declared.signature.Signature.{Signature}
use Rattle.std.proofs.lemmas.List.Elements.{All-nil}
use Rattle.kore_check.specs.Folds.{unfolded}
use Rattle.kore_check.specs.PatternFaults.{pattern_faults, all_faults}
use Rattle.kore_check.specs.PatternSorts.{sort_of_pattern}
use Rattle.kore_check.proofs.BuildLaws.{unless_empty}
use Rattle.kore_check.proofs.CheckLaws.{faultless_sorted, some_or_none}
use Rattle.kore_check.proofs.SortedLaws.{meanings_are_sorted}
use Rattle.kore_axioms.proofs.BoundLaws.{no_faults}
use Rattle.kore_axioms.proofs.FirstLaws.{none_by_byte}
use Rattle.kore_equations.specs.ReadableEquations.{is_one_sort}
use Rattle.kore_rules.specs.Acceptance.{IsAcceptedTerm}
use Rattle.kore_rules.specs.FirstRefusal.{start_faults}
use Rattle.kore_rules.specs.RefusedTexts.{IsSortOfRules}
use Rattle.kore_rules.proofs.MeaningSorts.{means_form}

-- this is the sort of the rules, if there is one
abbrev pub IsOfTop : Option ℕ → ℕ → Type 0
IsOfTop None s = Unit {0}
IsOfTop (Some t) s = t ≡ s

one_sort : (o : Option ℕ) (s t : ℕ) → o ≡ Some s → is_one_sort o (Some t) ≡ true → t ≡ s
one_sort None s t e h = absurd (false≢true h)
one_sort (Some n) s t e h = let same : n ≡ s = cc in sym (eqb-true n t h) ∙ same

of_top : (sig : Signature) (top : Option ℕ) (u : _) (s : ℕ) → sort_of_pattern sig u ≡ Some s
    → start_faults sig top u ≡ [] → IsOfTop top s
of_top sig None u s e h = tt
of_top sig (Some t) u s e h =
    one_sort (sort_of_pattern sig u) s t e
    (unless_empty (is_one_sort (sort_of_pattern sig u) (Some t)) 19 0 h)

pub accepted_start : (sig : Signature) (top : Option ℕ) (bytes : List ℕ) (start : Pattern)
    → IsSignature sig → IsAcceptedTerm sig top bytes start
    → (s : ℕ) × HasSort sig [] start s × IsOfTop top s
accepted_start sig top bytes start good is =
    let u = unfolded is.term in
    let clear : pattern_faults sig u ≡ [] =
    (no_faults _ _ (none_by_byte (all_faults sig u) is.no_fault.1.0)).1 in
    let own : (w : ℕ) × (sort_of_pattern sig u ≡ Some w) =
    some_or_none (sort_of_pattern sig u)
    (faultless_sorted sig u good (means_form sig [] is.means) clear) in (
      own.0,
      meanings_are_sorted sig [] u start own.0 good clear is.means own.1,
      of_top sig top u own.0 own.1 (none_by_byte (start_faults sig top u) is.no_fault.1.1),
    )

rules_of_top : (theory : RewriteTheory) (top : Option ℕ) (s : ℕ) → IsSortOfRules theory top
    → IsOfTop top s → All (IsRuleOf theory.sig s) theory.rules
rules_of_top theory None s none of =
    subst (All (IsRuleOf theory.sig s)) (sym none) (All-nil (IsRuleOf theory.sig s))
rules_of_top theory (Some t) s all of =
    subst (λ (n : ℕ). All (IsRuleOf theory.sig n) theory.rules) of all

-- an accepted term is a start of the program
pub accepted_is_start : (theory : RewriteTheory) (top : Option ℕ) (bytes : List ℕ) (start : Pattern)
    → IsSignature theory.sig → IsSortOfRules theory top → IsAcceptedTerm theory.sig top bytes start
    → IsStart theory start
accepted_is_start theory top bytes start good rules is =
    let found = accepted_start theory.sig top bytes start good is in
    (found.0, found.1, rules_of_top theory top found.0 rules found.2)
