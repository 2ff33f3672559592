-- When a guard repeats an equation: if and only if the equation is built of the same patterns.
use Rattle.std.proofs.Common.{◌≡◌, ℕ, List, [], ◌∷◌, map, Option, Some, None, true, false}
use Rattle.std.proofs.Common.{refl, sym, ◌∙◌, ap}
use Rattle.std.proofs.lemmas.Bool.{false≢true}
use Rattle.std.proofs.Common.{subst}
use Rattle.std.specs.Prelude.{option_map, All}
use Rattle.std.specs.List.{AllZip}
use Rattle.std.proofs.lemmas.List.Elements.{All-nil, All-cons}
use Rattle.kore_text.specs.Trees.{SortTree}
use Rattle.term_core.specs.Patterns.{Pattern, Patterns}
use Rattle.term_core.specs.RulePatterns.{plain_pattern}
use Rattle.rule_core.specs.Rules.{Equation, Guard}
use Rattle.rule_core.specs.declared.rules.Guard.{Guard as MadeGuard}
use Rattle.rule_core.specs.declared.signature.Signature.{Signature}
use Rattle.rule_core.specs.declared.signature.SymInfo.{SymInfo}
use Rattle.kore_check.specs.PartNames.{names_in_all}
use Rattle.kore_check.specs.PatternMeanings.{with_all_variables, AllMean}
use Rattle.kore_shapes.specs.LastResorts.{GuardParts}
use Rattle.kore_axioms.specs.AxiomMeanings.{MeansTest}
use Rattle.kore_axioms.specs.Conditions.{tested_pattern}
use Rattle.kore_equations.specs.ReadableSides.{all_read}
use Rattle.kore_equations.specs.Guards.{condition_of_guard, QuantifyEach, Repeats, MeansGuard}
use Rattle.kore_equations.specs.Guards.{RepeatsSome}
use Rattle.kore_equations.specs.GuardReadings.{AreSame, IsGuardOf, IsGuardRead}
use Rattle.kore_equations.specs.ClearEquations.{are_clear}
use Rattle.kore_equations.specs.BuiltEquations.{AreBuilt, AreBuiltOf}
use Rattle.kore_equations.specs.declared.patterns.Sides.{Sides}
use Rattle.kore_equations.proofs.ClearLaws.{clear_readable, readable_clear}
use Rattle.kore_equations.proofs.OneMeaning.{all_mean_one, test_means_one}

-- what is built of a guard's patterns
abbrev pub IsBuiltGuard : Signature → SortTree → GuardParts → Sides → Type 0
IsBuiltGuard sig over g made = AreBuiltOf sig g.patterns (condition_of_guard sig over g) made

pub sides_repeat : (sig : Signature) (info : SymInfo) (over : SortTree) (g : GuardParts)
    (e : Equation) (order : List ℕ) (made : Sides)
    → are_clear sig info g.patterns (condition_of_guard sig over g) ≡ true
    → IsBuiltGuard sig over g made → QuantifyEach sig made.vars g.variables order
    → AreSame e made → Repeats sig info over g e order
sides_repeat sig info over g e order made clear b quantified same = record {
  readable = clear_readable sig info g.patterns (condition_of_guard sig over g) clear b.bound;
  variables = with_all_variables sig [] (all_read g.patterns);
  numbered = refl;
  sorts = same.variables.sorts ∙ ap (map (λ (v : List ℕ × ℕ). v.1)) b.numbered;
  means_arguments =
      subst (λ (ps : Patterns).
      AllMean sig (with_all_variables sig [] (all_read g.patterns)) (all_read g.patterns) ps)
      (sym same.patterns.arguments) b.means_arguments;
  names = same.variables.names ∙ b.names;
  means_condition =
      subst (λ (o : Option Pattern). MeansTest sig (with_all_variables sig [] (all_read g.patterns))
      (tested_pattern (condition_of_guard sig over g)) o) (sym same.patterns.condition) b.means_condition;
  quantified =
      subst (λ (vs : List (List ℕ × ℕ)). QuantifyEach sig vs g.variables order) b.numbered quantified;
}

-- ---- and back

pub repeated_is_same : (sig : Signature) (info : SymInfo) (over : SortTree) (g : GuardParts)
    (e : Equation) (order : List ℕ) (made : Sides) → IsBuiltGuard sig over g made
    → Repeats sig info over g e order → AreSame e made
repeated_is_same sig info over g e order made b r =
    let vs : List (List ℕ × ℕ) = with_all_variables sig [] (all_read g.patterns) in
    record {
      variables = record {
        sorts =
            r.sorts ∙ ap (map (λ (v : List ℕ × ℕ). v.1)) r.numbered
            ∙ sym (ap (map (λ (v : List ℕ × ℕ). v.1)) b.numbered);
        names =
            r.names
            ∙ ap (λ (vs : List (List ℕ × ℕ)). names_in_all sig vs [] 0 (all_read g.patterns))
            r.numbered
            ∙ sym b.names;
      };
      patterns = record {
        arguments =
            all_mean_one sig vs
            (subst (λ (vs : List (List ℕ × ℕ)). AllMean sig vs (all_read g.patterns) e.arguments)
            r.numbered r.means_arguments) b.means_arguments;
        condition =
            test_means_one sig vs (tested_pattern (condition_of_guard sig over g)) e.condition
            (option_map plain_pattern made.cond)
            (subst (λ (vs : List (List ℕ × ℕ)). MeansTest sig vs
            (tested_pattern (condition_of_guard sig over g)) e.condition) r.numbered
            r.means_condition) b.means_condition;
      };
    }

pub repeated_quantifies : (sig : Signature) (info : SymInfo) (over : SortTree) (g : GuardParts)
    (e : Equation) (order : List ℕ) (made : Sides) → IsBuiltGuard sig over g made
    → Repeats sig info over g e order → QuantifyEach sig made.vars g.variables order
repeated_quantifies sig info over g e order made b r =
    subst (λ (vs : List (List ℕ × ℕ)). QuantifyEach sig vs g.variables order)
    (r.numbered ∙ sym b.numbered) r.quantified

-- ---- a guard

pub unclear_repeats_none : (sig : Signature) (info : SymInfo) (over : SortTree) (es : List Equation)
    (g : GuardParts) → are_clear sig info g.patterns (condition_of_guard sig over g) ≡ false
    → RepeatsSome sig info over es g → ⊥
unclear_repeats_none sig info over es g unclear (i, e, order, there, r) =
    false≢true (sym unclear
    ∙ (readable_clear sig info g.patterns (condition_of_guard sig over g) r.readable).0)

pub unbuilt_repeats_none : (sig : Signature) (info : SymInfo) (over : SortTree) (es : List Equation)
    (g : GuardParts) → AreBuilt sig g.patterns (condition_of_guard sig over g) None
    → RepeatsSome sig info over es g → ⊥
unbuilt_repeats_none sig info over es g unbound (i, e, order, there, r) =
    false≢true (sym unbound
    ∙ (readable_clear sig info g.patterns (condition_of_guard sig over g) r.readable).1)

pub guard_read : (sig : Signature) (info : SymInfo) (over : SortTree) (es : List Equation)
    (g : GuardParts) (sides : Sides) (o : Option MadeGuard)
    → are_clear sig info g.patterns (condition_of_guard sig over g) ≡ true
    → IsBuiltGuard sig over g sides → IsGuardOf sig es g sides o → IsGuardRead sig info over es g o
guard_read sig info over es g sides None clear b none = λ (i, e, order, there, r).
    none i e order there (repeated_is_same sig info over g e order sides b r)
    (repeated_quantifies sig info over g e order sides b r)
guard_read sig info over es g sides (Some made) clear b (quantified, found) = record {
  equation = found.0.0;
  listed = found.0.1;
  repeats =
      sides_repeat sig info over g found.0.0 made.order.items sides clear b quantified found.0.2;
  first = λ i e order low there r.
      found.1 i e low there (repeated_is_same sig info over g e order sides b r);
}

-- ---- all guards

pub guards_repeat : (sig : Signature) (info : SymInfo) (over : SortTree) (es : List Equation)
    (gs : List GuardParts) (made : List Guard) → AllZip (MeansGuard sig info over es) gs made
    → All (RepeatsSome sig info over es) gs
guards_repeat sig info over es [] [] all = All-nil (RepeatsSome sig info over es)
guards_repeat sig info over es [] (m ∷ ms) all = absurd all
guards_repeat sig info over es (g ∷ gs) [] all = absurd all
guards_repeat sig info over es (g ∷ gs) (m ∷ ms) all =
    All-cons (RepeatsSome sig info over es) g gs
    (m.equation, all.0.equation, m.order, all.0.listed, all.0.repeats)
    (guards_repeat sig info over es gs ms all.1)
