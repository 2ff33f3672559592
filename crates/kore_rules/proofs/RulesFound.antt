-- What an axiom is read as: a rule if it is one and has no fault, or an equation of its function,
-- or an equation that is not readable.
use Rattle.std.proofs.Common.{◌≡◌, ℕ, Bool, true, false, List, [], ◌∷◌, map, length, nat_eq}
use Rattle.std.proofs.Common.{Option}
use Rattle.std.proofs.Common.{Some, None, refl, sym, ap, ◌∙◌, subst, inl, inr}
use Rattle.std.specs.Prelude.{◌⊎◌, ◌&&◌}
use Rattle.std.specs.Str.{bytes_eq}
use Rattle.std.proofs.lemmas.Bool.{false≢true}
use Rattle.std.proofs.lemmas.Slice.Eq.{bytes_eq-Decides}
use Rattle.kore_text.specs.Trees.{SortTree, PatternTree, AxiomDeclaration}
use Rattle.term_core.specs.Patterns.{Pattern}
use Rattle.rule_core.specs.Rules.{RewriteRule, Equation, Guard}
use Rattle.rule_core.specs.WellSorted.{IsSignature}
use Rattle.rule_core.specs.declared.signature.Signature.{Signature}
use Rattle.rule_core.specs.declared.signature.SymInfo.{SymInfo}
use Rattle.kore_sig.specs.Noted.{first_by_number}
use Rattle.kore_check.specs.Building.{Extends, IsFaultless, AreFaultless}
use Rattle.kore_check.specs.Folds.{Unfoldeds, no_more, and_more, unfolded}
use Rattle.kore_check.specs.PatternMeanings.{with_variables, with_all_variables}
use Rattle.kore_check.specs.PatternSorts.{symbol_named}
use Rattle.kore_check.specs.PartNames.{names_in, names_in_all}
use Rattle.kore_check.proofs.BuildLaws.{extends-refl}
use Rattle.kore_shapes.specs.Shapes.{Rewriting}
use Rattle.kore_shapes.specs.Statements.{StatedEquation}
use Rattle.kore_shapes.specs.EquationForms.{EquationParts}
use Rattle.kore_axioms.specs.AxiomClasses.{AxiomClass, refused, orders_sorts, rewrites, equates}
use Rattle.kore_axioms.specs.AxiomClasses.{passed_over, axiom_class}
use Rattle.kore_axioms.specs.AxiomMeanings.{MeansTest, MeansRule}
use Rattle.kore_axioms.specs.BuiltRules.{IsFine}
use Rattle.kore_axioms.specs.NamedRules.{with_some_variables}
use Rattle.kore_axioms.specs.Conditions.{tested_pattern}
use Rattle.kore_axioms.specs.Priorities.{priority_of}
use Rattle.kore_axioms.specs.RuleFaults.{FirstOfRule, listed_pattern, is_bound, sorted_faults}
use Rattle.kore_axioms.specs.RuleFaults.{use_faults}
use Rattle.kore_axioms.specs.RuleForms.{form_faults}
use Rattle.kore_axioms.specs.RuleParts.{RuleParts, rule_parts, left_of, right_of}
use Rattle.kore_axioms.proofs.BuiltLaws.{bound_counted, bound_all}
use Rattle.kore_axioms.proofs.CheckedLaws.{all_bound}
use Rattle.kore_axioms.proofs.FirstLaws.{none_by_byte}
use Rattle.kore_axioms.proofs.RuleLaws.{fine_rule}
use Rattle.kore_equations.specs.BuiltEquations.{IsFine as IsFinePattern, AreFine, IsFineTest}
use Rattle.kore_equations.specs.BuiltEquations.{AreFineSides}
use Rattle.kore_equations.specs.ClearEquations.{are_clear_parts, clear_parts, are_bound}
use Rattle.kore_equations.specs.EquationMeanings.{MeansParts, MeansEquation, IsUnreadable}
use Rattle.kore_equations.specs.ReadableSides.{all_read}
use Rattle.kore_equations.specs.ReadableEquations.{IsReadable, condition_of_equation}
use Rattle.kore_equations.proofs.ClassLaws.{function_declared}
use Rattle.kore_equations.proofs.ClearParts.{clear_is, is_readable, none_unreadable}
use Rattle.kore_equations.proofs.ClearParts.{unbound_unreadable, fine_of_parts}
use Rattle.kore_rules.proofs.MeaningsAreOne.{equates_one, readable_or_not}
use Rattle.kore_rules.proofs.MeaningsFound.{Variables, HasMeaning, meaning, all_meanings}

-- ---- conditions and right sides

-- what a condition means, if there is one
test_meaning : (sig : Signature) → IsSignature sig → (old : Variables) (b : Option PatternTree)
    → ((p : PatternTree) → b ≡ Some p → IsFaultless sig (unfolded p))
    → (o : Option Pattern)
    × ((more : Variables) → Extends (with_some_variables sig old b) more
    → MeansTest sig more b o)
test_meaning sig sorted old None good = (None, λ more ext. tt)
test_meaning sig sorted old (Some p) good =
    let m = meaning sig sorted (unfolded p) old (good p refl) in (Some m.0, m.1)

extends_same : (vars more : Variables) → vars ≡ more → Extends vars more
extends_same vars more same = subst (λ (vs : Variables). Extends vars vs) same (extends-refl vars)

-- the condition and the right side mean something with these variables, if they have no others
pub record AreMeant (sig : Signature) (vars : Variables) (test : Option PatternTree)
    (right : PatternTree) : Type 0 where
  pub condition : Option Pattern
  pub means_condition : MeansTest sig vars test condition
  pub right_pattern : HasMeaning sig vars (unfolded right)

pub are_meant : (sig : Signature) → IsSignature sig
    → (qs : Unfoldeds) (test : Option PatternTree) (right : PatternTree)
    → ((p : PatternTree) → test ≡ Some p → IsFaultless sig (unfolded p))
    → IsFaultless sig (unfolded right) → (is_bound qs test && is_bound qs (Some right)) ≡ true
    → AreMeant sig (with_all_variables sig [] qs) test right
are_meant sig sorted qs test right good fine bound =
    let vars : Variables = with_all_variables sig [] qs in
    let mid : Variables = with_some_variables sig vars test in
    let all : Variables = with_variables sig mid (unfolded right) in
    let counted : nat_eq (length all) (length vars) ≡ true =
    bound_counted sig qs test right (λ p e. (good p e).0) fine.0 ∙ bound in
    let same = bound_all sig qs test right (λ p e. (good p e).0) fine.0 counted in
    let condition = test_meaning sig sorted vars test good in
    let meant = meaning sig sorted (unfolded right) mid fine in record {
      condition = condition.0;
      means_condition = condition.1 vars (extends_same mid vars same.0);
      right_pattern = subst (λ (vs : Variables). HasMeaning sig vs (unfolded right)) same.1 meant;
    }

-- ---- rules

pub rule_found : (sig : Signature) (first : Option SortTree) (a : AxiomDeclaration) (w : Rewriting)
    → IsSignature sig → axiom_class sig a ≡ rewrites w → FirstOfRule sig first a w None
    → (rule : RewriteRule) × MeansRule sig a rule
rule_found sig first a w sorted class clear =
    let parts : RuleParts = rule_parts sig w in
    let f : IsFine sig parts =
    fine_rule sig a w class (none_by_byte (form_faults a parts) clear.0)
    (none_by_byte (sorted_faults sig w.sort parts) clear.1.0) in
    let none : use_faults sig first a.at w.sort parts ≡ [] =
    none_by_byte (use_faults sig first a.at w.sort parts) clear.1.1 in
    let bound : (is_bound (listed_pattern (left_of parts)) (tested_pattern parts.condition)
    && is_bound (listed_pattern (left_of parts)) (right_of parts)) ≡ true =
    all_bound sig first a.at w.sort parts (ap first_by_number none) in
    let bound_parts : (is_bound (listed_pattern (Some f.left)) (tested_pattern parts.condition)
    && is_bound (listed_pattern (Some f.left)) (Some f.right)) ≡ true =
    ap (λ (o : Option PatternTree).
    is_bound (listed_pattern (Some f.left)) (tested_pattern parts.condition)
    && is_bound (listed_pattern (Some f.left)) o) (sym f.is_right)
    ∙ ap (λ (o : Option PatternTree). is_bound (listed_pattern o) (tested_pattern parts.condition)
    && is_bound (listed_pattern o) (right_of parts)) (sym f.is_left) ∙ bound in
    let vars : Variables = with_variables sig [] (unfolded f.left) in
    let left : HasMeaning sig vars (unfolded f.left) =
    meaning sig sorted (unfolded f.left) [] (f.left_clear, f.left_form) in
    let meant : AreMeant sig vars (tested_pattern parts.condition) f.right =
    are_meant sig sorted (listed_pattern (Some f.left)) (tested_pattern parts.condition) f.right
    (λ p e. (f.test_clear p e, f.test_form p e)) (f.right_clear, f.right_form) bound_parts in (
      record {
        left = left.0;
        names = names_in sig vars (0 ∷ []) (unfolded f.left);
        condition = meant.condition;
        right = meant.right_pattern.0;
        variables = map (λ (v : List ℕ × ℕ). v.1) vars;
        priority = priority_of a.attributes;
        place = a.at;
      },
      record {
        shape = w;
        class = class;
        left = f.left;
        is_left = f.is_left;
        right = f.right;
        is_right = f.is_right;
        variables = vars;
        numbered = refl;
        means_left = left.1 vars (extends-refl vars);
        names = refl;
        means_condition = meant.means_condition;
        means_right = meant.right_pattern.1 vars (extends-refl vars);
        sorts = refl;
        priority = refl;
        place = refl;
      },
    )

-- ---- equations

pub are_faultless : (sig : Signature) (us : Unfoldeds) → AreFine sig us → AreFaultless sig us
are_faultless sig no_more h = tt
are_faultless sig (and_more u us) h = ((h.0.clear, h.0.form), are_faultless sig us h.1)

-- the axiom is an equation of its function, or is not readable
abbrev pub IsRead : Signature → AxiomDeclaration → List ℕ → Type 0
IsRead sig a f = ((e : Equation) × MeansEquation sig f a e) ⊎ IsUnreadable sig f a

pub tested_fine : (sig : Signature) (o : Option PatternTree) → IsFineTest sig o → (p : PatternTree)
    → o ≡ Some p → IsFaultless sig (unfolded p)
tested_fine sig None fine p is = absurd (let never : ⊥ = cc in never)
tested_fine sig (Some q) fine p is =
    subst (λ (x : PatternTree). IsFaultless sig (unfolded x)) (let same : q ≡ p = cc in same)
    (fine.clear, fine.form)

-- the equation of parts that are clear and bound, with these guards
pub record IsMadeOfParts (sig : Signature) (a : AxiomDeclaration) (e : StatedEquation)
    (q : EquationParts) (guards : Option (List Guard)) : Type 0 where
  pub equation : Equation
  pub means : MeansParts sig a e q equation
  pub last_resort : equation.last_resort ≡ guards

pub parts_found : (sig : Signature) (a : AxiomDeclaration) (e : StatedEquation) (info : SymInfo)
    (q : EquationParts) (guards : Option (List Guard)) → IsSignature sig
    → are_clear_parts sig a info e q ≡ true → are_bound sig e q ≡ true
    → IsMadeOfParts sig a e q guards
parts_found sig a e info q guards sorted clear bound =
    let c = condition_of_equation sig e q in
    let qs : Unfoldeds = all_read q.patterns in
    let forms = fine_of_parts sig a info e q clear in
    let f : AreFineSides sig q.patterns c = forms.sides in
    let fine : IsFinePattern sig (unfolded q.right) = forms.right in
    let vars : Variables = with_all_variables sig [] qs in
    let arguments = all_meanings sig sorted qs [] (are_faultless sig qs f.patterns) in
    let meant : AreMeant sig vars (tested_pattern c) q.right =
    are_meant sig sorted qs (tested_pattern c) q.right (tested_fine sig (tested_pattern c) f.test)
    (fine.clear, fine.form) bound in
    record {
      equation = record {
        parameters = length q.parameters;
        arguments = arguments.0;
        names = names_in_all sig vars [] 0 qs;
        last_resort = guards;
        condition = meant.condition;
        right = meant.right_pattern.0;
        variables = map (λ (v : List ℕ × ℕ). v.1) vars;
        priority = priority_of a.attributes;
        place = a.at;
      };
      means = record {
        variables = vars;
        numbered = refl;
        parameters = refl;
        means_arguments = arguments.1 vars (extends-refl vars);
        names = refl;
        means_condition = meant.means_condition;
        means_right = meant.right_pattern.1 vars (extends-refl vars);
        sorts = refl;
        priority = refl;
        place = refl;
      };
      last_resort = refl;
    }

equation_of_parts : (sig : Signature) (a : AxiomDeclaration) (e : StatedEquation) (info : SymInfo)
    (q : EquationParts) → IsSignature sig → axiom_class sig a ≡ equates e
    → symbol_named sig e.function ≡ Some info → clear_parts sig a info e ≡ Some q
    → are_bound sig e q ≡ true → (x : Equation) × MeansEquation sig e.function a x
equation_of_parts sig a e info q sorted class declared clear bound =
    let made : IsMadeOfParts sig a e q None =
    parts_found sig a e info q None sorted (clear_is sig a info e q clear).clear bound in (
      made.equation,
      record {
        stated = e;
        info = info;
        states = record { class = class; function = refl; declared = declared };
        parts = q;
        readable = is_readable sig a info e q clear bound;
        means = made.means;
        last_resort = made.last_resort;
      },
    )

pub equation_read : (sig : Signature) (a : AxiomDeclaration) (e : StatedEquation) → IsSignature sig
    → axiom_class sig a ≡ equates e → IsRead sig a e.function
equation_read sig a e sorted class = by_parts (clear_parts sig a declared.0 e) refl where
  declared : (info : SymInfo) × (symbol_named sig e.function ≡ Some info)
  declared = function_declared sig a e class

  unreadable : ((q : EquationParts) → IsReadable sig a declared.0 e q → ⊥)
      → IsUnreadable sig e.function a
  unreadable never = record {
    stated = e;
    info = declared.0;
    states = record { class = class; function = refl; declared = declared.1 };
    unreadable = never;
  }

  by_bound : (q : EquationParts) → clear_parts sig a declared.0 e ≡ Some q → (b : Bool)
      → are_bound sig e q ≡ b → IsRead sig a e.function
  by_bound q clear true bound =
      inl (equation_of_parts sig a e declared.0 q sorted class declared.1 clear bound)
  by_bound q clear false bound =
      inr (unreadable (unbound_unreadable sig a declared.0 e q clear bound))

  by_parts : (o : Option EquationParts) → clear_parts sig a declared.0 e ≡ o
      → IsRead sig a e.function
  by_parts None clear = inr (unreadable (none_unreadable sig a declared.0 e clear))
  by_parts (Some q) clear = by_bound q clear (are_bound sig e q) refl

-- ---- what an axiom is not

-- there is a thing of this kind, or there is none
abbrev pub Decided : {X : Type 0} → (X → Type 0) → Type 0
Decided {X} P = ((x : X) × P x) ⊎ ((x : X) → P x → ⊥)

-- an axiom of another class or of another function is not an equation of this one, readable or not
abbrev IsNoOf : Signature → List ℕ → AxiomDeclaration → Type 0
IsNoOf sig f a = ((e : Equation) → MeansEquation sig f a e → ⊥) × (IsUnreadable sig f a → ⊥)

other_class : (sig : Signature) (f : List ℕ) (a : AxiomDeclaration) (k : AxiomClass)
    → axiom_class sig a ≡ k → ((e : StatedEquation) → k ≡ equates e → ⊥) → IsNoOf sig f a
other_class sig f a k class other =
    (λ e is. other is.stated (sym class ∙ is.states.class), λ is. other is.stated (sym class ∙ is.states.class))

other_function : (sig : Signature) (f : List ℕ) (a : AxiomDeclaration) (e : StatedEquation)
    → axiom_class sig a ≡ equates e → (e.function ≡ f → ⊥) → IsNoOf sig f a
other_function sig f a e class other = (
  λ x is. other (ap (λ (s : StatedEquation). s.function) (equates_one e is.stated (sym class
      ∙ is.states.class))
      ∙ is.states.function),
  λ is. other (ap (λ (s : StatedEquation). s.function) (equates_one e is.stated (sym class
      ∙ is.states.class))
      ∙ is.states.function),
)

pub read_or_not : (sig : Signature) (f : List ℕ) (a : AxiomDeclaration) → IsSignature sig
    → IsRead sig a f ⊎ IsNoOf sig f a
read_or_not sig f a sorted = by_class (axiom_class sig a) refl where
  by_function : (e : StatedEquation) → axiom_class sig a ≡ equates e → (b : Bool)
      → bytes_eq e.function f ≡ b → IsRead sig a f ⊎ IsNoOf sig f a
  by_function e class true same =
      inl (subst (IsRead sig a) ((bytes_eq-Decides e.function f).0 same)
      (equation_read sig a e sorted class))
  by_function e class false other =
      inr (other_function sig f a e class
      (λ same. false≢true (sym other ∙ (bytes_eq-Decides e.function f).1 same)))

  by_class : (k : AxiomClass) → axiom_class sig a ≡ k → IsRead sig a f ⊎ IsNoOf sig f a
  by_class (refused n) class =
      inr (other_class sig f a (refused n) class (λ e h. let never : ⊥ = cc in never))
  by_class orders_sorts class =
      inr (other_class sig f a orders_sorts class (λ e h. let never : ⊥ = cc in never))
  by_class (rewrites w) class =
      inr (other_class sig f a (rewrites w) class (λ e h. let never : ⊥ = cc in never))
  by_class (equates e) class = by_function e class (bytes_eq e.function f) refl
  by_class passed_over class =
      inr (other_class sig f a passed_over class (λ e h. let never : ⊥ = cc in never))

pub equation_decided : (sig : Signature) (f : List ℕ) (a : AxiomDeclaration) → IsSignature sig
    → Decided (MeansEquation sig f a)
equation_decided sig f a sorted = by_reading (read_or_not sig f a sorted) where
  by_reading : IsRead sig a f ⊎ IsNoOf sig f a → Decided (MeansEquation sig f a)
  by_reading (inl (inl found)) = inl found
  by_reading (inl (inr bad)) = inr (λ e is. readable_or_not sig f a e is bad)
  by_reading (inr none) = inr none.0

-- an axiom without faults is decided to be a rule or not
pub rule_decided : (sig : Signature) (a : AxiomDeclaration) → IsSignature sig
    → ((w : Rewriting) → axiom_class sig a ≡ rewrites w
    → (first : Option SortTree) × FirstOfRule sig first a w None) → Decided (MeansRule sig a)
rule_decided sig a sorted clear = by_class (axiom_class sig a) refl where
  none : (k : AxiomClass) → axiom_class sig a ≡ k → ((w : Rewriting) → k ≡ rewrites w → ⊥)
      → Decided (MeansRule sig a)
  none k class other = inr (λ rule is. other is.shape (sym class ∙ is.class))

  by_class : (k : AxiomClass) → axiom_class sig a ≡ k → Decided (MeansRule sig a)
  by_class (refused n) class = none (refused n) class (λ w h. let never : ⊥ = cc in never)
  by_class orders_sorts class = none orders_sorts class (λ w h. let never : ⊥ = cc in never)
  by_class (rewrites w) class =
      let found = clear w class in inl (rule_found sig found.0 a w sorted class found.1)
  by_class (equates e) class = none (equates e) class (λ w h. let never : ⊥ = cc in never)
  by_class passed_over class = none passed_over class (λ w h. let never : ⊥ = cc in never)
