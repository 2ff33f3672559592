-- What is kept of some axioms and of one more, by what the new one is.
use Rattle.std.proofs.Common.{◌≡◌, ℕ, Bool, true, false, List, [], ◌∷◌, ◌++◌, map, length}
use Rattle.std.proofs.Common.{Some, refl, sym, ap, ◌∙◌, subst, ◌⊎◌, inl}
use Rattle.std.proofs.Common.{inr, eq-eqb, length-append, arith}
use Rattle.std.specs.Prelude.{◌||◌, ◌==◌, ◌↔◌, ◌≤◌, IsTrue, count_by, not}
use Rattle.std.proofs.lemmas.Bool.{eqb-true, false≢true}
use Rattle.std.proofs.lemmas.List.{map-append}
use Rattle.kore_text.specs.Trees.{AxiomDeclaration}
use Rattle.rule_core.specs.Named.{number_of_name}
use Rattle.rule_core.specs.ProgramView.{rewrite_rule, function_equation}
use Rattle.rule_core.specs.Rules.{RewriteRule}
use Rattle.rule_core.specs.Rules as plain
use Rattle.rule_core.specs.declared.rules.Equation.{Equation}
use Rattle.rule_core.specs.declared.rules.Rule.{Rule}
use Rattle.rule_core.specs.declared.signature.Signature.{Signature}
use Rattle.kore_shapes.specs.Shapes.{Rewriting}
use Rattle.kore_shapes.specs.Statements.{StatedEquation}
use Rattle.kore_axioms.specs.AxiomClasses.{rewrites, equates, axiom_class}
use Rattle.kore_axioms.specs.AxiomMeanings.{MeansRule}
use Rattle.kore_axioms.specs.NamedRules.{MeansNamedRule}
use Rattle.kore_equations.specs.EquationMeanings.{MeansEquation, IsUnreadable}
use Rattle.kore_equations.specs.NamedEquations.{MeansNamedEquation}
use Rattle.kore_rules.specs.AxiomsRead.{AreRead, HaveRead, HasStated, IsNumberedEquation}
use Rattle.kore_rules.specs.AxiomsRead.{IsNamedOrdinary, IsUnreadableOrdinary, is_ordinary}
use Rattle.kore_rules.specs.AxiomsRead.{numbered_equation, is_marked}
use Rattle.kore_rules.specs.EquationsAmong.{is_last_resort}
use Rattle.kore_rules.specs.KeptNames.{AreOf}
use Rattle.kore_rules.specs.declared.axioms.Readings.{Readings}
use Rattle.kore_rules.proofs.AxiomSteps.{some_more, some_last, some_cases, read_more, read_same}
use Rattle.kore_rules.proofs.AxiomSteps.{of_more, of_same, within_more, within_same}
use Rattle.kore_rules.proofs.MeaningsAreOne.{rule_one, equation_one, readable_or_not}
use Rattle.kore_rules.proofs.MeaningsAreOne.{rule_not_equation, rule_not_unreadable, equates_one}

some_same : {A : Type 0} (x y : A) → Some x ≡ Some y → x ≡ y
some_same x y e = cc

abbrev pair_of : ℕ → plain.Equation → ℕ × plain.Equation
pair_of n x = (n, x)

pair_same : (a b : ℕ) (x y : plain.Equation) → a ≡ b → x ≡ y → pair_of a x ≡ pair_of b y
pair_same a b x y e f = ap (λ (n : ℕ). pair_of n x) e ∙ ap (pair_of b) f

-- an axiom is an equation of at most one function
function_one : (sig : Signature) (f g : List ℕ) (a : AxiomDeclaration) (x y : plain.Equation)
    → MeansEquation sig f a x → MeansEquation sig g a y → f ≡ g
function_one sig f g a x y r s = sym r.states.function
    ∙ ap (λ (e : StatedEquation). e.function) (equates_one r.stated s.stated (sym r.states.class
    ∙ s.states.class))
    ∙ s.states.function

numbered_one : (sig : Signature) (f : List ℕ) (a : AxiomDeclaration) (n : ℕ) (x : plain.Equation)
    → number_of_name sig.symbols f ≡ Some n → MeansEquation sig f a x → (y : ℕ × plain.Equation)
    → IsNumberedEquation sig a y → pair_of n x ≡ y
numbered_one sig f a n x number is y (g, its, same) =
    let functions : f ≡ g = function_one sig f g a x y.1 is same in
    pair_same n y.0 x y.1
    (some_same n y.0 (sym number ∙ ap (number_of_name sig.symbols) functions ∙ its))
    (equation_one sig f a x y.1 is
    (subst (λ (h : List ℕ). MeansEquation sig h a y.1) (sym functions) same))

equation_not_unreadable : (sig : Signature) (f g : List ℕ) (a : AxiomDeclaration)
    (x : plain.Equation) → MeansEquation sig f a x → IsUnreadable sig g a → ⊥
equation_not_unreadable sig f g a x r s =
    let functions : g ≡ f =
    sym s.states.function
    ∙ ap (λ (e : StatedEquation). e.function)
    (equates_one s.stated r.stated (sym s.states.class ∙ r.states.class)) ∙ r.states.function in
    readable_or_not sig f a x r (subst (λ (h : List ℕ). IsUnreadable sig h a) functions s)

-- an axiom states an equation of this function that is not readable
abbrev Bad : Signature → List AxiomDeclaration → ℕ → Type 0
Bad sig axioms n = HasStated sig (IsUnreadableOrdinary sig) axioms n

-- an axiom that is not an unreadable equation changes no mark
same_marks : (sig : Signature) (axioms : List AxiomDeclaration) (a : AxiomDeclaration)
    (old new : List Bool) → new ≡ old → ((f : List ℕ) → IsUnreadableOrdinary sig f a → ⊥)
    → ((n : ℕ) → IsTrue (is_marked old n) ↔ Bad sig axioms n) → (n : ℕ)
    → IsTrue (is_marked new n) ↔ Bad sig (axioms ++ a ∷ []) n
same_marks sig axioms a old new same none before n =
    let P : AxiomDeclaration → Type 0 =
    λ b. (f : List ℕ) × (number_of_name sig.symbols f ≡ Some n) × IsUnreadableOrdinary sig f b in (
      λ set. some_more P axioms a
          ((before n).0 (ap (λ (ms : List Bool). is_marked ms n) (sym same) ∙ set)),
      λ some. ap (λ (ms : List Bool). is_marked ms n) same ∙ elim (some_cases P axioms a some) [
        | inl b ↦ (before n).1 b
        | inr (f, number, is) ↦ absurd (none f is)
      ],
    )

or_cases : (a b : Bool) → (a || b) ≡ true → (a ≡ true) ⊎ (b ≡ true)
or_cases true b e = inl refl
or_cases false b e = inr e

left_true : (a b : Bool) → a ≡ true → (a || b) ≡ true
left_true true b e = refl
left_true false b e = absurd (let never : ⊥ = cc in never)

right_true : (a b : Bool) → b ≡ true → (a || b) ≡ true
right_true true b e = refl
right_true false b e = e

-- an unreadable equation sets the mark of its function
one_mark : (sig : Signature) (axioms : List AxiomDeclaration) (a : AxiomDeclaration) (f : List ℕ)
    (k : ℕ) (old new : List Bool) → number_of_name sig.symbols f ≡ Some k
    → IsUnreadableOrdinary sig f a
    → ((n : ℕ) → is_marked new n ≡ (is_marked old n || (n == k)))
    → ((n : ℕ) → IsTrue (is_marked old n) ↔ Bad sig axioms n) → (n : ℕ)
    → IsTrue (is_marked new n) ↔ Bad sig (axioms ++ a ∷ []) n
one_mark sig axioms a f k old new number is set before n =
    let P : AxiomDeclaration → Type 0 =
    λ b. (g : List ℕ) × (number_of_name sig.symbols g ≡ Some n) × IsUnreadableOrdinary sig g b in (
      λ marked. elim (or_cases (is_marked old n) (n == k) (sym (set n) ∙ marked)) [
        | inl b ↦ some_more P axioms a ((before n).0 b)
        | inr e ↦ some_last P axioms a (f, number ∙ ap Some (sym (eqb-true n k e)), is)
      ],
      λ some. set n ∙ elim (some_cases P axioms a some) [
        | inl b ↦ left_true (is_marked old n) (n == k) ((before n).1 b)
        | inr (g, its, same) ↦
            let functions : g ≡ f =
            sym same.1.states.function
            ∙ ap (λ (e : StatedEquation). e.function)
            (equates_one same.1.stated is.1.stated (sym same.1.states.class ∙ is.1.states.class))
            ∙ is.1.states.function in
            let numbers : n ≡ k =
            some_same n k (sym its ∙ ap (number_of_name sig.symbols) functions ∙ number) in
            right_true (is_marked old n) (n == k) (eq-eqb n k numbers)
      ],
    )

abbrev IsRule : Signature → AxiomDeclaration → RewriteRule → Type 0
IsRule sig = MeansRule sig

abbrev place_of : RewriteRule → ℕ
place_of r = r.place

abbrev numbered_place : ℕ × plain.Equation → ℕ
numbered_place e = e.1.place

-- the new axiom is a rewrite rule
pub read_rule : (sig : Signature) (axioms : List AxiomDeclaration) (a : AxiomDeclaration)
    (old new : Readings) (rule : Rule) → new.rules.items ≡ old.rules.items ++ rule ∷ []
    → new.equations.items ≡ old.equations.items → new.unreadable.items ≡ old.unreadable.items
    → MeansNamedRule sig a rule → HaveRead sig axioms old
    → HaveRead sig (axioms ++ a ∷ []) new
read_rule sig axioms a old new rule grown equations marks is before = record {
  rules =
      subst (AreRead (MeansRule sig) place_of (axioms ++ a ∷ []))
      (sym (ap (map rewrite_rule) grown ∙ map-append rewrite_rule old.rules.items (rule ∷ [])))
      (read_more (MeansRule sig) place_of axioms (map rewrite_rule old.rules.items) a
      (rewrite_rule rule) is.means (λ y s. rule_one sig a (rewrite_rule rule) y is.means s)
      is.means.place
      before.rules);
  equations =
      subst (AreRead (IsNumberedEquation sig) numbered_place (axioms ++ a ∷ []))
      (ap (map numbered_equation) (sym equations))
      (read_same (IsNumberedEquation sig) numbered_place axioms
      (map numbered_equation old.equations.items) a
      (λ y h. rule_not_equation sig h.0 a (rewrite_rule rule) y.1 is.means h.2) before.equations);
  named_rules =
      subst (AreOf (MeansNamedRule sig) (axioms ++ a ∷ [])) (sym grown)
      (of_more (MeansNamedRule sig) axioms old.rules.items a rule is before.named_rules);
  named_equations =
      subst (AreOf (IsNamedOrdinary sig) (axioms ++ a ∷ [])) (sym equations)
      (of_same (IsNamedOrdinary sig) axioms old.equations.items a before.named_equations);
  ordinary =
      subst (λ (es : List Equation). length es ≤ count_by is_ordinary (axioms ++ a ∷ []))
      (sym equations)
      (within_same is_ordinary axioms a (length old.equations.items) before.ordinary);
  marked = ap length marks ∙ before.marked;
  unreadable =
      same_marks sig axioms a old.unreadable.items new.unreadable.items marks
      (λ f h. rule_not_unreadable sig f a (rewrite_rule rule) is.means h.1) before.unreadable;
}

-- the new axiom is an equation
pub read_equation : (sig : Signature) (axioms : List AxiomDeclaration) (a : AxiomDeclaration)
    (f : List ℕ) (old new : Readings) (e : Equation)
    → new.equations.items ≡ old.equations.items ++ e ∷ [] → new.rules.items ≡ old.rules.items
    → new.unreadable.items ≡ old.unreadable.items → number_of_name sig.symbols f ≡ Some e.fun.0
    → MeansNamedEquation sig f a e → HaveRead sig axioms old
    → HaveRead sig (axioms ++ a ∷ []) new
read_equation sig axioms a f old new e grown rules marks number is before = record {
  rules =
      subst (AreRead (MeansRule sig) place_of (axioms ++ a
      ∷ [])) (ap (map rewrite_rule) (sym rules))
      (read_same (MeansRule sig) place_of axioms (map rewrite_rule old.rules.items) a
      (λ y h. rule_not_equation sig f a y (function_equation e) h is.means) before.rules);
  equations =
      subst (AreRead (IsNumberedEquation sig) numbered_place (axioms ++ a ∷ [])) (sym (ap (map
      numbered_equation) grown ∙ map-append numbered_equation old.equations.items (e ∷ [])))
      (read_more (IsNumberedEquation sig) numbered_place axioms
      (map numbered_equation old.equations.items) a (numbered_equation e) (f, number, is.means)
      (numbered_one sig f a e.fun.0 (function_equation e) number is.means) is.means.means.place
      before.equations);
  named_rules =
      subst (AreOf (MeansNamedRule sig) (axioms ++ a ∷ [])) (sym rules)
      (of_same (MeansNamedRule sig) axioms old.rules.items a before.named_rules);
  named_equations =
      subst (AreOf (IsNamedOrdinary sig) (axioms ++ a ∷ [])) (sym grown)
      (of_more (IsNamedOrdinary sig) axioms old.equations.items a e (f, is) before.named_equations);
  ordinary =
      let more =
      within_more is_ordinary axioms a (length old.equations.items)
      (ap not is.means.readable.no_last_resort) before.ordinary in
      let long = ap length grown ∙ length-append old.equations.items (e ∷ []) in
      omega (arith, more, long);
  marked = ap length marks ∙ before.marked;
  unreadable =
      same_marks sig axioms a old.unreadable.items new.unreadable.items marks
      (λ g h. equation_not_unreadable sig f g a (function_equation e) is.means h.1) before.unreadable;
}

-- the new axiom is an equation that is not readable
pub read_unreadable : (sig : Signature) (axioms : List AxiomDeclaration) (a : AxiomDeclaration)
    (f : List ℕ) (k : ℕ) (old new : Readings) → new.rules.items ≡ old.rules.items
    → new.equations.items ≡ old.equations.items
    → length new.unreadable.items ≡ length old.unreadable.items
    → ((n : ℕ) → is_marked new.unreadable.items n ≡ (is_marked old.unreadable.items n || (n == k)))
    → number_of_name sig.symbols f ≡ Some k → IsUnreadableOrdinary sig f a → HaveRead sig axioms old
    → HaveRead sig (axioms ++ a ∷ []) new
read_unreadable sig axioms a f k old new rules equations len set number is before = record {
  rules =
      subst (AreRead (MeansRule sig) place_of (axioms ++ a
      ∷ [])) (ap (map rewrite_rule) (sym rules))
      (read_same (MeansRule sig) place_of axioms (map rewrite_rule old.rules.items) a
      (λ y h. rule_not_unreadable sig f a y h is.1) before.rules);
  equations =
      subst (AreRead (IsNumberedEquation sig) numbered_place (axioms ++ a ∷ []))
      (ap (map numbered_equation) (sym equations))
      (read_same (IsNumberedEquation sig) numbered_place axioms
      (map numbered_equation old.equations.items) a
      (λ y h. equation_not_unreadable sig h.0 f a y.1 h.2 is.1) before.equations);
  named_rules =
      subst (AreOf (MeansNamedRule sig) (axioms ++ a ∷ [])) (sym rules)
      (of_same (MeansNamedRule sig) axioms old.rules.items a before.named_rules);
  named_equations =
      subst (AreOf (IsNamedOrdinary sig) (axioms ++ a ∷ [])) (sym equations)
      (of_same (IsNamedOrdinary sig) axioms old.equations.items a before.named_equations);
  ordinary =
      subst (λ (es : List Equation). length es ≤ count_by is_ordinary (axioms ++ a ∷ []))
      (sym equations)
      (within_same is_ordinary axioms a (length old.equations.items) before.ordinary);
  marked = len ∙ before.marked;
  unreadable =
      one_mark sig axioms a f k old.unreadable.items new.unreadable.items number is set
      before.unreadable;
}

-- the new axiom is none of these things
passed : (sig : Signature) (axioms : List AxiomDeclaration) (a : AxiomDeclaration)
    (old : Readings) → ((r : RewriteRule) → MeansRule sig a r → ⊥)
    → ((f : List ℕ) (e : plain.Equation) → MeansEquation sig f a e → ⊥)
    → ((f : List ℕ) → IsUnreadableOrdinary sig f a → ⊥) → HaveRead sig axioms old
    → HaveRead sig (axioms ++ a ∷ []) old
passed sig axioms a old no_rule no_equation fine before = record {
  rules =
      read_same (MeansRule sig) place_of axioms (map rewrite_rule old.rules.items) a no_rule
      before.rules;
  equations =
      read_same (IsNumberedEquation sig) numbered_place axioms
      (map numbered_equation old.equations.items) a
      (λ y h. no_equation h.0 y.1 h.2) before.equations;
  named_rules = of_same (MeansNamedRule sig) axioms old.rules.items a before.named_rules;
  named_equations =
      of_same (IsNamedOrdinary sig) axioms old.equations.items a before.named_equations;
  ordinary = within_same is_ordinary axioms a (length old.equations.items) before.ordinary;
  marked = before.marked;
  unreadable =
      same_marks sig axioms a old.unreadable.items old.unreadable.items refl fine
      before.unreadable;
}

-- the new axiom is neither a rule nor an equation
pub read_nothing : (sig : Signature) (axioms : List AxiomDeclaration) (a : AxiomDeclaration)
    (old : Readings) → ((w : Rewriting) → axiom_class sig a ≡ rewrites w → ⊥)
    → ((e : StatedEquation) → axiom_class sig a ≡ equates e → ⊥) → HaveRead sig axioms old
    → HaveRead sig (axioms ++ a ∷ []) old
read_nothing sig axioms a old no_rule no_equation before =
    passed sig axioms a old (λ r h. no_rule h.shape h.class)
    (λ f e h. no_equation h.stated h.states.class)
    (λ f h. no_equation h.1.stated h.1.states.class) before

-- the new axiom states an equation of the last resort
pub read_last : (sig : Signature) (axioms : List AxiomDeclaration) (a : AxiomDeclaration)
    (e : StatedEquation) (old : Readings) → axiom_class sig a ≡ equates e
    → is_last_resort a ≡ true → HaveRead sig axioms old → HaveRead sig (axioms ++ a ∷ []) old
read_last sig axioms a e old class last before =
    passed sig axioms a old
    (λ r h. let both : rewrites h.shape ≡ equates e = sym h.class ∙ class in
    let never : ⊥ = cc in never)
    (λ f x h. false≢true (sym h.readable.no_last_resort ∙ last))
    (λ f h. false≢true (sym h.0 ∙ last)) before
