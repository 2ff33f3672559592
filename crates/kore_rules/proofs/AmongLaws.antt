-- What an axiom is among the equations of a function.
use Rattle.std.proofs.Common.{◌≡◌, ℕ, true, List, refl}
use Rattle.std.proofs.Common.{sym, ap, ◌∙◌, subst, inl, inr}
use Rattle.std.proofs.lemmas.Bool.{false≢true}
use Rattle.std.proofs.lemmas.Slice.Eq.{bytes_eq-Decides}
use Rattle.kore_text.specs.Trees.{AxiomDeclaration}
use Rattle.rule_core.proofs.Belows.{true_both}
use Rattle.rule_core.specs.Rules.{Equation}
use Rattle.rule_core.specs.declared.signature.Signature.{Signature}
use Rattle.rule_core.specs.declared.signature.SymInfo.{SymInfo}
use Rattle.kore_shapes.specs.Statements.{StatedEquation}
use Rattle.kore_axioms.specs.AxiomClasses.{AxiomClass, refused, orders_sorts, rewrites, equates}
use Rattle.kore_axioms.specs.AxiomClasses.{passed_over, axiom_class}
use Rattle.kore_shapes.specs.EquationForms.{EquationParts}
use Rattle.kore_equations.specs.EquationMeanings.{StatesEquation, MeansParts, MeansEquation}
use Rattle.kore_equations.specs.ReadableEquations.{HasReadableParts}
use Rattle.kore_equations.specs.LastResortEquations.{MeansLastResort}
use Rattle.kore_rules.specs.EquationsAmong.{AreOrdinary, is_equation_of}
use Rattle.kore_rules.specs.EquationsAmong.{states_last_resort, IsLastResortAmong, IsEquationAmong}
use Rattle.kore_rules.proofs.MeaningsAreOne.{equation_one, last_resort_one}
use Rattle.kore_rules.proofs.OneOrder.{one_list}

-- ---- which axioms state equations

-- an axiom that states an equation of f is of this class
pub equation_stated : (f : List ℕ) (k : AxiomClass) → is_equation_of f k ≡ true
    → (e : StatedEquation) × (k ≡ equates e) × (e.function ≡ f)
equation_stated f (refused n) h = absurd (false≢true h)
equation_stated f orders_sorts h = absurd (false≢true h)
equation_stated f (rewrites w) h = absurd (false≢true h)
equation_stated f (equates e) h = (e, refl, (bytes_eq-Decides e.function f).0 h)
equation_stated f passed_over h = absurd (false≢true h)

pub states_equation : (f : List ℕ) (k : AxiomClass) (e : StatedEquation) → k ≡ equates e
    → e.function ≡ f → is_equation_of f k ≡ true
states_equation f k e class same =
    ap (is_equation_of f) class ∙ (bytes_eq-Decides e.function f).1 same

pub function_stated : (f : List ℕ) (k : AxiomClass) (e : StatedEquation) → k ≡ equates e
    → is_equation_of f k ≡ true → e.function ≡ f
function_stated f k e class is =
    (bytes_eq-Decides e.function f).0 (ap (is_equation_of f) (sym class) ∙ is)

-- one that means an equation of f states one
pub meaning_states : (sig : Signature) (f : List ℕ) (a : AxiomDeclaration) (e : StatedEquation)
    (info : SymInfo) → StatesEquation sig f a e info
    → is_equation_of f (axiom_class sig a) ≡ true
meaning_states sig f a e info s = states_equation f (axiom_class sig a) e s.class s.function

pub among_states : (sig : Signature) (axioms : List AxiomDeclaration) (f : List ℕ)
    (a : AxiomDeclaration) (e : Equation) → IsEquationAmong sig axioms f a e
    → is_equation_of f (axiom_class sig a) ≡ true
among_states sig axioms f a e (inl is) = meaning_states sig f a is.stated is.info is.states
among_states sig axioms f a e (inr last) =
    let is = last.means in meaning_states sig f a is.stated is.info is.states

-- one of the last resort states one with this attribute
pub last_states : (sig : Signature) (axioms : List AxiomDeclaration) (f : List ℕ)
    (a : AxiomDeclaration) (e : Equation) → IsLastResortAmong sig axioms f a e
    → states_last_resort sig f a ≡ true
last_states sig axioms f a e last =
    let is = last.means in
    true_both _ _ is.readable.last_resort (meaning_states sig f a is.stated is.info is.states)

pub not_both : (sig : Signature) (axioms : List AxiomDeclaration) (f g : List ℕ)
    (a : AxiomDeclaration) (x y : Equation) → MeansEquation sig f a x
    → IsLastResortAmong sig axioms g a y → ⊥
not_both sig axioms f g a x y is last =
    false≢true (sym is.readable.no_last_resort ∙ last.means.readable.last_resort)

-- ---- an axiom is one equation

abbrev key : Equation → ℕ × ℕ
key e = (e.priority, e.place)

pub ordinary_one : (sig : Signature) (axioms : List AxiomDeclaration) (f : List ℕ)
    (es fs : List Equation) → AreOrdinary sig axioms f es → AreOrdinary sig axioms f fs → es ≡ fs
ordinary_one sig axioms f es fs a b =
    one_list key es fs a.in_order b.in_order (λ e has. (b.just e).1 ((a.just e).0 has))
    (λ e has. (a.just e).1 ((b.just e).0 has))

pub last_among_one : (sig : Signature) (axioms : List AxiomDeclaration) (f : List ℕ)
    (a : AxiomDeclaration) (x y : Equation) → IsLastResortAmong sig axioms f a x
    → IsLastResortAmong sig axioms f a y → x ≡ y
last_among_one sig axioms f a x y r s =
    last_resort_one sig f r.others a x y r.means
    (subst (λ (es : List Equation). MeansLastResort sig f es a y)
    (ordinary_one sig axioms f s.others r.others s.ordinary r.ordinary) s.means)

pub among_one : (sig : Signature) (axioms : List AxiomDeclaration) (f : List ℕ)
    (a : AxiomDeclaration) (x y : Equation) → IsEquationAmong sig axioms f a x
    → IsEquationAmong sig axioms f a y → x ≡ y
among_one sig axioms f a x y (inl r) (inl s) = equation_one sig f a x y r s
among_one sig axioms f a x y (inl r) (inr s) = absurd (not_both sig axioms f f a x y r s)
among_one sig axioms f a x y (inr r) (inl s) = absurd (not_both sig axioms f f a y x s r)
among_one sig axioms f a x y (inr r) (inr s) = last_among_one sig axioms f a x y r s

pub among_place : (sig : Signature) (axioms : List AxiomDeclaration) (f : List ℕ)
    (a : AxiomDeclaration) (x : Equation) → IsEquationAmong sig axioms f a x → x.place ≡ a.at
among_place sig axioms f a x (inl is) = is.means.place
among_place sig axioms f a x (inr last) = last.means.means.place

-- ---- what it states

-- the parts of what an axiom states, which mean the equation
pub record HasParts (sig : Signature) (f : List ℕ) (a : AxiomDeclaration) (e : Equation) : Type 0
  where
    pub stated : StatedEquation
    pub info : SymInfo
    pub states : StatesEquation sig f a stated info
    pub parts : EquationParts
    pub readable : HasReadableParts sig a info stated parts
    pub means : MeansParts sig a stated parts e

pub among_parts : (sig : Signature) (axioms : List AxiomDeclaration) (f : List ℕ)
    (a : AxiomDeclaration) (e : Equation) → IsEquationAmong sig axioms f a e → HasParts sig f a e
among_parts sig axioms f a e (inl is) = record {
  stated = is.stated;
  info = is.info;
  states = is.states;
  parts = is.parts;
  readable = is.readable.parts;
  means = is.means;
}
among_parts sig axioms f a e (inr last) =
    let is = last.means in record {
      stated = is.stated;
      info = is.info;
      states = is.states;
      parts = is.parts.equation;
      readable = is.readable.parts;
      means = is.means;
    }
