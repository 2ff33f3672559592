-- An axiom is the equation that is made of its clear parts.
use Rattle.std.proofs.Common.{◌≡◌, ℕ, List, [], ◌∷◌, map, Option, Some, None, true, refl, sym, ◌∙◌, ap}
use Rattle.std.proofs.lemmas.Bool.{false≢true}
use Rattle.std.specs.Prelude.{Result, Ok, Err, IfOk, All}
use Rattle.std.proofs.lemmas.List.Elements.{All-nil, All-cons, All-head, All-tail}
use Rattle.std.specs.List.{AllZip}
use Rattle.kore_text.specs.Trees.{AxiomDeclaration}
use Rattle.rule_core.specs.AcSymbols.{IsAcFree}
use Rattle.rule_core.specs.ProgramView.{function_equation}
use Rattle.rule_core.specs.Rules.{ComesBefore}
use Rattle.rule_core.specs.Rules as plain
use Rattle.rule_core.specs.declared.rules.Equation.{Equation}
use Rattle.rule_core.specs.declared.signature.Signature.{Signature}
use Rattle.rule_core.specs.declared.signature.SymInfo.{SymInfo}
use Rattle.kore_check.specs.PatternSorts.{symbol_named}
use Rattle.kore_shapes.specs.Statements.{StatedEquation}
use Rattle.kore_shapes.specs.EquationForms.{EquationParts}
use Rattle.kore_shapes.specs.LastResorts.{LastResortParts}
use Rattle.kore_axioms.specs.AxiomClasses.{equates, axiom_class}
use Rattle.kore_equations.specs.Guards.{MeansGuard}
use Rattle.kore_equations.specs.LastResortEquations.{ComesLast, IsReadableLastResort}
use Rattle.kore_equations.specs.ClearEquations.{clear_parts, clear_last_resort, are_bound}
use Rattle.kore_equations.specs.MeantEquations.{IsMeant, IsMeantLast, AreMeantParts}
use Rattle.kore_equations.proofs.ClearParts.{is_readable, unbound_unreadable, clear_resort_is}
use Rattle.kore_equations.proofs.ClearParts.{resort_readable, resort_clear}
use Rattle.kore_equations.proofs.GuardLaws.{guards_repeat}

pub if_ok : {T E : Type 0} {A B : T → Type 0} (r : Result T E) → ((x : T) → A x → B x) → IfOk r A
    → IfOk r B
if_ok (Ok x) f h = f x h
if_ok (Err e) f h = tt

pub meant : (sig : Signature) (n : ℕ) (info : SymInfo) (a : AxiomDeclaration) (e : StatedEquation)
    (q : EquationParts) (o : Option Equation) → axiom_class sig a ≡ equates e
    → symbol_named sig e.function ≡ Some info → clear_parts sig a info e ≡ Some q
    → AreMeantParts sig n a e q None o → IsMeant sig e.function n info a e o
meant sig n info a e q None class declared clear unbound =
    unbound_unreadable sig a info e q clear unbound
meant sig n info a e q (Some made) class declared clear (bound, fun, last, means, names) = (
  fun,
  record {
    means = record {
      stated = e;
      info = info;
      states = record { class = class; function = refl; declared = declared };
      parts = q;
      readable = is_readable sig a info e q clear bound;
      means = means;
      last_resort = last;
    };
    names = names;
  },
)

-- ---- equations of the last resort

-- the parts of a readable one are those that are clear
pub resort_known : (sig : Signature) (info : SymInfo) (a : AxiomDeclaration) (e : StatedEquation)
    (es : List plain.Equation) (q : LastResortParts) → IsReadableLastResort sig a info e es q
    → (clear_last_resort sig a info e ≡ Some q) × (are_bound sig e q.equation ≡ true)
resort_known sig info a e es q r = resort_clear sig a info e q r.last_resort r.form r.parts

pub resort_same : (sig : Signature) (info : SymInfo) (a : AxiomDeclaration) (e : StatedEquation)
    (es : List plain.Equation) (p q : LastResortParts) → clear_last_resort sig a info e ≡ Some p
    → IsReadableLastResort sig a info e es q → p ≡ q
resort_same sig info a e es p q clear r =
    let both : Some p ≡ Some q = sym clear ∙ (resort_known sig info a e es q r).0 in cc

pub none_unreadable_last : (sig : Signature) (info : SymInfo) (a : AxiomDeclaration)
    (e : StatedEquation) (es : List plain.Equation) → clear_last_resort sig a info e ≡ None
    → (q : LastResortParts) → IsReadableLastResort sig a info e es q → ⊥
none_unreadable_last sig info a e es none q r =
    let both : None ≡ Some q = sym none ∙ (resort_known sig info a e es q r).0 in
    let never : ⊥ = cc in never

pub meant_last : (sig : Signature) (n : ℕ) (info : SymInfo) (a : AxiomDeclaration)
    (e : StatedEquation) (es : List plain.Equation) (q : LastResortParts)
    (guards : List plain.Guard) (o : Option Equation) → axiom_class sig a ≡ equates e
    → symbol_named sig e.function ≡ Some info → clear_last_resort sig a info e ≡ Some q
    → IsAcFree sig → ComesLast es a → AllZip (MeansGuard sig info e.over es) q.guards guards
    → AreMeantParts sig n a e q.equation (Some guards) o → IsMeantLast sig e.function n info es a e o
meant_last sig n info a e es q guards None class declared clear free last all unbound = λ p r.
    let same : q ≡ p = resort_same sig info a e es q p clear r in
    false≢true (sym unbound ∙ ap (λ (x : LastResortParts). are_bound sig e x.equation) same
    ∙ (resort_known sig info a e es p r).1)
meant_last sig n info a e es q guards (Some made) class declared clear free last all
    (bound, fun, resort, means, names) =
    let c = clear_resort_is sig a info e q clear in (
      fun,
      record {
        means = record {
          stated = e;
          info = info;
          states = record { class = class; function = refl; declared = declared };
          parts = q;
          readable = record {
            last_resort = c.last_resort;
            form = c.form;
            no_ac = free;
            parts = resort_readable sig a info e q c bound;
            guards = guards_repeat sig info e.over es q.guards guards all;
            last = last;
          };
          means = means;
          guards = guards;
          mean_guards = all;
          last_resort = resort;
        };
        names = names;
      },
    )

-- each of the others is tried before a place and a priority
pub each_before : (others : List Equation) (priority at : ℕ)
    → All (λ (e : plain.Equation). ComesBefore (e.priority, e.place) (priority, at))
    (map function_equation others)
    → All (λ (e : Equation). ComesBefore (e.priority, e.at) (priority, at)) others
each_before [] priority at all =
    All-nil (λ (e : Equation). ComesBefore (e.priority, e.at) (priority, at))
each_before (e ∷ others) priority at all =
    let P : plain.Equation → Type 0 =
    λ x. ComesBefore (x.priority, x.place) (priority, at) in
    All-cons (λ (x : Equation). ComesBefore (x.priority, x.at) (priority, at)) e others
    (All-head P (function_equation e) (map function_equation others) all)
    (each_before others priority at
    (All-tail P (function_equation e) (map function_equation others) all))
