-- Laws on an axiom of the class of equations.
use Rattle.std.proofs.Common.{◌≡◌, ℕ, Bool, true, false, ◌&&◌, List, Option, Some, None, cond, refl}
use Rattle.std.proofs.Common.{ap, sym, ◌∙◌, subst}
use Rattle.std.specs.Prelude.{not, if◌then◌else◌}
use Rattle.rule_core.proofs.Belows.{both_true}
use Rattle.rule_core.specs.declared.signature.Signature.{Signature}
use Rattle.rule_core.specs.declared.signature.SymInfo.{SymInfo}
use Rattle.kore_text.specs.Trees.{AxiomDeclaration}
use Rattle.rule_core.specs.Named.{number_of_name}
use Rattle.std.specs.Option.{option_and_then}
use Rattle.kore_check.specs.PatternSorts.{symbol_info, symbol_named}
use Rattle.kore_shapes.specs.Shapes.{Rewriting, rewriting}
use Rattle.kore_shapes.specs.Statements.{StatedEquation, stated_equation}
use Rattle.kore_axioms.specs.AxiomClasses.{AxiomClass, refused, orders_sorts, equates, passed_over}
use Rattle.kore_axioms.specs.AxiomClasses.{is_no_equation, takes_equations, class_of_statement}
use Rattle.kore_axioms.specs.AxiomClasses.{class_of_pattern, axiom_class}

-- an axiom states the equation of a function that takes equations
pub record IsStated (sig : Signature) (a : AxiomDeclaration) (e : StatedEquation) : Type 0 where
  pub stated : stated_equation a.pattern ≡ Some e
  pub takes : takes_equations (symbol_named sig e.function) ≡ true

class_refused : (b : Bool) (number : ℕ) (c : AxiomClass) (e : StatedEquation)
    → (if b then refused number else c) ≡ equates e → c ≡ equates e
class_refused true number c e h = absurd (let never : ⊥ = cc in never)
class_refused false number c e h = h

class_ordered : (b : Bool) (c : AxiomClass) (e : StatedEquation)
    → (if b then orders_sorts else c) ≡ equates e → c ≡ equates e
class_ordered true c e h = absurd (let never : ⊥ = cc in never)
class_ordered false c e h = h

of_statement : (sig : Signature) (a : AxiomDeclaration) (o : Option StatedEquation)
    (e : StatedEquation)
    → stated_equation a.pattern ≡ o → class_of_statement sig a.attributes o ≡ equates e
    → IsStated sig a e
of_statement sig a None e is h = absurd (let never : ⊥ = cc in never)
of_statement sig a (Some d) e is h =
    by_case (not (is_no_equation a.attributes) && takes_equations (symbol_named sig d.function))
    refl h
  where
    by_case : (b : Bool)
        → (not (is_no_equation a.attributes) && takes_equations (symbol_named sig d.function)) ≡ b
        → cond b (equates d) passed_over ≡ equates e → IsStated sig a e
    by_case false test h = absurd (let never : ⊥ = cc in never)
    by_case true test h =
        subst (λ (x : StatedEquation). IsStated sig a x) (let same : d ≡ e = cc in same)
        (record { stated = is; takes = (both_true _ _ test).1 })

of_pattern : (sig : Signature) (a : AxiomDeclaration) (o : Option Rewriting) (e : StatedEquation)
    → class_of_pattern sig a o ≡ equates e → IsStated sig a e
of_pattern sig a None e h = of_statement sig a (stated_equation a.pattern) e refl h
of_pattern sig a (Some w) e h = absurd (let never : ⊥ = cc in never)

pub class_equates : (sig : Signature) (a : AxiomDeclaration) (e : StatedEquation)
    → axiom_class sig a ≡ equates e → IsStated sig a e
class_equates sig a e h =
    of_pattern sig a (rewriting a.pattern) e
    (class_ordered _ _ e (class_refused _ 21 _ e (class_refused _ 20 _ e h)))

takes_some : (o : Option SymInfo) → takes_equations o ≡ true → (info : SymInfo) × (o ≡ Some info)
takes_some None h = absurd (let never : ⊥ = cc in never)
takes_some (Some info) h = (info, refl)

-- the function of an equation is declared
pub function_declared : (sig : Signature) (a : AxiomDeclaration) (e : StatedEquation)
    → axiom_class sig a ≡ equates e → (info : SymInfo) × (symbol_named sig e.function ≡ Some info)
function_declared sig a e h =
    takes_some (symbol_named sig e.function) (class_equates sig a e h).takes

no_entry : (sig : Signature) (f : List ℕ) (info : SymInfo) (o : Option ℕ)
    → number_of_name sig.symbols f ≡ o → symbol_named sig f ≡ Some info
    → (n : ℕ) × (number_of_name sig.symbols f ≡ Some n) × (symbol_info sig n ≡ Some info)
no_entry sig f info None e h =
    absurd (let both : None ≡ Some info = sym (ap (option_and_then (symbol_info sig)) e) ∙ h in
    let never : ⊥ = cc in never)
no_entry sig f info (Some n) e h = (n, e, sym (ap (option_and_then (symbol_info sig)) e) ∙ h)

-- a declared symbol has a number
pub entry_named : (sig : Signature) (f : List ℕ) (info : SymInfo) → symbol_named sig f ≡ Some info
    → (n : ℕ) × (number_of_name sig.symbols f ≡ Some n) × (symbol_info sig n ≡ Some info)
entry_named sig f info h = no_entry sig f info (number_of_name sig.symbols f) refl h

-- the function of an equation has a number
pub number_there : (sig : Signature) (a : AxiomDeclaration) (e : StatedEquation)
    → axiom_class sig a ≡ equates e → number_of_name sig.symbols e.function ≡ None → ⊥
number_there sig a e class none =
    let declared = function_declared sig a e class in
    let entry = entry_named sig e.function declared.0 declared.1 in
    let both : None ≡ Some entry.0 = sym none ∙ entry.1 in let never : ⊥ = cc in never

-- the function of an equation has a declaration
pub declaration_there : (sig : Signature) (a : AxiomDeclaration) (e : StatedEquation) (n : ℕ)
    → axiom_class sig a ≡ equates e → number_of_name sig.symbols e.function ≡ Some n
    → symbol_info sig n ≡ None → ⊥
declaration_there sig a e n class is none =
    let declared = function_declared sig a e class in
    let both : Some declared.0 ≡ None =
    sym declared.1 ∙ ap (option_and_then (symbol_info sig)) is ∙ none in
    let never : ⊥ = cc in
    never
