use Rattle.std.proofs.Common.{refl, ◌≡◌, Some, subst, sym, ◌∙◌}
use Rattle.kore_ast.specs.Plain.{plain_axiom_decl}
use Rattle.kore_shapes.specs.StatementViews.{plain_statement}
use Rattle.kore_equations.specs.Readings.{IsReadAs, function_of}
use Rattle.kore_equations.specs.declared.readings.Reading.{Reading}
use Rattle.rule_core.specs.Named.{number_of_name}
use Rattle.kore_rules.proofs.AxiomReads.{read_equation, read_unreadable, read_last}
use Rattle.kore_rules.proofs.axioms.add_equation.Goals as goal

pub returns-in_ok-push-in-Equation : goal.returns-in_ok-push-in-Equation
returns-in_ok-push-in-Equation c = λ axioms h.
    let sig = c.args.sig.now in
    let f = c.args.stated.now.function.now in
    let a = plain_axiom_decl c.args.decl.now in
    read_equation sig axioms a f c.args.readings.now _ c.in-Equation.equation
    c.in_ok-push-in-Equation.ensures.items refl refl
    (subst (λ (r : Reading). number_of_name sig.symbols f ≡ Some (function_of r)) c.in-Equation.is
    c.in_ok-equation.ensures.function)
    (subst (λ (r : Reading). IsReadAs sig f a r) c.in-Equation.is c.in_ok-equation.ensures.means) h

pub returns-in-Unreadable : goal.returns-in-Unreadable
returns-in-Unreadable c = λ axioms h.
    let sig = c.args.sig.now in
    let f = c.args.stated.now.function.now in
    let a = plain_axiom_decl c.args.decl.now in
    read_unreadable sig axioms a f c.in-Unreadable.function.0 c.args.readings.now _ refl refl
    c.mark.ensures.len c.mark.ensures.marked
    (subst (λ (r : Reading). number_of_name sig.symbols f ≡ Some (function_of r)) c.in-Unreadable.is
    c.in_ok-equation.ensures.function) (
      sym c.is_last_resort.ensures ∙ c.if-is_last_resort.false,
      subst (λ (r : Reading). IsReadAs sig f a r) c.in-Unreadable.is c.in_ok-equation.ensures.means,
    )
    h

pub returns-then-is_last_resort : goal.returns-then-is_last_resort
returns-then-is_last_resort c = λ axioms h.
    read_last c.args.sig.now axioms (plain_axiom_decl c.args.decl.now)
    (plain_statement c.args.stated.now) c.args.readings.now c.requires.class
    (sym c.is_last_resort.ensures ∙ c.if-is_last_resort.true) h
