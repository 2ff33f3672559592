use Rattle.std.proofs.Common.{◌≡◌, Some, ap, sym, ◌∙◌}
use Rattle.std.specs.Prelude.{option_map}
use Rattle.kore_ast.specs.Plain.{plain_axiom_decl}
use Rattle.kore_shapes.specs.PartViews.{plain_parts}
use Rattle.kore_shapes.specs.StatementViews.{plain_statement}
use Rattle.kore_equations.specs.ClearEquations.{clear_parts}
use Rattle.kore_equations.proofs.ClearParts.{clear_is, none_unreadable, fine_of_parts}
use Rattle.kore_equations.proofs.MeantLaws.{if_ok, meant}
use Rattle.kore_equations.proofs.readings.meant_equation.Goals as goal

pub returns-in_default : goal.returns-in_default
returns-in_default c =
    none_unreadable c.args.sig.now (plain_axiom_decl c.args.decl.now) c.args.symbol.now
    (plain_statement c.args.stated.now)
    (sym c.in_ok-parts.ensures ∙ ap (option_map plain_parts) c.in_default.is)

pub equation_of-requires-clause-fine : goal.equation_of-requires-clause-fine
equation_of-requires-clause-fine c =
    let sig = c.args.sig.now in
    let a = plain_axiom_decl c.args.decl.now in
    let e = plain_statement c.args.stated.now in
    let q = plain_parts c.in-Some.parts in
    let clear : clear_parts sig a c.args.symbol.now e ≡ Some q =
    sym c.in_ok-parts.ensures ∙ ap (option_map plain_parts) c.in-Some.is in
    fine_of_parts sig a c.args.symbol.now e q (clear_is sig a c.args.symbol.now e q clear).clear

pub returns : goal.returns
returns c =
    let sig = c.args.sig.now in
    let a = plain_axiom_decl c.args.decl.now in
    let e = plain_statement c.args.stated.now in
    let q = plain_parts c.in-Some.parts in
    let clear : clear_parts sig a c.args.symbol.now e ≡ Some q =
    sym c.in_ok-parts.ensures ∙ ap (option_map plain_parts) c.in-Some.is in
    if_ok c.equation_of.result
    (λ o made.
    meant sig c.args.function.0 c.args.symbol.now a e q o c.requires.class c.requires.declared
    clear made) c.equation_of.ensures
