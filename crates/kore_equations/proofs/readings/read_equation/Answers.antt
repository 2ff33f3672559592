use Rattle.std.proofs.Common.{refl, subst}
use Rattle.kore_ast.specs.Plain.{plain_axiom_decl}
use Rattle.kore_shapes.specs.StatementViews.{plain_statement}
use Rattle.kore_equations.specs.MeantEquations.{IsMeant}
use Rattle.kore_equations.proofs.readings.read_equation.Goals as goal

pub returns-in-None-clause-means : goal.returns-in-None-clause-means
returns-in-None-clause-means c = record {
  stated = plain_statement c.args.stated.now;
  info = c.declared_function.result.1.now;
  states = record {
    class = c.requires.class;
    function = refl;
    declared = c.declared_function.ensures.declared;
  };
  unreadable =
      subst (IsMeant c.args.sig.now c.args.stated.now.function.now c.declared_function.result.0.0
      c.declared_function.result.1.now (plain_axiom_decl c.args.decl.now)
      (plain_statement c.args.stated.now)) c.in-None.is c.in_ok-equation.ensures;
}
