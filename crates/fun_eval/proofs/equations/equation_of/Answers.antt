use Rattle.std.proofs.Common.{◌≡◌, ◌<◌, length, map, sym, subst, arith}
use Rattle.rule_core.specs.Theories.{equations_of}
use Rattle.rule_core.specs.ProgramView.{theory_of, function_equation}
use Rattle.rule_core.specs.declared.rules.Program.{Program}
use Rattle.fun_eval.proofs.Matches.{as_long, has_equations, own_equation}
use Rattle.fun_eval.proofs.equations.equation_of.Goals as goal

pub equations_of-requires : goal.equations_of-requires
equations_of-requires c =
    subst (λ (p : Program). c.args.sym.0 < length (theory_of p).equations)
    (sym c.program.ensures.program)
    (has_equations (theory_of c.args.engine.now) c.args.sym.0 c.args.number c.requires)

pub bounds-equations_of-number : goal.bounds-equations_of-number
bounds-equations_of-number c =
    let all = subst (λ (p : Program). map function_equation c.equations_of.result.now
    ≡ equations_of (theory_of p) c.args.sym.0) c.program.ensures.program
    c.equations_of.ensures in
    omega (
      arith,
      as_long (theory_of c.args.engine.now) c.args.sym.0 c.equations_of.result.now all,
      c.requires,
    )

pub returns : goal.returns
returns c =
    let all = subst (λ (p : Program). map function_equation c.equations_of.result.now
    ≡ equations_of (theory_of p) c.args.sym.0) c.program.ensures.program
    c.equations_of.ensures in
    own_equation (theory_of c.args.engine.now) c.args.sym.0 c.equations_of.result.now
    c.args.number c.index-equations_of-number.result all c.index-equations_of-number.is
    (omega (
      arith,
      as_long (theory_of c.args.engine.now) c.args.sym.0
          c.equations_of.result.now all,
      c.requires,
    ))
