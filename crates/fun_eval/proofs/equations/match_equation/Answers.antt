use Rattle.std.proofs.lemmas.Result.{IfOk-weaker}
use Rattle.term_core.specs.Forests.{forest}
use Rattle.rule_core.specs.ProgramView.{theory_of}
use Rattle.fun_eval.specs.Equations.{MatchesNumber}
use Rattle.fun_eval.proofs.Matches.{found_matches, found_scoped, found_within, names_fit}
use Rattle.fun_eval.proofs.equations.match_equation.Goals as goal

pub equation_of-equation-requires : goal.equation_of-equation-requires
equation_of-equation-requires c =
    found_within (theory_of c.args.engine.now) c.args.sym.0 c.args.tree.now c.args.terms.now
    c.requires.first.0 c.args.row c.requires.first.1

pub bind_row-requires-clause-scoped : goal.bind_row-requires-clause-scoped
bind_row-requires-clause-scoped c =
    found_scoped (theory_of c.args.engine.now) c.args.sym.0 c.args.tree.now c.args.terms.now
    c.requires.first.0 c.args.row c.len.result c.equation_of-equation.result.now
    c.requires.first.1 c.equation_of-equation.ensures c.len.ensures

pub with_names-requires-clause-fits : goal.with_names-requires-clause-fits
with_names-requires-clause-fits c = (names_fit (theory_of c.args.engine.now) c.args.sym.0
    c.args.tree.now c.args.terms.now c.requires.first.0 c.args.row c.len.result
    c.equation_of-equation.result.now c.deref.result.now c.deref-2.result.now
    c.in_ok-subst.subst c.program-program.ensures.sorted
    c.requires.fits c.requires.first.1 c.equation_of-equation.ensures c.len.ensures
    c.deref.ensures.value c.deref-2.ensures.value c.in_ok-subst.ensures).0

pub with_names-requires-clause-names : goal.with_names-requires-clause-names
with_names-requires-clause-names c = (names_fit (theory_of c.args.engine.now) c.args.sym.0
    c.args.tree.now c.args.terms.now c.requires.first.0 c.args.row c.len.result
    c.equation_of-equation.result.now c.deref.result.now c.deref-2.result.now
    c.in_ok-subst.subst c.program-program.ensures.sorted
    c.requires.fits c.requires.first.1 c.equation_of-equation.ensures c.len.ensures
    c.deref.ensures.value c.deref-2.ensures.value c.in_ok-subst.ensures).1

pub returns : goal.returns
returns c = IfOk-weaker c.with_names.result _
    (MatchesNumber (theory_of c.args.engine.now) c.args.sym.0 c.args.row
    (forest c.args.terms.now))
    (λ sigma adds. found_matches (theory_of c.args.engine.now) c.args.sym.0 c.args.tree.now
    c.args.terms.now c.requires.first.0 c.args.row c.len.result c.equation_of-equation.result.now
    c.deref.result.now c.deref-2.result.now c.in_ok-subst.subst sigma
    c.program-program.ensures.sorted c.requires.fits c.requires.first.1
    c.equation_of-equation.ensures c.len.ensures c.deref.ensures.value c.deref-2.ensures.value
    c.in_ok-subst.ensures adds) c.with_names.ensures
