use Rattle.term_core.specs.Forests.{forest}
use Rattle.rule_core.specs.ProgramView.{function_equation}
use Rattle.prove_equation.proofs.FillingLaws.{direct_denied}
use Rattle.prove_equation.proofs.at_terms.equation_at.Goals as goal

pub direct_at-requires-clause-usable : goal.direct_at-requires-clause-usable
direct_at-requires-clause-usable c =
    direct_denied c.args.cx.now c.args.equation.now.fun.0 (function_equation c.args.equation.now)
    c.args.lemma.now c.args.subst.now (forest c.args.args.now) c.args.condition.now
    c.args.denied.now c.if-equation-eq0.true c.requires
