use Rattle.rule_core.specs.ProgramView.{theory_of}
use Rattle.fun_eval.proofs.equations.next_equation.Goals as goal

pub find_row-requires-clause-tree : goal.find_row-requires-clause-tree
find_row-requires-clause-tree c = c.requires.tree.tree

pub find_row-requires-clause-wide : goal.find_row-requires-clause-wide
find_row-requires-clause-wide c =
    c.program_laws.ensures.equation_width (theory_of c.args.engine.now) c.args.sym.0
    c.requires.fits.info c.args.tree.now c.args.terms.now c.program-program.ensures.sorted
    c.requires.tree c.requires.fits.there c.requires.fits.good.0

pub returns-clause-tells : goal.returns-clause-tells
returns-clause-tells c = λ first begins.
    c.program_laws.ensures.equations (theory_of c.args.engine.now) c.args.sym.0
    c.requires.fits.info c.args.tree.now c.args.terms.now first c.find_row.result
    c.program-program.ensures.sorted c.requires.tree c.requires.fits.there
    c.requires.fits.good.0 c.requires.fits.good.1 (c.find_row.ensures.first first begins)
