use Rattle.std.proofs.Common.{ℕ, List, sym, subst}
use Rattle.term_core.specs.Terms.{Tree}
use Rattle.rule_core.specs.ProgramView.{theory_of}
use Rattle.pat_matrix.specs.MatrixView.{rows_of}
use Rattle.match_tree.specs.SlotView.{FindsFirst, first_row}
use Rattle.match_tree.specs.Walking.{AreWide}
use Rattle.rewriter.proofs.rules.next_match.Goals as goal

pub walk-requires-clause-wide : goal.walk-requires-clause-wide
walk-requires-clause-wide g c =
    subst (λ (n : ℕ). AreWide n (rows_of c.args.tree.now.matrix)) (sym c.from_ref.ensures.len)
    (c.program_laws.ensures.rule_width (theory_of c.args.engine.now) c.args.tree.now
    c.requires.tree)

pub returns-clause-tells : goal.returns-clause-tells
returns-clause-tells g c =
    c.program_laws.ensures.rules (theory_of c.args.engine.now) c.args.tree.now c.args.term.now
    c.requires.config.0 (first_row c.args.slots.now c.args.from) c.walk.result
    c.program-program.ensures.sorted c.requires.tree c.requires.config.1 c.requires.config.2
    c.height-high.ensures.normal (subst (λ (ts : List Tree). FindsFirst c.args.tree.now ts
    (first_row c.args.slots.now c.args.from) c.walk.result) c.from_ref.ensures.value
    c.walk.ensures.first)
