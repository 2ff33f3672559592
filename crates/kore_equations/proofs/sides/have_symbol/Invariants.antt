use Rattle.std.proofs.Common.{◌≡◌, drop, map}
use Rattle.kore_text.specs.Trees.{pattern_trees}
use Rattle.kore_check.specs.Folds.{all_unfolded}
use Rattle.kore_shapes.specs.Views.{pattern_at}
use Rattle.kore_axioms.specs.Uses.{have_symbol}
use Rattle.kore_axioms.specs.UsedSymbols.{is_used}
use Rattle.kore_equations.proofs.sides.have_symbol.Given as goal

abbrev pub invariant-loop-pat : goal.invariant-loop-pat
invariant-loop-pat l =
    have_symbol (is_used l.which l.sig)
    (all_unfolded (pattern_trees (map pattern_at (drop l.pat-index l.pats))))
    ≡ have_symbol (is_used l.which l.sig) (all_unfolded (pattern_trees (map pattern_at l.pats)))
