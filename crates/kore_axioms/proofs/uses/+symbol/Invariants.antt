use Rattle.std.proofs.Common.{◌≡◌, drop, map}
use Rattle.kore_text.specs.Trees.{pattern_trees}
use Rattle.kore_ast.specs.Plain.{pattern_tree}
use Rattle.kore_check.specs.Folds.{all_unfolded}
use Rattle.kore_axioms.specs.Uses.{have_symbol}
use Rattle.kore_axioms.specs.UsedSymbols.{is_used}
use Rattle.kore_axioms.proofs.uses.+symbol.Given as goal

abbrev pub invariant-have_symbol-loop-pat : goal.invariant-have_symbol-loop-pat
invariant-have_symbol-loop-pat l =
    have_symbol (is_used l.which l.sig)
    (all_unfolded (pattern_trees (map pattern_tree (drop l.pat-index l.pats))))
    ≡ have_symbol (is_used l.which l.sig) (all_unfolded (pattern_trees (map pattern_tree l.pats)))
