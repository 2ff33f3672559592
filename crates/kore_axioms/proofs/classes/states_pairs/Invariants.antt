use Rattle.std.proofs.Common.{◌≡◌, drop, map}
use Rattle.kore_ast.specs.Plain.{pattern_tree}
use Rattle.kore_axioms.specs.AxiomClasses.{states_pairs}
use Rattle.kore_axioms.proofs.classes.states_pairs.Given as goal

abbrev pub invariant-loop-attr : goal.invariant-loop-attr
invariant-loop-attr l = states_pairs (map pattern_tree (drop l.attr-index l.attrs))
    ≡ states_pairs (map pattern_tree l.attrs)
