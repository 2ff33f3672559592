-- The children of a term are lower than the term.
use Rattle.std.specs.Prelude.{◌+◌, ◌≤◌, List, [], ◌∷◌}
use Rattle.std.proofs.Common.{arith}
use denote.Param.Weighed.{most}
use Rattle.term_core.specs.Terms.{Tree, height, heights}
use Rattle.term_core.specs.Forests.{forest}
use Rattle.term_core.specs.TermView.{node_tree}
use Rattle.term_core.specs.declared.terms.Node.{Node}
use Rattle.term_core.specs.declared.terms.Node.TheVariants as form
use Rattle.term_core.specs.declared.terms.Term.TheDeep.{deep-Node}

pub most-height : (ts : List Tree) → most (λ t. height t + 1) ts ≤ heights (forest ts) + 1
most-height [] = omega arith
most-height (t ∷ ts) = omega (arith, most-height ts)

pub deep-height : (n : Node) → deep-Node n ≤ height (node_tree n)
deep-height (form.Leaf s v) = omega arith
deep-height (form.Ctor f args) = omega (arith, most-height args.items)
deep-height (form.Inj a b t) = omega arith
