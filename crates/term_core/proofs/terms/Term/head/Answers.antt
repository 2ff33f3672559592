use Rattle.std.proofs.Common.{◌≡◌, length, List, sym, ◌∙◌, ap, arith}
use Rattle.term_core.specs.Terms.{Tree, node}
use Rattle.term_core.specs.Forests.{forest, children}
use Rattle.term_core.specs.TermView.{node_tree}
use Rattle.term_core.proofs.Forests.{children-node}
use Rattle.term_core.proofs.terms.Term.head.Goals as goal

pub returns-in-Ctor : goal.returns-in-Ctor
returns-in-Ctor c =
    let whole : c.args.self.now ≡ node c.in-Ctor.sym.0 (forest c.in-Ctor.args.items) =
    sym c.self.view_is ∙ ap node_tree (sym c.deref.ensures ∙ c.in-Ctor.is) in
    let args : children c.args.self.now ≡ c.in-Ctor.args.items = children-node _ _ _ whole in
    let len : length (children c.args.self.now) ≡ length c.in-Ctor.args.items = ap length args in
    (whole ∙ ap (λ (ts : List Tree). node c.in-Ctor.sym.0 (forest ts)) (sym args), omega arith)
