use Rattle.std.proofs.Common.{◌≡◌, length, sym, ◌∙◌, ap, arith, refl}
use Rattle.term_core.specs.Terms.{node}
use Rattle.term_core.specs.Forests.{forest, children}
use Rattle.term_core.specs.TermView.{node_tree}
use Rattle.term_core.proofs.Forests.{children-node, child_at}
use Rattle.term_core.proofs.terms.Term.child.Goals as goal

pub index-requires : goal.index-requires
index-requires c =
    let whole : c.args.self.now ≡ node c.in-Ctor.field-0.0 (forest c.in-Ctor.args.items) =
    sym c.self.view_is ∙ ap node_tree (sym c.deref.ensures ∙ c.in-Ctor.is) in
    let len : length (children c.args.self.now) ≡ length c.in-Ctor.args.items =
    ap length (children-node _ _ _ whole) in
    omega arith

pub returns-in-Ctor : goal.returns-in-Ctor
returns-in-Ctor c =
    let whole : c.args.self.now ≡ node c.in-Ctor.field-0.0 (forest c.in-Ctor.args.items) =
    sym c.self.view_is ∙ ap node_tree (sym c.deref.ensures ∙ c.in-Ctor.is) in
    let len : length (children c.args.self.now) ≡ length c.in-Ctor.args.items =
    ap length (children-node _ _ _ whole) in
    child_at _ _ _ _ (length c.in-Ctor.args.items) c.args.i whole refl (omega arith) c.index.ensures
