use Rattle.std.proofs.Common.{rules, ◌≡◌, ◌+◌, ◌≤◌, sym, ◌∙◌, ap, refl, eqb-true, arith}
use Rattle.std.proofs.lemmas.Slice.Zip.{zip_turn}
use Rattle.term_core.specs.Terms.{node, heights, height}
use Rattle.term_core.specs.Forests.{forest}
use Rattle.term_core.specs.TermView.{node_tree}
use Rattle.term_core.proofs.Forests.{same_node, height_of-item}
use Rattle.term_core.proofs.terms.+same.Goals as goal

pub Term::same-all_same-requires : goal.Term::same-all_same-requires
Term::same-all_same-requires t c =
    let whole : c.args.self.now ≡ node c.in-Ctor-Ctor.sym.0 (forest c.in-Ctor-Ctor.args.items) =
    sym c.self.view_is ∙ ap node_tree (sym c.deref.ensures ∙ c.in-Ctor-Ctor.is-0) in
    let high : height c.args.self.now ≡ heights (forest c.in-Ctor-Ctor.args.items) + 1 =
    ap height whole in
    let args : heights (forest c.deref-then-eq-2.result.now) ≡ heights
    (forest c.in-Ctor-Ctor.args.items) =
    rw c.deref-then-eq-2.ensures.value refl in
    (omega arith, tt)

pub Term::same-returns-then-eq-2 : goal.Term::same-returns-then-eq-2
Term::same-returns-then-eq-2 t c =
    let whole : c.args.self.now ≡ node c.in-Ctor-Ctor.sym.0 (forest c.in-Ctor-Ctor.args.items) =
    sym c.self.view_is ∙ ap node_tree (sym c.deref.ensures ∙ c.in-Ctor-Ctor.is-0) in
    let other : c.args.other.now ≡ node c.in-Ctor-Ctor.other_sym.0
    (forest c.in-Ctor-Ctor.other_args.items) =
    sym c.other.view_is ∙ ap node_tree (sym c.deref-2.ensures ∙ c.in-Ctor-Ctor.is-1) in
    same_node _ _ _ _ _ _ _ whole other (eqb-true _ _ (sym c.if-eq-2.ensures))
    (rw (← c.deref-then-eq-2.ensures.value, ← c.deref-then-eq-2-2.ensures.value)
    c.all_same.ensures)

pub all_same-same-requires : goal.all_same-same-requires
all_same-same-requires t c =
    let turn =
    zip_turn c.args.xs.now c.args.ys.now c.loop-x.yielded c.into_iter-x-iterator.result _
    c.next.new.self _ (search rules) (search rules) c.loop-x.yielded_by (c.in-Some.x, c.in-Some.y)
    c.in-Some.is c.next.ensures.steps in
    let low : height c.in-Some.x.now ≤ heights (forest c.args.xs.now) =
    height_of-item _ _ _ (turn.2 c.in-Some.x.now) turn.0 in
    (omega arith, tt)
