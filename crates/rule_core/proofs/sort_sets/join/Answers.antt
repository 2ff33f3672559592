use Rattle.std.proofs.Common.{◌≡◌, ◌∙◌, ap, sym, ℕ}
use Rattle.std.specs.Prelude.{IsTrue, ◌||◌, ◌==◌}
use Rattle.rule_core.specs.SubsortFields.{has, is_in}
use Rattle.rule_core.proofs.SortSets.{joined_from, joined_already, nothing_new}
use Rattle.rule_core.proofs.sort_sets.join.Goals as goal

pub returns-clause-joined : goal.returns-clause-joined
returns-clause-joined c =
    let same : (x y : ℕ) → is_in c.widen.new.rows.items x y ≡ is_in c.args.rows.now.items x y =
    λ x y. c.widen.ensures.same x y ∙ c.grow.ensures.same x y in
    let upper : (y : ℕ) → has c.deref-3.result.now y ≡
    (c.args.b.0 == y || is_in c.args.rows.now.items c.args.b.0 y) =
    λ y.
    ap (λ s. has s y) c.deref-3.ensures.value ∙ c.in_ok-more.ensures y
    ∙ ap (λ t. c.args.b.0 == y || t) (c.set_of.ensures y
    ∙ ap (λ l. is_in l c.args.b.0 y) c.deref-2.ensures.value
    ∙ c.grow.ensures.same c.args.b.0 y) in
    joined_from _ _ _ _ _ _ same upper c.merge.ensures

pub returns-then-is_in-clause-joined : goal.returns-then-is_in-clause-joined
returns-then-is_in-clause-joined c =
    let known : IsTrue (is_in c.args.rows.now.items c.args.a.0 c.args.b.0) =
    ap (λ l. is_in l c.args.a.0 c.args.b.0) (sym c.deref.ensures.value) ∙ sym c.is_in.ensures
    ∙ c.if-is_in.true in
    joined_already c.args.rows.now.items c.args.a.0 c.args.b.0 c.requires known

pub merge-requires-clause-known : goal.merge-requires-clause-known
merge-requires-clause-known c =
    let same : (x y : ℕ) → is_in c.widen.new.rows.items x y ≡ is_in c.args.rows.now.items x y =
    λ x y. c.widen.ensures.same x y ∙ c.grow.ensures.same x y in
    let upper : (y : ℕ) → has c.deref-3.result.now y ≡
    (c.args.b.0 == y || is_in c.args.rows.now.items c.args.b.0 y) =
    λ y.
    ap (λ s. has s y) c.deref-3.ensures.value ∙ c.in_ok-more.ensures y
    ∙ ap (λ t. c.args.b.0 == y || t) (c.set_of.ensures y
    ∙ ap (λ l. is_in l c.args.b.0 y) c.deref-2.ensures.value
    ∙ c.grow.ensures.same c.args.b.0 y) in
    λ x y leads more. same x y
    ∙ nothing_new c.args.rows.now.items x c.args.b.0 y c.requires
    (sym (same x c.args.b.0) ∙ leads) (sym (upper y) ∙ more)
