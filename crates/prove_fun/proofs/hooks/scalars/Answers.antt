use Rattle.std.proofs.Common.{◌≡◌, ◌+◌, ℕ, List, [], ◌∷◌, ◌++◌, length, length-append, slice_get}
use Rattle.std.proofs.Common.{Some, sym, ◌∙◌, ap, subst, arith}
use Rattle.term_core.specs.Terms.{leaf}
use Rattle.term_core.specs.Values.{scalar_value}
use Rattle.term_core.specs.declared.values.Scalar.{Scalar}
use Rattle.rule_core.specs.Records.{result_of}
use Rattle.rule_core.specs.RecordView.{plain_record}
use Rattle.prove_fun.specs.RecordParts.{children, children_of}
use Rattle.prove_fun.proofs.Hooking.{AreScalarsOf, scalars-push, scalars_all, value_item}
use Rattle.prove_fun.proofs.hooks.scalars.Goals as goal

pub loop-i-init : goal.loop-i-init
loop-i-init c = record {
  are =
      subst (AreScalarsOf (children (plain_record c.args.evaluation.now)))
      (sym c.in_ok-values.ensures.items) tt;
  many = ap (λ (ss : List Scalar). length ss) c.in_ok-values.ensures.items;
}

pub scalar-requires : goal.scalar-requires
scalar-requires c =
    let v : (sort : ℕ) × (s : Scalar) ×
    (result_of (plain_record c.child.result.now) ≡ leaf sort (scalar_value s)) =
    value_item (children_of (plain_record c.args.evaluation.now)) c.requires.values.0 c.loop-i.i
    (plain_record c.child.result.now) c.requires.values.1 c.child.ensures in
    (v.0, v.1, c.result.ensures ∙ v.2)

pub loop-i-preserved : goal.loop-i-preserved
loop-i-preserved c =
    let items : c.push.new.self.items ≡ c.loop-i.values.items ++ c.in_ok-scalar.field-0 ∷ [] =
    c.in_ok-push.ensures.items in
    let there : slice_get (children (plain_record c.args.evaluation.now))
    (length c.loop-i.values.items) ≡ Some (plain_record c.child.result.now) =
    ap (slice_get (children (plain_record c.args.evaluation.now))) c.loop-i.invariant.many
    ∙ c.child.ensures in
    let is : (sort : ℕ) × (result_of (plain_record c.child.result.now)
    ≡ leaf sort (scalar_value c.in_ok-scalar.field-0)) =
    (c.in_ok-scalar.ensures.0, sym c.result.ensures ∙ c.in_ok-scalar.ensures.1) in
    record {
      are = subst (AreScalarsOf (children (plain_record c.args.evaluation.now))) (sym items)
          (scalars-push (children (plain_record c.args.evaluation.now)) c.loop-i.values.items
          (plain_record c.child.result.now) c.in_ok-scalar.field-0 c.loop-i.invariant.are there
          is);
      many = ap (λ (ss : List Scalar). length ss) items
          ∙ length-append c.loop-i.values.items (c.in_ok-scalar.field-0 ∷ [])
          ∙ ap (λ (n : ℕ). n + 1) c.loop-i.invariant.many;
    }

pub returns : goal.returns
returns c =
    scalars_all (children_of (plain_record c.args.evaluation.now)) c.loop-i.values.items
    c.loop-i.invariant.are
    (omega (
      arith,
      c.loop-i.invariant.many,
      c.loop-i-test.false,
      c.loop-i.auto.i-end,
      c.requires.count,
    ))
