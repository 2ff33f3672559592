use Rattle.std.proofs.Common.{◌+◌, sym, subst, arith}
use Rattle.ml_kernel.specs.Theorems.{Theorem}
use Rattle.ml_image.proofs.NamedLaws.{none_there, some_there}
use Rattle.refute.specs.Dropping.{IsImplication}
use Rattle.refute.proofs.DroppingLaws.{IsWholeFrom, whole_first, whole_next, whole_same, whole_last}
use Rattle.refute.proofs.dropping.whole_dropped.Goals.{then-is_empty+in_ok-present, else-is_empty}
use Rattle.refute.proofs.dropping.whole_dropped.Goals as goal

pub loop-name-init : goal.loop-name-init
loop-name-init c = record {
  implication = c.requires;
  done = λ s q implies.
      whole_first c.args.cx.now c.args.names.now c.args.x s q c.args.part implies;
}

pub loop-name-preserved : goal.loop-name-preserved
loop-name-preserved c =
    elim c.if-is_empty.branch [
      | then-is_empty+in_ok-present w ↦ record {
        implication =
            subst (λ (t : Theorem). IsImplication t.conclusion) (sym w.present-is)
            w.in_ok-present.ensures.implies;
        done = λ s q implies.
            subst (IsWholeFrom c.args.cx.now c.args.names.now c.args.x
            (c.loop-name.name-index + 1) s q) (sym w.present-is)
            (whole_next c.args.cx.now c.args.names.now c.args.x c.loop-name.name-index _ s q
            c.loop-name.present w.in_ok-present.present c.loop-name-test.true
            (none_there _ c.is_empty.result c.is_empty.ensures w.if-is_empty.true)
            w.in_ok-present.ensures.says (c.loop-name.invariant.done s q implies));
      }
      | else-is_empty w ↦ record {
        implication =
            subst (λ (t : Theorem). IsImplication t.conclusion) (sym w.present-is)
            c.loop-name.invariant.implication;
        done = λ s q implies.
            subst (IsWholeFrom c.args.cx.now c.args.names.now c.args.x
            (c.loop-name.name-index + 1) s q) (sym w.present-is)
            (whole_same c.args.cx.now c.args.names.now c.args.x c.loop-name.name-index _ s q
            c.loop-name.present c.loop-name-test.true
            (some_there _ c.is_empty.result c.is_empty.ensures w.if-is_empty.false)
            (c.loop-name.invariant.done s q implies));
      }
    ]

pub returns : goal.returns
returns c = λ s q implies.
    whole_last c.args.cx.now c.args.names.now c.args.x c.loop-name.name-index s q
    c.loop-name.present (omega (arith, c.loop-name-test.false, c.loop-name.auto.name-index-end))
    (c.loop-name.invariant.done s q implies)
