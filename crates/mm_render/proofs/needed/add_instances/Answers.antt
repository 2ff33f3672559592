use Rattle.std.proofs.Common.{List, ◌≡◌, ◌+◌, ◌++◌, ◌∷◌, [], take, ap, ◌∙◌, sym}
use Rattle.std.proofs.lemmas.List.{take_more, map-append}
use Rattle.ml_kernel.specs.StepView.{instance_of, instances_of}
use Rattle.ml_kernel.specs.declared.derivations.Inst.{Inst}
use Rattle.mm_render.specs.ListedVariables.{listed}
use Rattle.mm_claims.specs.OpenVariables.{variables_for}
use Rattle.mm_render.proofs.StackedVariables.{item_added}
use Rattle.mm_render.proofs.needed.add_instances.Goals as goal

pub loop-instance-preserved : goal.loop-instance-preserved
loop-instance-preserved c =
    let before : List Inst = take c.loop-instance.instance-index c.args.instances.now in
    let next : take (c.loop-instance.instance-index + 1) c.args.instances.now ≡ before ++
    c.instance-item.result ∷ [] =
    take_more c.args.instances.now c.loop-instance.instance-index c.instance-item.result
    c.loop-instance-test.true
    ∙ ap (λ (i : Inst). before ++ i ∷ []) (sym c.instance-item.is) in
    item_added variables_for
    (instances_of (take (c.loop-instance.instance-index + 1) c.args.instances.now))
    (instances_of before) (instance_of c.instance-item.result) (listed c.args.list.now)
    (listed c.loop-instance.list) (listed c.add_instance.new.list)
    (ap instances_of next ∙ map-append instance_of before (c.instance-item.result ∷ []))
    c.loop-instance.invariant c.in_ok-add_instance.ensures
