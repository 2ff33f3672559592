use Rattle.std.proofs.Common.{◌∙◌}
use Rattle.std.proofs.lemmas.Map.Text.{btree_map_updates_str}
use Rattle.mm_frame.specs.Labels.{label_in}
use Rattle.mm_frame.proofs.Labelled.{label-more, label-scope_state}
use Rattle.mm_frame.proofs.asking.own_labels.Goals as goal

pub loop-hyp-preserved : goal.loop-hyp-preserved
loop-hyp-preserved c q =
    label-more label_in c.args.hyps.now c.loop-hyp.hyp-index _ c.label.result.now q _ _ tt
    c.loop-hyp-test.true c.hyp-item.is
    (c.label.ensures ∙ label-scope_state c.hyp-item.result)
    (btree_map_updates_str c.label.result.now c.loop-hyp.labels c.insert.new.self _
    c.in_ok-insert.ensures.updates q)
    (c.loop-hyp.invariant q)
