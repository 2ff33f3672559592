use Rattle.std.proofs.Common.{rules, arith, ◌+◌, ◌∙◌, sym, ap, List, take}
use Rattle.mm_text.specs.Bytes.{Token, has_token}
use Rattle.mm_frame.specs.PlainFrames.{plain_hypothesis}
use Rattle.mm_verify.proofs.ReadProofs.{map-map}
use Rattle.mm_verify.proofs.LabelMarks.{label-marked}
use Rattle.mm_database.specs.Frames.{label_of}
use Rattle.mm_verify.proofs.label_marks.mark_hypotheses.Goals as goal

pub loop-hyp-preserved : goal.loop-hyp-preserved
loop-hyp-preserved c = record {
  room = search rules;
  marked = λ t h.
      ap (λ (us : List Token). has_token us t)
      (map-map plain_hypothesis label_of (take (c.loop-hyp.hyp-index + 1) c.args.hyps.now))
      ∙ label-marked (λ x. label_of (plain_hypothesis x)) c.args.hyps.now c.loop-hyp.hyp-index _
      c.label.result.now c.mark-place.result c.args.stamp c.loop-hyp.marks
      c.loop-hyp-test.true c.hyp-item.is c.label.ensures c.mark-place.ensures.is
      (omega (arith, c.mark-place.ensures.within, c.loop-hyp.invariant.room, c.requires))
      (λ u k. sym (ap (λ (us : List Token). has_token us
      u) (map-map plain_hypothesis label_of (take c.loop-hyp.hyp-index c.args.hyps.now)))
      ∙ c.loop-hyp.invariant.marked u k)
      t h;
}
