use Rattle.std.proofs.Common.{rules, arith}
use Rattle.mm_frame.specs.PlainFrames.{plain_hypotheses}
use Rattle.mm_verify.specs.ProofSteps.{labels_in}
use Rattle.mm_verify.proofs.Clashing.{no-clash}
use Rattle.mm_verify.proofs.LabelMarks.{more-marked}
use Rattle.mm_verify.proofs.label_marks.have_marks.Goals as goal

pub loop-at-preserved : goal.loop-at-preserved
loop-at-preserved c = record {
  room = search rules;
  within = omega arith;
  tail =
      no-clash (labels_in (plain_hypotheses c.args.hyps.now)) c.args.bytes.now c.args.labels.now
      c.loop-at.at (record { from = 0; to = 0 }) c.word.result.now (omega arith)
      c.loop-at.invariant.within c.word.ensures
      (c.loop-at.invariant.marked c.word.result.now (search rules)) c.loop-at.invariant.tail;
  marked =
      more-marked (labels_in (plain_hypotheses c.args.hyps.now)) c.args.bytes.now c.args.labels.now
      c.loop-at.at (record { from = 0; to = 0 }) c.word.result.now c.mark-place.result
      c.args.stamp c.loop-at.marks (omega arith) c.loop-at.invariant.within c.word.ensures
      c.mark-place.ensures.is
      (omega (arith, c.mark-place.ensures.within, c.loop-at.invariant.room))
      c.loop-at.invariant.marked;
}
