use Rattle.std.specs.Prelude.{◌≡◌, length, take}
use Rattle.mm_frame.specs.PlainFrames.{plain_hypotheses}
use Rattle.mm_verify.specs.Marks.{AreMarked}
use Rattle.mm_verify.specs.ProofSteps.{labels_in}
use Rattle.mm_verify.proofs.label_marks.mark_hypotheses.Given as goal

abbrev pub invariant-loop-hyp : goal.invariant-loop-hyp
invariant-loop-hyp l = record {
  room : length l.marks ≡ length l.fn.marks;
  marked : AreMarked (labels_in (plain_hypotheses (take l.hyp-index l.hyps))) l.stamp l.marks;
}
