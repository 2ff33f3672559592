use Rattle.std.specs.Prelude.{◌≡◌, ◌≤◌, ◌||◌, length, drop, false}
use Rattle.mm_text.specs.Bytes.{Token, has_token}
use Rattle.mm_text.specs.Reader.{words_of}
use Rattle.mm_frame.specs.PlainFrames.{plain_hypotheses}
use Rattle.mm_verify.specs.Marks.{mark_of, is_set}
use Rattle.mm_verify.specs.ProofSteps.{clashes, labels_in}
use Rattle.mm_verify.proofs.label_marks.have_marks.Given as goal

abbrev pub invariant-loop-at : goal.invariant-loop-at
invariant-loop-at l = record {
  room : 131072 ≤ length l.marks;
  within : l.at ≤ length l.labels;
  tail : clashes (labels_in (plain_hypotheses l.hyps)) (words_of l.bytes (drop l.at l.labels))
      ≡ false;
  marked : (t : Token) → is_set l.stamp l.marks (mark_of t) ≡ false
      → (has_token (labels_in (plain_hypotheses l.hyps)) t
      || has_token (words_of l.bytes (drop l.at l.labels)) t) ≡ false;
}

abbrev pub decreases-loop-at : goal.decreases-loop-at
decreases-loop-at l = l.at
