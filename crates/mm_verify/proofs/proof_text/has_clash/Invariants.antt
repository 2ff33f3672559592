use Rattle.std.specs.Prelude.{◌≡◌, ◌≤◌, ◌||◌, length, drop, map, false, is_some}
use Rattle.std.specs.BTreeMap.{get_by}
use Rattle.std.specs.Cmp.Lexicographic.{slice_cmp}
use Rattle.std.specs.Ordering.{nat_cmp}
use Rattle.mm_text.specs.Bytes.{Token, has_token}
use Rattle.mm_text.specs.Reader.{words_of}
use Rattle.mm_frame.specs.PlainFrames.{plain_hypotheses}
use Rattle.mm_frame.specs.Labels.{label_in}
use Rattle.mm_verify.specs.ProofSteps.{clashes, labels_in}
use Rattle.mm_verify.proofs.proof_text.has_clash.Given as goal

abbrev pub invariant-loop-at : goal.invariant-loop-at
invariant-loop-at l = record {
  within : l.at ≤ length l.labels;
  tail : clashes (labels_in (plain_hypotheses l.hyps)) (words_of l.bytes (drop l.at l.labels))
      ≡ false;
  seen : (q : Token)
      → is_some (get_by (λ k. slice_cmp nat_cmp q k.now) l.seen)
      ≡ (has_token (map label_in l.hyps) q
      || has_token (words_of l.bytes (drop l.at l.labels)) q);
}

abbrev pub decreases-loop-at : goal.decreases-loop-at
decreases-loop-at l = l.at
