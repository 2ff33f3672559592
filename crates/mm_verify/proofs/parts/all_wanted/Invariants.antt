use Rattle.std.specs.Prelude.{◌≡◌, flat_map, take}
use Rattle.mm_frame.specs.PlainFrames.{plain_hypotheses}
use Rattle.mm_verify.specs.Locating.{AreLocated}
use Rattle.mm_verify.specs.Resolved.{hypotheses_of, parts_in}
use Rattle.mm_verify.proofs.parts.all_wanted.Given as goal

abbrev pub invariant-loop-hyp : goal.invariant-loop-hyp
invariant-loop-hyp l = record {
  hypotheses : hypotheses_of l.all.items ≡ plain_hypotheses (take l.hyp-index l.hyps);
  places : AreLocated l.places (flat_map parts_in l.all.items);
}
