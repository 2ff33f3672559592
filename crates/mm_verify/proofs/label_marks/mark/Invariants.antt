use Rattle.std.specs.Prelude.{◌≡◌, ◌<◌, drop}
use Rattle.mm_verify.specs.Marks.{mark_behind, mark_of}
use Rattle.mm_verify.proofs.label_marks.mark.Given as goal

abbrev pub invariant-loop-byte : goal.invariant-loop-byte
invariant-loop-byte l = record {
  left : mark_behind l.sum (drop l.byte-index l.label) ≡ mark_of l.label;
  within : l.sum < 131072;
}
