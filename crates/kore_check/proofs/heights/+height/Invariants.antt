use Rattle.std.proofs.Common.{◌≡◌, ◌≤◌, drop, max}
use Rattle.kore_check.specs.Folds.{unfolded_heights}
use Rattle.kore_check.specs.FoldHeights.{cut}
use Rattle.kore_check.proofs.HeightLaws.{grown_left, grown_from}
use Rattle.kore_check.proofs.Applications.{reads}
use Rattle.kore_check.proofs.heights.+height.Given as goal

abbrev pub invariant-highest-loop-arg : goal.invariant-highest-loop-arg
invariant-highest-loop-arg l = record {
  low : l.highest ≤ 501;
  whole : cut (max l.highest (unfolded_heights (reads (drop l.arg-index l.args))))
      ≡ cut (unfolded_heights (reads l.args));
}

abbrev pub invariant-left_height-loop-i : goal.invariant-left_height-loop-i
invariant-left_height-loop-i l = record {
  low : l.height ≤ 501;
  whole : cut (grown_left l.height (drop l.i l.args))
      ≡ cut (grown_left l.initial.height (drop 1 l.args));
}

abbrev pub invariant-right_height-loop-i : goal.invariant-right_height-loop-i
invariant-right_height-loop-i l = l.height ≡ cut (grown_from (drop l.i l.args))
