use Rattle.std.proofs.Common.{◌≡◌, ◌≤◌, drop, map}
use Rattle.std.specs.Prelude.{max}
use Rattle.kore_check.specs.Folds.{unfolded_heights}
use Rattle.kore_check.specs.FoldHeights.{cut}
use Rattle.kore_shapes.specs.Views.{pattern_at}
use Rattle.kore_equations.specs.ReadableSides.{all_read}
use Rattle.kore_equations.proofs.sorts.highest.Given as goal

abbrev pub invariant-loop-pat : goal.invariant-loop-pat
invariant-loop-pat l = record {
  whole : cut (max l.highest (unfolded_heights
      (all_read (map pattern_at (drop l.pat-index l.pats)))))
      ≡ cut (unfolded_heights (all_read (map pattern_at l.pats)));
  within : l.highest ≤ 501;
}
