use Rattle.std.proofs.Common.{◌≤◌, length, drop}
use Rattle.term_core.specs.RulePatterns.{plain_pattern}
use Rattle.ml_image.specs.PartNames.{part_names}
use Rattle.prove_term.specs.Contexts.{HasGrown}
use Rattle.refute.specs.Bindings.{IsInverting}
use Rattle.refute.specs.NamedRefutations.{named_in_common}
use Rattle.refute.specs.Refutations.{all_bound}
use Rattle.refute.proofs.named_inversions.inverted.Given as goal

abbrev pub decreases-loop-left : goal.decreases-loop-left
decreases-loop-left l = l.left

abbrev pub invariant-loop-left : goal.invariant-loop-left
invariant-loop-left l = record {
  low : l.left ≤ length l.variables;
  grown : HasGrown l.fn.cx l.cx;
  inverts : IsInverting l.cx l.setting.given.hypothesis
      (named_in_common (part_names l.side.names.now) (plain_pattern l.side.pat.now) l.term)
      (all_bound l.subst (drop l.left l.variables)) l.present;
}
