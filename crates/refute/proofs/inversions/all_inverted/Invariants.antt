use Rattle.std.proofs.Common.{◌≤◌, length, drop}
use Rattle.term_core.specs.RulePatterns.{plain_pattern}
use Rattle.prove_term.specs.Contexts.{HasGrown}
use Rattle.refute.specs.Bindings.{IsInverting}
use Rattle.refute.specs.Refutations.{all_bound, in_common}
use Rattle.refute.proofs.inversions.all_inverted.Given as goal

abbrev pub decreases-loop-left : goal.decreases-loop-left
decreases-loop-left l = l.left

abbrev pub invariant-loop-left : goal.invariant-loop-left
invariant-loop-left l = record {
  low : l.left ≤ length l.variables;
  grown : HasGrown l.fn.cx l.cx;
  inverts : IsInverting l.cx l.setting.given.hypothesis
      (in_common (plain_pattern l.pat) l.term) (all_bound l.subst (drop l.left l.variables)) l.present;
}
