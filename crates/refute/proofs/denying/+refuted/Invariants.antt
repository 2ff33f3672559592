use Rattle.std.proofs.Common.{◌≡◌, ◌+◌, ◌*◌, ◌<◌, ℕ, Some, slice_get}
use Rattle.term_core.specs.Terms.{Tree}
use Rattle.term_core.specs.Forests.{children}
use Rattle.term_core.specs.RulePatterns.{plain_pattern}
use Rattle.term_core.specs.PatternLists.{plain_patterns}
use Rattle.term_core.specs.declared.rule_patterns.RulePat.{RulePat}
use Rattle.term_core.proofs.PatternLaws.{depth, depths}
use Rattle.prove_term.specs.Contexts.{HasGrown}
use Rattle.refute.specs.Refuting.{AreFree}
use Rattle.refute.proofs.denying.+refuted.Given as goal

abbrev pub decreases-refuted : goal.decreases-refuted
decreases-refuted l = 3 * depth (plain_pattern l.pat.now)

abbrev pub decreases-arguments_refuted : goal.decreases-arguments_refuted
decreases-arguments_refuted l = 3 * depths (plain_patterns l.args.now) + 1

abbrev pub decreases-injected_refuted : goal.decreases-injected_refuted
decreases-injected_refuted l = 3 * depth (plain_pattern l.below.now) + 1

abbrev pub decreases-lowered_refuted : goal.decreases-lowered_refuted
decreases-lowered_refuted l = 3 * depth (plain_pattern l.below.now) + 1

abbrev pub invariant-arguments_refuted-loop-i : goal.invariant-arguments_refuted-loop-i
invariant-arguments_refuted-loop-i l = record {
  grown : HasGrown l.initial.cx l.cx;
  free : (j : ℕ) (p : RulePat) (t : Tree) → j < l.i → slice_get l.args j ≡ Some p
      → slice_get (children l.term) j ≡ Some t
      → AreFree l.initial.cx.program.sig.subsorts l.setting.goal (plain_pattern p) t;
}
