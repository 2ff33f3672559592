use Rattle.std.proofs.Common.{◌≡◌, ◌+◌, ◌*◌, drop}
use Rattle.ml_kernel.specs.Lemmas.{HasNoVariable}
use Rattle.term_core.specs.RulePatterns.{plain_pattern}
use Rattle.term_core.specs.PatternLists.{plain_patterns}
use Rattle.term_core.proofs.PatternLaws.{depth, depths}
use Rattle.prove_term.specs.Contexts.{HasGrown}
use Rattle.prove_term.specs.Applications.{applied_to}
use Rattle.prove_term.specs.Comparing.{IsOverContext}
use Rattle.prove_term.proofs.ComparingLoop.{AreDoneBefore}
use Rattle.prove_term.proofs.comparing.+compared.Given as goal

abbrev pub decreases-compared : goal.decreases-compared
decreases-compared l = 6 * depth (plain_pattern l.pat.now)

abbrev pub decreases-constructor_compared : goal.decreases-constructor_compared
decreases-constructor_compared l = 6 * depths (plain_patterns l.args.now) + 5

abbrev pub decreases-all_compared : goal.decreases-all_compared
decreases-all_compared l = 6 * depths (plain_patterns l.args.now) + 4

abbrev pub decreases-injection_compared : goal.decreases-injection_compared
decreases-injection_compared l = 6 * depth (plain_pattern l.below.now) + 5

abbrev pub decreases-beneath : goal.decreases-beneath
decreases-beneath l = 6 * depth (plain_pattern l.below.now) + 1

abbrev pub decreases-joined_compared : goal.decreases-joined_compared
decreases-joined_compared l = 6 * depth (plain_pattern l.below.now) + 4

abbrev pub decreases-middle_compared : goal.decreases-middle_compared
decreases-middle_compared l = 6 * depth (plain_pattern l.pat.now) + 3

abbrev pub invariant-all_compared-loop-i : goal.invariant-all_compared-loop-i
invariant-all_compared-loop-i l = record {
  done : AreDoneBefore l.cx l.args l.wholes l.i l.head l.function l.made;
  closed : HasNoVariable l.function;
  over : IsOverContext l.cx l.function;
  left : applied_to l.function (drop l.i l.images) ≡ applied_to l.head l.images;
  grown : HasGrown l.initial.cx l.cx;
}
