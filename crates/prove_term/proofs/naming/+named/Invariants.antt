use Rattle.std.proofs.Common.{◌≡◌, ◌+◌, ◌*◌, drop}
use Rattle.ml_kernel.specs.Lemmas.{HasNoVariable}
use Rattle.term_core.specs.RulePatterns.{plain_pattern}
use Rattle.term_core.specs.PatternLists.{plain_patterns}
use Rattle.term_core.proofs.PatternLaws.{depth, depths}
use Rattle.ml_image.specs.PartNames.{part_names}
use Rattle.prove_term.specs.Contexts.{HasGrown}
use Rattle.prove_term.specs.Applications.{applied_to}
use Rattle.prove_term.proofs.NamingCalls.{AreNamedBefore}
use Rattle.prove_term.proofs.naming.+named.Given as goal

abbrev pub decreases-named_compared : goal.decreases-named_compared
decreases-named_compared l = 5 * depth (plain_pattern l.pat.now) + 1

abbrev pub decreases-part_compared : goal.decreases-part_compared
decreases-part_compared l = 5 * depth (plain_pattern l.pat.now)

abbrev pub decreases-constructor_named : goal.decreases-constructor_named
decreases-constructor_named l = 5 * depths (plain_patterns l.args.now) + 3

abbrev pub decreases-all_named : goal.decreases-all_named
decreases-all_named l = 5 * depths (plain_patterns l.args.now) + 2

abbrev pub decreases-injection_named : goal.decreases-injection_named
decreases-injection_named l = 5 * depth (plain_pattern l.below.now) + 2

abbrev pub invariant-all_named-loop-i : goal.invariant-all_named-loop-i
invariant-all_named-loop-i l = record {
  done : AreNamedBefore l.initial.cx l.cx (part_names l.names) l.args l.wholes l.i l.head l.function
      l.made;
  closed : HasNoVariable l.function;
  left : applied_to l.function (drop l.i l.images) ≡ applied_to l.head l.images;
  grown : HasGrown l.initial.cx l.cx;
}
