use Rattle.std.proofs.Common.{◌+◌, ◌*◌, take}
use Rattle.term_core.specs.RulePatterns.{plain_pattern, sort_numbers}
use Rattle.term_core.specs.PatternLists.{plain_patterns}
use Rattle.term_core.proofs.PatternLaws.{depth, depths}
use Rattle.prove_term.specs.Contexts.{HasGrown}
use Rattle.prove_open.specs.Known.{AreKnown}
use Rattle.prove_open.proofs.elements.+known.Given as goal

abbrev pub decreases-known : goal.decreases-known
decreases-known l = 3 * depth (plain_pattern l.pat.now)

abbrev pub decreases-constructed : goal.decreases-constructed
decreases-constructed l = 3 * depths (plain_patterns l.args.now) + 2

abbrev pub decreases-all_known : goal.decreases-all_known
decreases-all_known l = 3 * depths (plain_patterns l.args.now) + 1

abbrev pub invariant-all_known-loop-arg : goal.invariant-all_known-loop-arg
invariant-all_known-loop-arg l = record {
  known : AreKnown l.cx (sort_numbers l.sorts) l.given (take l.arg-index l.args) l.parts.items;
  grown : HasGrown l.initial.cx l.cx;
}

abbrev pub decreases-injected : goal.decreases-injected
decreases-injected l = 3 * depth (plain_pattern l.below.now) + 1
