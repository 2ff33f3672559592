use Rattle.std.proofs.Common.{◌≡◌, length}
use Rattle.term_core.specs.RulePatterns.{sort_numbers}
use Rattle.guard_body.specs.Arguments.{AreMatched}
use Rattle.guard_body.proofs.matches.all_found.Given as goal

abbrev pub invariant-loop-argument : goal.invariant-loop-argument
invariant-loop-argument l = record {
  many : length l.all.items ≡ l.argument-index;
  matched : AreMatched l.sig (sort_numbers l.sorts) l.arguments l.all.items;
}
