use Rattle.std.proofs.Common.{◌≡◌, map, take}
use Rattle.term_core.specs.Patterns.{ground_pattern}
use Rattle.term_core.specs.RulePatterns.{plain_pattern}
use Rattle.prove_term.proofs.calls.patterns.Given as goal

abbrev pub invariant-loop-term : goal.invariant-loop-term
invariant-loop-term l =
    map plain_pattern l.made.items ≡ map ground_pattern (take l.term-index l.terms)
