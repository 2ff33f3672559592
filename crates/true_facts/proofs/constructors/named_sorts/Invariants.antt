use Rattle.std.proofs.Common.{◌≡◌, take, map}
use Rattle.term_core.specs.RulePatterns.{sort_numbers}
use Rattle.ml_image.specs.OwnAxioms.{sort_numbered}
use Rattle.true_facts.proofs.constructors.named_sorts.Given as goal

abbrev pub invariant-loop-of : goal.invariant-loop-of
invariant-loop-of l = take l.of-index l.refs ≡ map sort_numbered (sort_numbers l.sorts.items)
