use Rattle.std.proofs.Common.{◌≡◌, ◌↔◌, map, length, drop}
use Rattle.term_core.specs.RulePatterns.{sort_numbers}
use Rattle.ml_image.specs.OwnAxioms.{sort_numbered}
use Rattle.true_facts.proofs.hook_facts.takes.Given as goal

abbrev pub invariant-loop-of : goal.invariant-loop-of
invariant-loop-of l = (drop (length l.yielded) l.refs
    ≡ map sort_numbered (sort_numbers (drop (length l.yielded) l.sorts)))
    ↔ (l.refs ≡ map sort_numbered (sort_numbers l.sorts))
