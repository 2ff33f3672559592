use Rattle.std.proofs.Common.{◌↔◌, ◌+◌, drop}
use Rattle.ml_pat.specs.Patterns.{Pattern}
use Rattle.term_core.specs.RulePatterns.{sort_numbers}
use Rattle.true_facts.specs.Closing.{IsClosed}
use Rattle.true_facts.proofs.closing.closed_over.Given as goal

abbrev pub invariant-loop-i : goal.invariant-loop-i
invariant-loop-i l =
    (q : Pattern) → IsClosed l.sig l.names l.first (sort_numbers l.sorts) l.pattern q
    ↔ IsClosed l.sig l.names (l.first + l.i) (drop l.i (sort_numbers l.sorts)) l.body q
