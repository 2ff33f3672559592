use Rattle.term_core.specs.RulePatterns.{sort_numbers}
use Rattle.rule_core.proofs.Paths.{IsWalk, Reaches, pairs_above}
use Rattle.rule_core.proofs.subsorts.Subsorts.path.Given as goal

abbrev pub invariant-walk : goal.invariant-walk
invariant-walk l = record {
  walk : IsWalk l.self l.fn.a.0 l.last.0 (sort_numbers l.sorts.items);
  ahead : Reaches l.self l.last.0 l.b.0;
}

abbrev pub decreases-walk : goal.decreases-walk
decreases-walk l = pairs_above l.self l.last.0
