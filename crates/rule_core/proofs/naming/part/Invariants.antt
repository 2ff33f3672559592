use Rattle.std.proofs.Common.{◌≡◌, drop}
use Rattle.term_core.specs.PatternLists.{plain_patterns}
use Rattle.term_core.specs.RulePatterns.{plain_pattern}
use Rattle.rule_core.specs.NamedParts.{part_at, part_of}
use Rattle.rule_core.proofs.naming.part.Given as goal

abbrev pub invariant-loop-i : goal.invariant-loop-i
invariant-loop-i l =
    part_at (drop l.i l.at) (plain_pattern l.part) ≡ part_of (plain_patterns l.pats) l.at
