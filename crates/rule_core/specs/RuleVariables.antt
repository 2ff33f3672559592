-- Which variables the left side of a rule of the code uses.
use Rattle.std.specs.Prelude.{vec_len}
use Rattle.term_core.specs.Patterns.{no_pattern, more_patterns}
use Rattle.term_core.specs.RulePatterns.{plain_pattern}
use Rattle.rule_core.specs.MatchSearch.{UseFirst}
use Rattle.rule_core.specs.declared.rules.Rule.{Rule}

-- only the variables of the rule itself
abbrev pub MatchesByOwnVariables : Rule → Type 0
MatchesByOwnVariables r =
    UseFirst (vec_len r.vars) (more_patterns (plain_pattern r.left) no_pattern)
