-- A law of trials. It allows a trial of rules with conditions to start at the first rule that
-- matches.
use Rattle.std.specs.Prelude.{ℕ, ◌+◌, ◌≤◌, length, drop}
use Rattle.term_core.specs.Terms.{Tree}
use Rattle.rule_core.specs.Theories.{RewriteTheory}
use Rattle.rule_core.specs.FirstRule.{Trial, Tries}
use Rattle.rule_core.specs.Trial.{NoRuleMatches}

-- Rules that do not match change nothing. A trial that begins after them has the same outcome as
-- one that begins at the first of them.
abbrev pub UnmatchedAreSkipped : Type 0
UnmatchedAreSkipped =
    (theory : RewriteTheory) (t : Tree) (from count calls : ℕ) (r : Trial)
    → from + count ≤ length theory.rules →
    NoRuleMatches theory.sig theory.rules from (from + count) t →
    Tries theory t (from + count) (drop (from + count) theory.rules) calls r →
    Tries theory t from (drop from theory.rules) calls r
