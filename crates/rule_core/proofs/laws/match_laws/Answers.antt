use Rattle.rule_core.proofs.SortedInstances.{sorted_use_first, instances_are_sorted}
use Rattle.rule_core.proofs.MatchExact.{match_is_unique, match_is_decidable}
use Rattle.rule_core.proofs.NamedMatches.{names_match, none_matches_named}
use Rattle.rule_core.proofs.laws.match_laws.Goals as goal

pub returns-clause-variables : goal.returns-clause-variables
returns-clause-variables a = sorted_use_first

pub returns-clause-instances : goal.returns-clause-instances
returns-clause-instances a = instances_are_sorted

pub returns-clause-unique : goal.returns-clause-unique
returns-clause-unique a = match_is_unique

pub returns-clause-decidable : goal.returns-clause-decidable
returns-clause-decidable a = match_is_decidable

pub returns-clause-names : goal.returns-clause-names
returns-clause-names a = names_match

pub returns-clause-unmatched : goal.returns-clause-unmatched
returns-clause-unmatched a = none_matches_named
