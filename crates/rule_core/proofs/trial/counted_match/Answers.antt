use Rattle.std.proofs.Common.{◌≡◌, ◌<◌, List, Option, length, subst, rules, arith}
use Rattle.std.proofs.lemmas.List.{length-map}
use Rattle.term_core.specs.Terms.{Tree, no_tree, more_trees}
use Rattle.term_core.specs.Patterns.{no_pattern, more_patterns}
use Rattle.term_core.specs.RulePatterns.{plain_pattern}
use Rattle.rule_core.specs.MatchSearch.{FindsMatch}
use Rattle.rule_core.specs.ProgramView.{sorts_of, rewrite_rule, rewrite_rules}
use Rattle.rule_core.proofs.Trials.{rule_at, NoneSoFar-more, found_first}
use Rattle.rule_core.proofs.trial.counted_match.Goals as goal

pub returns-in-Some : goal.returns-in-Some
returns-in-Some g c =
    let within : c.loop-i.i < length c.args.rules.now = omega arith in
    let count : length (sorts_of c.index-rules-i.result.vars.items) ≡ c.len.result =
    search (rules, length-map) in
    let P : Option (List (Option Tree)) → Type 0 =
    FindsMatch c.args.subsorts.now c.len.result
    (more_patterns (plain_pattern c.index-rules-i.result.left) no_pattern)
    (more_trees c.args.term.now no_tree) in
    found_first c.args.subsorts.now (rewrite_rules c.args.rules.now) c.args.from c.loop-i.i
    c.len.result c.args.term.now (rewrite_rule c.index-rules-i.result) c.in-Some.subst
    (omega arith) c.loop-i.invariant
    (rule_at c.args.rules.now c.loop-i.i c.index-rules-i.result within c.index-rules-i.is) count
    (subst P c.in-Some.is c.in_ok-subst.ensures.found)

pub loop-i-preserved : goal.loop-i-preserved
loop-i-preserved g c =
    let within : c.loop-i.i < length c.args.rules.now = omega arith in
    let count : length (sorts_of c.index-rules-i.result.vars.items) ≡ c.len.result =
    search (rules, length-map) in
    let P : Option (List (Option Tree)) → Type 0 =
    FindsMatch c.args.subsorts.now c.len.result
    (more_patterns (plain_pattern c.index-rules-i.result.left) no_pattern)
    (more_trees c.args.term.now no_tree) in
    NoneSoFar-more c.args.subsorts.now (rewrite_rules c.args.rules.now) c.args.from c.loop-i.i
    c.len.result c.args.term.now (rewrite_rule c.index-rules-i.result) c.loop-i.invariant
    (rule_at c.args.rules.now c.loop-i.i c.index-rules-i.result within c.index-rules-i.is) count
    (subst P c.in_default.is c.in_ok-subst.ensures.found)
