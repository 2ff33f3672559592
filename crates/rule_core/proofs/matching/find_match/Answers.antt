use Rattle.std.proofs.Common.{◌≡◌, List, Option, Some, None, replicate, subst}
use Rattle.term_core.specs.Terms.{Tree}
use Rattle.term_core.specs.RulePatterns.{plain_pattern}
use Rattle.rule_core.specs.MatchSteps.{matched}
use Rattle.rule_core.proofs.MatchAnswers.{answer_none, answer_some}
use Rattle.rule_core.proofs.Searches.{search_found, search_failed, one_found}
use Rattle.rule_core.proofs.matching.find_match.Goals as goal

pub returns-then-branch-clause-found : goal.returns-then-branch-clause-found
returns-then-branch-clause-found g c =
    let P : List (Option Tree) → Type 0 =
    λ th. matched c.args.subsorts.now (plain_pattern c.args.pat.now) c.args.term.now th
    ≡ Some c.match_term.new.subst in
    let found : P (replicate c.args.vars None) =
    subst P c.in_ok-subst.ensures
    (answer_some _ _ _ c.in_ok-match_term.ensures.found c.if-branch.true) in
    search_found _ _ _ _ _ (c.height-high.ensures.normal, tt)
    (one_found c.args.subsorts.now (plain_pattern c.args.pat.now) c.args.term.now
    (replicate c.args.vars None) _ found)

pub returns-else-branch-clause-found : goal.returns-else-branch-clause-found
returns-else-branch-clause-found g c =
    let P : List (Option Tree) → Type 0 =
    λ th.
    matched c.args.subsorts.now (plain_pattern c.args.pat.now) c.args.term.now th ≡ None in
    let found : P (replicate c.args.vars None) =
    subst P c.in_ok-subst.ensures
    (answer_none _ _ _ c.in_ok-match_term.ensures.found c.if-branch.false) in
    search_failed _ _ _ _ c.has_no_cycle.ensures (one_found c.args.subsorts.now
    (plain_pattern c.args.pat.now) c.args.term.now (replicate c.args.vars None) _ found)
