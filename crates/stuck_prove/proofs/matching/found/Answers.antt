use Rattle.std.proofs.Common.{◌≤◌, ℕ, length, subst, arith}
use Rattle.std.specs.Prelude.{MatchOption}
use Rattle.std.proofs.lemmas.List.{length-map}
use Rattle.term_core.specs.Terms.{height, no_tree, more_trees}
use Rattle.rule_core.specs.MatchSearch.{UseFirst}
use Rattle.rule_core.specs.Matching.{NoneMatches}
use Rattle.rule_core.specs.ProgramView.{rewrite_rule}
use Rattle.rule_core.specs.declared.rules.VarInfo.{VarInfo}
use Rattle.stuck_prove.proofs.TrialLaws.{MatchesLeft, finds, left_of, names_fit, names_matched}
use Rattle.stuck_prove.proofs.TrialLaws.{no_match, some_match, uses_first}
use Rattle.stuck_prove.proofs.matching.found.Goals.{In_ok-subst, In-Some}
use Rattle.stuck_prove.proofs.matching.found.Goals as goal

pub counted-requires-clause-scoped : goal.counted-requires-clause-scoped
counted-requires-clause-scoped c =
    subst (λ (n : ℕ). UseFirst n (left_of (rewrite_rule c.args.rule.now)))
    (length-map c.args.rule.now.vars.items (λ (v : VarInfo). v.sort.0))
    (uses_first c.args.program.now.sig c.requires.sorted.0 (rewrite_rule c.args.rule.now)
    c.match_laws.ensures.variables c.requires.sorted.1)

answer : (c : In_ok-subst)
    → MatchOption c.in_ok-subst.field-0
    (NoneMatches c.args.program.now.sig (rewrite_rule c.args.rule.now).variables
    (left_of (rewrite_rule c.args.rule.now)) (more_trees c.args.term.now no_tree))
    (MatchesLeft c.args.program.now.sig (rewrite_rule c.args.rule.now) c.args.term.now)
answer c =
    finds c.args.program.now.sig c.requires.sorted.0 (length c.args.rule.now.vars.items)
    (rewrite_rule c.args.rule.now) c.args.term.now c.in_ok-subst.field-0 c.requires.sorted.1
    c.requires.sorted.2 (length-map c.args.rule.now.vars.items (λ (v : VarInfo). v.sort.0))
    c.in_ok-subst.ensures

matches : (c : In-Some)
    → MatchesLeft c.args.program.now.sig (rewrite_rule c.args.rule.now) c.args.term.now
    c.in-Some.subst
matches c =
    some_match _ _ c.in_ok-subst.field-0 c.in-Some.subst c.in-Some.is
    (finds c.args.program.now.sig c.requires.sorted.0 (length c.args.rule.now.vars.items)
    (rewrite_rule c.args.rule.now) c.args.term.now c.in_ok-subst.field-0 c.requires.sorted.1
    c.requires.sorted.2 (length-map c.args.rule.now.vars.items (λ (v : VarInfo). v.sort.0))
    c.in_ok-subst.ensures)

pub with_names-requires-clause-fits : goal.with_names-requires-clause-fits
with_names-requires-clause-fits c =
    let low : height c.args.term.now ≤ 500 =
    omega (arith, c.height-high.ensures.bound, c.height-high.ensures.value) in
    (names_fit c.args.program.now.sig c.requires.sorted.0 c.args.rule.now c.args.term.now
    c.from_ref.result.now c.deref.result.now c.in-Some.subst c.requires.sorted.1 low
    c.from_ref.ensures.value c.deref.ensures.value
    (matches (goal.at.with_names-requires-clause-fits c).In-Some)).0

pub with_names-requires-clause-names : goal.with_names-requires-clause-names
with_names-requires-clause-names c =
    let low : height c.args.term.now ≤ 500 =
    omega (arith, c.height-high.ensures.bound, c.height-high.ensures.value) in
    (names_fit c.args.program.now.sig c.requires.sorted.0 c.args.rule.now c.args.term.now
    c.from_ref.result.now c.deref.result.now c.in-Some.subst c.requires.sorted.1 low
    c.from_ref.ensures.value c.deref.ensures.value
    (matches (goal.at.with_names-requires-clause-names c).In-Some)).1

pub returns-in_ok-whole-in-Some : goal.returns-in_ok-whole-in-Some
returns-in_ok-whole-in-Some c =
    names_matched c.args.program.now.sig c.requires.sorted.0 c.args.rule.now c.args.term.now
    c.from_ref.result.now c.deref.result.now c.in-Some.subst c.in_ok-whole-in-Some.whole
    c.match_laws.ensures.names c.requires.sorted.1 c.from_ref.ensures.value c.deref.ensures.value
    (matches (goal.at.returns-in_ok-whole-in-Some c).In-Some) c.in_ok-whole-in-Some.ensures

pub returns-in-None : goal.returns-in-None
returns-in-None c =
    no_match _ _ c.in_ok-subst.field-0 c.in-None.is
    (answer (goal.at.returns-in-None c).In_ok-subst)
