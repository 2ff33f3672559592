use Rattle.std.proofs.Common.{◌≡◌, List, Option, Some, None, sym, subst}
use Rattle.term_core.specs.Patterns.{more_patterns, no_pattern}
use Rattle.term_core.specs.Terms.{Tree, more_trees, no_tree}
use Rattle.term_core.specs.RulePatterns.{plain_pattern}
use Rattle.rule_core.specs.FirstRule.{Matches}
use Rattle.rule_core.specs.Matching.{NoneMatches}
use Rattle.rule_core.specs.ProgramView.{rewrite_rule, sorts_of, theory_of}
use Rattle.rule_core.specs.RecordView.{plain_record}
use Rattle.rule_core.specs.WellSorted.{IsWellSorted}
use Rattle.rule_core.specs.declared.rules.Program.{Program}
use Rattle.prove_term.proofs.ResultLaws.{if_ok}
use Rattle.prove_fun.proofs.KeptLaws.{kept_grown}
use Rattle.stuck_prove.specs.Trials.{AreOfOneSort, FindsNamed, IsUntrue}
use Rattle.stuck_prove.proofs.RuleLaws.{passed_by_none}
use Rattle.stuck_prove.proofs.rules.body_denied.Goals.{In_ok-found}
use Rattle.stuck_prove.proofs.rules.body_denied.Goals as goal

pub found-requires-clause-well_sorted : goal.found-requires-clause-well_sorted
found-requires-clause-well_sorted c =
    subst (λ (p : Program). IsWellSorted (theory_of p)) (sym c.program.ensures.program)
    c.program.ensures.sorted

pub found-requires-clause-sorted : goal.found-requires-clause-sorted
found-requires-clause-sorted c =
    subst (λ (p : Program). AreOfOneSort p (rewrite_rule c.args.rule.now) c.args.config.now)
    (sym c.program.ensures.program) c.requires.sorted

-- what was found, by the program of the engine
named : (c : In_ok-found) → FindsNamed (theory_of c.args.engine.now) (rewrite_rule c.args.rule.now)
    c.args.config.now c.in_ok-found.field-0
named c =
    subst (λ (p : Program). FindsNamed (theory_of p) (rewrite_rule c.args.rule.now)
    c.args.config.now c.in_ok-found.field-0) c.program.ensures.program c.in_ok-found.ensures

none : (c : In_ok-found) → c.in_ok-found.field-0 ≡ None
    → NoneMatches c.args.engine.now.sig (sorts_of c.args.rule.now.vars.items)
    (more_patterns (plain_pattern c.args.rule.now.left) no_pattern)
    (more_trees c.args.config.now no_tree)
none c is =
    subst (FindsNamed (theory_of c.args.engine.now) (rewrite_rule c.args.rule.now)
    c.args.config.now) is (named c)

matched : (c : In_ok-found) (theta : List (Option Tree)) → c.in_ok-found.field-0 ≡ Some theta
    → Matches (theory_of c.args.engine.now) (rewrite_rule c.args.rule.now) c.args.config.now theta
matched c theta is =
    subst (FindsNamed (theory_of c.args.engine.now) (rewrite_rule c.args.rule.now)
    c.args.config.now) is (named c)

pub by_mismatch-requires-clause-sorted : goal.by_mismatch-requires-clause-sorted
by_mismatch-requires-clause-sorted c =
    subst (λ (p : Program). AreOfOneSort p (rewrite_rule c.args.rule.now) c.args.config.now)
    (sym c.requires.program) c.requires.sorted

pub by_mismatch-requires-clause-none : goal.by_mismatch-requires-clause-none
by_mismatch-requires-clause-none c =
    subst (λ (p : Program). NoneMatches p.sig (sorts_of c.args.rule.now.vars.items)
    (more_patterns (plain_pattern c.args.rule.now.left) no_pattern)
    (more_trees c.args.config.now no_tree)) (sym c.requires.program)
    (none (goal.at.by_mismatch-requires-clause-none c).In_ok-found c.in-None.is)

pub returns-in-None-clause-passed : goal.returns-in-None-clause-passed
returns-in-None-clause-passed c =
    if_ok c.by_mismatch.result
    (λ t denied d passed. passed_by_none (theory_of c.args.engine.now)
    (rewrite_rule c.args.rule.now) c.args.config.now c.args.budget.now.calls d
    (none (goal.at.returns-in-None-clause-passed c).In_ok-found c.in-None.is) passed) c.by_mismatch.ensures.denied

pub returns-in-None-clause-kept : goal.returns-in-None-clause-kept
returns-in-None-clause-kept c =
    kept_grown c.args.cx.now c.by_mismatch.new.cx c.args.kept.now c.by_mismatch.ensures.grown
    c.requires.kept

pub evaluated-requires-clause-matches : goal.evaluated-requires-clause-matches
evaluated-requires-clause-matches c =
    matched (goal.at.evaluated-requires-clause-matches c).In_ok-found c.in-Some.subst c.in-Some.is

pub by_condition-requires-clause-sorted : goal.by_condition-requires-clause-sorted
by_condition-requires-clause-sorted c =
    subst (λ (p : Program). AreOfOneSort p (rewrite_rule c.args.rule.now) c.args.config.now)
    (sym c.requires.program) c.requires.sorted

pub by_condition-requires-clause-matches : goal.by_condition-requires-clause-matches
by_condition-requires-clause-matches c =
    subst (λ (p : Program). Matches (theory_of p) (rewrite_rule c.args.rule.now)
    c.args.config.now c.in-Some.subst) (sym c.requires.program)
    (matched (goal.at.by_condition-requires-clause-matches c).In_ok-found c.in-Some.subst
    c.in-Some.is)

pub by_condition-requires-clause-untrue : goal.by_condition-requires-clause-untrue
by_condition-requires-clause-untrue c =
    subst (λ (p : Program). IsUntrue (theory_of p) (rewrite_rule c.args.rule.now) c.in-Some.subst
    (plain_record c.in_ok-record-in-Some.record)) (sym c.requires.program)
    c.in_ok-record-in-Some.ensures.untrue
