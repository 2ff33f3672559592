use Rattle.std.proofs.Common.{◌≤◌, ℕ, List, Option, sym, ap, subst, arith}
use Rattle.term_core.specs.Terms.{Tree, height, no_tree, more_trees}
use Rattle.term_core.specs.Patterns.{no_pattern, more_patterns}
use Rattle.rule_core.specs.Matching.{MatchAll}
use Rattle.rule_core.specs.ProgramView.{theory_of, rewrite_rule, rewrite_rules}
use Rattle.rule_core.specs.Trial.{FindsFirstMatch}
use Rattle.rule_core.specs.declared.rules.Program.{Program}
use Rattle.hint_file.proofs.RuleSteps.{only_own, rule_unmatched, rule_found, names_fit}
use Rattle.hint_file.proofs.RuleSteps.{rule_matched}
use Rattle.hint_file.proofs.steps.match_rule.Goals as goal

pub first_match-requires : goal.first_match-requires
first_match-requires c =
    only_own (theory_of c.args.engine.now) c.args.config.now c.args.number c.args.rule.now
    c.from_ref-rules.result.now c.requires.config c.requires.rule c.from_ref-rules.ensures.value

pub returns-in_default : goal.returns-in_default
returns-in_default c =
    rule_unmatched (theory_of c.args.engine.now) c.args.config.now c.args.number c.args.rule.now
    c.from_ref-rules.result.now c.program-program.result.now.sig.subsorts c.requires.config
    c.requires.rule c.from_ref-rules.ensures.value
    (ap (λ (p : Program). p.sig.subsorts) (sym c.program-program.ensures.program))
    (subst (λ (o : Option (ℕ × List (Option Tree))).
    FindsFirstMatch c.program-program.result.now.sig.subsorts
    (rewrite_rules c.from_ref-rules.result.now) 0 c.args.config.now o) c.in_default.is
    c.in_ok-subst.ensures)

pub with_names-requires-clause-fits : goal.with_names-requires-clause-fits
with_names-requires-clause-fits c =
    let low : height c.args.config.now ≤ 500 =
    omega (arith, c.height-high.ensures.bound, c.height-high.ensures.value) in
    let match : MatchAll (theory_of c.args.engine.now).sig (rewrite_rule c.args.rule.now).variables
    (more_patterns (rewrite_rule c.args.rule.now).left no_pattern)
    (more_trees c.args.config.now no_tree) c.in-Some.subst =
    rule_found (theory_of c.args.engine.now) c.args.config.now c.args.number c.args.rule.now
    c.from_ref-rules.result.now c.program-program.result.now.sig.subsorts
    (c.in-Some.field-0-0, c.in-Some.subst) c.requires.config c.requires.rule
    c.from_ref-rules.ensures.value
    (ap (λ (p : Program). p.sig.subsorts) (sym c.program-program.ensures.program))
    (subst (λ (o : Option (ℕ × List (Option Tree))).
    FindsFirstMatch c.program-program.result.now.sig.subsorts
    (rewrite_rules c.from_ref-rules.result.now) 0 c.args.config.now o) c.in-Some.is
    c.in_ok-subst.ensures) in
    (names_fit (theory_of c.args.engine.now) c.args.config.now c.args.number c.args.rule.now
    c.from_ref.result.now c.deref.result.now c.in-Some.subst c.requires.config low c.requires.rule
    c.from_ref.ensures.value c.deref.ensures.value match).0

pub with_names-requires-clause-names : goal.with_names-requires-clause-names
with_names-requires-clause-names c =
    let low : height c.args.config.now ≤ 500 =
    omega (arith, c.height-high.ensures.bound, c.height-high.ensures.value) in
    let match : MatchAll (theory_of c.args.engine.now).sig (rewrite_rule c.args.rule.now).variables
    (more_patterns (rewrite_rule c.args.rule.now).left no_pattern)
    (more_trees c.args.config.now no_tree) c.in-Some.subst =
    rule_found (theory_of c.args.engine.now) c.args.config.now c.args.number c.args.rule.now
    c.from_ref-rules.result.now c.program-program.result.now.sig.subsorts
    (c.in-Some.field-0-0, c.in-Some.subst) c.requires.config c.requires.rule
    c.from_ref-rules.ensures.value
    (ap (λ (p : Program). p.sig.subsorts) (sym c.program-program.ensures.program))
    (subst (λ (o : Option (ℕ × List (Option Tree))).
    FindsFirstMatch c.program-program.result.now.sig.subsorts
    (rewrite_rules c.from_ref-rules.result.now) 0 c.args.config.now o) c.in-Some.is
    c.in_ok-subst.ensures) in
    (names_fit (theory_of c.args.engine.now) c.args.config.now c.args.number c.args.rule.now
    c.from_ref.result.now c.deref.result.now c.in-Some.subst c.requires.config low c.requires.rule
    c.from_ref.ensures.value c.deref.ensures.value match).1

pub returns : goal.returns
returns c =
    let match : MatchAll (theory_of c.args.engine.now).sig (rewrite_rule c.args.rule.now).variables
    (more_patterns (rewrite_rule c.args.rule.now).left no_pattern)
    (more_trees c.args.config.now no_tree) c.in-Some.subst =
    rule_found (theory_of c.args.engine.now) c.args.config.now c.args.number c.args.rule.now
    c.from_ref-rules.result.now c.program-program.result.now.sig.subsorts
    (c.in-Some.field-0-0, c.in-Some.subst) c.requires.config c.requires.rule
    c.from_ref-rules.ensures.value
    (ap (λ (p : Program). p.sig.subsorts) (sym c.program-program.ensures.program))
    (subst (λ (o : Option (ℕ × List (Option Tree))).
    FindsFirstMatch c.program-program.result.now.sig.subsorts
    (rewrite_rules c.from_ref-rules.result.now) 0 c.args.config.now o) c.in-Some.is
    c.in_ok-subst.ensures) in
    rule_matched (theory_of c.args.engine.now) c.args.config.now c.args.number c.args.rule.now
    c.from_ref.result.now c.deref.result.now c.in-Some.subst c.in_ok-subst-2.subst
    c.requires.config c.requires.rule c.from_ref.ensures.value c.deref.ensures.value match
    c.in_ok-subst-2.ensures
