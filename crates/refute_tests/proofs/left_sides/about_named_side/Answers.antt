use Rattle.std.proofs.Common.{◌≡◌, ℕ, ◌<◌, ◌≤◌, List, length, refl, ap, ◌∙◌, sym, subst, arith}
use Rattle.term_core.specs.Patterns.{no_pattern, more_patterns}
use Rattle.term_core.specs.RulePatterns.{plain_pattern, sort_numbers}
use Rattle.term_core.specs.Terms.{height, no_tree, more_trees}
use Rattle.rule_core.specs.Matching.{MatchAll}
use Rattle.rule_core.specs.ProgramView.{rewrite_rule, rewrite_rules, sorts_of}
use Rattle.rule_core.specs.Sorting.{AreSorts, HasSort, IsTermOf}
use Rattle.rule_core.specs.declared.rules.Program.{Program}
use Rattle.prove_term.proofs.ContextLaws.{grown_none}
use Rattle.refute_tests.proofs.LeftSides.{HaveOneSort, sorted_rule, own_variables, are_sorts}
use Rattle.refute_tests.proofs.LeftSides.{none_matches, one_matches}
use Rattle.refute_tests.proofs.NamedSides.{have_names, names_added, names_fit}
use Rattle.refute_tests.proofs.left_sides.about_named_side.Goals as goal

pub rule_of-rule-requires : goal.rule_of-rule-requires
rule_of-rule-requires c =
    subst (λ (q : Program). c.args.number < length (rewrite_rules q.rules.items))
    (sym c.program-program.ensures) c.requires.there

pub found-requires : goal.found-requires
found-requires c =
    let p = c.args.cx.now.program in
    let r = c.rule_of-rule.result.now in
    let one : HaveOneSort p.sig (rewrite_rule r) c.args.config.now =
    sorted_rule p c.program-program.result.now r c.args.config.now c.args.number
    c.program-program.ensures c.requires.config c.rule_of-rule.ensures in
    own_variables p.sig r c.args.config.now one

pub returns-in_err-sorts-clause-grown : goal.returns-in_err-sorts-clause-grown
returns-in_err-sorts-clause-grown c = grown_none c.args.cx.now

pub returns-in_err-found-clause-grown : goal.returns-in_err-found-clause-grown
returns-in_err-found-clause-grown c = grown_none c.args.cx.now

pub returns-in_err-subst-in-Some-clause-grown : goal.returns-in_err-subst-in-Some-clause-grown
returns-in_err-subst-in-Some-clause-grown c = grown_none c.args.cx.now

pub mismatch_named-requires-clause-variables : goal.mismatch_named-requires-clause-variables
mismatch_named-requires-clause-variables c =
    let p = c.args.cx.now.program in
    let r = c.rule_of-rule.result.now in
    let one : HaveOneSort p.sig (rewrite_rule r) c.args.config.now =
    sorted_rule p c.program-program.result.now r c.args.config.now c.args.number
    c.program-program.ensures c.requires.config c.rule_of-rule.ensures in
    let numbers : sort_numbers c.deref-in-None.result.now ≡ (rewrite_rule r).variables =
    ap sort_numbers c.deref-in-None.ensures.value ∙ c.in_ok-sorts.ensures
    ∙ ap sorts_of c.deref.ensures.value in
    subst (AreSorts p.sig) (sym numbers)
    (are_sorts p.sig (rewrite_rule r).variables one.rule_of.variables)

pub mismatch_named-requires-clause-sorted : goal.mismatch_named-requires-clause-sorted
mismatch_named-requires-clause-sorted c =
    let p = c.args.cx.now.program in
    let r = c.rule_of-rule.result.now in
    let one : HaveOneSort p.sig (rewrite_rule r) c.args.config.now =
    sorted_rule p c.program-program.result.now r c.args.config.now c.args.number
    c.program-program.ensures c.requires.config c.rule_of-rule.ensures in
    let numbers : sort_numbers c.deref-in-None.result.now ≡ (rewrite_rule r).variables =
    ap sort_numbers c.deref-in-None.ensures.value ∙ c.in_ok-sorts.ensures
    ∙ ap sorts_of c.deref.ensures.value in
    subst (λ (ns : List ℕ). (sort : ℕ) × HasSort p.sig ns (plain_pattern r.left) sort
    × IsTermOf p.sig c.args.config.now sort) (sym numbers)
    (one.sort, one.rule_of.left, one.term)

pub mismatch_named-requires-clause-no_call : goal.mismatch_named-requires-clause-no_call
mismatch_named-requires-clause-no_call c =
    let p = c.args.cx.now.program in
    let r = c.rule_of-rule.result.now in
    let one : HaveOneSort p.sig (rewrite_rule r) c.args.config.now =
    sorted_rule p c.program-program.result.now r c.args.config.now c.args.number
    c.program-program.ensures c.requires.config c.rule_of-rule.ensures in
    one.rule_of.no_call

pub mismatch_named-requires-clause-names : goal.mismatch_named-requires-clause-names
mismatch_named-requires-clause-names c =
    let p = c.args.cx.now.program in
    let r = c.rule_of-rule.result.now in
    let one : HaveOneSort p.sig (rewrite_rule r) c.args.config.now =
    sorted_rule p c.program-program.result.now r c.args.config.now c.args.number
    c.program-program.ensures c.requires.config c.rule_of-rule.ensures in
    let numbers : sort_numbers c.deref-in-None.result.now ≡ (rewrite_rule r).variables =
    ap sort_numbers c.deref-in-None.ensures.value ∙ c.in_ok-sorts.ensures
    ∙ ap sorts_of c.deref.ensures.value in
    have_names p.sig r c.args.config.now (sort_numbers c.deref-in-None.result.now)
    c.deref-in-None-2.result.now one numbers c.deref-in-None-2.ensures.value

pub mismatch_named-requires-clause-mismatch : goal.mismatch_named-requires-clause-mismatch
mismatch_named-requires-clause-mismatch c =
    let p = c.args.cx.now.program in
    let r = c.rule_of-rule.result.now in
    let one : HaveOneSort p.sig (rewrite_rule r) c.args.config.now =
    sorted_rule p c.program-program.result.now r c.args.config.now c.args.number
    c.program-program.ensures c.requires.config c.rule_of-rule.ensures in
    let numbers : sort_numbers c.deref-in-None.result.now ≡ (rewrite_rule r).variables =
    ap sort_numbers c.deref-in-None.ensures.value ∙ c.in_ok-sorts.ensures
    ∙ ap sorts_of c.deref.ensures.value in
    none_matches p c.program-program.result.now r c.args.config.now
    (sort_numbers c.deref-in-None.result.now) c.in_ok-found.field-0 c.program-program.ensures one
    numbers c.in-None.is c.in_ok-found.ensures

pub with_names-requires-clause-fits : goal.with_names-requires-clause-fits
with_names-requires-clause-fits c =
    let p = c.args.cx.now.program in
    let r = c.rule_of-rule.result.now in
    let one : HaveOneSort p.sig (rewrite_rule r) c.args.config.now =
    sorted_rule p c.program-program.result.now r c.args.config.now c.args.number
    c.program-program.ensures c.requires.config c.rule_of-rule.ensures in
    let low : height c.args.config.now ≤ 500 =
    omega (arith, c.height-high.ensures.bound, c.height-high.ensures.value) in
    let match : MatchAll p.sig (rewrite_rule r).variables
    (more_patterns (rewrite_rule r).left no_pattern) (more_trees c.args.config.now no_tree)
    c.in-Some.subst =
    one_matches p c.program-program.result.now r c.args.config.now (rewrite_rule r).variables
    c.in_ok-found.field-0 c.in-Some.subst c.program-program.ensures one refl c.in-Some.is
    c.in_ok-found.ensures in
    (names_fit p.sig r c.args.config.now c.from_ref.result.now c.deref-in-Some.result.now
    c.in-Some.subst one low c.from_ref.ensures.value c.deref-in-Some.ensures.value match).0

pub with_names-requires-clause-names : goal.with_names-requires-clause-names
with_names-requires-clause-names c =
    let p = c.args.cx.now.program in
    let r = c.rule_of-rule.result.now in
    let one : HaveOneSort p.sig (rewrite_rule r) c.args.config.now =
    sorted_rule p c.program-program.result.now r c.args.config.now c.args.number
    c.program-program.ensures c.requires.config c.rule_of-rule.ensures in
    let low : height c.args.config.now ≤ 500 =
    omega (arith, c.height-high.ensures.bound, c.height-high.ensures.value) in
    let match : MatchAll p.sig (rewrite_rule r).variables
    (more_patterns (rewrite_rule r).left no_pattern) (more_trees c.args.config.now no_tree)
    c.in-Some.subst =
    one_matches p c.program-program.result.now r c.args.config.now (rewrite_rule r).variables
    c.in_ok-found.field-0 c.in-Some.subst c.program-program.ensures one refl c.in-Some.is
    c.in_ok-found.ensures in
    (names_fit p.sig r c.args.config.now c.from_ref.result.now c.deref-in-Some.result.now
    c.in-Some.subst one low c.from_ref.ensures.value c.deref-in-Some.ensures.value match).1

pub inversion_named-requires-clause-variables : goal.inversion_named-requires-clause-variables
inversion_named-requires-clause-variables c =
    let p = c.args.cx.now.program in
    let r = c.rule_of-rule.result.now in
    let one : HaveOneSort p.sig (rewrite_rule r) c.args.config.now =
    sorted_rule p c.program-program.result.now r c.args.config.now c.args.number
    c.program-program.ensures c.requires.config c.rule_of-rule.ensures in
    let numbers : sort_numbers c.deref-in-Some-2.result.now ≡ (rewrite_rule r).variables =
    ap sort_numbers c.deref-in-Some-2.ensures.value ∙ c.in_ok-sorts.ensures
    ∙ ap sorts_of c.deref.ensures.value in
    subst (AreSorts p.sig) (sym numbers)
    (are_sorts p.sig (rewrite_rule r).variables one.rule_of.variables)

pub inversion_named-requires-clause-sorted : goal.inversion_named-requires-clause-sorted
inversion_named-requires-clause-sorted c =
    let p = c.args.cx.now.program in
    let r = c.rule_of-rule.result.now in
    let one : HaveOneSort p.sig (rewrite_rule r) c.args.config.now =
    sorted_rule p c.program-program.result.now r c.args.config.now c.args.number
    c.program-program.ensures c.requires.config c.rule_of-rule.ensures in
    let numbers : sort_numbers c.deref-in-Some-2.result.now ≡ (rewrite_rule r).variables =
    ap sort_numbers c.deref-in-Some-2.ensures.value ∙ c.in_ok-sorts.ensures
    ∙ ap sorts_of c.deref.ensures.value in
    subst (λ (ns : List ℕ). (sort : ℕ) × HasSort p.sig ns (plain_pattern r.left) sort
    × IsTermOf p.sig c.args.config.now sort) (sym numbers)
    (one.sort, one.rule_of.left, one.term)

pub inversion_named-requires-clause-no_call : goal.inversion_named-requires-clause-no_call
inversion_named-requires-clause-no_call c =
    let p = c.args.cx.now.program in
    let r = c.rule_of-rule.result.now in
    let one : HaveOneSort p.sig (rewrite_rule r) c.args.config.now =
    sorted_rule p c.program-program.result.now r c.args.config.now c.args.number
    c.program-program.ensures c.requires.config c.rule_of-rule.ensures in
    one.rule_of.no_call

pub inversion_named-requires-clause-names : goal.inversion_named-requires-clause-names
inversion_named-requires-clause-names c =
    let p = c.args.cx.now.program in
    let r = c.rule_of-rule.result.now in
    let one : HaveOneSort p.sig (rewrite_rule r) c.args.config.now =
    sorted_rule p c.program-program.result.now r c.args.config.now c.args.number
    c.program-program.ensures c.requires.config c.rule_of-rule.ensures in
    let numbers : sort_numbers c.deref-in-Some-2.result.now ≡ (rewrite_rule r).variables =
    ap sort_numbers c.deref-in-Some-2.ensures.value ∙ c.in_ok-sorts.ensures
    ∙ ap sorts_of c.deref.ensures.value in
    have_names p.sig r c.args.config.now (sort_numbers c.deref-in-Some-2.result.now)
    c.deref-in-Some-3.result.now one numbers c.deref-in-Some-3.ensures.value

pub inversion_named-requires-clause-matches : goal.inversion_named-requires-clause-matches
inversion_named-requires-clause-matches c =
    let p = c.args.cx.now.program in
    let r = c.rule_of-rule.result.now in
    let one : HaveOneSort p.sig (rewrite_rule r) c.args.config.now =
    sorted_rule p c.program-program.result.now r c.args.config.now c.args.number
    c.program-program.ensures c.requires.config c.rule_of-rule.ensures in
    let numbers : sort_numbers c.deref-in-Some-2.result.now ≡ (rewrite_rule r).variables =
    ap sort_numbers c.deref-in-Some-2.ensures.value ∙ c.in_ok-sorts.ensures
    ∙ ap sorts_of c.deref.ensures.value in
    names_added p.sig r c.args.config.now (sort_numbers c.deref-in-Some-2.result.now)
    c.from_ref.result.now c.deref-in-Some.result.now c.deref-in-Some-3.result.now
    c.in-Some.subst c.in_ok-subst-in-Some.subst one numbers c.from_ref.ensures.value
    c.deref-in-Some.ensures.value c.deref-in-Some-3.ensures.value
    (one_matches p c.program-program.result.now r c.args.config.now
    (sort_numbers c.deref-in-Some-2.result.now) c.in_ok-found.field-0 c.in-Some.subst
    c.program-program.ensures one numbers c.in-Some.is c.in_ok-found.ensures)
    c.in_ok-subst-in-Some.ensures
