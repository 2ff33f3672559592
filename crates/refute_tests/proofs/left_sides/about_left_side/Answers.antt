use Rattle.std.proofs.Common.{◌≡◌, ℕ, ◌<◌, List, length, ap, ◌∙◌, sym, subst}
use Rattle.term_core.specs.RulePatterns.{plain_pattern, sort_numbers}
use Rattle.rule_core.specs.ProgramView.{rewrite_rule, rewrite_rules, sorts_of}
use Rattle.rule_core.specs.Sorting.{AreSorts, HasSort, IsTermOf}
use Rattle.rule_core.specs.declared.rules.Program.{Program}
use Rattle.prove_term.proofs.ContextLaws.{grown_none}
use Rattle.refute_tests.proofs.LeftSides.{HaveOneSort, sorted_rule, own_variables, are_sorts}
use Rattle.refute_tests.proofs.LeftSides.{none_matches, one_matches}
use Rattle.refute_tests.proofs.left_sides.about_left_side.Goals as goal

pub rule_of-rule-requires : goal.rule_of-rule-requires
rule_of-rule-requires c =
    subst (λ (q : Program). c.args.number < length (rewrite_rules q.rules.items))
    (sym c.program-program.ensures) c.requires.there

pub found-requires : goal.found-requires
found-requires c =
    let p = c.args.cx.now.program in
    let r = c.rule_of-rule.result.now in
    let one : HaveOneSort p.sig (rewrite_rule r) c.args.config.now =
    sorted_rule p c.program-program.result.now r c.args.config.now c.args.number
    c.program-program.ensures c.requires.config c.rule_of-rule.ensures in
    own_variables p.sig r c.args.config.now one

pub returns-in_err-sorts-clause-grown : goal.returns-in_err-sorts-clause-grown
returns-in_err-sorts-clause-grown c = grown_none c.args.cx.now

pub returns-in_err-found-clause-grown : goal.returns-in_err-found-clause-grown
returns-in_err-found-clause-grown c = grown_none c.args.cx.now

pub mismatch-requires-clause-variables : goal.mismatch-requires-clause-variables
mismatch-requires-clause-variables c =
    let p = c.args.cx.now.program in
    let r = c.rule_of-rule.result.now in
    let one : HaveOneSort p.sig (rewrite_rule r) c.args.config.now =
    sorted_rule p c.program-program.result.now r c.args.config.now c.args.number
    c.program-program.ensures c.requires.config c.rule_of-rule.ensures in
    let numbers : sort_numbers c.deref-in-None.result.now ≡ (rewrite_rule r).variables =
    ap sort_numbers c.deref-in-None.ensures.value ∙ c.in_ok-sorts.ensures
    ∙ ap sorts_of c.deref.ensures.value in
    subst (AreSorts p.sig) (sym numbers)
    (are_sorts p.sig (rewrite_rule r).variables one.rule_of.variables)

pub mismatch-requires-clause-sorted : goal.mismatch-requires-clause-sorted
mismatch-requires-clause-sorted c =
    let p = c.args.cx.now.program in
    let r = c.rule_of-rule.result.now in
    let one : HaveOneSort p.sig (rewrite_rule r) c.args.config.now =
    sorted_rule p c.program-program.result.now r c.args.config.now c.args.number
    c.program-program.ensures c.requires.config c.rule_of-rule.ensures in
    let numbers : sort_numbers c.deref-in-None.result.now ≡ (rewrite_rule r).variables =
    ap sort_numbers c.deref-in-None.ensures.value ∙ c.in_ok-sorts.ensures
    ∙ ap sorts_of c.deref.ensures.value in
    subst (λ (ns : List ℕ). (sort : ℕ) × HasSort p.sig ns (plain_pattern r.left) sort
    × IsTermOf p.sig c.args.config.now sort) (sym numbers)
    (one.sort, one.rule_of.left, one.term)

pub mismatch-requires-clause-no_call : goal.mismatch-requires-clause-no_call
mismatch-requires-clause-no_call c =
    let p = c.args.cx.now.program in
    let r = c.rule_of-rule.result.now in
    let one : HaveOneSort p.sig (rewrite_rule r) c.args.config.now =
    sorted_rule p c.program-program.result.now r c.args.config.now c.args.number
    c.program-program.ensures c.requires.config c.rule_of-rule.ensures in
    one.rule_of.no_call

pub mismatch-requires-clause-mismatch : goal.mismatch-requires-clause-mismatch
mismatch-requires-clause-mismatch c =
    let p = c.args.cx.now.program in
    let r = c.rule_of-rule.result.now in
    let one : HaveOneSort p.sig (rewrite_rule r) c.args.config.now =
    sorted_rule p c.program-program.result.now r c.args.config.now c.args.number
    c.program-program.ensures c.requires.config c.rule_of-rule.ensures in
    let numbers : sort_numbers c.deref-in-None.result.now ≡ (rewrite_rule r).variables =
    ap sort_numbers c.deref-in-None.ensures.value ∙ c.in_ok-sorts.ensures
    ∙ ap sorts_of c.deref.ensures.value in
    none_matches p c.program-program.result.now r c.args.config.now
    (sort_numbers c.deref-in-None.result.now) c.in_ok-found.field-0 c.program-program.ensures one
    numbers c.in-None.is c.in_ok-found.ensures

pub inversion-requires-clause-variables : goal.inversion-requires-clause-variables
inversion-requires-clause-variables c =
    let p = c.args.cx.now.program in
    let r = c.rule_of-rule.result.now in
    let one : HaveOneSort p.sig (rewrite_rule r) c.args.config.now =
    sorted_rule p c.program-program.result.now r c.args.config.now c.args.number
    c.program-program.ensures c.requires.config c.rule_of-rule.ensures in
    let numbers : sort_numbers c.deref-in-Some.result.now ≡ (rewrite_rule r).variables =
    ap sort_numbers c.deref-in-Some.ensures.value ∙ c.in_ok-sorts.ensures
    ∙ ap sorts_of c.deref.ensures.value in
    subst (AreSorts p.sig) (sym numbers)
    (are_sorts p.sig (rewrite_rule r).variables one.rule_of.variables)

pub inversion-requires-clause-sorted : goal.inversion-requires-clause-sorted
inversion-requires-clause-sorted c =
    let p = c.args.cx.now.program in
    let r = c.rule_of-rule.result.now in
    let one : HaveOneSort p.sig (rewrite_rule r) c.args.config.now =
    sorted_rule p c.program-program.result.now r c.args.config.now c.args.number
    c.program-program.ensures c.requires.config c.rule_of-rule.ensures in
    let numbers : sort_numbers c.deref-in-Some.result.now ≡ (rewrite_rule r).variables =
    ap sort_numbers c.deref-in-Some.ensures.value ∙ c.in_ok-sorts.ensures
    ∙ ap sorts_of c.deref.ensures.value in
    subst (λ (ns : List ℕ). (sort : ℕ) × HasSort p.sig ns (plain_pattern r.left) sort
    × IsTermOf p.sig c.args.config.now sort) (sym numbers)
    (one.sort, one.rule_of.left, one.term)

pub inversion-requires-clause-no_call : goal.inversion-requires-clause-no_call
inversion-requires-clause-no_call c =
    let p = c.args.cx.now.program in
    let r = c.rule_of-rule.result.now in
    let one : HaveOneSort p.sig (rewrite_rule r) c.args.config.now =
    sorted_rule p c.program-program.result.now r c.args.config.now c.args.number
    c.program-program.ensures c.requires.config c.rule_of-rule.ensures in
    one.rule_of.no_call

pub inversion-requires-clause-matches : goal.inversion-requires-clause-matches
inversion-requires-clause-matches c =
    let p = c.args.cx.now.program in
    let r = c.rule_of-rule.result.now in
    let one : HaveOneSort p.sig (rewrite_rule r) c.args.config.now =
    sorted_rule p c.program-program.result.now r c.args.config.now c.args.number
    c.program-program.ensures c.requires.config c.rule_of-rule.ensures in
    let numbers : sort_numbers c.deref-in-Some.result.now ≡ (rewrite_rule r).variables =
    ap sort_numbers c.deref-in-Some.ensures.value ∙ c.in_ok-sorts.ensures
    ∙ ap sorts_of c.deref.ensures.value in
    one_matches p c.program-program.result.now r c.args.config.now
    (sort_numbers c.deref-in-Some.result.now) c.in_ok-found.field-0 c.in-Some.subst
    c.program-program.ensures one numbers c.in-Some.is c.in_ok-found.ensures
