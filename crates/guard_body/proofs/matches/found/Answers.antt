use Rattle.std.proofs.Common.{◌≤◌, ℕ, List, length, refl, sym}
use Rattle.std.proofs.Common.{subst, arith}
use Rattle.std.specs.Prelude.{MatchOption}
use Rattle.std.proofs.lemmas.List.{length-map}
use Rattle.term_core.specs.Terms.{height, no_tree, more_trees}
use Rattle.term_core.specs.Patterns.{Patterns, no_pattern, more_patterns}
use Rattle.term_core.specs.PatternLists.{AllFitWithin, plain_patterns}
use Rattle.term_core.specs.RulePatterns.{sort_numbers}
use Rattle.term_core.specs.declared.ids.SortId.{SortId}
use Rattle.rule_core.specs.MatchSearch.{UseFirst}
use Rattle.rule_core.specs.Matching.{MatchAll, NoneMatches}
use Rattle.rule_core.specs.NamedLaws.{AddsNames}
use Rattle.rule_core.specs.Naming.{AreNamesOf}
use Rattle.rule_core.specs.ProgramView.{names_of}
use Rattle.rule_core.specs.declared.rules.Named.{Named}
use Rattle.guard_body.specs.Arguments.{pattern_of, part_names_of}
use Rattle.guard_body.proofs.FoundLaws.{are_names, finds, fit, listed, no_match}
use Rattle.guard_body.proofs.FoundLaws.{some_match, uses_first}
use Rattle.guard_body.proofs.matches.found.Goals.{In_ok-subst, In-Some}
use Rattle.guard_body.proofs.matches.found.Goals as goal

pub counted-requires-clause-scoped : goal.counted-requires-clause-scoped
counted-requires-clause-scoped c =
    subst (λ (n : ℕ). UseFirst n (more_patterns (pattern_of c.args.argument.now) no_pattern))
    (length-map c.args.sorts.now (λ (r : SortId). r.0))
    (uses_first c.args.sig.now (sort_numbers c.args.sorts.now) c.args.argument.now
    c.match_laws.ensures.variables c.requires.argument)

answer : (c : In_ok-subst)
    → MatchOption c.in_ok-subst.field-0
    (NoneMatches c.args.sig.now (sort_numbers c.args.sorts.now)
    (more_patterns (pattern_of c.args.argument.now) no_pattern)
    (more_trees c.args.argument.now.term.now no_tree))
    (MatchAll c.args.sig.now (sort_numbers c.args.sorts.now)
    (more_patterns (pattern_of c.args.argument.now) no_pattern)
    (more_trees c.args.argument.now.term.now no_tree))
answer c =
    finds c.args.sig.now (sort_numbers c.args.sorts.now) (length c.args.sorts.now)
    c.args.sig.now.subsorts c.args.argument.now c.in_ok-subst.field-0 c.requires.argument refl
    (length-map c.args.sorts.now (λ (r : SortId). r.0)) c.in_ok-subst.ensures

matches : (c : In-Some)
    → MatchAll c.args.sig.now (sort_numbers c.args.sorts.now)
    (more_patterns (pattern_of c.args.argument.now) no_pattern)
    (more_trees c.args.argument.now.term.now no_tree) c.in-Some.subst
matches c =
    some_match _ _ c.in_ok-subst.field-0 c.in-Some.subst c.in-Some.is
    (finds c.args.sig.now (sort_numbers c.args.sorts.now) (length c.args.sorts.now)
    c.args.sig.now.subsorts c.args.argument.now c.in_ok-subst.field-0 c.requires.argument refl
    (length-map c.args.sorts.now (λ (r : SortId). r.0)) c.in_ok-subst.ensures)

pub with_names-requires-clause-fits : goal.with_names-requires-clause-fits
with_names-requires-clause-fits c =
    let low : height c.args.argument.now.term.now ≤ 500 =
    omega (arith, c.height-high.ensures.bound, c.height-high.ensures.value) in
    subst (AllFitWithin 500 c.in-Some.subst)
    (sym (listed c.args.argument.now.pat c.from_ref.result.now c.from_ref.ensures.value))
    (fit c.in-Some.subst (more_patterns (pattern_of c.args.argument.now) no_pattern)
    c.args.argument.now.term.now (matches (goal.at.with_names-requires-clause-fits c).In-Some).makes
    low)

pub with_names-requires-clause-names : goal.with_names-requires-clause-names
with_names-requires-clause-names c =
    let there : AreNamesOf (more_patterns (pattern_of c.args.argument.now) no_pattern)
    (length c.in-Some.subst) (part_names_of c.args.argument.now) =
    are_names c.args.sig.now (sort_numbers c.args.sorts.now)
    (more_patterns (pattern_of c.args.argument.now) no_pattern)
    (part_names_of c.args.argument.now) (length c.in-Some.subst) c.requires.argument.names
    (matches (goal.at.with_names-requires-clause-names c).In-Some).binds.room in
    subst (λ (ns : List Named).
    AreNamesOf (plain_patterns c.from_ref.result.now) (length c.in-Some.subst) (names_of ns))
    (sym c.deref.ensures.value)
    (subst (λ (ps : Patterns).
    AreNamesOf ps (length c.in-Some.subst) (part_names_of c.args.argument.now))
    (sym (listed c.args.argument.now.pat c.from_ref.result.now c.from_ref.ensures.value)) there)

pub returns-in_ok-whole-in-Some : goal.returns-in_ok-whole-in-Some
returns-in_ok-whole-in-Some c =
    let adds : AddsNames (more_patterns (pattern_of c.args.argument.now) no_pattern)
    (part_names_of c.args.argument.now) c.in-Some.subst c.in_ok-whole-in-Some.whole =
    subst (λ (ps : Patterns).
    AddsNames ps (part_names_of c.args.argument.now) c.in-Some.subst c.in_ok-whole-in-Some.whole)
    (listed c.args.argument.now.pat c.from_ref.result.now c.from_ref.ensures.value)
    (subst (λ (ns : List Named). AddsNames (plain_patterns c.from_ref.result.now) (names_of ns)
    c.in-Some.subst c.in_ok-whole-in-Some.whole) c.deref.ensures.value
    c.in_ok-whole-in-Some.ensures) in
    c.match_laws.ensures.names c.args.sig.now (sort_numbers c.args.sorts.now)
    (more_patterns (pattern_of c.args.argument.now) no_pattern)
    (part_names_of c.args.argument.now) (more_trees c.args.argument.now.term.now no_tree)
    c.in-Some.subst c.in_ok-whole-in-Some.whole c.requires.argument.names
    (matches (goal.at.returns-in_ok-whole-in-Some c).In-Some) adds

pub returns-in-None : goal.returns-in-None
returns-in-None c =
    no_match _ _ c.in_ok-subst.field-0 c.in-None.is
    (answer (goal.at.returns-in-None c).In_ok-subst)
