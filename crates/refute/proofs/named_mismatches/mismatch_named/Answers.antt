use Rattle.std.proofs.Common.{◌≡◌, ◌<◌, ℕ, List, length, refl, ap, sym, ◌∙◌, subst}
use Rattle.std.specs.Prelude.{All, Contains}
use Rattle.term_core.specs.RulePatterns.{plain_pattern, sort_numbers}
use Rattle.rule_core.specs.NamedParts.{Name}
use Rattle.rule_core.specs.ProgramView.{names_of}
use Rattle.rule_core.specs.Sorting.{HasSort}
use Rattle.rule_core.specs.declared.rules.Named.{Named}
use Rattle.rule_core.specs.declared.rules.Program.{Program}
use Rattle.ml_image.specs.NamedSides.{of_child}
use Rattle.ml_image.specs.PartNames.{part_names}
use Rattle.ml_image.proofs.NamedLaws.{none_there}
use Rattle.prove_term.proofs.ContextLaws.{grown_twice}
use Rattle.prove_term.proofs.ResultLaws.{if_ok}
use Rattle.prove_open.proofs.ScopeLaws.{stays_no_hypotheses}
use Rattle.ml_image.specs.Sentences.{not}
use Rattle.prove_open.specs.Under.{SaysUnder}
use Rattle.refute.specs.Clashes.{Fails}
use Rattle.refute.specs.NamedRefutations.{named_in_common, variables_as_written}
use Rattle.refute.specs.NamedSettings.{AreParts}
use Rattle.refute.specs.declared.settings.Goal.TheVariants as aim
use Rattle.refute.proofs.Begun.{clash_setting}
use Rattle.refute.proofs.Growing.{program_grown, setting_grown}
use Rattle.refute.proofs.NamedBegun.{mismatch_named_said, named_pair, plain_mismatched}
use Rattle.refute.proofs.NamedBegun.{these_parts, written_facts, written_low}
use Rattle.refute.proofs.WrittenLaws.{occurs_written}
use Rattle.refute.proofs.named_mismatches.mismatch_named.Goals as goal

pub returns-then-is_empty-clause-says : goal.returns-then-is_empty-clause-says
returns-then-is_empty-clause-says c =
    if_ok c.mismatch.result
    (λ t says. plain_mismatched c.mismatch.new.cx (sort_numbers c.args.sorts.now)
    (of_child 0 (names_of c.args.named.now)) (plain_pattern c.args.pat.now) c.args.term.now
    t.conclusion
    (ap (λ (ns : List Named). of_child 0 (names_of ns))
    (none_there c.args.named.now c.is_empty.result c.is_empty.ensures c.if-is_empty.true)) says)
    c.mismatch.ensures.says

pub of-requires-clause-variables : goal.of-requires-clause-variables
of-requires-clause-variables c =
    let names : part_names c.deref-2.result.now ≡ of_child 0 (names_of c.args.named.now) =
    ap part_names c.deref-2.ensures.value ∙ c.in_ok-names.ensures
    ∙ ap (of_child 0) (ap part_names c.deref.ensures.value ∙ c.in_ok-part_names.ensures) in
    subst (All (λ (x : ℕ). x < length c.args.sorts.now)) (sym c.deref-3.ensures.value)
    (written_low c.args.cx.now.program.sig c.args.sorts.now (part_names c.deref-2.result.now)
    (plain_pattern c.args.pat.now) c.requires.sorted.0 c.in_ok-variables.variables.items
    c.requires.sorted.1 c.requires.no_call
    (these_parts c.args.cx.now.program.sig (sort_numbers c.args.sorts.now)
    (plain_pattern c.args.pat.now) (names_of c.args.named.now) (part_names c.deref-2.result.now)
    names c.requires.names)
    c.in_ok-variables.ensures)

pub none_under-requires-clause-setting : goal.none_under-requires-clause-setting
none_under-requires-clause-setting c =
    clash_setting c.args.cx.now c.of.new.cx (record {
      given = c.in_ok-given.given;
      sorts = c.args.sorts;
      new = c.in_ok-new_variable.field-0;
      goal = aim.Clash;
    })
    c.in_ok-given.ensures.grown c.requires.well_sorted c.requires.no_ac
    c.in_ok-given.ensures.given c.in_ok-new_variable.ensures refl

pub none_under-requires-clause-pair : goal.none_under-requires-clause-pair
none_under-requires-clause-pair c =
    named_pair c.args.cx.now c.of.new.cx (sort_numbers c.args.sorts.now) c.in_ok-given.given
    (plain_pattern c.args.pat.now) c.requires.sorted.0 c.args.term.now
    c.in_ok-given.ensures.grown c.requires.sorted.1 c.requires.no_call c.requires.sorted.2
    c.height-high.ensures.normal
    (written_facts (part_names c.deref-2.result.now) (plain_pattern c.args.pat.now)
    c.deref-3.result.now c.in_ok-variables.variables.items c.in_ok-given.given
    c.in_ok-variables.ensures c.deref-3.ensures.value c.in_ok-given.ensures.facts)

pub none_under-requires-clause-fails : goal.none_under-requires-clause-fails
none_under-requires-clause-fails c =
    program_grown c.args.cx.now c.of.new.cx
    (λ (program : Program). Fails program.sig.subsorts (plain_pattern c.args.pat.now)
    c.args.term.now) c.in_ok-given.ensures.grown
    (c.clash_laws.ensures.mismatch c.args.cx.now.program.sig (sort_numbers c.args.sorts.now)
    (plain_pattern c.args.pat.now) c.requires.sorted.0 c.args.term.now c.requires.sorted.1
    c.requires.no_call c.requires.sorted.2 c.height-high.ensures.normal c.requires.mismatch)

pub none_under-requires-clause-listed : goal.none_under-requires-clause-listed
none_under-requires-clause-listed c = λ x occurs.
    subst (λ (xs : List ℕ). Contains xs x)
    (sym (c.deref-4.ensures.value ∙ c.in_ok-variables.ensures))
    (occurs_written (part_names c.deref-2.result.now) (plain_pattern c.args.pat.now) x occurs)

pub with_names-requires-clause-setting : goal.with_names-requires-clause-setting
with_names-requires-clause-setting c =
    setting_grown c.of.new.cx c.none_under.new.cx (record {
      given = c.in_ok-given.given;
      sorts = c.args.sorts;
      new = c.in_ok-new_variable.field-0;
      goal = aim.Clash;
    })
    c.in_ok-none.ensures.grown
    (clash_setting c.args.cx.now c.of.new.cx (record {
      given = c.in_ok-given.given;
      sorts = c.args.sorts;
      new = c.in_ok-new_variable.field-0;
      goal = aim.Clash;
    })
    c.in_ok-given.ensures.grown c.requires.well_sorted c.requires.no_ac
    c.in_ok-given.ensures.given c.in_ok-new_variable.ensures refl)

pub with_names-requires-clause-sorted : goal.with_names-requires-clause-sorted
with_names-requires-clause-sorted c =
    program_grown c.args.cx.now c.none_under.new.cx
    (λ (program : Program). (sort : ℕ) × HasSort program.sig (sort_numbers c.args.sorts.now)
    (plain_pattern c.args.pat.now) sort)
    (grown_twice c.args.cx.now c.of.new.cx c.none_under.new.cx c.in_ok-given.ensures.grown
    c.in_ok-none.ensures.grown) (c.requires.sorted.0, c.requires.sorted.1)

pub with_names-requires-clause-names : goal.with_names-requires-clause-names
with_names-requires-clause-names c =
    let names : part_names c.deref-5.result.now ≡ of_child 0 (names_of c.args.named.now) =
    ap part_names c.deref-5.ensures.value ∙ c.in_ok-names.ensures
    ∙ ap (of_child 0) (ap part_names c.deref.ensures.value ∙ c.in_ok-part_names.ensures) in
    program_grown c.args.cx.now c.none_under.new.cx
    (λ (program : Program). AreParts program.sig (sort_numbers c.args.sorts.now)
    (plain_pattern c.args.pat.now) (part_names c.deref-5.result.now))
    (grown_twice c.args.cx.now c.of.new.cx c.none_under.new.cx c.in_ok-given.ensures.grown
    c.in_ok-none.ensures.grown)
    (these_parts c.args.cx.now.program.sig (sort_numbers c.args.sorts.now)
    (plain_pattern c.args.pat.now) (names_of c.args.named.now) (part_names c.deref-5.result.now)
    names c.requires.names)

pub with_names-requires-clause-none : goal.with_names-requires-clause-none
with_names-requires-clause-none c = (c.args.term.now, c.in_ok-none.ensures.says)

pub returns-clause-says : goal.returns-clause-says
returns-clause-says c =
    let before : part_names c.deref-2.result.now ≡ of_child 0 (names_of c.args.named.now) =
    ap part_names c.deref-2.ensures.value ∙ c.in_ok-names.ensures
    ∙ ap (of_child 0) (ap part_names c.deref.ensures.value ∙ c.in_ok-part_names.ensures) in
    let names : part_names c.deref-5.result.now ≡ of_child 0 (names_of c.args.named.now) =
    ap part_names c.deref-5.ensures.value ∙ c.in_ok-names.ensures
    ∙ ap (of_child 0) (ap part_names c.deref.ensures.value ∙ c.in_ok-part_names.ensures) in
    if_ok c.with_names.result
    (λ r says. mismatch_named_said c.of.new.cx c.with_names.new.cx
    (sort_numbers c.args.sorts.now) c.in_ok-given.given.hypothesis
    (of_child 0 (names_of c.args.named.now)) (plain_pattern c.args.pat.now) c.args.term.now
    c.deref-3.result.now c.in_ok-variables.variables.items r.conclusion
    (grown_twice c.of.new.cx c.none_under.new.cx c.with_names.new.cx c.in_ok-none.ensures.grown
    c.with_names.ensures.grown)
    c.in_ok-given.ensures.hypothesis
    (c.in_ok-variables.ensures
    ∙ ap (λ (ns : List Name). variables_as_written ns (plain_pattern c.args.pat.now)) before)
    c.deref-3.ensures.value
    (subst (λ (ns : List Name). SaysUnder c.with_names.new.cx c.in_ok-given.given.hypothesis
    (not (named_in_common ns (plain_pattern c.args.pat.now) c.args.term.now)) r.conclusion) names
    (says c.args.term.now c.in_ok-none.ensures.says)))
    c.with_names.ensures.says

pub returns-clause-no_hypotheses : goal.returns-clause-no_hypotheses
returns-clause-no_hypotheses c =
    if_ok c.with_names.result (λ t stays. stays_no_hypotheses c.with_names.new.cx t stays)
    c.with_names.ensures.stays

pub returns-clause-grown : goal.returns-clause-grown
returns-clause-grown c =
    grown_twice c.args.cx.now c.none_under.new.cx c.with_names.new.cx
    (grown_twice c.args.cx.now c.of.new.cx c.none_under.new.cx c.in_ok-given.ensures.grown
    c.in_ok-none.ensures.grown) c.with_names.ensures.grown

pub returns-in_err-none-clause-grown : goal.returns-in_err-none-clause-grown
returns-in_err-none-clause-grown c =
    grown_twice c.args.cx.now c.of.new.cx c.none_under.new.cx c.in_ok-given.ensures.grown
    c.none_under.ensures.grown
