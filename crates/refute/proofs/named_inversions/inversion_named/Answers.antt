use Rattle.std.proofs.Common.{◌≡◌, ◌<◌, ℕ, List, length, refl, ap, sym, ◌∙◌, subst}
use Rattle.std.specs.Prelude.{All, Contains}
use Rattle.term_core.specs.RulePatterns.{plain_pattern, sort_numbers}
use Rattle.rule_core.specs.NamedParts.{Name}
use Rattle.rule_core.specs.ProgramView.{names_of}
use Rattle.rule_core.specs.Sorting.{HasSort, IsTermOf}
use Rattle.rule_core.specs.declared.rules.Named.{Named}
use Rattle.rule_core.specs.declared.rules.Program.{Program}
use Rattle.ml_image.specs.NamedSides.{of_child}
use Rattle.ml_image.specs.PartNames.{part_names}
use Rattle.ml_image.proofs.NamedLaws.{none_there}
use Rattle.prove_term.proofs.ContextLaws.{grown_twice}
use Rattle.prove_term.proofs.ResultLaws.{if_ok}
use Rattle.prove_open.proofs.ScopeLaws.{stays_no_hypotheses}
use Rattle.refute.specs.Bindings.{SaysInCommon}
use Rattle.refute.specs.NamedRefutations.{named_in_common, variables_as_written}
use Rattle.refute.specs.NamedSettings.{IsReached}
use Rattle.refute.specs.Refutations.{all_bound}
use Rattle.refute.specs.declared.settings.Goal.TheVariants as aim
use Rattle.refute.proofs.Begun.{clash_setting}
use Rattle.refute.proofs.Growing.{program_grown, setting_grown}
use Rattle.refute.proofs.NamedBegun.{all_reached, inversion_named_said, only_instance}
use Rattle.refute.proofs.NamedBegun.{plain_inverted, plain_matches, these_bound, these_parts}
use Rattle.refute.proofs.NamedBegun.{written_low}
use Rattle.refute.proofs.named_inversions.inversion_named.Goals as goal

pub inversion-requires-clause-matches : goal.inversion-requires-clause-matches
inversion-requires-clause-matches c =
    plain_matches c.args.cx.now.program.sig (sort_numbers c.args.sorts.now) c.args.subst.now
    (plain_pattern c.args.pat.now) c.args.term.now (names_of c.args.named.now)
    (ap names_of
    (none_there c.args.named.now c.is_empty.result c.is_empty.ensures c.if-is_empty.true))
    c.requires.matches

pub returns-then-is_empty-clause-says : goal.returns-then-is_empty-clause-says
returns-then-is_empty-clause-says c =
    if_ok c.inversion.result
    (λ t says. plain_inverted c.inversion.new.cx (sort_numbers c.args.sorts.now)
    c.args.subst.now (of_child 0 (names_of c.args.named.now)) (plain_pattern c.args.pat.now)
    c.args.term.now t.conclusion
    (ap (λ (ns : List Named). of_child 0 (names_of ns))
    (none_there c.args.named.now c.is_empty.result c.is_empty.ensures c.if-is_empty.true)) says)
    c.inversion.ensures.says

pub of-requires-clause-variables : goal.of-requires-clause-variables
of-requires-clause-variables c =
    let names : part_names c.deref-2.result.now ≡ of_child 0 (names_of c.args.named.now) =
    ap part_names c.deref-2.ensures.value ∙ c.in_ok-names.ensures
    ∙ ap (of_child 0) (ap part_names c.deref.ensures.value ∙ c.in_ok-part_names.ensures) in
    subst (All (λ (x : ℕ). x < length c.args.sorts.now)) (sym c.deref-3.ensures.value)
    (written_low c.args.cx.now.program.sig c.args.sorts.now (part_names c.deref-2.result.now)
    (plain_pattern c.args.pat.now) c.requires.sorted.0 c.in_ok-variables.variables.items
    c.requires.sorted.1 c.requires.no_call
    (these_parts c.args.cx.now.program.sig (sort_numbers c.args.sorts.now)
    (plain_pattern c.args.pat.now) (names_of c.args.named.now) (part_names c.deref-2.result.now)
    names c.requires.names)
    c.in_ok-variables.ensures)

pub pattern_image-requires-clause-setting : goal.pattern_image-requires-clause-setting
pattern_image-requires-clause-setting c =
    clash_setting c.args.cx.now c.of.new.cx (record {
      given = c.in_ok-given.given;
      sorts = c.args.sorts;
      new = c.in_ok-new_variable.field-0;
      goal = aim.Clash;
    })
    c.in_ok-given.ensures.grown c.requires.well_sorted c.requires.no_ac
    c.in_ok-given.ensures.given c.in_ok-new_variable.ensures refl

pub pattern_image-requires-clause-sorted : goal.pattern_image-requires-clause-sorted
pattern_image-requires-clause-sorted c =
    program_grown c.args.cx.now c.of.new.cx
    (λ (program : Program). (sort : ℕ) × HasSort program.sig (sort_numbers c.args.sorts.now)
    (plain_pattern c.args.pat.now) sort) c.in_ok-given.ensures.grown
    (c.requires.sorted.0, c.requires.sorted.1)

pub inverted-requires-clause-setting : goal.inverted-requires-clause-setting
inverted-requires-clause-setting c =
    setting_grown c.of.new.cx c.pattern_image.new.cx (record {
      given = c.in_ok-given.given;
      sorts = c.args.sorts;
      new = c.in_ok-new_variable.field-0;
      goal = aim.Clash;
    })
    c.in_ok-image.ensures.grown
    (clash_setting c.args.cx.now c.of.new.cx (record {
      given = c.in_ok-given.given;
      sorts = c.args.sorts;
      new = c.in_ok-new_variable.field-0;
      goal = aim.Clash;
    })
    c.in_ok-given.ensures.grown c.requires.well_sorted c.requires.no_ac
    c.in_ok-given.ensures.given c.in_ok-new_variable.ensures refl)

pub inverted-requires-clause-side : goal.inverted-requires-clause-side
inverted-requires-clause-side c = record {
  no_call = c.requires.no_call;
  image = c.in_ok-image.ensures.image;
}

pub inverted-requires-clause-sorted : goal.inverted-requires-clause-sorted
inverted-requires-clause-sorted c =
    program_grown c.args.cx.now c.pattern_image.new.cx
    (λ (program : Program). (sort : ℕ) × IsTermOf program.sig c.args.term.now sort)
    (grown_twice c.args.cx.now c.of.new.cx c.pattern_image.new.cx c.in_ok-given.ensures.grown
    c.in_ok-image.ensures.grown) (c.requires.sorted.0, c.requires.sorted.2)

pub inverted-requires-clause-reached : goal.inverted-requires-clause-reached
inverted-requires-clause-reached c =
    let before : part_names c.deref-2.result.now ≡ of_child 0 (names_of c.args.named.now) =
    ap part_names c.deref-2.ensures.value ∙ c.in_ok-names.ensures
    ∙ ap (of_child 0) (ap part_names c.deref.ensures.value ∙ c.in_ok-part_names.ensures) in
    let names : part_names c.deref-4.result.now ≡ of_child 0 (names_of c.args.named.now) =
    ap part_names c.deref-4.ensures.value ∙ c.in_ok-names.ensures
    ∙ ap (of_child 0) (ap part_names c.deref.ensures.value ∙ c.in_ok-part_names.ensures) in
    program_grown c.args.cx.now c.pattern_image.new.cx
    (λ (program : Program). All (IsReached program.sig (sort_numbers c.args.sorts.now)
    c.in_ok-given.given c.args.subst.now (part_names c.deref-4.result.now)
    (plain_pattern c.args.pat.now) c.args.term.now) c.deref-5.result.now)
    (grown_twice c.args.cx.now c.of.new.cx c.pattern_image.new.cx c.in_ok-given.ensures.grown
    c.in_ok-image.ensures.grown)
    (all_reached c.args.cx.now.program.sig (sort_numbers c.args.sorts.now) c.in_ok-given.given
    (part_names c.deref-4.result.now) (plain_pattern c.args.pat.now) c.requires.sorted.0
    c.args.term.now c.args.subst.now c.deref-5.result.now
    c.requires.well_sorted.signature.no_cycle c.requires.sorted.1 c.requires.no_call
    (these_parts c.args.cx.now.program.sig (sort_numbers c.args.sorts.now)
    (plain_pattern c.args.pat.now) (names_of c.args.named.now) (part_names c.deref-4.result.now)
    names c.requires.names)
    c.requires.sorted.2 c.height-high.ensures.normal c.requires.matches.binds.sorted
    (only_instance c.args.cx.now.program.sig (sort_numbers c.args.sorts.now) c.args.subst.now
    (plain_pattern c.args.pat.now) c.args.term.now (names_of c.args.named.now)
    c.requires.matches)
    (these_bound c.args.cx.now.program.sig (sort_numbers c.args.sorts.now) c.args.subst.now
    (plain_pattern c.args.pat.now) c.args.term.now (names_of c.args.named.now)
    (part_names c.deref-4.result.now) names c.requires.matches)
    (c.deref-5.ensures.value ∙ c.in_ok-variables.ensures
    ∙ ap (λ (ns : List Name). variables_as_written ns (plain_pattern c.args.pat.now))
    (before ∙ sym names))
    (λ x there. c.in_ok-given.ensures.facts x
    (subst (λ (xs : List ℕ). Contains xs x)
    (c.deref-5.ensures.value ∙ sym c.deref-3.ensures.value) there)))

pub returns-clause-says : goal.returns-clause-says
returns-clause-says c =
    let before : part_names c.deref-2.result.now ≡ of_child 0 (names_of c.args.named.now) =
    ap part_names c.deref-2.ensures.value ∙ c.in_ok-names.ensures
    ∙ ap (of_child 0) (ap part_names c.deref.ensures.value ∙ c.in_ok-part_names.ensures) in
    let names : part_names c.deref-4.result.now ≡ of_child 0 (names_of c.args.named.now) =
    ap part_names c.deref-4.ensures.value ∙ c.in_ok-names.ensures
    ∙ ap (of_child 0) (ap part_names c.deref.ensures.value ∙ c.in_ok-part_names.ensures) in
    if_ok c.inverted.result
    (λ r inverts. inversion_named_said c.of.new.cx c.inverted.new.cx
    (sort_numbers c.args.sorts.now) c.in_ok-given.given.hypothesis c.args.subst.now
    (of_child 0 (names_of c.args.named.now)) (plain_pattern c.args.pat.now) c.args.term.now
    c.deref-3.result.now c.in_ok-variables.variables.items c.deref-5.result.now r.conclusion
    (grown_twice c.of.new.cx c.pattern_image.new.cx c.inverted.new.cx
    c.in_ok-image.ensures.grown c.inverted.ensures.grown)
    c.in_ok-given.ensures.hypothesis
    (c.in_ok-variables.ensures
    ∙ ap (λ (ns : List Name). variables_as_written ns (plain_pattern c.args.pat.now)) before)
    c.deref-3.ensures.value c.deref-5.ensures.value
    (subst (λ (ns : List Name). SaysInCommon c.inverted.new.cx c.in_ok-given.given.hypothesis
    (named_in_common ns (plain_pattern c.args.pat.now) c.args.term.now)
    (all_bound c.args.subst.now c.deref-5.result.now) r.conclusion) names inverts.says))
    c.inverted.ensures.says

pub returns-clause-no_hypotheses : goal.returns-clause-no_hypotheses
returns-clause-no_hypotheses c =
    if_ok c.inverted.result
    (λ t inverts. stays_no_hypotheses c.inverted.new.cx t inverts.stays)
    c.inverted.ensures.says

pub returns-clause-stays : goal.returns-clause-stays
returns-clause-stays c =
    if_ok c.inverted.result (λ t inverts. inverts.stays) c.inverted.ensures.says

pub returns-clause-grown : goal.returns-clause-grown
returns-clause-grown c =
    grown_twice c.args.cx.now c.pattern_image.new.cx c.inverted.new.cx
    (grown_twice c.args.cx.now c.of.new.cx c.pattern_image.new.cx c.in_ok-given.ensures.grown
    c.in_ok-image.ensures.grown) c.inverted.ensures.grown

pub returns-in_err-image-clause-grown : goal.returns-in_err-image-clause-grown
returns-in_err-image-clause-grown c =
    grown_twice c.args.cx.now c.of.new.cx c.pattern_image.new.cx c.in_ok-given.ensures.grown
    c.pattern_image.ensures.grown
