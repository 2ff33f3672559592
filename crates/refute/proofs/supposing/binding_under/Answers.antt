use Rattle.std.proofs.Common.{◌≡◌, Some, refl, sym, subst}
use Rattle.ml_pat.specs.Judgements.{IsPredicate}
use Rattle.term_core.specs.Terms.{Tree}
use Rattle.term_core.specs.Patterns.{variable, ground_pattern}
use Rattle.term_core.specs.RulePatterns.{plain_pattern, sort_numbers}
use Rattle.rule_core.specs.AcSymbols.{IsAcFree}
use Rattle.rule_core.specs.ProgramView.{theory_of}
use Rattle.rule_core.specs.WellSorted.{IsWellSorted}
use Rattle.rule_core.specs.declared.rules.Program.{Program}
use Rattle.prove_term.proofs.ContextLaws.{grown_twice}
use Rattle.refute.specs.Clashes.{ComesTo}
use Rattle.refute.proofs.Bound.{bound_sorted, equation_over, fact_stays, inner_goal, inner_pair}
use Rattle.refute.proofs.Bound.{none_parts, bound_said, one_stays}
use Rattle.refute.proofs.Conversions.{image_later}
use Rattle.refute.proofs.Growing.{program_grown, setting_grown, pair_grown}
use Rattle.refute.proofs.Shapes.{image_in}
use Rattle.prove_term.proofs.ResultLaws.{if_ok}
use Rattle.refute.proofs.supposing.binding_under.Goals as goal

pub term_image-requires-clause-sorted : goal.term_image-requires-clause-sorted
term_image-requires-clause-sorted c =
    bound_sorted c.args.cx.now.program.sig (sort_numbers c.args.setting.now.sorts.now)
    c.args.setting.now.given
    (plain_pattern c.args.pat.now) c.args.term.now c.args.x c.args.bound.now c.requires.pair
    c.requires.comes

pub denying-requires-clause-given : goal.denying-requires-clause-given
denying-requires-clause-given c =
    (setting_grown c.args.cx.now c.term_image.new.cx c.args.setting.now c.in_ok-image.ensures.grown
    c.requires.setting).given

pub denying-requires-clause-predicate : goal.denying-requires-clause-predicate
denying-requires-clause-predicate c =
    subst IsPredicate (sym c.in_ok-equation.ensures) refl

pub denying-requires-clause-over : goal.denying-requires-clause-over
denying-requires-clause-over c =
    λ s has. equation_over c.term_image.new.cx s c.args.x c.args.bound.now c.in_ok-variable.variable
    c.in_ok-image.image c.in_ok-equation.equation has c.in_ok-variable.ensures
    c.in_ok-image.ensures.image c.in_ok-equation.ensures

pub none_in_common-requires-clause-setting : goal.none_in_common-requires-clause-setting
none_in_common-requires-clause-setting c =
    record {
      well_sorted =
          program_grown c.args.cx.now c.term_image.new.cx
          (λ (program : Program). IsWellSorted (theory_of program)) c.in_ok-image.ensures.grown
          c.requires.setting.well_sorted;
      no_ac =
          program_grown c.args.cx.now c.term_image.new.cx
          (λ (program : Program). IsAcFree program.sig) c.in_ok-image.ensures.grown
          c.requires.setting.no_ac;
      given = c.in_ok-denying.ensures.given;
      new = c.requires.setting.new;
      goal =
          inner_goal c.term_image.new.cx c.args.setting.now.given.hypothesis
          c.in_ok-denying.field-0.hypothesis c.in_ok-variable.variable c.in_ok-image.image
          c.in_ok-equation.equation c.args.x c.in_ok-share.field-0 c.in_ok-fact.fact
          c.in_ok-variable.ensures
          (subst (λ (t : Tree). image_in c.term_image.new.cx (ground_pattern t) ≡ Some
          c.in_ok-image.image)
          (sym c.in_ok-share.ensures.same) c.in_ok-image.ensures.image)
          c.in_ok-equation.ensures c.in_ok-denying.ensures.hypothesis
          c.in_ok-fact.ensures.conclusion
          (fact_stays c.term_image.new.cx c.args.setting.now.given.hypothesis
          c.in_ok-equation.equation
          c.in_ok-fact.fact
          (setting_grown c.args.cx.now c.term_image.new.cx c.args.setting.now
          c.in_ok-image.ensures.grown c.requires.setting).given.over
          (λ s has. equation_over c.term_image.new.cx s c.args.x c.args.bound.now
          c.in_ok-variable.variable
          c.in_ok-image.image c.in_ok-equation.equation has c.in_ok-variable.ensures
          c.in_ok-image.ensures.image c.in_ok-equation.ensures)
          c.in_ok-fact.ensures.stays);
    }

pub none_in_common-requires-clause-pair : goal.none_in_common-requires-clause-pair
none_in_common-requires-clause-pair c =
    pair_grown c.args.cx.now c.term_image.new.cx (sort_numbers c.args.setting.now.sorts.now)
    c.in_ok-denying.field-0 (plain_pattern c.args.pat.now) c.args.term.now
    c.in_ok-image.ensures.grown
    (inner_pair c.args.cx.now.program.sig (sort_numbers c.args.setting.now.sorts.now)
    c.args.setting.now.given c.in_ok-denying.field-0 (plain_pattern c.args.pat.now) c.args.term.now
    c.requires.pair c.in_ok-denying.ensures.facts)

pub none_in_common-requires-clause-comes : goal.none_in_common-requires-clause-comes
none_in_common-requires-clause-comes c = (
  variable c.args.x,
  c.args.bound.now,
  (refl, sym c.in_ok-share.ensures.same),
  program_grown c.args.cx.now c.term_image.new.cx
      (λ (program : Program). ComesTo program.sig.subsorts (variable c.args.x)
      c.args.bound.now (plain_pattern c.args.pat.now) c.args.term.now) c.in_ok-image.ensures.grown
      c.requires.comes,
)

pub not_denied-requires : goal.not_denied-requires
not_denied-requires c =
    none_parts c.none_in_common.new.cx c.in_ok-denying.field-0.hypothesis
    c.args.setting.now.given.hypothesis c.in_ok-equation.equation (plain_pattern c.args.pat.now)
    c.args.term.now c.in_ok-none.none c.in_ok-none.ensures.denies
    c.in_ok-denying.ensures.hypothesis

pub returns-clause-says : goal.returns-clause-says
returns-clause-says c =
    if_ok c.not_denied.result
    (λ t says. bound_said c.none_in_common.new.cx c.in_ok-denying.field-0.hypothesis
    c.args.setting.now.given.hypothesis c.in_ok-variable.variable c.in_ok-image.image
    c.in_ok-equation.equation
    c.args.x c.args.bound.now (plain_pattern c.args.pat.now) c.args.term.now c.in_ok-none.none t
    c.in_ok-none.ensures.denies c.in_ok-denying.ensures.hypothesis c.in_ok-variable.ensures
    (image_later c.term_image.new.cx c.none_in_common.new.cx (ground_pattern c.args.bound.now)
    c.in_ok-image.image c.in_ok-none.ensures.grown c.in_ok-image.ensures.image)
    c.in_ok-equation.ensures says)
    c.not_denied.ensures.conclusion

pub returns-clause-stays : goal.returns-clause-stays
returns-clause-stays c =
    if_ok c.not_denied.result
    (λ t stays. one_stays c.none_in_common.new.cx c.in_ok-none.none t
    c.in_ok-none.ensures.denies.stays stays)
    c.not_denied.ensures.stays

pub returns-clause-grown : goal.returns-clause-grown
returns-clause-grown c =
    grown_twice c.args.cx.now c.term_image.new.cx c.none_in_common.new.cx
    c.in_ok-image.ensures.grown
    c.none_in_common.ensures.grown

pub returns-in_err-none-clause-grown : goal.returns-in_err-none-clause-grown
returns-in_err-none-clause-grown c =
    grown_twice c.args.cx.now c.term_image.new.cx c.none_in_common.new.cx
    c.in_ok-image.ensures.grown
    c.none_in_common.ensures.grown
