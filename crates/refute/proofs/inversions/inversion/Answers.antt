use Rattle.std.proofs.Common.{◌<◌, ℕ, length, refl, sym, ◌∙◌, subst}
use Rattle.std.specs.Prelude.{All}
use Rattle.term_core.specs.RulePatterns.{plain_pattern, sort_numbers}
use Rattle.rule_core.specs.declared.rules.Program.{Program}
use Rattle.prove_term.proofs.ContextLaws.{grown_twice}
use Rattle.refute.specs.Bindings.{AllCome}
use Rattle.refute.specs.declared.settings.Goal.TheVariants as aim
use Rattle.refute.proofs.Begun.{clash_setting, begun_pair, inversion_said}
use Rattle.refute.proofs.Growing.{program_grown, setting_grown, pair_grown}
use Rattle.refute.proofs.Reached.{variables_low, all_come}
use Rattle.prove_term.proofs.ResultLaws.{if_ok}
use Rattle.prove_open.proofs.ScopeLaws.{stays_no_hypotheses}
use Rattle.refute.proofs.inversions.inversion.Goals as goal

pub of-requires-clause-variables : goal.of-requires-clause-variables
of-requires-clause-variables c =
    subst (All (λ (x : ℕ). x < length c.args.sorts.now)) (sym c.deref.ensures.value)
    (variables_low c.args.cx.now.program.sig c.args.sorts.now (plain_pattern c.args.pat.now)
    c.requires.sorted.0 c.in_ok-variables.variables.items c.requires.sorted.1 c.requires.no_call
    c.in_ok-variables.ensures)

pub at_first-requires-clause-setting : goal.at_first-requires-clause-setting
at_first-requires-clause-setting c =
    clash_setting c.args.cx.now c.of.new.cx (record {
      given = c.in_ok-given.given;
      sorts = c.args.sorts;
      new = c.in_ok-new_variable.field-0;
      goal = aim.Clash;
    }) c.in_ok-given.ensures.grown
    c.requires.well_sorted c.requires.no_ac c.in_ok-given.ensures.given
    c.in_ok-new_variable.ensures refl

pub at_first-requires-clause-covered : goal.at_first-requires-clause-covered
at_first-requires-clause-covered c = (
  c.args.term.now,
  c.in_ok-whole.ensures.tree,
  begun_pair c.args.cx.now c.of.new.cx (sort_numbers c.args.sorts.now)
      c.in_ok-given.given (plain_pattern c.args.pat.now) c.requires.sorted.0 c.args.term.now
      c.deref.result.now c.in_ok-variables.variables.items c.in_ok-given.ensures.grown
      c.requires.sorted.1 c.requires.no_call c.requires.sorted.2 c.height-high.ensures.normal
      c.in_ok-variables.ensures c.deref.ensures.value c.in_ok-given.ensures.facts,
)

pub all_inverted-requires-clause-setting : goal.all_inverted-requires-clause-setting
all_inverted-requires-clause-setting c =
    setting_grown c.of.new.cx c.at_first.new.cx (record {
      given = c.in_ok-given.given;
      sorts = c.args.sorts;
      new = c.in_ok-new_variable.field-0;
      goal = aim.Clash;
    }) c.in_ok-start.ensures.grown
    (clash_setting c.args.cx.now c.of.new.cx (record {
      given = c.in_ok-given.given;
      sorts = c.args.sorts;
      new = c.in_ok-new_variable.field-0;
      goal = aim.Clash;
    }) c.in_ok-given.ensures.grown
    c.requires.well_sorted c.requires.no_ac c.in_ok-given.ensures.given
    c.in_ok-new_variable.ensures refl)

pub all_inverted-requires-clause-pair : goal.all_inverted-requires-clause-pair
all_inverted-requires-clause-pair c =
    pair_grown c.of.new.cx c.at_first.new.cx (sort_numbers c.args.sorts.now)
    c.in_ok-given.given (plain_pattern c.args.pat.now) c.args.term.now c.in_ok-start.ensures.grown
    (begun_pair c.args.cx.now c.of.new.cx (sort_numbers c.args.sorts.now)
    c.in_ok-given.given (plain_pattern c.args.pat.now) c.requires.sorted.0 c.args.term.now
    c.deref.result.now c.in_ok-variables.variables.items c.in_ok-given.ensures.grown
    c.requires.sorted.1 c.requires.no_call c.requires.sorted.2 c.height-high.ensures.normal
    c.in_ok-variables.ensures c.deref.ensures.value c.in_ok-given.ensures.facts)

pub all_inverted-requires-clause-come : goal.all_inverted-requires-clause-come
all_inverted-requires-clause-come c =
    program_grown c.args.cx.now c.at_first.new.cx
    (λ (program : Program). AllCome program.sig.subsorts c.args.subst.now
    (plain_pattern c.args.pat.now) c.args.term.now c.deref-2.result.now)
    (grown_twice c.args.cx.now c.of.new.cx c.at_first.new.cx c.in_ok-given.ensures.grown
    c.in_ok-start.ensures.grown)
    (all_come c.clash_laws.ensures.reaches c.args.cx.now.program.sig
    (sort_numbers c.args.sorts.now) (plain_pattern c.args.pat.now) c.requires.sorted.0
    c.args.term.now c.args.subst.now c.deref-2.result.now
    c.requires.well_sorted.signature.no_cycle c.requires.sorted.1 c.requires.no_call
    c.requires.sorted.2 c.height-high.ensures.normal c.requires.matches
    (c.deref-2.ensures.value ∙ c.in_ok-variables.ensures))

pub all_inverted-requires-clause-start : goal.all_inverted-requires-clause-start
all_inverted-requires-clause-start c =
    record {
      says = c.in_ok-start.ensures.says c.args.term.now c.in_ok-whole.ensures.tree;
      stays = c.in_ok-start.ensures.stays;
    }

pub returns-clause-says : goal.returns-clause-says
returns-clause-says c =
    if_ok c.all_inverted.result
    (λ t inverts. inversion_said c.of.new.cx c.all_inverted.new.cx
    (sort_numbers c.args.sorts.now) c.in_ok-given.given.hypothesis
    (plain_pattern c.args.pat.now) c.args.term.now c.args.subst.now
    c.deref.result.now c.in_ok-variables.variables.items
    c.deref-2.result.now t.conclusion
    (grown_twice c.of.new.cx c.at_first.new.cx c.all_inverted.new.cx
    c.in_ok-start.ensures.grown c.all_inverted.ensures.grown)
    c.in_ok-given.ensures.hypothesis c.in_ok-variables.ensures c.deref.ensures.value
    c.deref-2.ensures.value inverts.says)
    c.all_inverted.ensures.says

pub returns-clause-no_hypotheses : goal.returns-clause-no_hypotheses
returns-clause-no_hypotheses c =
    if_ok c.all_inverted.result
    (λ t inverts. stays_no_hypotheses c.all_inverted.new.cx t inverts.stays)
    c.all_inverted.ensures.says

pub returns-clause-stays : goal.returns-clause-stays
returns-clause-stays c =
    if_ok c.all_inverted.result (λ t inverts. inverts.stays) c.all_inverted.ensures.says

pub returns-clause-grown : goal.returns-clause-grown
returns-clause-grown c =
    grown_twice c.args.cx.now c.at_first.new.cx c.all_inverted.new.cx
    (grown_twice c.args.cx.now c.of.new.cx c.at_first.new.cx c.in_ok-given.ensures.grown
    c.in_ok-start.ensures.grown) c.all_inverted.ensures.grown

pub returns-in_err-start-clause-grown : goal.returns-in_err-start-clause-grown
returns-in_err-start-clause-grown c =
    grown_twice c.args.cx.now c.of.new.cx c.at_first.new.cx c.in_ok-given.ensures.grown
    c.at_first.ensures.grown
