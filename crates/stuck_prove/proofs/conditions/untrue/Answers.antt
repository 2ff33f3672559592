use Rattle.std.proofs.Common.{◌≡◌, ◌≤◌, option_map, sym, ◌∙◌, ap, subst, arith}
use Rattle.std.specs.Prelude.{true}
use Rattle.term_core.specs.RulePatterns.{plain_pattern}
use Rattle.term_core.specs.Terms.{Tree, height, truth}
use Rattle.term_core.specs.Patterns.{Pattern}
use Rattle.rule_core.specs.AcSymbols.{IsAcFree}
use Rattle.rule_core.specs.ProgramView.{rewrite_rule, theory_of}
use Rattle.rule_core.specs.RecordView.{plain_record}
use Rattle.rule_core.specs.Records.{Records, result_of}
use Rattle.rule_core.specs.Sorting.{HasValue, IsTermOf}
use Rattle.rule_core.specs.WellSorted.{BindsVariablesOf}
use Rattle.rule_core.specs.declared.rules.Program.{Program}
use Rattle.ml_image.proofs.ImageLaws.{some_same}
use Rattle.prove_term.proofs.ResultLaws.{if_ok}
use Rattle.prove_fun.proofs.KeptLaws.{kept_grown}
use Rattle.refute.proofs.Growing.{program_grown}
use Rattle.stuck_prove.proofs.UntrueLaws.{IsTruth, condition_served, says_untrue, sort_read}
use Rattle.stuck_prove.proofs.UntrueLaws.{truth_read, value_sorted}
use Rattle.stuck_prove.proofs.conditions.untrue.Goals.{After-height-high}
use Rattle.stuck_prove.proofs.conditions.untrue.Goals as goal

-- the condition has the sort that the code reads
sorted : (c : After-height-high) → IsTruth c.args.cx.now.program.sig (rewrite_rule c.args.rule.now)
    (plain_pattern c.in-Some.condition) c.in-Some-sort_of.sort.0
sorted c =
    truth_read c.args.cx.now.program.sig c.requires.sorted.0 (rewrite_rule c.args.rule.now)
    (plain_pattern c.in-Some.condition) c.in-Some-sort_of.sort.0 c.requires.sorted.1
    (ap (option_map plain_pattern) c.in-Some.is)
    (sort_read c.args.cx.now.program c.program.result.now c.args.rule.now c.deref.result.now
    c.in-Some.condition c.sort_of.result c.in-Some-sort_of.sort c.program.ensures
    c.deref.ensures.value c.sort_of.ensures c.in-Some-sort_of.is)

served : (c : After-height-high) → BindsVariablesOf c.args.cx.now.program.sig
    (rewrite_rule c.args.rule.now).variables c.args.subst.now (plain_pattern c.in-Some.condition)
served c =
    let low : height c.args.config.now ≤ 500 =
    omega (arith, c.height-high.ensures.bound, c.height-high.ensures.value) in
    condition_served (theory_of c.args.cx.now.program) c.requires.sorted.0
    (rewrite_rule c.args.rule.now) c.args.config.now c.args.subst.now
    (plain_pattern c.in-Some.condition) c.requires.sorted.1 c.requires.matches low
    (ap (option_map plain_pattern) c.in-Some.is)

pub value_eq-requires-clause-sorted : goal.value_eq-requires-clause-sorted
value_eq-requires-clause-sorted c =
    let at : After-height-high = (goal.at.value_eq-requires-clause-sorted c).After-height-high in
    ((rewrite_rule c.args.rule.now).variables, c.in-Some-sort_of.sort.0, (sorted at).sorted, served at)

pub not_true-requires-clause-no_ac : goal.not_true-requires-clause-no_ac
not_true-requires-clause-no_ac c =
    program_grown c.args.cx.now c.value_eq.new.cx (λ (program : Program). IsAcFree program.sig)
    c.value_eq.ensures.grown c.requires.showable.no_ac

pub not_true-requires-clause-truths : goal.not_true-requires-clause-truths
not_true-requires-clause-truths c =
    let at : After-height-high = (goal.at.not_true-requires-clause-truths c).After-height-high in
    program_grown c.args.cx.now c.value_eq.new.cx
    (λ (program : Program). HasValue program.sig c.in-Some-sort_of.sort.0 (truth true))
    c.value_eq.ensures.grown (sorted at).truths

pub not_true-requires-clause-sorted : goal.not_true-requires-clause-sorted
not_true-requires-clause-sorted c =
    let at : After-height-high = (goal.at.not_true-requires-clause-sorted c).After-height-high in
    let same : c.requires.untrue.condition ≡ plain_pattern c.in-Some.condition =
    some_same c.requires.untrue.condition (plain_pattern c.in-Some.condition)
    (sym c.requires.untrue.is_condition ∙ ap (option_map plain_pattern) c.in-Some.is) in
    subst (λ (t : Tree). IsTermOf c.value_eq.new.cx.program.sig t c.in-Some-sort_of.sort.0)
    (sym c.result.ensures)
    (program_grown c.args.cx.now c.value_eq.new.cx
    (λ (program : Program). IsTermOf program.sig (result_of (plain_record c.args.evaluation.now))
    c.in-Some-sort_of.sort.0) c.value_eq.ensures.grown
    (value_sorted (theory_of c.args.cx.now.program) (rewrite_rule c.args.rule.now) c.args.subst.now
    (plain_pattern c.in-Some.condition) (plain_record c.args.evaluation.now)
    c.in-Some-sort_of.sort.0 c.requires.showable.well_sorted (sorted at) (served at)
    (subst (λ (q : Pattern). Records (theory_of c.args.cx.now.program) c.args.subst.now q
    (plain_record c.args.evaluation.now)) same c.requires.untrue.records)))

pub returns-clause-says : goal.returns-clause-says
returns-clause-says c =
    let at : After-height-high = (goal.at.returns-clause-says c).After-height-high in
    if_ok c.not_true.result
    (λ t says q s there sort. says_untrue c.args.cx.now c.value_eq.new.cx c.not_true.new.cx
    (rewrite_rule c.args.rule.now) c.args.subst.now (plain_pattern c.in-Some.condition) q
    c.in-Some-sort_of.sort.0 s (result_of (plain_record c.args.evaluation.now))
    c.in_ok-value.value.conclusion t.conclusion c.value_eq.ensures.grown c.not_true.ensures.grown
    (ap (option_map plain_pattern) c.in-Some.is) (sorted at).is_sort c.in_ok-value.ensures.says says
    there sort)
    c.not_true.ensures.says

pub returns-clause-kept : goal.returns-clause-kept
returns-clause-kept c =
    kept_grown c.value_eq.new.cx c.not_true.new.cx c.value_eq.new.kept c.not_true.ensures.grown
    c.value_eq.ensures.kept
