use Rattle.std.proofs.Common.{◌≡◌, Option, Some, None, option_map, sym, ap, subst}
use Rattle.ml_kernel.specs.Theorems.{Theorem}
use Rattle.term_core.specs.Patterns.{Pattern}
use Rattle.term_core.specs.RulePatterns.{plain_pattern}
use Rattle.rule_core.specs.ProgramView.{rewrite_rule}
use Rattle.rule_core.specs.Records.{Record, unconditional}
use Rattle.rule_core.specs.RecordView.{optional, plain_record, plain_step}
use Rattle.rule_core.specs.declared.records.EvalRecord.{EvalRecord}
use Rattle.prove_term.proofs.ContextLaws.{grown_none}
use Rattle.prove_equation.specs.Conditions.{SaysCondition}
use Rattle.prove_fun.proofs.Uses.{condition_missing, condition_none, condition_says}
use Rattle.prove_step.proofs.StepFacts.{StepFacts, condition_at, facts_found, held_condition}
use Rattle.prove_step.proofs.conditions.condition_held.Goals as goal

pub value_eq-requires-clause-sorted : goal.value_eq-requires-clause-sorted
value_eq-requires-clause-sorted c =
    let r = c.index-rule.result.now in
    let f : StepFacts c.args.cx.now.program (plain_step c.args.step.now) r =
    facts_found c.args.cx.now.program c.program.result.now (plain_step c.args.step.now) r
    c.program.ensures c.index-rule.ensures c.requires.step in
    let p : Pattern = plain_pattern c.in-Some-Some.pat in
    let q : Record = plain_record c.in-Some-Some.evaluation in
    let is_p : (rewrite_rule c.index-rule.result.now).condition ≡ Some
    (plain_pattern c.in-Some-Some.pat) =
    ap (option_map plain_pattern) c.in-Some-Some.is-0 in
    let is_q : (plain_step c.args.step.now).condition ≡ optional
    (Some (plain_record c.in-Some-Some.evaluation)) =
    ap (λ (o : Option EvalRecord). optional (option_map plain_record o)) c.in-Some-Some.is-1 in
    let h = held_condition c.args.cx.now.program (plain_step c.args.step.now) r p q f is_p is_q in
    (h.0.variables, h.0.sort, h.0.sorted, h.0.serves)

pub value_eq-requires-clause-recorded : goal.value_eq-requires-clause-recorded
value_eq-requires-clause-recorded c =
    let r = c.index-rule.result.now in
    let f : StepFacts c.args.cx.now.program (plain_step c.args.step.now) r =
    facts_found c.args.cx.now.program c.program.result.now (plain_step c.args.step.now) r
    c.program.ensures c.index-rule.ensures c.requires.step in
    let is_p : (rewrite_rule c.index-rule.result.now).condition ≡ Some
    (plain_pattern c.in-Some-Some.pat) =
    ap (option_map plain_pattern) c.in-Some-Some.is-0 in
    let is_q : (plain_step c.args.step.now).condition ≡ optional
    (Some (plain_record c.in-Some-Some.evaluation)) =
    ap (λ (o : Option EvalRecord). optional (option_map plain_record o)) c.in-Some-Some.is-1 in
    (held_condition c.args.cx.now.program (plain_step c.args.step.now) r
    (plain_pattern c.in-Some-Some.pat) (plain_record c.in-Some-Some.evaluation) f is_p
    is_q).0.records

pub returns-in_ok-value_eq-in-Some-Some-clause-says :
    goal.returns-in_ok-value_eq-in-Some-Some-clause-says
returns-in_ok-value_eq-in-Some-Some-clause-says c =
    let r = c.index-rule.result.now in
    let f : StepFacts c.args.cx.now.program (plain_step c.args.step.now) r =
    facts_found c.args.cx.now.program c.program.result.now (plain_step c.args.step.now) r
    c.program.ensures c.index-rule.ensures c.requires.step in
    let p : Pattern = plain_pattern c.in-Some-Some.pat in
    let q : Record = plain_record c.in-Some-Some.evaluation in
    let made : Theorem = c.in_ok-value_eq-in-Some-Some.field-0 in
    let is_p : (rewrite_rule c.index-rule.result.now).condition ≡ Some
    (plain_pattern c.in-Some-Some.pat) =
    ap (option_map plain_pattern) c.in-Some-Some.is-0 in
    let is_q : (plain_step c.args.step.now).condition ≡ optional
    (Some (plain_record c.in-Some-Some.evaluation)) =
    ap (λ (o : Option EvalRecord). optional (option_map plain_record o)) c.in-Some-Some.is-1 in
    let h = held_condition c.args.cx.now.program (plain_step c.args.step.now) r p q f is_p is_q in
    condition_at c.args.cx.now c.value_eq.new.cx (plain_step c.args.step.now) r (Some made)
    c.in_ok-value_eq-in-Some-Some.ensures.grown f
    (subst (λ (x : Option Pattern). SaysCondition c.value_eq.new.cx
    (rewrite_rule c.index-rule.result.now).variables c.args.step.now.subst x
    (Some c.in_ok-value_eq-in-Some-Some.field-0)) (sym is_p)
    (condition_says c.value_eq.new.cx c.args.cx.now.program (rewrite_rule r).variables
    c.args.step.now.subst p q made c.in_ok-value_eq-in-Some-Some.ensures.grown.program h.0 h.1
    h.2 c.in_ok-value_eq-in-Some-Some.ensures.says c.in_ok-value_eq-in-Some-Some.ensures.stays))

pub returns-in-None-default-clause-says : goal.returns-in-None-default-clause-says
returns-in-None-default-clause-says c =
    let r = c.index-rule.result.now in
    let f : StepFacts c.args.cx.now.program (plain_step c.args.step.now) r =
    facts_found c.args.cx.now.program c.program.result.now (plain_step c.args.step.now) r
    c.program.ensures c.index-rule.ensures c.requires.step in
    condition_at c.args.cx.now c.args.cx.now (plain_step c.args.step.now) r None
    (grown_none c.args.cx.now) f
    (condition_none c.args.cx.now (rewrite_rule r).variables c.args.step.now.subst
    (rewrite_rule r).condition (ap (option_map plain_pattern) c.in-None-default.is-0))

pub unreachable-requires : goal.unreachable-requires
unreachable-requires c =
    let r = c.index-rule.result.now in
    let f : StepFacts c.args.cx.now.program (plain_step c.args.step.now) r =
    facts_found c.args.cx.now.program c.program.result.now (plain_step c.args.step.now) r
    c.program.ensures c.index-rule.ensures c.requires.step in
    let none : (plain_step c.args.step.now).condition ≡ unconditional =
    ap (λ (o : Option EvalRecord). optional (option_map plain_record o)) c.in-Some-None.is-1 in
    condition_missing c.args.cx.now.program c.args.step.now.subst (rewrite_rule r).condition _
    (plain_step c.args.step.now).condition (ap (option_map plain_pattern) c.in-Some-None.is-0)
    none f.condition
