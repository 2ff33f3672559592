use Rattle.std.proofs.Common.{◌≡◌, map, option_map, ◌∙◌, ap}
use Rattle.std.specs.Global.{Box}
use Rattle.rule_core.specs.Records.{Record, RecordList, OptionalRecord, MissList}
use Rattle.rule_core.specs.Records.{by_equation as equation_record}
use Rattle.rule_core.specs.RecordView.{misses, optional, plain_record, records}
use Rattle.rule_core.specs.declared.records.EvalRecord.{EvalRecord}
use Rattle.rule_core.specs.declared.records.EvalRecord.TheVariants as form
use Rattle.fun_eval.specs.RecordLists.{plain_missed}
use Rattle.fun_eval.proofs.PlainRecords.{plain-used}
use Rattle.fun_eval.proofs.recording.EvalRecordRecording.by_equation.Goals as goal

pub returns : goal.returns
returns c = λ rs o r ms all met body missed.
    let whole : plain_record (form.ByEquation c.in_ok-new.field-0) ≡ equation_record c.args.fun.0
    (records (map plain_record c.args.args.items)) c.args.equation c.args.subst
    (optional (option_map (λ (b : Box EvalRecord). plain_record b.value) c.in_ok-cond.cond))
    (plain_record c.in_ok-body.body.value) (misses (map plain_missed c.args.missed.items)) =
    plain-used (record {
      fun = c.args.fun;
      args = c.args.args;
      equation = c.args.equation;
      subst = c.args.subst;
      cond = c.in_ok-cond.cond;
      body = c.in_ok-body.body;
      missed = c.args.missed;
    }) c.in_ok-new.field-0 c.in_ok-new.ensures.ok in
    let condition : optional
    (option_map (λ (b : Box EvalRecord). plain_record b.value) c.in_ok-cond.cond) ≡ o =
    c.in_ok-cond.ensures o met in
    let right : plain_record c.in_ok-body.body.value ≡ r =
    ap plain_record c.in_ok-body.ensures.ok ∙ body in
    whole
    ∙ (ap (λ (ss : RecordList). equation_record c.args.fun.0 ss c.args.equation c.args.subst
    (optional (option_map (λ (b : Box EvalRecord). plain_record b.value)
    c.in_ok-cond.cond)) (plain_record c.in_ok-body.body.value)
    (misses (map plain_missed c.args.missed.items))) all
    ∙ (ap (λ (p : OptionalRecord). equation_record c.args.fun.0 rs c.args.equation c.args.subst p
    (plain_record c.in_ok-body.body.value) (misses (map plain_missed c.args.missed.items)))
    condition
    ∙ (ap (λ (q : Record). equation_record c.args.fun.0 rs c.args.equation c.args.subst o q
    (misses (map plain_missed c.args.missed.items))) right
    ∙ ap (λ (ns : MissList). equation_record c.args.fun.0 rs c.args.equation c.args.subst o r ns)
    missed)))
