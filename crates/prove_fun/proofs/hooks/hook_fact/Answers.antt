use Rattle.std.proofs.Common.{List, map, sym, subst}
use Rattle.ml_image.specs.Sentences.{Sentence}
use Rattle.ml_image.specs.TrueFacts.{SaysHook}
use Rattle.term_core.specs.Values.{scalar_value}
use Rattle.term_core.specs.declared.values.Scalar.{Scalar}
use Rattle.rule_core.specs.HookCalls.{AreValues}
use Rattle.rule_core.specs.Records.{result_of, results_of}
use Rattle.rule_core.specs.RecordView.{plain_record}
use Rattle.rule_core.specs.declared.rules.Program.{Program}
use Rattle.prove_term.proofs.ResultLaws.{if_ok_two}
use Rattle.prove_fun.specs.RecordParts.{children_of}
use Rattle.prove_fun.specs.Evaluating.{IsHookCall}
use Rattle.prove_fun.proofs.Hooking.{hook_scalars, hook_says, hook_call}
use Rattle.prove_fun.proofs.hooks.hook_fact.Goals as goal

pub scalars-requires-clause-values : goal.scalars-requires-clause-values
scalars-requires-clause-values c =
    hook_scalars c.args.cx.now.program.sig c.args.symbol.0
    (results_of (children_of (plain_record c.args.evaluation.now)))
    (result_of (plain_record c.args.evaluation.now)) c.requires.call

pub hook-requires : goal.hook-requires
hook-requires c =
    subst (λ (ss : List Scalar). (s : Sentence)
    × SaysHook c.args.cx.now.program.sig c.args.symbol.0 (map scalar_value ss) s)
    (sym c.deref.ensures.value)
    (hook_says c.args.cx.now.program.sig c.args.symbol.0
    (results_of (children_of (plain_record c.args.evaluation.now)))
    (result_of (plain_record c.args.evaluation.now)) (map scalar_value c.in_ok-args.args.items)
    c.requires.call c.in_ok-args.ensures)

pub returns-clause-says : goal.returns-clause-says
returns-clause-says c =
    let are : AreValues (results_of (children_of (plain_record c.args.evaluation.now)))
    (map scalar_value c.deref.result.now) =
    subst (λ (ss : List Scalar). AreValues
    (results_of (children_of (plain_record c.args.evaluation.now))) (map scalar_value ss))
    (sym c.deref.ensures.value) c.in_ok-args.ensures in
    let call : IsHookCall c.hook.new.self.program.sig c.args.symbol.0
    (results_of (children_of (plain_record c.args.evaluation.now)))
    (result_of (plain_record c.args.evaluation.now)) =
    subst (λ (p : Program). IsHookCall p.sig c.args.symbol.0
    (results_of (children_of (plain_record c.args.evaluation.now)))
    (result_of (plain_record c.args.evaluation.now))) (sym c.hook.ensures.grown.program)
    c.requires.call in
    if_ok_two c.hook.result
    (λ fact says stays. λ image is. hook_call c.hook.new.self c.args.symbol.0
    (results_of (children_of (plain_record c.args.evaluation.now)))
    (result_of (plain_record c.args.evaluation.now)) (map scalar_value c.deref.result.now) fact
    image call are says stays is)
    c.hook.ensures.says c.hook.ensures.stays
