-- The answers of `called` and `at_values`: calls, at the values of their arguments.
use Rattle.std.proofs.Common.{◌≡◌, [], List, sym, ◌∙◌, ap, subst, arith}
use Rattle.ml_pat.specs.Patterns.{Pattern, constant}
use Rattle.ml_kernel.specs.Lemmas.{HasNoVariable}
use Rattle.term_core.specs.Patterns.{ground_pattern, ground_patterns}
use Rattle.term_core.specs.PatternLists.{plain_patterns}
use Rattle.rule_core.specs.declared.rules.Program.{Program}
use Rattle.rule_core.specs.Records.{result_of, results_of}
use Rattle.rule_core.specs.RecordView.{plain_record}
use Rattle.ml_image.specs.Sentences.{term}
use Rattle.prove_term.specs.Schemas.{AreImages}
use Rattle.prove_term.specs.Comparing.{IsOverContext}
use Rattle.prove_term.proofs.ResultLaws.{if_ok, if_ok_two}
use Rattle.prove_term.proofs.ContextLaws.{image_grown}
use Rattle.prove_fun.specs.RecordParts.{children_of}
use Rattle.prove_fun.specs.Evaluating.{AreRecorded, IsImage, HasEqual}
use Rattle.prove_fun.proofs.PlainRecords.{plain-Bound, plain-Value as record-Value}
use Rattle.prove_fun.proofs.PlainRecords.{plain-Ctor as record-Ctor, plain-Inj as record-Inj}
use Rattle.prove_fun.proofs.PlainRecords.{plain-ByHook, plain-ByEquation}
use Rattle.prove_fun.proofs.Recording.{as_many_records, call_recorded, hook_recorded, bound_no_call}
use Rattle.prove_fun.proofs.Recording.{itself_no_call, made_no_call, injected_no_call}
use Rattle.prove_fun.proofs.KeptLaws.{kept_grown}
use Rattle.prove_fun.proofs.Nodes.{call_parts, values_evaluated, call_closed, call_joinable}
use Rattle.prove_fun.proofs.Nodes.{call_joined, call_alone}
use Rattle.prove_fun.specs.Using.{used_record}
use Rattle.prove_fun.proofs.evaluating.+evaluated.Goals as goal

-- ---- calls

pub called-hook_fact-requires-clause-call : goal.called-hook_fact-requires-clause-call
called-hook_fact-requires-clause-call t c =
    let is = ap plain_record c.in-ByHook.is ∙ plain-ByHook _ _ _ in
    hook_recorded c.args.cx.now.program c.args.subst.now c.args.symbol.0
    (plain_patterns c.args.args.now) (plain_record c.args.evaluation.now) _ _ _ is
    c.requires.recorded

pub called-hook_fact-requires-clause-count : goal.called-hook_fact-requires-clause-count
called-hook_fact-requires-clause-count t c =
    let all =
    (call_recorded c.args.cx.now.program c.args.subst.now c.args.symbol.0 []
    (plain_patterns c.args.args.now) (plain_record c.args.evaluation.now)
    c.requires.recorded).1 in
    sym (as_many_records c.args.cx.now.program c.args.subst.now c.args.args.now (children_of
    (plain_record c.args.evaluation.now)) all.records)

pub called-at_values-requires : goal.called-at_values-requires
called-at_values-requires t c =
    let all =
    (call_recorded c.args.cx.now.program c.args.subst.now c.args.symbol.0 []
    (plain_patterns c.args.args.now) (plain_record c.args.evaluation.now)
    c.requires.recorded).1 in
    let later : IsImage c.hook_fact.new.cx
    (ground_pattern (result_of (plain_record c.args.evaluation.now))) c.args.image.now =
    image_grown c.args.cx.now c.hook_fact.new.cx
    (term (ground_pattern (result_of (plain_record c.args.evaluation.now)))) c.args.image.now
    c.in_ok-fact-in-ByHook.ensures.grown c.requires.image in (
      omega (arith, c.decreases),
      (
        subst (λ (p : Program). AreRecorded p c.args.subst.now (plain_patterns c.args.args.now)
            (children_of (plain_record c.args.evaluation.now)))
            (sym c.in_ok-fact-in-ByHook.ensures.grown.program) all,
        (
          (
            c.args.symbol.0,
            c.args.image.now,
            c.in_ok-fact-in-ByHook.ensures.says c.args.image.now later,
          ),
          kept_grown c.args.cx.now c.hook_fact.new.cx c.args.kept.now
              c.in_ok-fact-in-ByHook.ensures.grown c.requires.kept,
        ),
      ),
    )

pub called-returns-in_ok-fact-in-ByHook-clause-says :
    goal.called-returns-in_ok-fact-in-ByHook-clause-says
called-returns-in_ok-fact-in-ByHook-clause-says t c =
    let later : IsImage c.hook_fact.new.cx
    (ground_pattern (result_of (plain_record c.args.evaluation.now))) c.args.image.now =
    image_grown c.args.cx.now c.hook_fact.new.cx
    (term (ground_pattern (result_of (plain_record c.args.evaluation.now)))) c.args.image.now
    c.in_ok-fact-in-ByHook.ensures.grown c.requires.image in
    if_ok c.at_values.result
    (λ o says. says c.args.symbol.0 c.args.image.now
    (c.in_ok-fact-in-ByHook.ensures.says c.args.image.now later))
    c.at_values.ensures.says

pub called-unreachable-requires : goal.called-unreachable-requires
called-unreachable-requires t c =
    let is = ap plain_record c.in-Bound.is ∙ plain-Bound _ _ in
    bound_no_call c.args.cx.now.program c.args.subst.now c.args.symbol.0
    (plain_patterns c.args.args.now) (plain_record c.args.evaluation.now) _ _ is
    c.requires.recorded

pub called-unreachable-requires-in-Value : goal.called-unreachable-requires-in-Value
called-unreachable-requires-in-Value t c =
    let is = ap plain_record c.in-Value.is ∙ record-Value _ in
    itself_no_call c.args.cx.now.program c.args.subst.now c.args.symbol.0
    (plain_patterns c.args.args.now) (plain_record c.args.evaluation.now) _ is
    c.requires.recorded

pub called-unreachable-requires-in-Ctor : goal.called-unreachable-requires-in-Ctor
called-unreachable-requires-in-Ctor t c =
    let is = ap plain_record c.in-Ctor.is ∙ record-Ctor _ _ _ in
    made_no_call c.args.cx.now.program c.args.subst.now c.args.symbol.0
    (plain_patterns c.args.args.now) (plain_record c.args.evaluation.now) _ _ _ is
    c.requires.recorded

pub called-unreachable-requires-in-Inj : goal.called-unreachable-requires-in-Inj
called-unreachable-requires-in-Inj t c =
    let is = ap plain_record c.in-Inj.is ∙ record-Inj _ _ _ _ in
    injected_no_call c.args.cx.now.program c.args.subst.now c.args.symbol.0
    (plain_patterns c.args.args.now) (plain_record c.args.evaluation.now) _ _ _ _ is
    c.requires.recorded

pub called-by_equation-requires : goal.called-by_equation-requires
called-by_equation-requires t c =
    let is = ap plain_record c.in-ByEquation.is ∙ plain-ByEquation c.in-ByEquation.used
    ∙ ap used_record (sym c.deref.ensures) in
    (omega (arith, c.decreases), (c.requires.recorded, (is, (c.requires.image, c.requires.kept))))

-- ---- a call at the values of its arguments

pub at_values-taken_apart-requires : goal.at_values-taken_apart-requires
at_values-taken_apart-requires t c =
    let says = ap (λ (p : Pattern). p) (sym c.conclusion.ensures) ∙ c.sides.ensures in
    let parts =
    call_parts c.args.cx.now c.args.cx.now.program c.args.subst.now c.requires.fact.0
    c.args.args.now (children_of (plain_record c.args.evaluation.now)) c.requires.fact.1
    c.sides.result.0.now c.sides.result.1.now c.args.fact.now c.requires.recorded.records
    c.requires.fact.2 says in
    (constant parts.0.number, parts.0.images, parts.0.is, parts.0.many)

pub at_values-all_evaluated-requires : goal.at_values-all_evaluated-requires
at_values-all_evaluated-requires t c =
    let says = ap (λ (p : Pattern). p) (sym c.conclusion.ensures) ∙ c.sides.ensures in
    let n =
    (call_parts c.args.cx.now c.args.cx.now.program c.args.subst.now c.requires.fact.0
    c.args.args.now (children_of (plain_record c.args.evaluation.now)) c.requires.fact.1
    c.sides.result.0.now c.sides.result.1.now c.args.fact.now c.requires.recorded.records
    c.requires.fact.2 says).0 in
    let parts : (c.in_ok-parts.parts.head ≡ constant n.number) ×
    (c.in_ok-parts.parts.arguments.items ≡ n.images) =
    c.in_ok-parts.ensures (constant n.number) n.images n.is n.many in (
      omega (arith, c.decreases),
      (
        c.requires.recorded,
        (
          subst (λ (q : Pattern). HasNoVariable q × IsOverContext c.args.cx.now q) (sym parts.0)
              n.head,
          (
            subst (λ (qs : List Pattern). AreImages c.args.cx.now.program.sig c.args.cx.now.names
                (ground_patterns
                (results_of (children_of (plain_record c.args.evaluation.now)))) qs)
                (sym (c.deref.ensures.value ∙ parts.1)) n.are_images,
            c.requires.kept,
          ),
        ),
      ),
    )

pub at_values-join-requires-clause-closed : goal.at_values-join-requires-clause-closed
at_values-join-requires-clause-closed t c =
    call_closed c.args.cx.now c.requires.fact.0
    (results_of (children_of (plain_record c.args.evaluation.now))) c.requires.fact.1
    c.args.fact.now c.requires.fact.2

pub at_values-join-requires-clause-joinable : goal.at_values-join-requires-clause-joinable
at_values-join-requires-clause-joinable t c =
    let says = ap (λ (p : Pattern). p) (sym c.conclusion.ensures) ∙ c.sides.ensures in
    let rs = children_of (plain_record c.args.evaluation.now) in
    let parts =
    call_parts c.args.cx.now c.args.cx.now.program c.args.subst.now c.requires.fact.0
    c.args.args.now rs c.requires.fact.1 c.sides.result.0.now c.sides.result.1.now
    c.args.fact.now c.requires.recorded.records c.requires.fact.2 says in
    let n = parts.0 in
    let taken : (c.in_ok-parts.parts.head ≡ constant n.number) ×
    (c.in_ok-parts.parts.arguments.items ≡ n.images) =
    c.in_ok-parts.ensures (constant n.number) n.images n.is n.many in
    let values =
    values_evaluated c.args.cx.now c.all_evaluated.new.cx c.args.subst.now c.requires.fact.0
    c.args.args.now rs c.sides.result.0.now c.in_ok-parts.parts.head c.deref.result.now
    c.in_ok-values.values n c.in_ok-values.ensures.grown taken.0
    (c.deref.ensures.value ∙ taken.1) c.in_ok-values.ensures.says in
    call_joinable c.args.cx.now c.all_evaluated.new.cx c.requires.fact.0 (results_of rs) _
    c.sides.result.0.now c.requires.fact.1 c.in-Some.same c.args.fact.now
    c.in_ok-values.ensures.grown c.requires.fact.2 parts.1
    (subst (HasEqual c.all_evaluated.new.cx _ c.sides.result.0.now) c.in-Some.is values)

pub at_values-returns-in-Some-clause-says : goal.at_values-returns-in-Some-clause-says
at_values-returns-in-Some-clause-says t c =
    let says = ap (λ (p : Pattern). p) (sym c.conclusion.ensures) ∙ c.sides.ensures in
    let rs = children_of (plain_record c.args.evaluation.now) in
    if_ok_two c.join.result
    (λ made joins stays. λ f right fact.
    let parts =
    call_parts c.args.cx.now c.args.cx.now.program c.args.subst.now f c.args.args.now rs right
    c.sides.result.0.now c.sides.result.1.now c.args.fact.now c.requires.recorded.records
    fact says in
    let n = parts.0 in
    let taken : (c.in_ok-parts.parts.head ≡ constant n.number) ×
    (c.in_ok-parts.parts.arguments.items ≡ n.images) =
    c.in_ok-parts.ensures (constant n.number) n.images n.is n.many in
    let values =
    values_evaluated c.args.cx.now c.all_evaluated.new.cx c.args.subst.now f c.args.args.now rs
    c.sides.result.0.now c.in_ok-parts.parts.head c.deref.result.now c.in_ok-values.values n
    c.in_ok-values.ensures.grown taken.0 (c.deref.ensures.value ∙ taken.1)
    c.in_ok-values.ensures.says in
    call_joined c.args.cx.now c.all_evaluated.new.cx c.join.new.cx f (results_of rs) _
    c.sides.result.0.now right c.in-Some.same c.args.fact.now made c.in_ok-values.ensures.grown
    c.join.ensures.grown fact parts.1
    (subst (HasEqual c.all_evaluated.new.cx _ c.sides.result.0.now) c.in-Some.is values) joins
    stays)
    c.join.ensures.conclusion c.join.ensures.stays

pub at_values-returns-clause-says : goal.at_values-returns-clause-says
at_values-returns-clause-says t c =
    let says = ap (λ (p : Pattern). p) (sym c.conclusion.ensures) ∙ c.sides.ensures in
    let rs = children_of (plain_record c.args.evaluation.now) in
    if_ok c.share.result
    (λ made same. λ f right fact.
    let parts =
    call_parts c.args.cx.now c.args.cx.now.program c.args.subst.now f c.args.args.now rs right
    c.sides.result.0.now c.sides.result.1.now c.args.fact.now c.requires.recorded.records
    fact says in
    let n = parts.0 in
    let taken : (c.in_ok-parts.parts.head ≡ constant n.number) ×
    (c.in_ok-parts.parts.arguments.items ≡ n.images) =
    c.in_ok-parts.ensures (constant n.number) n.images n.is n.many in
    let values =
    values_evaluated c.args.cx.now c.all_evaluated.new.cx c.args.subst.now f c.args.args.now rs
    c.sides.result.0.now c.in_ok-parts.parts.head c.deref.result.now c.in_ok-values.values n
    c.in_ok-values.ensures.grown taken.0 (c.deref.ensures.value ∙ taken.1)
    c.in_ok-values.ensures.says in
    call_alone c.args.cx.now c.all_evaluated.new.cx f (results_of rs) _ c.sides.result.0.now right
    c.args.fact.now made c.in_ok-values.ensures.grown fact parts.1
    (subst (HasEqual c.all_evaluated.new.cx _ c.sides.result.0.now) c.in-None.is values) same)
    c.share.ensures
