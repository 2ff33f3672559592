-- The answers of `evaluated`: each form of a pattern.
use Rattle.std.proofs.Common.{◌≡◌, [], ℕ, List, Some, None, sym, ◌∙◌, ap, subst, arith}
use Rattle.term_core.specs.Patterns.{Pattern as RulePattern, application, call}
use Rattle.term_core.specs.RulePatterns.{plain_pattern, sort_numbers}
use Rattle.term_core.specs.PatternLists.{plain_patterns}
use Rattle.term_core.specs.declared.rule_patterns.RulePat.{RulePat}
use Rattle.term_core.proofs.PlainPatterns.{plain-Var, plain-Value, plain-Ctor, plain-Call}
use Rattle.rule_core.specs.Records.{Record, result_of}
use Rattle.rule_core.specs.RecordView.{plain_record}
use Rattle.prove_term.proofs.ResultLaws.{if_ok}
use Rattle.prove_fun.specs.Evaluating.{IsRecorded, HasEqual, IsEvaluated}
use Rattle.prove_fun.proofs.Equalities.{equals_itself}
use Rattle.prove_fun.proofs.Recording.{variable_filled, value_filled, call_recorded}
use Rattle.prove_fun.proofs.evaluating.+evaluated.Goals as goal

pub evaluated-returns-in-Var-clause-says : goal.evaluated-returns-in-Var-clause-says
evaluated-returns-in-Var-clause-says t c =
    let is : plain_pattern c.args.pat.now ≡ _ = ap plain_pattern c.in-Var.is ∙ plain-Var _ in
    let r : Record = plain_record c.args.evaluation.now in
    let h : IsRecorded c.args.cx.now.program c.args.subst.now _ r =
    subst (λ (p : RulePattern). IsRecorded c.args.cx.now.program c.args.subst.now p r) is
    c.requires.recorded in
    let same = variable_filled c.args.cx.now.program c.args.subst.now _ r h.records in
    subst (λ (p : RulePattern). IsEvaluated c.args.cx.now c.args.subst.now p c.args.image.now None)
    (sym is)
    (subst (λ (p : RulePattern). HasEqual c.args.cx.now p c.args.image.now None) (sym same)
    (equals_itself c.args.cx.now (result_of r) c.args.image.now c.requires.image))

pub evaluated-returns-in-Value-clause-says : goal.evaluated-returns-in-Value-clause-says
evaluated-returns-in-Value-clause-says t c =
    let is : plain_pattern c.args.pat.now ≡ _ = ap plain_pattern c.in-Value.is ∙ plain-Value _ _ in
    let r : Record = plain_record c.args.evaluation.now in
    let h : IsRecorded c.args.cx.now.program c.args.subst.now _ r =
    subst (λ (p : RulePattern). IsRecorded c.args.cx.now.program c.args.subst.now p r) is
    c.requires.recorded in
    let same = value_filled c.args.cx.now.program c.args.subst.now _ _ r h.records in
    subst (λ (p : RulePattern). IsEvaluated c.args.cx.now c.args.subst.now p c.args.image.now None)
    (sym is)
    (subst (λ (p : RulePattern). HasEqual c.args.cx.now p c.args.image.now None) (sym same)
    (equals_itself c.args.cx.now (result_of r) c.args.image.now c.requires.image))

pub evaluated-constructed-requires : goal.evaluated-constructed-requires
evaluated-constructed-requires t c =
    let is : plain_pattern c.args.pat.now ≡ application c.in-Ctor.field-0.0
    (plain_patterns c.in-Ctor.args.items) =
    ap plain_pattern c.in-Ctor.is ∙ plain-Ctor _ _ in
    let is' : plain_pattern c.args.pat.now ≡ application c.in-Ctor.field-0.0
    (plain_patterns c.deref.result.now) =
    is
    ∙ ap (λ (ps : List RulePat). application c.in-Ctor.field-0.0 (plain_patterns ps))
    (sym c.deref.ensures.value) in (
      omega (arith, c.decreases),
      (
        (
          c.in-Ctor.field-0.0,
          subst (λ (p : RulePattern). IsRecorded c.args.cx.now.program c.args.subst.now p
              (plain_record c.args.evaluation.now)) is' c.requires.recorded,
        ),
        (c.requires.image, c.requires.kept),
      ),
    )

pub evaluated-returns-in-Ctor-clause-says : goal.evaluated-returns-in-Ctor-clause-says
evaluated-returns-in-Ctor-clause-says t c =
    let is : plain_pattern c.args.pat.now ≡ application c.in-Ctor.field-0.0
    (plain_patterns c.in-Ctor.args.items) =
    ap plain_pattern c.in-Ctor.is ∙ plain-Ctor _ _ in
    let is' : plain_pattern c.args.pat.now ≡ application c.in-Ctor.field-0.0
    (plain_patterns c.deref.result.now) =
    is
    ∙ ap (λ (ps : List RulePat). application c.in-Ctor.field-0.0 (plain_patterns ps))
    (sym c.deref.ensures.value) in
    let h =
    subst (λ (p : RulePattern). IsRecorded c.args.cx.now.program c.args.subst.now p
    (plain_record c.args.evaluation.now)) is' c.requires.recorded in
    if_ok c.constructed.result
    (λ o says. subst (λ (p : RulePattern).
    IsEvaluated c.constructed.new.cx c.args.subst.now p c.args.image.now o) (sym is')
    (says c.in-Ctor.field-0.0 h))
    c.constructed.ensures.says

pub evaluated-called-requires : goal.evaluated-called-requires
evaluated-called-requires t c =
    let is : plain_pattern c.args.pat.now ≡ call c.in-Call.symbol.0
    (sort_numbers c.in-Call.field-1.items) (plain_patterns c.in-Call.args.items) =
    ap plain_pattern c.in-Call.is ∙ plain-Call _ _ _ in
    let is' : plain_pattern c.args.pat.now ≡ call c.in-Call.symbol.0
    (sort_numbers c.in-Call.field-1.items) (plain_patterns c.deref-in-Call.result.now) =
    is
    ∙ ap (λ (ps : List RulePat).
    call c.in-Call.symbol.0 (sort_numbers c.in-Call.field-1.items) (plain_patterns ps))
    (sym c.deref-in-Call.ensures.value) in
    let h =
    subst (λ (p : RulePattern). IsRecorded c.args.cx.now.program c.args.subst.now p
    (plain_record c.args.evaluation.now)) is' c.requires.recorded in
    let none : sort_numbers c.in-Call.field-1.items ≡ [] =
    (call_recorded c.args.cx.now.program c.args.subst.now c.in-Call.symbol.0
    (sort_numbers c.in-Call.field-1.items) (plain_patterns c.deref-in-Call.result.now)
    (plain_record c.args.evaluation.now) h).0 in (
      omega (arith, c.decreases),
      (
        subst (λ (ss : List ℕ). IsRecorded c.args.cx.now.program c.args.subst.now
            (call c.in-Call.symbol.0 ss (plain_patterns c.deref-in-Call.result.now))
            (plain_record c.args.evaluation.now)) none h,
        (c.requires.image, c.requires.kept),
      ),
    )

pub evaluated-returns-in_ok-called-in-Call-clause-says :
    goal.evaluated-returns-in_ok-called-in-Call-clause-says
evaluated-returns-in_ok-called-in-Call-clause-says t c =
    let is : plain_pattern c.args.pat.now ≡ call c.in-Call.symbol.0
    (sort_numbers c.in-Call.field-1.items) (plain_patterns c.in-Call.args.items) =
    ap plain_pattern c.in-Call.is ∙ plain-Call _ _ _ in
    let is' : plain_pattern c.args.pat.now ≡ call c.in-Call.symbol.0
    (sort_numbers c.in-Call.field-1.items) (plain_patterns c.deref-in-Call.result.now) =
    is
    ∙ ap (λ (ps : List RulePat).
    call c.in-Call.symbol.0 (sort_numbers c.in-Call.field-1.items) (plain_patterns ps))
    (sym c.deref-in-Call.ensures.value) in
    let h =
    subst (λ (p : RulePattern). IsRecorded c.args.cx.now.program c.args.subst.now p
    (plain_record c.args.evaluation.now)) is' c.requires.recorded in
    let none : sort_numbers c.in-Call.field-1.items ≡ [] =
    (call_recorded c.args.cx.now.program c.args.subst.now c.in-Call.symbol.0
    (sort_numbers c.in-Call.field-1.items) (plain_patterns c.deref-in-Call.result.now)
    (plain_record c.args.evaluation.now) h).0 in
    let whole : plain_pattern c.args.pat.now ≡ call c.in-Call.symbol.0 []
    (plain_patterns c.deref-in-Call.result.now) =
    is'
    ∙ ap (λ (ss : List ℕ).
    call c.in-Call.symbol.0 ss (plain_patterns c.deref-in-Call.result.now)) none in
    subst (λ (p : RulePattern). IsEvaluated c.called.new.cx c.args.subst.now p c.args.image.now
    (Some c.in_ok-called-in-Call.field-0)) (sym whole) c.in_ok-called-in-Call.ensures.says
