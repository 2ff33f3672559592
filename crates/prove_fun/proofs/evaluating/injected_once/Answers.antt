use Rattle.std.proofs.Common.{◌≡◌, ℕ, List, [], ◌∷◌, Option, Some, sym, ◌∙◌, ap, subst}
use Rattle.std.specs.Prelude.{slice_set}
use Rattle.term_core.specs.Terms.{Tree, IsNormal}
use Rattle.term_core.specs.Patterns.{Pattern as RulePattern, variable, injection}
use Rattle.term_core.specs.RulePatterns.{plain_pattern}
use Rattle.term_core.specs.declared.rule_patterns.RulePat.{RulePat}
use Rattle.term_core.specs.declared.rule_patterns.RulePat.TheVariants as form
use Rattle.term_core.proofs.PlainPatterns.{plain-Var, plain-Inj}
use Rattle.rule_core.specs.Sorting.{HasSort}
use Rattle.rule_core.specs.Matching.{RespectsSorts}
use Rattle.prove_term.specs.EqualImages.{SaysEqualImages}
use Rattle.prove_term.proofs.ResultLaws.{if_ok_two}
use Rattle.prove_fun.proofs.Injecting.{one_sorted, one_respects, injected_once_says}
use Rattle.prove_fun.proofs.evaluating.injected_once.Goals as goal

pub inj_eq-requires-clause-sorted : goal.inj_eq-requires-clause-sorted
inj_eq-requires-clause-sorted c =
    let from : ℕ = c.args.from.0 in
    let to : ℕ = c.args.to.0 in
    let is : plain_pattern (form.Inj c.args.from c.args.to c.in_ok-new.field-0) ≡ injection from to
    (variable 0) =
    plain-Inj c.args.from c.args.to c.in_ok-new.field-0
    ∙ ap (λ (p : RulePat). injection from to (plain_pattern p)) c.in_ok-new.ensures.ok
    ∙ ap (injection from to) (plain-Var 0) in
    let theta : c.bind.new.self ≡ Some c.args.term.now ∷ [] =
    c.bind.ensures
    ∙ ap (λ (s : List (Option Tree)). slice_set s 0 (Some c.in_ok-share.field-0))
    c.in_ok-subst.ensures ∙ ap (λ (t : Tree). Some t ∷ []) c.in_ok-share.ensures.same in
    let normal : IsNormal c.args.term.now =
    subst IsNormal c.in_ok-share.ensures.same c.in_ok-share.ensures.normal in (
      from ∷ [],
      to,
      subst (λ (p : RulePattern). HasSort c.args.cx.now.program.sig (from ∷ []) p to) (sym is)
          (one_sorted c.args.cx.now.program.sig from to c.requires.injects.0 c.requires.injects.1),
      subst (RespectsSorts c.args.cx.now.program.sig (from ∷ [])) (sym theta)
          (one_respects c.args.cx.now.program.sig from c.args.term.now normal c.requires.sorted),
    )

pub returns-clause-says : goal.returns-clause-says
returns-clause-says c =
    let from : ℕ = c.args.from.0 in
    let to : ℕ = c.args.to.0 in
    let is : plain_pattern (form.Inj c.args.from c.args.to c.in_ok-new.field-0) ≡ injection from to
    (variable 0) =
    plain-Inj c.args.from c.args.to c.in_ok-new.field-0
    ∙ ap (λ (p : RulePat). injection from to (plain_pattern p)) c.in_ok-new.ensures.ok
    ∙ ap (injection from to) (plain-Var 0) in
    let theta : c.bind.new.self ≡ Some c.args.term.now ∷ [] =
    c.bind.ensures
    ∙ ap (λ (s : List (Option Tree)). slice_set s 0 (Some c.in_ok-share.field-0))
    c.in_ok-subst.ensures ∙ ap (λ (t : Tree). Some t ∷ []) c.in_ok-share.ensures.same in
    if_ok_two c.inj_eq.result
    (λ o says stays. injected_once_says c.inj_eq.new.cx from to c.args.term.now o
    (subst (λ (p : RulePattern). SaysEqualImages c.inj_eq.new.cx (Some c.args.term.now ∷ []) p o) is
    (subst (λ (s : List (Option Tree)). SaysEqualImages c.inj_eq.new.cx s
    (plain_pattern (form.Inj c.args.from c.args.to c.in_ok-new.field-0)) o) theta
    says)) stays)
    c.inj_eq.ensures.says c.inj_eq.ensures.stays
