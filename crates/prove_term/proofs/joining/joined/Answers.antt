use Rattle.std.proofs.Common.{◌≡◌, ◌∷◌, [], ap, ◌∙◌, subst}
use Rattle.ml_pat.specs.Patterns.{Pattern, fun, meta}
use Rattle.ml_derived.specs.Scopes.{AssumesWithin}
use Rattle.prove_term.specs.Numbered.{inject}
use Rattle.prove_term.specs.Carrying.{Twice}
use Rattle.prove_term.proofs.ResultLaws.{if_ok, if_ok_two}
use Rattle.prove_term.proofs.InjectionLaws.{first_of_one, collapses_once, IsOnce, once_twice}
use Rattle.prove_term.proofs.InjectionLaws.{twice_carries, joined_as, joined_stays}
use Rattle.prove_term.proofs.joining.joined.Goals as goal

pub at_once-requires : goal.at_once-requires
at_once-requires c =
    let j = c.requires in
    let first : c.index-hypotheses-0.result ≡ fun (meta 0) j.1 =
    first_of_one c.hypotheses.result.now c.index-hypotheses-0.result (fun (meta 0) j.1)
    c.index-hypotheses-0.is (c.hypotheses.ensures.value ∙ j.4.collapses.hypotheses) in (
      j.0,
      j.1,
      j.2,
      j.3,
      meta 0,
      collapses_once j.0 j.1 j.2 j.3 c.args.collapse.now c.in_ok-base.base j.4.collapses
          (c.in_ok-base.ensures.conclusion ∙ c.in_ok-share.ensures ∙ first),
    )

pub injected_twice-requires : goal.injected_twice-requires
injected_twice-requires c =
    let j = c.requires in
    let first : c.index-hypotheses-0.result ≡ fun (meta 0) j.1 =
    first_of_one c.hypotheses.result.now c.index-hypotheses-0.result (fun (meta 0) j.1)
    c.index-hypotheses-0.is (c.hypotheses.ensures.value ∙ j.4.collapses.hypotheses) in
    let once : IsOnce c.index-hypotheses-0.result c.args.collapse.now c.in_ok-base.base
    c.in_ok-equality.equality =
    record {
      conclusion = c.in_ok-base.ensures.conclusion ∙ c.in_ok-share.ensures;
      hypotheses =
          c.in_ok-base.ensures.hypotheses ∙ ap (λ (p : Pattern). p ∷ []) c.in_ok-share.ensures;
      stays =
          subst (λ (p : Pattern). AssumesWithin p c.in_ok-base.base) c.in_ok-share.ensures
          c.in_ok-base.ensures.stays;
      to = c.in_ok-equality.ensures.conclusion;
      by = c.in_ok-equality.ensures.by;
    } in
    let both : Twice j.0 j.1 j.2 j.3 c.in_ok-equality.equality c.args.lower.now c.args.upper.now =
    once_twice j.0 j.1 j.2 j.3 c.index-hypotheses-0.result c.args.collapse.now c.in_ok-base.base
    c.in_ok-equality.equality c.args.lower.now c.args.upper.now once first j.4 in
    (j.0, j.1, j.2, j.3, both)

pub carried-requires : goal.carried-requires
carried-requires c =
    let j = c.requires in
    let first : c.index-hypotheses-0.result ≡ fun (meta 0) j.1 =
    first_of_one c.hypotheses.result.now c.index-hypotheses-0.result (fun (meta 0) j.1)
    c.index-hypotheses-0.is (c.hypotheses.ensures.value ∙ j.4.collapses.hypotheses) in
    let once : IsOnce c.index-hypotheses-0.result c.args.collapse.now c.in_ok-base.base
    c.in_ok-equality.equality =
    record {
      conclusion = c.in_ok-base.ensures.conclusion ∙ c.in_ok-share.ensures;
      hypotheses =
          c.in_ok-base.ensures.hypotheses ∙ ap (λ (p : Pattern). p ∷ []) c.in_ok-share.ensures;
      stays =
          subst (λ (p : Pattern). AssumesWithin p c.in_ok-base.base) c.in_ok-share.ensures
          c.in_ok-base.ensures.stays;
      to = c.in_ok-equality.ensures.conclusion;
      by = c.in_ok-equality.ensures.by;
    } in
    let both : Twice j.0 j.1 j.2 j.3 c.in_ok-equality.equality c.args.lower.now c.args.upper.now =
    once_twice j.0 j.1 j.2 j.3 c.index-hypotheses-0.result c.args.collapse.now c.in_ok-base.base
    c.in_ok-equality.equality c.args.lower.now c.args.upper.now once first j.4 in (
      inject j.0 j.2 j.3 (inject j.0 j.1 j.2 (meta 0)),
      inject j.0 j.1 j.3 (meta 0),
      j.3,
      fun (meta 0) j.1,
      twice_carries j.0 j.1 j.2 j.3 c.in_ok-equality.equality c.args.lower.now c.args.upper.now
          c.in_ok-twice.twice both (c.in_ok-twice.ensures.says j.0 j.1 j.2 j.3 both),
    )

pub returns-clause-says : goal.returns-clause-says
returns-clause-says c =
    let once : IsOnce c.index-hypotheses-0.result c.args.collapse.now c.in_ok-base.base
    c.in_ok-equality.equality =
    record {
      conclusion = c.in_ok-base.ensures.conclusion ∙ c.in_ok-share.ensures;
      hypotheses =
          c.in_ok-base.ensures.hypotheses ∙ ap (λ (p : Pattern). p ∷ []) c.in_ok-share.ensures;
      stays =
          subst (λ (p : Pattern). AssumesWithin p c.in_ok-base.base) c.in_ok-share.ensures
          c.in_ok-base.ensures.stays;
      to = c.in_ok-equality.ensures.conclusion;
      by = c.in_ok-equality.ensures.by;
    } in
    if_ok c.carried.result
    (λ made says. λ f s t u joins.
    let first : c.index-hypotheses-0.result ≡ fun (meta 0) s =
    first_of_one c.hypotheses.result.now c.index-hypotheses-0.result (fun (meta 0) s)
    c.index-hypotheses-0.is (c.hypotheses.ensures.value ∙ joins.collapses.hypotheses) in
    joined_as f s t u c.in_ok-equality.equality c.args.lower.now c.args.upper.now
    c.in_ok-twice.twice made
    (once_twice f s t u c.index-hypotheses-0.result c.args.collapse.now c.in_ok-base.base
    c.in_ok-equality.equality c.args.lower.now c.args.upper.now once first joins)
    c.in_ok-twice.ensures.says says)
    c.carried.ensures.says

pub returns-clause-stays : goal.returns-clause-stays
returns-clause-stays c =
    let j = c.requires in
    let first : c.index-hypotheses-0.result ≡ fun (meta 0) j.1 =
    first_of_one c.hypotheses.result.now c.index-hypotheses-0.result (fun (meta 0) j.1)
    c.index-hypotheses-0.is (c.hypotheses.ensures.value ∙ j.4.collapses.hypotheses) in
    let once : IsOnce c.index-hypotheses-0.result c.args.collapse.now c.in_ok-base.base
    c.in_ok-equality.equality =
    record {
      conclusion = c.in_ok-base.ensures.conclusion ∙ c.in_ok-share.ensures;
      hypotheses =
          c.in_ok-base.ensures.hypotheses ∙ ap (λ (p : Pattern). p ∷ []) c.in_ok-share.ensures;
      stays =
          subst (λ (p : Pattern). AssumesWithin p c.in_ok-base.base) c.in_ok-share.ensures
          c.in_ok-base.ensures.stays;
      to = c.in_ok-equality.ensures.conclusion;
      by = c.in_ok-equality.ensures.by;
    } in
    if_ok_two c.carried.result
    (λ made says stays. joined_stays j.0 j.1 j.2 j.3 c.index-hypotheses-0.result c.args.collapse.now
    c.in_ok-base.base c.in_ok-equality.equality c.args.lower.now c.args.upper.now
    c.in_ok-twice.twice made once first j.4
    c.in_ok-twice.ensures.says says c.in_ok-twice.ensures.stays stays)
    c.carried.ensures.says c.carried.ensures.stays
