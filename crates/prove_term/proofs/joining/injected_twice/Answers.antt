use Rattle.std.proofs.Common.{◌≡◌, ◌∷◌, [], ap, ◌∙◌, subst}
use Rattle.ml_pat.specs.Patterns.{Pattern, fun, meta}
use Rattle.ml_derived.specs.Scopes.{AssumesWithin}
use Rattle.prove_term.specs.Numbered.{inject}
use Rattle.prove_term.proofs.ResultLaws.{if_ok_two}
use Rattle.prove_term.proofs.InjectionLaws.{first_of_one, once_cites, second_cites, says_twice}
use Rattle.prove_term.proofs.InjectionLaws.{twice_stays}
use Rattle.prove_term.proofs.joining.injected_twice.Goals as goal

pub cited-requires-2 : goal.cited-requires-2
cited-requires-2 c =
    let both = c.requires.4 in
    let first : c.index-hypotheses-0.result ≡ fun (meta 0) c.requires.1 =
    first_of_one c.hypotheses.result.now c.index-hypotheses-0.result (fun (meta 0) c.requires.1)
    c.index-hypotheses-0.is (c.hypotheses.ensures.value ∙ both.assumes) in
    let base : c.in_ok-base.base.conclusion ≡ fun (meta 0) c.requires.1 =
    c.in_ok-base.ensures.conclusion ∙ c.in_ok-share.ensures ∙ first in (
      c.requires.0,
      c.requires.2,
      c.requires.3,
      inject c.requires.0 c.requires.1 c.requires.2 (meta 0),
      second_cites c.requires.0 c.requires.1 c.requires.2 c.requires.3 c.args.lower.now
          c.args.upper.now c.in_ok-once.once c.in_ok-base.base both.second
          (once_cites c.requires.0 c.requires.1 c.requires.2 c.args.lower.now c.in_ok-base.base
          both.first base) c.in_ok-once.ensures.conclusion,
    )

pub returns-clause-says : goal.returns-clause-says
returns-clause-says c =
    if_ok_two c.cited-2.result
    (λ made from by. λ f s t u both.
    let first : c.index-hypotheses-0.result ≡ fun (meta 0) s =
    first_of_one c.hypotheses.result.now c.index-hypotheses-0.result (fun (meta 0) s)
    c.index-hypotheses-0.is (c.hypotheses.ensures.value ∙ both.assumes) in
    let base : c.in_ok-base.base.conclusion ≡ fun (meta 0) s =
    c.in_ok-base.ensures.conclusion ∙ c.in_ok-share.ensures ∙ first in
    let assumes : c.in_ok-base.base.hypotheses ≡ fun (meta 0) s ∷ [] =
    c.in_ok-base.ensures.hypotheses
    ∙ ap (λ (p : Pattern). p ∷ []) (c.in_ok-share.ensures ∙ first) in
    says_twice f s t u c.args.equality.now c.args.lower.now c.args.upper.now c.in_ok-base.base
    c.in_ok-once.once made both base assumes c.in_ok-once.ensures.conclusion
    c.in_ok-once.ensures.by from by)
    c.cited-2.ensures.conclusion c.cited-2.ensures.by

pub returns-clause-stays : goal.returns-clause-stays
returns-clause-stays c =
    let both = c.requires.4 in
    let first : c.index-hypotheses-0.result ≡ fun (meta 0) c.requires.1 =
    first_of_one c.hypotheses.result.now c.index-hypotheses-0.result (fun (meta 0) c.requires.1)
    c.index-hypotheses-0.is (c.hypotheses.ensures.value ∙ both.assumes) in
    let base : c.in_ok-base.base.conclusion ≡ fun (meta 0) c.requires.1 =
    c.in_ok-base.ensures.conclusion ∙ c.in_ok-share.ensures ∙ first in
    let assumes : c.in_ok-base.base.hypotheses ≡ fun (meta 0) c.requires.1 ∷ [] =
    c.in_ok-base.ensures.hypotheses
    ∙ ap (λ (p : Pattern). p ∷ []) (c.in_ok-share.ensures ∙ first) in
    let within : AssumesWithin (fun (meta 0) c.requires.1) c.in_ok-base.base =
    subst (λ (p : Pattern). AssumesWithin p c.in_ok-base.base) (c.in_ok-share.ensures ∙ first)
    c.in_ok-base.ensures.stays in
    if_ok_two c.cited-2.result
    (λ made from by. twice_stays c.requires.0 c.requires.1 c.requires.2 c.requires.3
    c.args.equality.now c.args.lower.now c.args.upper.now c.in_ok-base.base c.in_ok-once.once
    made both base assumes within
    c.in_ok-once.ensures.conclusion c.in_ok-once.ensures.by from by)
    c.cited-2.ensures.conclusion c.cited-2.ensures.by
