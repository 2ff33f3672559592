use Rattle.std.proofs.Common.{◌≡◌, [], ◌∷◌, Result, Ok, Err, IfOk, ◌∙◌, subst}
use Rattle.ml_pat.specs.Patterns.{Pattern}
use Rattle.ml_kernel.specs.Theorems.{Theorem}
use Rattle.ml_derived.specs.Scopes.{AssumesWithin, StaysWithin}
use Rattle.ml_derived.specs.Implications.{ReachesOneFurther}
use Rattle.prove_term.specs.Contexts.{Context, IsLemmaIn}
use Rattle.prove_run.specs.ReachLemma.{sofar_form, step_form, IsReachLemma}
use Rattle.prove_run.proofs.ReachLaws.{reach_stays, reach_says, made_sofar, made_step}
use Rattle.prove_run.proofs.further.reach_lemma.Goals as goal

if_both : {T E : Type 0} (r : Result T E) (P Q R : T → Type 0) → ((t : T) → P t → Q t → R t)
    → IfOk r P → IfOk r Q → IfOk r R
if_both (Ok t) P Q R f h k = f t h k
if_both (Err e) P Q R f h k = tt

pub returns-clause-says : goal.returns-clause-says
returns-clause-says c =
    let sofar : Theorem = c.in_ok-sofar.sofar in
    let step : Theorem = c.in_ok-step.step in
    let first : c.in_ok-reached.reached ≡ sofar_form =
    made_sofar c.in_ok-from.from c.in_ok-here.here c.in_ok-end.end c.in_ok-reached.reached
    c.in_ok-from.ensures c.in_ok-here.ensures c.in_ok-end.ensures c.in_ok-reached.ensures in
    let second : c.in_ok-moved.moved ≡ step_form =
    made_step c.in_ok-here.here c.in_ok-there.there c.in_ok-next.next c.in_ok-moved.moved
    c.in_ok-here.ensures c.in_ok-there.ensures c.in_ok-next.ensures c.in_ok-moved.ensures in
    if_both c.reach_step.result (StaysWithin [] (sofar ∷ step ∷ []))
    (λ t. ReachesOneFurther sofar.conclusion step.conclusion t.conclusion) IsReachLemma
    (λ t stays reaches. reach_says sofar step t
    (subst (λ (p : Pattern). AssumesWithin p sofar) first c.in_ok-sofar.ensures.stays)
    (subst (λ (p : Pattern). AssumesWithin p step) second c.in_ok-step.ensures.stays)
    stays (c.in_ok-sofar.ensures.conclusion ∙ first) (c.in_ok-step.ensures.conclusion ∙ second)
    reaches) c.reach_step.ensures.stays c.reach_step.ensures.conclusion

pub returns-clause-stays : goal.returns-clause-stays
returns-clause-stays c =
    let sofar : Theorem = c.in_ok-sofar.sofar in
    let step : Theorem = c.in_ok-step.step in
    let first : c.in_ok-reached.reached ≡ sofar_form =
    made_sofar c.in_ok-from.from c.in_ok-here.here c.in_ok-end.end c.in_ok-reached.reached
    c.in_ok-from.ensures c.in_ok-here.ensures c.in_ok-end.ensures c.in_ok-reached.ensures in
    let second : c.in_ok-moved.moved ≡ step_form =
    made_step c.in_ok-here.here c.in_ok-there.there c.in_ok-next.next c.in_ok-moved.moved
    c.in_ok-here.ensures c.in_ok-there.ensures c.in_ok-next.ensures c.in_ok-moved.ensures in
    if_both c.reach_step.result (StaysWithin [] (sofar ∷ step ∷ []))
    (StaysWithin [] (sofar ∷ step ∷ [])) (λ t. (cx : Context) → IsLemmaIn cx t)
    (λ t stays again cx. reach_stays sofar step t
    (subst (λ (p : Pattern). AssumesWithin p sofar) first c.in_ok-sofar.ensures.stays)
    (subst (λ (p : Pattern). AssumesWithin p step) second c.in_ok-step.ensures.stays) stays cx)
    c.reach_step.ensures.stays c.reach_step.ensures.stays
